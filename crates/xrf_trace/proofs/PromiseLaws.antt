-- What the promises come to.
use Rattle.std.proofs.Common.{◌≡◌, ℕ, Bool, true, false, ◌&&◌, ◌||◌, List, [], ◌∷◌, ◌++◌, Option, Some, None, refl, sym, ◌∙◌, ap, subst, arith, if◌then◌else◌}
use Rattle.std.proofs.lemmas.Grind.{common_steps}
use Rattle.std.specs.List.{list_any}
use Rattle.std.specs.Option.{option_map_or}
use Rattle.xrf_base.specs.declared.items.UnitId.{UnitId}
use Rattle.xrf_base.specs.declared.site.Site.TheVariants as site
use Rattle.xrf_ctl.specs.declared.parts.Owner.{Owner}
use Rattle.xrf_ctl.specs.declared.parts.OwnerState.TheVariants.{Running}
use Rattle.xrf_logrec.specs.declared.records.LogRec.{LogRec}
use Rattle.xrf_logrec.specs.declared.records.LogRec.TheVariants.{Put, Commit, Backout}
use Rattle.xrf_logrec.specs.LogRecords.{same_unit}
use Rattle.xrf_logrec.proofs.LogLaws.{same_unit-true}
use Rattle.xrf_log.specs.Flight.{has_ended}
use Rattle.xrf_history.specs.Events.{Event}
use Rattle.xrf_history.specs.Holding.{number}
use Rattle.xrf_history.specs.Progress.{is_active}
use Rattle.xrf_trace.specs.declared.entry.Entry.{Entry}
use Rattle.xrf_trace.specs.declared.entry.Act.{Act}
use Rattle.xrf_trace.specs.declared.entry.Act.TheVariants as act
use Rattle.xrf_trace.specs.declared.entry.Land.{Land}
use Rattle.xrf_trace.specs.Scenario.{Scen, first_value}
use Rattle.xrf_trace.specs.Landing.{is_in_full, opens}
use Rattle.xrf_trace.specs.Devices.{control}
use Rattle.xrf_trace.specs.Jobs.{hist}
use Rattle.xrf_trace.specs.Log.{log, log_after, committed}
use Rattle.xrf_trace.specs.Book.{puts, puts_after, value_after, value_of_units}
use Rattle.xrf_trace.specs.Each.{Each, After, EverySite, Where, OfJob}
use Rattle.xrf_trace.specs.OneOwner.{IsOwnerOfRecord, has_active}
use Rattle.xrf_trace.specs.UnitsAreItems.{IsOfNoEnded}
use Rattle.xrf_trace.specs.Laws.{ActivesAreOne, CommittedStay, Grows, BooksGrow}

-- a record has one owner
abbrev is-at-a : Option Owner → Bool
is-at-a None = false
is-at-a (Some owner) = elim owner.site [ site.A ↦ true | site.B ↦ false ]

two-sites : (o : Option Owner) (n m : ℕ) → o ≡ Some (record { inc = n; site = site.A; state = Running }) → o ≡ Some (record { inc = m; site = site.B; state = Running }) → false ≡ true
two-sites o n m at_a at_b = sym (ap is-at-a at_b) ∙ ap is-at-a at_a

one-of-two : (t : List Entry) (a b : Option (List Event)) → OfJob a (IsOwnerOfRecord t site.A) → OfJob b (IsOwnerOfRecord t site.B)
    → (option_map_or is_active a false && option_map_or is_active b false) ≡ false
one-of-two t None b of_a of_b = refl
one-of-two t (Some h) None of_a of_b = by (is_active h)
  where
    by : (c : Bool) → (c && false) ≡ false
    by true = refl
    by false = refl
one-of-two t (Some h) (Some g) of_a of_b = by (is_active h) (is_active g) of_a of_b
  where
    by : (c d : Bool) → Where c ((control t).owner ≡ Some (record { inc = number h; site = site.A; state = Running }))
        → Where d ((control t).owner ≡ Some (record { inc = number g; site = site.B; state = Running })) → (c && d) ≡ false
    by true true at_a at_b = sym (two-sites (control t).owner (number h) (number g) at_a at_b)
    by true false at_a at_b = refl
    by false d at_a at_b = refl

ones : (s : Scen) (t : List Entry) → After (λ t. EverySite s t (IsOwnerOfRecord t)) t → After (λ t. (has_active s t site.A && has_active s t site.B) ≡ false) t
ones s [] stands = tt
ones s (e ∷ t) stands = (ones s t stands.0, one-of-two (e ∷ t) (hist s (e ∷ t) site.A) (hist s (e ∷ t) site.B) stands.1.0 stands.1.1)

pub actives-are-one : ActivesAreOne
actives-are-one s t owner = ones s t owner.stands

-- committed units stay so
append-none : (units : List UnitId) → units ++ [] ≡ units
append-none [] = refl
append-none (u ∷ units) = ap (λ (rest : List UnitId). u ∷ rest) (append-none units)

append-both : (a b c : List UnitId) → (a ++ b) ++ c ≡ a ++ (b ++ c)
append-both [] b c = refl
append-both (u ∷ a) b c = ap (λ (rest : List UnitId). u ∷ rest) (append-both a b c)

abbrev More : List UnitId → List UnitId → Type 0
More later before = (more : List UnitId) × (later ≡ before ++ more)

record-more : (rec : LogRec) (records : List LogRec) → More (committed (rec ∷ records)) (committed records)
record-more (Put unit rrn before) records = ([], sym (append-none (committed records)))
record-more (Backout unit) records = ([], sym (append-none (committed records)))
record-more (Commit unit) records = by (list_any (same_unit unit) (committed records))
  where
    by : (b : Bool) → More (if b then committed records else committed records ++ unit ∷ []) (committed records)
    by true = ([], sym (append-none (committed records)))
    by false = (unit ∷ [], refl)

entry-more : (a : Act) (l : Land) (records : List LogRec) → More (committed (log_after a l records)) (committed records)
entry-more (act.LogOpen p rec) l records = by (opens l)
  where
    by : (b : Bool) → More (committed (if b then rec ∷ records else records)) (committed records)
    by true = record-more rec records
    by false = ([], sym (append-none (committed records)))
entry-more _ l records = ([], sym (append-none (committed records)))

pub committed-stay : CommittedStay
committed-stay t [] = ([], sym (append-none (committed (log t))))
committed-stay t (e ∷ later) =
    let before = committed-stay t later in
    let here = entry-more e.act e.land (log (later ++ t)) in
    (before.0 ++ here.0, here.1 ∙ ap (λ (units : List UnitId). units ++ here.0) before.1 ∙ append-both (committed (log t)) before.0 here.0)

-- a unit is itself
pub same_unit-refl : (unit : UnitId) → same_unit unit unit ≡ true
same_unit-refl unit = grind (arith, common_steps)

or-second : (a b : Bool) → b ≡ true → (a || b) ≡ true
or-second true b is = refl
or-second false b is = is

or-first : (a b : Bool) → a ≡ true → (a || b) ≡ true
or-first true b is = refl
or-first false b is = absurd (cc)

any-last : (unit u : UnitId) (units : List UnitId) → list_any (same_unit unit) (units ++ u ∷ []) ≡ true → (same_unit unit u || list_any (same_unit unit) units) ≡ true
any-last unit u [] found = found
any-last unit u (v ∷ units) found = by (same_unit unit v) (any-last unit u units) found
  where
    by : (b : Bool) → (list_any (same_unit unit) (units ++ u ∷ []) ≡ true → (same_unit unit u || list_any (same_unit unit) units) ≡ true)
        → (b || list_any (same_unit unit) (units ++ u ∷ [])) ≡ true → (same_unit unit u || (b || list_any (same_unit unit) units)) ≡ true
    by true rest found = or-second (same_unit unit u) true refl
    by false rest found = rest found

-- a unit that is committed has ended
pub committed-ended : (unit : UnitId) (records : List LogRec) → list_any (same_unit unit) (committed records) ≡ true → has_ended unit records ≡ true
committed-ended unit [] found = absurd (cc)
committed-ended unit (Put u rrn before ∷ records) found = committed-ended unit records found
committed-ended unit (Backout u ∷ records) found = or-second (same_unit unit u) (has_ended unit records) (committed-ended unit records found)
committed-ended unit (Commit u ∷ records) found = by (list_any (same_unit u) (committed records)) (committed-ended unit records) found
  where
    either : (a b : Bool) → (a || b) ≡ true → (b ≡ true → has_ended unit records ≡ true) → (a || has_ended unit records) ≡ true
    either true b is rest = refl
    either false b is rest = rest is

    by : (b : Bool) → (list_any (same_unit unit) (committed records) ≡ true → has_ended unit records ≡ true)
        → list_any (same_unit unit) (if b then committed records else committed records ++ u ∷ []) ≡ true → (same_unit unit u || has_ended unit records) ≡ true
    by true rest found = or-second (same_unit unit u) (has_ended unit records) (rest found)
    by false rest found = either (same_unit unit u) (list_any (same_unit unit) (committed records)) (any-last unit u (committed records) found) rest

-- a unit that has ended puts no more
abbrev Stay : List Entry → Act → Land → Type 0
Stay t a l = (unit : UnitId) → has_ended unit (log t) ≡ true → puts_after unit a l (puts t unit) ≡ puts t unit

puts-stay : (t : List Entry) (a : Act) (l : Land) → IsOfNoEnded t a l → Stay t a l
puts-stay t (act.FileWrite u k value) l none = λ unit ended. by unit ended (same_unit u unit) refl (is_in_full l)
  where
    clash : (b : Bool) → b ≡ true → b ≡ false → false ≡ true
    clash b is not = absurd (cc)

    by : (unit : UnitId) → has_ended unit (log t) ≡ true → (b : Bool) → same_unit u unit ≡ b → (c : Bool)
        → (if b && c then (k, value) ∷ puts t unit else puts t unit) ≡ puts t unit
    by unit ended true same c =
        absurd (cc (clash (has_ended unit (log t)) ended (subst (λ (v : UnitId). has_ended v (log t) ≡ false) (same_unit-true u unit same) none)))
    by unit ended false same c = refl
puts-stay t _ l none = λ unit ended. refl

-- the value of some units goes by their puts, one unit after the other
value-append : (puts_of : UnitId → List (ℕ × List ℕ)) (k : ℕ) (a b : List UnitId) (x : Option (List ℕ))
    → value_of_units puts_of k (a ++ b) x ≡ value_of_units puts_of k b (value_of_units puts_of k a x)
value-append puts_of k [] b x = refl
value-append puts_of k (unit ∷ a) b x = value-append puts_of k a b (value_after k (puts_of unit) x)

value-same : (f g : UnitId → List (ℕ × List ℕ)) (k : ℕ) (units : List UnitId) (x : Option (List ℕ))
    → ((u : UnitId) → list_any (same_unit u) units ≡ true → f u ≡ g u) → value_of_units f k units x ≡ value_of_units g k units x
value-same f g k [] x same = refl
value-same f g k (unit ∷ units) x same =
    ap (λ (p : List (ℕ × List ℕ)). value_of_units f k units (value_after k p x)) (same unit (or-first (same_unit unit unit) _ (same_unit-refl unit)))
    ∙ value-same f g k units (value_after k (g unit) x) (λ u found. same u (or-second (same_unit u unit) _ found))

-- so a later book is the book with the units that were committed since
grows : (s : Scen) (t : List Entry) (e : Entry) → IsOfNoEnded t e.act e.land → Grows s t e
grows s t e none k =
    let more = committed-stay t (e ∷ []) in (
      more.0,
      more.1,
      ap (λ (units : List UnitId). value_of_units (puts (e ∷ t)) k units (first_value s k)) more.1
          ∙ value-append (puts (e ∷ t)) k (committed (log t)) more.0 (first_value s k)
          ∙ ap (value_of_units (puts (e ∷ t)) k more.0)
          (value-same (puts (e ∷ t)) (puts t) k (committed (log t)) (first_value s k)
          (λ u found. puts-stay t e.act e.land none u (committed-ended u (log t) found))),
    )

all-grow : (s : Scen) (t : List Entry) → Each (λ t e. IsOfNoEnded t e.act e.land) t → Each (Grows s) t
all-grow s [] once = tt
all-grow s (e ∷ t) once = (all-grow s t once.0, grows s t e once.1)

pub books-grow : BooksGrow
books-grow s t items = all-grow s t items.once
