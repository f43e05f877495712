-- The ledger of a job at work stays that of the log.
use Rattle.std.proofs.Common.{Bool, false, refl, true, ◌≡◌, ◌||◌, List, ap, arith, subst, sym, ℕ, ◌∷◌, ◌∙◌, cond, not, [], ◌<◌, ◌≤◌, filter, length, ◌+◌, ◌++◌, None, Option, Some, if◌then◌else◌}
use Rattle.std.specs.List.{list_any}
use Rattle.xrf_base.specs.declared.items.UnitId.{UnitId}
use Rattle.xrf_base.specs.declared.items.ItemAnswer.TheVariants.{Done}
use Rattle.xrf_base.specs.declared.items.ItemAnswer.{ItemAnswer}
use Rattle.xrf_base.specs.declared.items.Item.{Item}
use Rattle.xrf_logrec.specs.declared.records.LogRec.{LogRec}
use Rattle.xrf_logrec.specs.declared.records.LogRec.TheVariants.{Put, Commit, Backout}
use Rattle.xrf_logrec.specs.LogRecords.{same_unit}
use Rattle.xrf_logrec.proofs.LogLaws.{same_unit-true}
use Rattle.xrf_logrec.proofs.Lists.{filter-neither}
use Rattle.xrf_log.specs.Flight.{has_ended, flight}
use Rattle.xrf_file.specs.Ledger.{Ledger, logged, ended, keyed, opened, closed, after_end, after_begin, begin_answer, planned}
use Rattle.xrf_file.specs.declared.rows.LoggedPut.{LoggedPut}
use Rattle.xrf_file.specs.Rows.{is_hot, without_unit, without_puts, unit_named}
use Rattle.xrf_file.specs.declared.rows.OpenUnit.{OpenUnit}
use Rattle.xrf_trace.specs.Items.{numbered}
use Rattle.xrf_trace.proofs.PromiseLaws.{same_unit-refl}
use Rattle.xrf_log_law.specs.AtWork.{IsOpenUnit, Ledgers, open_numbered}
use Rattle.xrf_log_law.proofs.LedgerLaws.{hot-in_flight}
use Rattle.xrf_history.proofs.Tests.{or-right}
use Rattle.xrf_log_law.proofs.Tests.{false-if, no-clash, or-none}
use Rattle.xrf_base.specs.declared.items.Item.TheVariants as items

-- a put is logged
pub logged-ledger : (size : ℕ) (log : List LogRec) (start : ℕ) (l : Ledger) (unit : UnitId) (rrn : ℕ) (before : List ℕ) → IsOpenUnit unit l.units
    → Ledgers size log start l
    → Ledgers size (Put unit rrn before ∷ log) start (logged l unit rrn before)
logged-ledger size log start l unit rrn before here is = record {
  slots = is.slots;
  next = omega (arith, is.next);
  begins = is.begins;
  puts = sym open_now ∙ refl;
  named = λ u hot. by u (same_unit unit u) refl hot;
  unended = is.unended;
  new = is.new;
  small = is.small;
}
  where
    put : ℕ → LoggedPut
    put n = record { unit = unit; number = n; undo = record { rrn = rrn; before = before } }

    open_yet : has_ended unit log ≡ false
    open_yet = is.unended unit here

    open_now : open_numbered (Put unit rrn before ∷ log) ≡ record { unit = unit; number = l.next; undo = record { rrn = rrn; before = before } } ∷ l.puts
    open_now =
        rw open_yet (ap (λ (n : ℕ). record { unit = unit; number = n; undo = record { rrn = rrn; before = before } } ∷ open_numbered log)
        (sym is.next) ∙ ap (λ (q : List LoggedPut). record { unit = unit; number = l.next; undo = record { rrn = rrn; before = before } } ∷ q)
        (sym is.puts))

    by : (u : UnitId) (b : Bool) → same_unit unit u ≡ b → (same_unit unit u || is_hot u l.puts) ≡ true → IsOpenUnit u l.units
    by u true e hot = subst (λ (w : UnitId). IsOpenUnit w l.units) (same_unit-true unit u e) here
    by u false e hot = is.named u (sym (rw e refl) ∙ hot)

-- a unit has ended
open-kept : (unit u : UnitId) (units : List OpenUnit) → same_unit unit u ≡ false → IsOpenUnit unit units → IsOpenUnit unit (without_unit u units)
open-kept unit u [] differ found = absurd (cc)
open-kept unit u (o ∷ units) differ found = by (same_unit o.unit u) (same_unit o.unit unit) refl refl (open-kept unit u units differ) found
  where
    by : (gone is : Bool) → same_unit o.unit u ≡ gone → same_unit o.unit unit ≡ is → (IsOpenUnit unit units → IsOpenUnit unit (without_unit u units))
        → (is || list_any (λ (q : OpenUnit). same_unit q.unit unit) units) ≡ true
        → list_any (λ (q : OpenUnit). same_unit q.unit unit) (cond (not gone) (o ∷ without_unit u units) (without_unit u units)) ≡ true
    by true true e f rest found = no-clash (same_unit unit u) (subst (λ (w : UnitId). same_unit w u ≡ true) (same_unit-true o.unit unit f) e) differ
    by true false e f rest found = rest found
    by false true e f rest found = rw f refl
    by false false e f rest found = rw f (rest found)

-- a unit that is open without another was open, and is not the other
pub open-left : (unit u : UnitId) (units : List OpenUnit) → IsOpenUnit unit (without_unit u units) → IsOpenUnit unit units × (same_unit unit u ≡ false)
open-left unit u [] found = absurd (cc)
open-left unit u (o ∷ units) found = by (same_unit o.unit u) (same_unit o.unit unit) refl refl (open-left unit u units) found
  where
    by : (gone is : Bool) → same_unit o.unit u ≡ gone → same_unit o.unit unit ≡ is
        → (IsOpenUnit unit (without_unit u units) → IsOpenUnit unit units × (same_unit unit u ≡ false))
        → list_any (λ (q : OpenUnit). same_unit q.unit unit) (cond (not gone) (o ∷ without_unit u units) (without_unit u units)) ≡ true
        → ((is || list_any (λ (q : OpenUnit). same_unit q.unit unit) units) ≡ true) × (same_unit unit u ≡ false)
    by true is e f rest found = let parts = rest found in (or-right is (list_any (λ (q : OpenUnit). same_unit q.unit unit) units) parts.0, parts.1)
    by false true e f rest found = (refl, subst (λ (w : UnitId). same_unit w u ≡ false) (same_unit-true o.unit unit f) e)
    by false false e f rest found = rest (sym (rw f refl) ∙ found)

-- a unit that is hot without another was hot, and is not the other
hot-left : (unit u : UnitId) (puts : List LoggedPut) → is_hot unit (without_puts u puts) ≡ true → (is_hot unit puts ≡ true) × (same_unit unit u ≡ false)
hot-left unit u [] found = absurd (cc)
hot-left unit u (o ∷ puts) found = by (same_unit o.unit u) (same_unit o.unit unit) refl refl (hot-left unit u puts) found
  where
    by : (gone is : Bool) → same_unit o.unit u ≡ gone → same_unit o.unit unit ≡ is
        → (is_hot unit (without_puts u puts) ≡ true → (is_hot unit puts ≡ true) × (same_unit unit u ≡ false))
        → is_hot unit (cond (not gone) (o ∷ without_puts u puts) (without_puts u puts)) ≡ true → ((is || is_hot unit puts) ≡ true) × (same_unit unit u ≡ false)
    by true is e f rest found = let parts = rest found in (or-right is (is_hot unit puts) parts.0, parts.1)
    by false true e f rest found = (refl, subst (λ (w : UnitId). same_unit w u ≡ false) (same_unit-true o.unit unit f) e)
    by false false e f rest found = rest (sym (rw f refl) ∙ found)

-- a unit with a new serial number is another
pub new-differs : (inc serial begun : ℕ) (unit : UnitId) → unit.serial ≤ begun → begun < serial → same_unit (record { inc = inc; serial = serial }) unit ≡ false
new-differs inc serial begun unit small more =
    false-if (same_unit (record { inc = inc; serial = serial }) unit)
    (λ e. (let same : serial ≡ unit.serial = ap (λ (u : UnitId). u.serial) (same_unit-true (record { inc = inc; serial = serial }) unit e) in absurd
    (omega (arith, same, small, more))))

-- by a record that ends it
ended-ledger : (size : ℕ) (log later : List LogRec) (start : ℕ) (l : Ledger) (unit : UnitId) → IsOpenUnit unit l.units → length later ≡ length log + 1
    → ((u : UnitId) → has_ended u later ≡ (same_unit u unit || has_ended u log))
    → open_numbered later ≡ filter (λ put. not (same_unit put.unit unit || has_ended put.unit log)) (numbered log)
    → Ledgers size log start l → Ledgers size later start (ended l unit)
ended-ledger size log later start l unit here count ends open_ones is = record {
  slots = is.slots;
  next = omega (arith, is.next, count);
  begins = is.begins;
  puts = ap (without_puts unit) is.puts ∙ sym (filter-neither (λ put. same_unit put.unit unit) (λ put. has_ended put.unit log) (numbered log)) ∙ sym open_ones;
  named = λ u hot. (let parts = hot-left u unit l.puts hot in open-kept u unit l.units parts.1 (is.named u parts.0));
  unended = λ u found. (let parts = open-left u unit l.units found in ends u ∙ or-none (same_unit u unit) (has_ended u log) parts.1 (is.unended u parts.0));
  new = λ serial more. ends (record { inc = l.inc; serial = serial })
      ∙ or-none (same_unit (record { inc = l.inc; serial = serial }) unit) (has_ended (record { inc = l.inc; serial = serial }) log)
      (new-differs l.inc serial l.begun unit (is.small unit here) more) (is.new serial more);
  small = λ u found. is.small u (open-left u unit l.units found).0;
}

-- by a Commit
pub commit-ledger : (size : ℕ) (log : List LogRec) (start : ℕ) (l : Ledger) (unit : UnitId) → IsOpenUnit unit l.units → Ledgers size log start l
    → Ledgers size (Commit unit ∷ log) start (ended l unit)
commit-ledger size log start l unit here is = ended-ledger size log (Commit unit ∷ log) start l unit here (omega arith) (λ u. refl) refl is

-- by a Backout
pub backout-ledger : (size : ℕ) (log : List LogRec) (start : ℕ) (l : Ledger) (unit : UnitId) → IsOpenUnit unit l.units → Ledgers size log start l
    → Ledgers size (Backout unit ∷ log) start (ended l unit)
backout-ledger size log start l unit here is = ended-ledger size log (Backout unit ∷ log) start l unit here (omega arith) (λ u. refl) refl is

-- a keypoint moves the start
pub keyed-ledger : (size : ℕ) (log : List LogRec) (start later : ℕ) (l : Ledger) → Ledgers size log start l → Ledgers size log later (keyed l later)
keyed-ledger size log start later l is =
    record { slots = is.slots; next = is.next; begins = refl; puts = is.puts; named = is.named; unended = is.unended; new = is.new; small = is.small }

-- an item is planned
pub found-last : (unit : UnitId) (o : OpenUnit) (units : List OpenUnit)
    → list_any (λ (q : OpenUnit). same_unit q.unit unit) (units ++ o ∷ []) ≡
    (list_any (λ (q : OpenUnit). same_unit q.unit unit) units || same_unit o.unit unit)
found-last unit o [] = or-false (same_unit o.unit unit)
  where
    or-false : (b : Bool) → (b || false) ≡ b
    or-false true = refl
    or-false false = refl
found-last unit o (q ∷ units) = by (same_unit q.unit unit) (found-last unit o units)
  where
    by : (b : Bool) → list_any (λ (q : OpenUnit). same_unit q.unit unit) (units ++ o ∷ []) ≡
        (list_any (λ (q : OpenUnit). same_unit q.unit unit) units || same_unit o.unit unit)
        → (b || list_any (λ (q : OpenUnit). same_unit q.unit unit) (units ++ o ∷ [])) ≡
        ((b || list_any (λ (q : OpenUnit). same_unit q.unit unit) units) || same_unit o.unit unit)
    by true rest = refl
    by false rest = rest

-- a BEGIN opens a unit
opened-ledger : (size : ℕ) (log : List LogRec) (start : ℕ) (l : Ledger) (name : List ℕ) → Ledgers size log start l → Ledgers size log start (opened l name)
opened-ledger size log start l name is = record {
  slots = is.slots;
  next = is.next;
  begins = is.begins;
  puts = is.puts;
  named = λ u hot. found-last u o l.units ∙ first (list_any (λ (q : OpenUnit). same_unit q.unit u) l.units) (same_unit o.unit u) (is.named u hot);
  unended = λ u found. either u (λ w. has_ended w log ≡ false) (is.unended u) (is.new (l.begun + 1) (omega arith)) (sym (found-last u o l.units) ∙ found);
  new = λ serial more. is.new serial (omega arith);
  small =
      λ u found. either u (λ w. w.serial ≤ l.begun + 1) (λ e. (let less : u.serial ≤ l.begun = is.small u e in omega arith)) (omega arith)
      (sym (found-last u o l.units) ∙ found);
}
  where
    o : OpenUnit
    o = record { name = name; unit = record { inc = l.inc; serial = l.begun + 1 } }

    first : (a b : Bool) → a ≡ true → (a || b) ≡ true
    first true b e = refl
    first false b e = absurd (cc)

    either : (u : UnitId) (P : UnitId → Type 0) → (IsOpenUnit u l.units → P u) → P (record { inc = l.inc; serial = l.begun + 1 })
        → (list_any (λ (q : OpenUnit). same_unit q.unit u) l.units || same_unit (record { inc = l.inc; serial = l.begun + 1 }) u) ≡ true → P u
    either u P old new found =
        by (list_any (λ (q : OpenUnit). same_unit q.unit u) l.units) (same_unit (record { inc = l.inc; serial = l.begun + 1 }) u) refl refl found
      where
        by : (a b : Bool) → list_any (λ (q : OpenUnit). same_unit q.unit u) l.units ≡ a
            → same_unit (record { inc = l.inc; serial = l.begun + 1 }) u ≡ b → (a || b) ≡ true → P u
        by true b e f found = old e
        by false true e f found = subst P (same_unit-true (record { inc = l.inc; serial = l.begun + 1 }) u f) new
        by false false e f found = absurd (cc)

-- a unit that has put nothing is closed
closed-ledger : (size : ℕ) (log : List LogRec) (start : ℕ) (l : Ledger) (unit : UnitId) → is_hot unit l.puts ≡ false → Ledgers size log start l
    → Ledgers size log start (closed l unit)
closed-ledger size log start l unit cold is = record {
  slots = is.slots;
  next = is.next;
  begins = is.begins;
  puts = is.puts;
  named = λ u hot. open-kept u unit l.units (differs u hot) (is.named u hot);
  unended = λ u found. is.unended u (open-left u unit l.units found).0;
  new = is.new;
  small = λ u found. is.small u (open-left u unit l.units found).0;
}
  where
    differs : (u : UnitId) → is_hot u l.puts ≡ true → same_unit u unit ≡ false
    differs u hot =
        false-if (same_unit u unit) (λ e. no-clash (is_hot unit l.puts)
        (subst (λ (w : UnitId). is_hot w l.puts ≡ true) (same_unit-true u unit e) hot) cold)

-- a COMMIT or ROLL closes it at once, or not yet
end-ledger : (size : ℕ) (log : List LogRec) (start : ℕ) (l : Ledger) (o : Option UnitId) → Ledgers size log start l → Ledgers size log start (after_end l o)
end-ledger size log start l None is = is
end-ledger size log start l (Some unit) is = by (is_hot unit l.puts) refl
  where
    by : (b : Bool) → is_hot unit l.puts ≡ b → Ledgers size log start (if b then l else closed l unit)
    by true e = is
    by false e = closed-ledger size log start l unit e is

-- a BEGIN opens a unit where it is answered Done
begin-ledger : (size : ℕ) (log : List LogRec) (start : ℕ) (l : Ledger) (name : List ℕ) (answer : ItemAnswer) → Ledgers size log start l
    → Ledgers size log start (after_begin l name answer)
begin-ledger size log start l name Done is = opened-ledger size log start l name is
begin-ledger size log start l name _ is = is

-- so each item keeps the ledger
pub planned-ledger : (size : ℕ) (log : List LogRec) (start : ℕ) (l : Ledger) (item : Item) → Ledgers size log start l → Ledgers size log start (planned l item)
planned-ledger size log start l (items.Begin name) is = begin-ledger size log start l name (begin_answer l name) is
planned-ledger size log start l (items.Commit name) is = end-ledger size log start l (unit_named name l.units) is
planned-ledger size log start l (items.Roll name) is = end-ledger size log start l (unit_named name l.units) is
planned-ledger size log start l _ is = is

-- a job begins
none-open : (log : List LogRec) (puts : List LoggedPut) → flight log ≡ [] → open_numbered log ≡ puts → [] ≡ puts
none-open log [] none is = refl
none-open log (put ∷ puts) none is =
    let hot : is_hot put.unit (open_numbered log) ≡ true = ap (is_hot put.unit) is ∙ first put puts in
    let found : false ≡ true = sym (ap (list_any (λ u. same_unit u put.unit)) none) ∙ hot-in_flight log put.unit hot in
    absurd (cc)
  where
    first : (put : LoggedPut) (puts : List LoggedPut) → (same_unit put.unit put.unit || is_hot put.unit puts) ≡ true
    first put puts = let e : same_unit put.unit put.unit ≡ true = same_unit-refl put.unit in rw e refl

-- at RESTARTED the ledger is that of the log
pub begun-ledger : (size : ℕ) (log : List LogRec) (start : ℕ) (l : Ledger) → l.slots ≡ size → l.next ≡ length log → l.start ≡ start → l.begun ≡ 0
    → l.units ≡ [] → l.puts ≡ [] → flight log ≡ []
    → ((serial : ℕ) → has_ended (record { inc = l.inc; serial = serial }) log ≡ false) → Ledgers size log start l
begun-ledger size log start l slots next begins begun units puts none fresh = record {
  slots = slots;
  next = next;
  begins = begins;
  puts = puts ∙ none-open log (open_numbered log) none refl;
  named = λ u hot. (let e : false ≡ true = sym (ap (is_hot u) puts) ∙ hot in absurd (cc));
  unended = λ u found. (let e : false ≡ true = sym (ap (list_any (λ (q : OpenUnit). same_unit q.unit u)) units) ∙ found in absurd (cc));
  new = λ serial more. fresh serial;
  small = λ u found. (let e : false ≡ true = sym (ap (list_any (λ (q : OpenUnit). same_unit q.unit u)) units) ∙ found in absurd (cc));
}

-- where no unit is in flight there is no open put
pub no-rows : (log : List LogRec) → flight log ≡ [] → open_numbered log ≡ []
no-rows log none = sym (none-open log (open_numbered log) none refl)
