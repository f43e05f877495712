-- The Backouts that are left are the units in flight behind those that are backed out.
use Rattle.std.proofs.Common.{◌≡◌, ℕ, zero, suc, ◌+◌, Bool, true, false, ◌||◌, not, cond, List, [], ◌∷◌, ◌++◌, drop, filter, Some, refl, sym, ◌∙◌, ap, subst, arith}
use Rattle.std.specs.List.{list_any}
use Rattle.std.proofs.lemmas.Grind.{common_steps}
use Rattle.xrf_base.specs.declared.items.UnitId.{UnitId}
use Rattle.xrf_logrec.specs.declared.records.LogRec.{LogRec}
use Rattle.xrf_logrec.specs.declared.records.LogRec.TheVariants.{Put, Commit, Backout}
use Rattle.xrf_logrec.specs.LogRecords.{same_unit}
use Rattle.xrf_log.specs.Flight.{flight, put_units, has_ended}
use Rattle.xrf_history.specs.declared.settings.Settings.{Settings}
use Rattle.xrf_history.specs.Events.{Event, LogOpened}
use Rattle.xrf_history.specs.Restarting.{has_backout, is_backout_of, backouts_left, scan, records_opened}
use Rattle.xrf_history.specs.Holding.{is_restarted}
use Rattle.xrf_history.specs.Next.{record_of_restart, record_at_hand}

-- where no unit is backed out all are left
pub filter_none : (units : List UnitId) (h : List Event) → ((unit : UnitId) → has_backout unit h ≡ false) → filter (λ unit. not (has_backout unit h)) units ≡ units
filter_none [] h none = refl
filter_none (unit ∷ units) h none = rw (none unit) (ap (λ (l : List UnitId). unit ∷ l) (filter_none units h none))

-- a unit is none of these
abbrev pub IsNone : UnitId → List UnitId → Type 0
IsNone unit [] = Unit {0}
IsNone unit (other ∷ units) = (same_unit other unit ≡ false) × IsNone unit units

-- no two are one
abbrev pub AreApart : List UnitId → Type 0
AreApart [] = Unit {0}
AreApart (unit ∷ units) = IsNone unit units × AreApart units

same_unit-flip : (a b : UnitId) → same_unit a b ≡ false → same_unit b a ≡ false
same_unit-flip a b e = grind (arith, common_steps)

any-false : (unit other : UnitId) (units : List UnitId) → list_any (λ u. same_unit u unit) (other ∷ units) ≡ false → (same_unit other unit ≡ false) × (list_any (λ u. same_unit u unit) units ≡ false)
any-false unit other units e = grind (arith, common_steps)

IsNone-any : (unit : UnitId) (units : List UnitId) → list_any (λ u. same_unit u unit) units ≡ false → IsNone unit units
IsNone-any unit [] e = tt
IsNone-any unit (other ∷ units) e = let parts = any-false unit other units e in (parts.0, IsNone-any unit units parts.1)

IsNone-filter : (keeps : UnitId → Bool) (unit : UnitId) (units : List UnitId) → IsNone unit units → IsNone unit (filter keeps units)
IsNone-filter keeps unit [] none = tt
IsNone-filter keeps unit (other ∷ units) none = by (keeps other) (IsNone-filter keeps unit units none.1)
  where
    by : (b : Bool) → IsNone unit (filter keeps units) → IsNone unit (cond b (other ∷ filter keeps units) (filter keeps units))
    by true rest = (none.0, rest)
    by false rest = rest

AreApart-filter : (keeps : UnitId → Bool) (units : List UnitId) → AreApart units → AreApart (filter keeps units)
AreApart-filter keeps [] apart = tt
AreApart-filter keeps (unit ∷ units) apart = by (keeps unit) (IsNone-filter keeps unit units apart.0) (AreApart-filter keeps units apart.1)
  where
    by : (b : Bool) → IsNone unit (filter keeps units) → AreApart (filter keeps units) → AreApart (cond b (unit ∷ filter keeps units) (filter keeps units))
    by true none rest = (none, rest)
    by false none rest = rest

IsNone-append : (first : UnitId) (units : List UnitId) (unit : UnitId) → IsNone first units → same_unit unit first ≡ false → IsNone first (units ++ unit ∷ [])
IsNone-append first [] unit none other = (other, tt)
IsNone-append first (next ∷ units) unit none other = (none.0, IsNone-append first units unit none.1 other)

AreApart-append : (units : List UnitId) (unit : UnitId) → AreApart units → IsNone unit units → AreApart (units ++ unit ∷ [])
AreApart-append [] unit apart none = (tt, tt)
AreApart-append (first ∷ units) unit apart none = (IsNone-append first units unit apart.0 (same_unit-flip first unit none.0), AreApart-append units unit apart.1 none.1)

-- the units in flight are apart
put_units-apart : (log : List LogRec) → AreApart (put_units log)
put_units-apart [] = tt
put_units-apart (Put unit rrn before ∷ log) = by (list_any (λ u. same_unit u unit) (put_units log)) (put_units-apart log) refl
  where
    by : (b : Bool) → AreApart (put_units log) → list_any (λ u. same_unit u unit) (put_units log) ≡ b → AreApart (cond b (put_units log) (put_units log ++ unit ∷ []))
    by true apart e = apart
    by false apart e = AreApart-append (put_units log) unit apart (IsNone-any unit (put_units log) e)
put_units-apart (Commit unit ∷ log) = put_units-apart log
put_units-apart (Backout unit ∷ log) = put_units-apart log

flight-apart : (log : List LogRec) → AreApart (flight log)
flight-apart log = AreApart-filter (λ unit. not (has_ended unit log)) (put_units log) (put_units-apart log)

AreApart-drop : (k : ℕ) (units : List UnitId) → AreApart units → AreApart (drop k units)
AreApart-drop zero units apart = apart
AreApart-drop (suc k) [] apart = apart
AreApart-drop (suc k) (unit ∷ units) apart = AreApart-drop k units apart.1

-- none of the others is left out with a unit
filter-apart : (unit : UnitId) (units : List UnitId) → IsNone unit units → filter (λ u. not (same_unit u unit)) units ≡ units
filter-apart unit [] none = refl
filter-apart unit (other ∷ units) none = rw (none.0) (ap (λ (l : List UnitId). other ∷ l) (filter-apart unit units none.1))

-- what is left out twice is left out one after the other
filter-twice : (f g : UnitId → Bool) (units : List UnitId) → filter (λ u. not (f u || g u)) units ≡ filter (λ u. not (f u)) (filter (λ u. not (g u)) units)
filter-twice f g [] = refl
filter-twice f g (unit ∷ units) = by (f unit) (g unit) refl refl (filter-twice f g units)
  where
    by : (a b : Bool) → f unit ≡ a → g unit ≡ b → filter (λ u. not (f u || g u)) units ≡ filter (λ u. not (f u)) (filter (λ u. not (g u)) units)
        → filter (λ u. not (f u || g u)) (unit ∷ units) ≡ filter (λ u. not (f u)) (filter (λ u. not (g u)) (unit ∷ units))
    by true true ea eb rest = rw (ea, eb) rest
    by true false ea eb rest = rw (ea, eb, ea) rest
    by false true ea eb rest = rw (ea, eb) rest
    by false false ea eb rest = rw (ea, eb, ea) (ap (λ (l : List UnitId). unit ∷ l) rest)

same_unit-itself : (unit : UnitId) → same_unit unit unit ≡ true
same_unit-itself unit = grind (arith, common_steps)

drop-next : (k : ℕ) (units : List UnitId) (unit : UnitId) (rest : List UnitId) → drop k units ≡ unit ∷ rest → drop (k + 1) units ≡ rest
drop-next zero [] unit rest e = absurd (cc)
drop-next zero (x ∷ xs) unit rest e = cc
drop-next (suc k) [] unit rest e = absurd (cc)
drop-next (suc k) (x ∷ xs) unit rest e = let same : suc k + 1 ≡ suc (k + 1) = omega arith in rw same (drop-next k xs unit rest e)

-- the first that is left is backed out, and the others are left
left-after : (units left : List UnitId) (k : ℕ) (gone : UnitId → Bool) (rec : LogRec) → AreApart units → drop k units ≡ left → filter (λ u. not (gone u)) units ≡ left → record_of_restart left ≡ Some rec
    → filter (λ u. not (is_backout_of u rec || gone u)) units ≡ drop (k + 1) units
left-after units [] k gone rec apart at all e = absurd (cc)
left-after units (unit ∷ rest) k gone rec apart at all e =
    let is : rec ≡ Backout unit = cc in
    let others : AreApart (unit ∷ rest) = subst AreApart at (AreApart-drop k units apart) in
    filter-twice (λ (u : UnitId). is_backout_of u rec) gone units
    ∙ ap (filter (λ u. not (is_backout_of u rec))) all
    ∙ ap (λ (r : LogRec). filter (λ u. not (is_backout_of u r)) (unit ∷ rest)) is
    ∙ rw (same_unit-itself unit) (filter-apart unit rest others.0)
    ∙ sym (drop-next k units unit rest at)

pub backed_out : (p : Settings) (h : List Event) (place : ℕ) (rec : LogRec) → is_restarted h ≡ false → backouts_left p h ≡ drop (records_opened h) (flight (scan p h).records) → record_at_hand p h ≡ Some rec
    → backouts_left p (LogOpened place rec ∷ h) ≡ drop (records_opened h + 1) (flight (scan p h).records)
backed_out p h place rec running left hand =
    let hand2 = rw (running, record_at_hand) at hand in
    left-after (flight (scan p h).records) (backouts_left p h) (records_opened h) (λ u. has_backout u h) rec (flight-apart (scan p h).records) (sym left) refl hand2
