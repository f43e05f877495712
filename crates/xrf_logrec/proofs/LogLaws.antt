-- What is spelled is read.
use Rattle.std.proofs.Common.{◌≡◌, ℕ, ◌^◌, ◌<◌, ◌==◌, true, List, ◌++◌, drop, replicate, Some, refl, ◌∙◌, ap}
use Rattle.std.specs.Option.{option_and_then}
use Rattle.std.specs.Cmp.Lexicographic.{nat_list_eq_equiv}
use Rattle.std.proofs.lemmas.Bool.{le-leb, eqb-true, and_parts}
use Rattle.std.proofs.lemmas.List.{take_at}
use Rattle.byteorder.specs.Endian.{big_number, big_bytes}
use Rattle.byteorder.specs.Numbers.{big_number-reads_back}
use Rattle.xrf_base.specs.declared.items.UnitId.{UnitId}
use Rattle.xrf_logrec.specs.declared.records.LogRec.{LogRec}
use Rattle.xrf_logrec.specs.declared.records.LogRec.TheVariants.{Put, Commit, Backout}
use Rattle.xrf_logrec.specs.LogRecords.{same_unit, IsUnit, IsLogRecord, LogIs, head_of, spelling, is_unit_id, is_log_record, unit_in, before_image, fields_of, if_spelled, log_reading}

-- two units with one incarnation and one serial are one
unit-ext : (a b : UnitId) → a.inc ≡ b.inc → a.serial ≡ b.serial → a ≡ b
unit-ext a b g h =
    let of : ℕ → ℕ → UnitId = λ inc serial. record { inc = inc; serial = serial } in
    ap (λ inc. of inc a.serial) g ∙ ap (of b.inc) h

-- a unit that is the same is that unit
pub same_unit-true : (a b : UnitId) → same_unit a b ≡ true → a ≡ b
same_unit-true a b h =
    unit-ext a b
    (eqb-true a.inc b.inc (and_parts (a.inc == b.inc) (a.serial == b.serial) h).0)
    (eqb-true a.serial b.serial (and_parts (a.inc == b.inc) (a.serial == b.serial) h).1)

-- the place and the unit are read behind a head, whatever follows it
place-head : (kind place : ℕ) (unit : UnitId) (rest : List ℕ) → place < 2 ^ 32 → big_number 4 (drop 1 (head_of kind place unit ++ rest)) ≡ place
place-head kind place unit rest fits = big_number-reads_back 4 place ((big_bytes 4 unit.inc ++ big_bytes 4 unit.serial) ++ rest) fits

unit-head : (kind place : ℕ) (unit : UnitId) (rest : List ℕ) → IsUnit unit → unit_in (head_of kind place unit ++ rest) ≡ unit
unit-head kind place unit rest ok =
    unit-ext _ unit
    (big_number-reads_back 4 unit.inc (big_bytes 4 unit.serial ++ rest) ok.inc_most)
    (big_number-reads_back 4 unit.serial rest ok.serial_most)

-- a unit in its ranges passes the test
unit-passes : (unit : UnitId) → IsUnit unit → is_unit_id unit ≡ true
unit-passes unit ok = rw (le-leb 1 unit.inc ok.inc_least, le-leb 1 unit.serial ok.serial_least) refl

record-passes : (rec : LogRec) → IsLogRecord rec → is_log_record rec ≡ true
record-passes (Put unit rrn before) ok = rw (unit-passes unit ok.0, le-leb 1 rrn ok.1.rrn_least) refl
record-passes (Commit unit) ok = unit-passes unit ok
record-passes (Backout unit) ok = unit-passes unit ok

-- the fields of a spelling are those of its record
fields_of-spelling : (place : ℕ) (rec : LogRec) → IsLogRecord rec → fields_of (spelling place rec) ≡ Some rec
fields_of-spelling place (Put unit rrn before) ok =
    let u = unit-head 1 place unit (big_bytes 2 rrn ++ before ++ replicate 16 0) ok.0 in
    let r : big_number 2 (drop 13 (spelling place (Put unit rrn before))) ≡ rrn = big_number-reads_back 2 rrn (before ++ replicate 16 0) ok.1.rrn_most in
    let b : before_image (spelling place (Put unit rrn before)) ≡ before = take_at before (replicate 16 0) 32 ok.1.size in
    let body : List ℕ = spelling place (Put unit rrn before) in
    ap (λ v. Some (Put v (big_number 2 (drop 13 body)) (before_image body))) u
    ∙ ap (λ n. Some (Put unit n (before_image body))) r
    ∙ ap (λ i. Some (Put unit rrn i)) b
fields_of-spelling place (Commit unit) ok = ap (λ v. Some (Commit v)) (unit-head 2 place unit (replicate 50 0) ok)
fields_of-spelling place (Backout unit) ok = ap (λ v. Some (Backout v)) (unit-head 3 place unit (replicate 50 0) ok)

-- the place of a spelling
place-spelling : (place : ℕ) (rec : LogRec) → place < 2 ^ 32 → big_number 4 (drop 1 (spelling place rec)) ≡ place
place-spelling place (Put unit rrn before) fits = place-head 1 place unit (big_bytes 2 rrn ++ before ++ replicate 16 0) fits
place-spelling place (Commit unit) fits = place-head 2 place unit (replicate 50 0) fits
place-spelling place (Backout unit) fits = place-head 3 place unit (replicate 50 0) fits

if_spelled-spelling : (place : ℕ) (rec : LogRec) → IsLogRecord rec → if_spelled (spelling place rec) place rec ≡ Some (place, rec)
if_spelled-spelling place rec ok = rw (record-passes rec ok, nat_list_eq_equiv.refl (spelling place rec)) refl

log_reading-at : (place : ℕ) (rec : LogRec) → place < 2 ^ 32 → IsLogRecord rec → log_reading (spelling place rec) ≡ Some (place, rec)
log_reading-at place rec fits ok =
    let body : List ℕ = spelling place rec in
    ap (option_and_then (if_spelled body (big_number 4 (drop 1 body)))) (fields_of-spelling place rec ok)
    ∙ ap (λ p. if_spelled body p rec) (place-spelling place rec fits)
    ∙ if_spelled-spelling place rec ok

-- what a body spells is what is read of it
pub log_reading-spelled : (body : List ℕ) (place : ℕ) (rec : LogRec) → LogIs body place rec → log_reading body ≡ Some (place, rec)
log_reading-spelled body place rec is = ap log_reading is.spelled ∙ log_reading-at place rec is.place_most is.in_range
