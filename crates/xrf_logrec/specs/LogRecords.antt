-- Log records, and the bodies that spell them.
use Rattle.std.specs.Prelude.{◌≡◌, ℕ, ◌^◌, ◌<◌, ◌≤◌, Bool, ◌==◌, ◌&&◌, nat_eq, nat_le, if◌then◌else◌, List, ◌∷◌, ◌++◌, length, take, drop, replicate, slice_index, Option, Some, None}
use Rattle.std.specs.Option.{option_and_then}
use Rattle.std.specs.Cmp.Lexicographic.{pointwise}
use Rattle.byteorder.specs.Endian.{big_number, big_bytes}
use Rattle.xrf_base.specs.declared.items.UnitId.{UnitId}
use Rattle.xrf_logrec.specs.declared.records.LogRec.{LogRec}
use Rattle.xrf_logrec.specs.declared.records.LogRec.TheVariants.{Put, Commit, Backout}

-- the unit that a record is of
abbrev pub unit_of : LogRec → UnitId
unit_of (Put unit rrn before) = unit
unit_of (Commit unit) = unit
unit_of (Backout unit) = unit

-- two units are one where their incarnations and their serials are
abbrev pub same_unit : UnitId → UnitId → Bool
same_unit a b = a.inc == b.inc && a.serial == b.serial

-- the incarnation and the serial of a unit are numbers of 4 bytes, and at least 1
pub record IsUnit (unit : UnitId) : Type 0 where
  pub inc_least : 1 ≤ unit.inc
  pub inc_most : unit.inc < 2 ^ 32
  pub serial_least : 1 ≤ unit.serial
  pub serial_most : unit.serial < 2 ^ 32

-- a record number is a number of 2 bytes, and at least 1; a before-image is 32 bytes
pub record IsImage (rrn : ℕ) (before : List ℕ) : Type 0 where
  pub rrn_least : 1 ≤ rrn
  pub rrn_most : rrn < 2 ^ 16
  pub size : length before ≡ 32

-- the numbers of a record are in their ranges
abbrev pub IsLogRecord : LogRec → Type 0
IsLogRecord (Put unit rrn before) = IsUnit unit × IsImage rrn before
IsLogRecord (Commit unit) = IsUnit unit
IsLogRecord (Backout unit) = IsUnit unit

-- what each kind of record begins with: the kind, the place and the unit, in 13 bytes
abbrev pub head_of : ℕ → ℕ → UnitId → List ℕ
head_of kind place unit = kind ∷ big_bytes 4 place ++ big_bytes 4 unit.inc ++ big_bytes 4 unit.serial

-- The body of a slot that holds a record as number `place` of the log. Kinds are 1 Put, 2 Commit and
-- 3 Backout. A Put has the record number and the before-image behind its unit. All else is zero.
abbrev pub spelling : ℕ → LogRec → List ℕ
spelling place (Put unit rrn before) = head_of 1 place unit ++ big_bytes 2 rrn ++ before ++ replicate 16 0
spelling place (Commit unit) = head_of 2 place unit ++ replicate 50 0
spelling place (Backout unit) = head_of 3 place unit ++ replicate 50 0

-- a body spells this record at this place
pub record LogIs (body : List ℕ) (place : ℕ) (rec : LogRec) : Type 0 where
  pub place_most : place < 2 ^ 32
  pub in_range : IsLogRecord rec
  pub spelled : body ≡ spelling place rec

-- The reading of a body, as a function: the record that its fields give, where that record is in its
-- ranges and has exactly this spelling.
abbrev pub is_unit_id : UnitId → Bool
is_unit_id unit = nat_le 1 unit.inc && nat_le 1 unit.serial

abbrev pub is_log_record : LogRec → Bool
is_log_record (Put unit rrn before) = is_unit_id unit && nat_le 1 rrn
is_log_record (Commit unit) = is_unit_id unit
is_log_record (Backout unit) = is_unit_id unit

abbrev pub unit_in : List ℕ → UnitId
unit_in body = record { inc = big_number 4 (drop 5 body); serial = big_number 4 (drop 9 body) }

abbrev pub before_image : List ℕ → List ℕ
before_image body = take 32 (drop 15 body)

abbrev pub fields_of : List ℕ → Option LogRec
fields_of body = if slice_index body 0 == 1 then Some (Put (unit_in body) (big_number 2 (drop 13 body)) (before_image body)) else if slice_index body 0 == 2 then Some (Commit (unit_in body)) else if slice_index body 0 == 3 then Some (Backout (unit_in body)) else None

abbrev pub if_spelled : List ℕ → ℕ → LogRec → Option (ℕ × LogRec)
if_spelled body place rec = if is_log_record rec && pointwise nat_eq (spelling place rec) body then Some (place, rec) else None

abbrev pub log_reading : List ℕ → Option (ℕ × LogRec)
log_reading body = option_and_then (if_spelled body (big_number 4 (drop 1 body))) (fields_of body)
