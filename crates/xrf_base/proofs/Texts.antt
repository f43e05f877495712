-- The first blank of a text, texts that have none, and the reading of file slots.
use Rattle.std.proofs.Common.{◌≡◌, ◌≤◌, ◌-◌, ◌==◌, ◌&&◌, ℕ, zero, suc, Bool, true, false, cond, if◌then◌else◌, Option, Some, None, List, [], ◌∷◌, ◌++◌, length, take, take_all, drop, replicate, refl, sym, ◌∙◌, ap, nat_lt, nat_eq, nat_le, arith, IfSome, IfNone, subst}
use Rattle.std.proofs.lemmas.Bool.{ltb-false, ne_eqb, and_parts}
use Rattle.std.proofs.Math.Seq.{take-add}
use Rattle.xrf_base.specs.Names.{is_name_byte}
use Rattle.std.specs.List.{position_or_len, position, list_all, before_first}
use Rattle.std.specs.Option.{option_map, option_and_then}
use Rattle.std.specs.Cmp.Lexicographic.{pointwise, same_text, nat_list_eq_equiv}
use Rattle.xrf_base.specs.Padding.{unpadded}
use Rattle.xrf_base.specs.Values.{is_value, is_value_byte, IsValue, value_of, slot_of, SlotIs, record_reading, slot_reading}

-- a first place that passes is the place at which the front ends
pub position-some : (p : ℕ → Bool) (xs : List ℕ) (n : ℕ) → position p xs ≡ Some n → take n xs ≡ before_first p xs
position-some p xs n h = by (nat_lt (position_or_len p xs) (length xs)) h
  where
    by : (b : Bool) → cond b (Some (position_or_len p xs)) None ≡ Some n → take n xs ≡ take (position_or_len p xs) xs
    by true e = let same : n ≡ position_or_len p xs = cc in ap (λ (k : ℕ). take k xs) same
    by false e = cc

-- where none passes the front is the list
pub position-none : (p : ℕ → Bool) (xs : List ℕ) → position p xs ≡ None → xs ≡ before_first p xs
position-none p xs h = by (nat_lt (position_or_len p xs) (length xs)) refl h
  where
    by : (b : Bool) → nat_lt (position_or_len p xs) (length xs) ≡ b → cond b (Some (position_or_len p xs)) None ≡ None → xs ≡ take (position_or_len p xs) xs
    by true t e = cc
    by false t e = let all : length xs ≤ position_or_len p xs = omega (arith, ltb-false) in sym (take_all (position_or_len p xs) xs all)

-- a text of characters that are no blank, padded, reads as itself
pub unpadded-padded : (test : ℕ → Bool) → ((b : ℕ) → test b ≡ true → (b == 32) ≡ false) → (text : List ℕ) (count : ℕ) → list_all test text ≡ true → unpadded (text ++ replicate count 32) ≡ text
unpadded-padded test apart [] zero all = refl
unpadded-padded test apart [] (suc count) all = refl
unpadded-padded test apart (x ∷ xs) count all =
    let other : (x == 32) ≡ false = apart x (and_parts (test x) (list_all test xs) all).0 in
    let rest = unpadded-padded test apart xs count (and_parts (test x) (list_all test xs) all).1 in
    rw other (take-add 1 (position_or_len (λ b. b == 32) (xs ++ replicate count 32)) (x ∷ (xs ++ replicate count 32)) ∙ ap (λ (l : List ℕ). x ∷ l) rest)

-- no character of a value is a blank
pub value-no_blank : (b : ℕ) → is_value_byte b ≡ true → (b == 32) ≡ false
value-no_blank b h = ne_eqb b 32 (λ e. absurd-value (subst (λ (n : ℕ). is_value_byte n ≡ true) e h))
  where
    absurd-value : is_value_byte 32 ≡ true → ⊥
    absurd-value e = cc

-- no character of a name is a blank
pub name-no_blank : (b : ℕ) → is_name_byte b ≡ true → (b == 32) ≡ false
name-no_blank b h = ne_eqb b 32 (λ e. absurd-name (subst (λ (n : ℕ). is_name_byte n ≡ true) e h))
  where
    absurd-name : is_name_byte 32 ≡ true → ⊥
    absurd-name e = cc

-- what is read of the value in a slot
pub record_reading-is : (bytes field : List ℕ) (value : Option (List ℕ)) → field ≡ unpadded (drop 8 bytes) → value_of field ≡ value
    → record_reading bytes ≡ option_and_then (λ v. if pointwise nat_eq (slot_of (Some v)) bytes then Some v else None) value
record_reading-is bytes field value front is = rw (sym front, is) refl

-- a text that is tested and kept is the one that is kept, and passes
kept : {X : Type 0} (test : Bool) (x y : X) → (if test then Some x else None) ≡ Some y → (test ≡ true) × (x ≡ y)
kept true x y h = (refl, cc)
kept false x y h = absurd (cc)

-- a value that is read of a slot is spelled so
pub record_reading-some : (bytes value : List ℕ) → record_reading bytes ≡ Some value → SlotIs bytes (Some value)
record_reading-some bytes value h = by (value_of field) refl h
  where
    field : List ℕ
    field = unpadded (drop 8 bytes)

    by : (v : Option (List ℕ)) → value_of (unpadded (drop 8 bytes)) ≡ v
        → option_and_then (λ v. if pointwise nat_eq (slot_of (Some v)) bytes then Some v else None) v ≡ Some value → SlotIs bytes (Some value)
    by None e k = absurd (cc)
    by (Some v) e k =
        let spelled = kept (pointwise nat_eq (slot_of (Some v)) bytes) v value k in
        let fits = kept (is_value (unpadded (drop 8 bytes))) (unpadded (drop 8 bytes)) v e in
        (subst IsValue (fits.1 ∙ spelled.1) fits.0, sym (same_text (slot_of (Some v)) bytes (sym spelled.0)) ∙ ap (λ (w : List ℕ). slot_of (Some w)) spelled.1)

-- and a value that is spelled so is read
pub record_reading-slot : (value : List ℕ) → IsValue value → record_reading (slot_of (Some value)) ≡ Some value
record_reading-slot value fits =
    let front : unpadded (drop 8 (slot_of (Some value))) ≡ value = unpadded-padded is_value_byte value-no_blank value (24 - length value) (and_parts (nat_le 1 (length value) && nat_le (length value) 24) (list_all is_value_byte value) fits).1 in
    let spelled : value_of value ≡ Some value = rw fits refl in
    let same : pointwise nat_eq (slot_of (Some value)) (slot_of (Some value)) ≡ true = nat_list_eq_equiv.refl (slot_of (Some value)) in
    record_reading-is (slot_of (Some value)) value (Some value) (sym front) spelled ∙ rw same refl

mapped : (bytes : List ℕ) (held : Option (List ℕ)) (v : Option (List ℕ)) → record_reading bytes ≡ v → option_map Some v ≡ Some held → SlotIs bytes held
mapped bytes held None e k = absurd (cc)
mapped bytes held (Some v) e k =
    let some : Some v ≡ held = cc in
    subst (SlotIs bytes) some (record_reading-some bytes v e)

-- what is read of a slot is spelled so
pub slot_reading-some : (bytes : List ℕ) (held : Option (List ℕ)) → slot_reading bytes ≡ Some held → SlotIs bytes held
slot_reading-some bytes held h = by (pointwise nat_eq bytes (slot_of None)) refl h
  where
    by : (t : Bool) → pointwise nat_eq bytes (slot_of None) ≡ t → (if t then Some None else option_map Some (record_reading bytes)) ≡ Some held → SlotIs bytes held
    by true e k =
        let none : None ≡ held = cc in
        subst (SlotIs bytes) none (tt, same_text bytes (slot_of None) (sym e))
    by false e k = mapped bytes held (record_reading bytes) refl k

-- and what is spelled so is read
pub slot_reading-slot : (held : Option (List ℕ)) → IfSome held IsValue → slot_reading (slot_of held) ≡ Some held
slot_reading-slot None fits = refl
slot_reading-slot (Some value) fits = rw (record_reading-slot value fits) refl

-- so what a reading gives is spelled
pub found_by_reading : (bytes : List ℕ) (r : Option (Option (List ℕ))) → r ≡ slot_reading bytes → IfSome r (λ held. SlotIs bytes held)
found_by_reading bytes None e = tt
found_by_reading bytes (Some held) e = slot_reading-some bytes held (sym e)

no_slot : (bytes : List ℕ) (held : Option (List ℕ)) → None ≡ slot_reading bytes → SlotIs bytes held → ⊥
no_slot bytes held e is = let clash : None ≡ Some held = e ∙ ap slot_reading is.1 ∙ slot_reading-slot held is.0 in cc

-- and where it gives nothing, nothing is spelled
pub none_by_reading : (bytes : List ℕ) (r : Option (Option (List ℕ))) → r ≡ slot_reading bytes → IfNone r ((held : Option (List ℕ)) → SlotIs bytes held → ⊥)
none_by_reading bytes (Some held) e = tt
none_by_reading bytes None e = λ held is. no_slot bytes held e is
