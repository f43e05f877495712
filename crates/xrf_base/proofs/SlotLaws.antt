-- What the first 8 bytes of a slot and the bytes behind them say of what it holds.
use Rattle.std.proofs.Common.{◌≡◌, ◌≤◌, ◌-◌, ◌==◌, ◌&&◌, ℕ, zero, suc, Bool, true, if◌then◌else◌, Some, None, List, [], ◌∷◌, ◌++◌, length, take, drop, replicate, nat_eq, refl, sym, ◌∙◌, ap, subst, arith}
use Rattle.std.specs.List.{list_all, position_or_len}
use Rattle.std.specs.Cmp.Lexicographic.{pointwise, same_text}
use Rattle.std.proofs.lemmas.List.{length-take, length-drop, take-append-drop}
use Rattle.byteorder.specs.Endian.{big_number, big_bytes}
use Rattle.xrf_base.specs.Numbers.{AreBytes}
use Rattle.xrf_base.specs.Padding.{padded, unpadded}
use Rattle.xrf_base.specs.Values.{is_value, padded_value, slot_reading}
use Rattle.xrf_base.specs.Zeros.{are_zeros}
use Rattle.xrf_base.proofs.NumberLaws.{number_part}
use Rattle.xrf_base.proofs.Tails.{pointwise-tail, is_replicate}

-- a front is taken again
take-again : (n : ℕ) (xs : List ℕ) → take (length (take n xs)) xs ≡ take n xs
take-again zero xs = refl
take-again (suc n) [] = refl
take-again (suc n) (x ∷ xs) = ap (λ l. x ∷ l) (take-again n xs)

pub unpadded-again : (field : List ℕ) → take (length (unpadded field)) field ≡ unpadded field
unpadded-again field = take-again (position_or_len (λ b. b == 32) field) field

pub unpadded-shorter : (field : List ℕ) → length (unpadded field) ≤ length field
unpadded-shorter field = shorter (position_or_len (λ b. b == 32) field) field
  where
    shorter : (n : ℕ) (xs : List ℕ) → length (take n xs) ≤ length xs
    shorter n xs = omega (arith, length-take n xs)

-- a field is its text padded exactly where all that stands behind the text is blank
blank_tail : (field : List ℕ) → length field ≡ 24 → pointwise nat_eq (padded 24 (unpadded field)) field ≡ list_all (λ b. b == 32) (drop (length (unpadded field)) field)
blank_tail field long =
    let few = unpadded-shorter field in
    ap (λ t. pointwise nat_eq (t ++ replicate (24 - length (unpadded field)) 32) field) (sym (unpadded-again field))
    ∙ pointwise-tail 32 (length (unpadded field)) (24 - length (unpadded field)) field (omega (arith, few, long))

pub is_padded : (field text : List ℕ) → length field ≡ 24 → text ≡ unpadded field → list_all (λ b. b == 32) (drop (length text) field) ≡ true → field ≡ padded 24 text
is_padded field text long is blank =
    subst (λ t. list_all (λ b. b == 32) (drop (length t) field) ≡ true → field ≡ padded 24 t) (sym is) (λ all. sym (same_text _ field (sym (blank_tail field long ∙ all)))) blank

-- what is read of a field
pub padded_value-is : (field text : List ℕ) (value blank : Bool) → length field ≡ 24 → text ≡ unpadded field → value ≡ is_value text → blank ≡ list_all (λ b. b == 32) (drop (length text) field)
    → padded_value field ≡ (if value && blank then Some text else None)
padded_value-is field text value blank long is spells tail =
    subst (λ t. value ≡ is_value t → blank ≡ list_all (λ b. b == 32) (drop (length t) field) → padded_value field ≡ (if value && blank then Some t else None)) (sym is)
    (λ e f. ap (λ b. if is_value (unpadded field) && b then Some (unpadded field) else None) (blank_tail field long ∙ sym f)
    ∙ ap (λ b. if b && blank then Some (unpadded field) else None) (sym e)) spells tail

-- a slot is what its first 8 bytes spell, and what stands behind them
fronted : (slot : List ℕ) (front : ℕ) → length slot ≡ 32 → AreBytes slot → front ≡ big_number 8 slot → slot ≡ big_bytes 8 front ++ drop 8 slot
fronted slot front long fits is =
    sym (take-append-drop 8 slot) ∙ ap (λ l. l ++ drop 8 slot) (number_part slot 0 8 (omega arith) fits ∙ ap (big_bytes 8) (sym is))

-- a slot that begins with zero bytes and goes on so is empty
pub empty_slot : (slot : List ℕ) (front : ℕ) → length slot ≡ 32 → AreBytes slot → front ≡ big_number 8 slot → front ≡ 0 → are_zeros (drop 8 slot) ≡ true → Some None ≡ slot_reading slot
empty_slot slot front long fits is none rest =
    let count : length (drop 8 slot) ≡ 24 = omega (arith, length-drop 8 slot, long) in
    let whole : slot ≡ replicate 8 0 ++ drop 8 slot = fronted slot front long fits is ∙ ap (λ n. big_bytes 8 n ++ drop 8 slot) none in
    let all : slot ≡ replicate 32 0 = whole ∙ ap (λ l. replicate 8 0 ++ l) (is_replicate 0 (drop 8 slot) rest ∙ ap (λ n. replicate n 0) count) in
    ap slot_reading (sym all)

-- the text of a field is its front
pub front_is : (field text : List ℕ) → text ≡ unpadded field → take (length text) field ≡ text
front_is field text is = subst (λ t. take (length t) field ≡ t) (sym is) (unpadded-again field)

pub text_shorter : (field text : List ℕ) → text ≡ unpadded field → length text ≤ length field
text_shorter field text is = subst (λ t. length t ≤ length field) (sym is) (unpadded-shorter field)
