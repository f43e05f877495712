-- The slots that a block's bytes hold.
use Rattle.std.proofs.Common.{◌≡◌, ℕ, zero, suc, ◌+◌, ◌-◌, ◌*◌, ◌<◌, ◌≤◌, List, [], ◌∷◌, ◌++◌, length, get_or, take, drop, refl, ap, sym, ◌∙◌, arith, length-take, length-drop}
use Rattle.std.proofs.lemmas.List.{take_at, drop_at, drop-drop, get_or-append_right, get_or-take, get_or-drop, take_all, drop_all, append-nil}
use Rattle.std.specs.List.{flat_map}
use Rattle.xrf_gated.specs.declared.gated.Slot.{Slot}
use Rattle.xrf_gated.specs.Slots.{slot_of, slot_in, bytes_of, zero_slot}

-- two slots with one gate and one body are one
same_slot : (a b : Slot) → a.gate ≡ b.gate → a.body ≡ b.body → a ≡ b
same_slot a b g h =
    let of : ℕ → List ℕ → Slot = λ gate body. record { gate = gate; body = body } in
    ap (λ gate. of gate a.body) g ∙ ap (of b.gate) h

-- the first slot of consecutive ones
slot_in-first : (slot : Slot) (rest : List ℕ) → length slot.body ≡ 63 → slot_in (bytes_of slot ++ rest) 0 ≡ slot
slot_in-first slot rest n = same_slot _ _ refl (take_at slot.body rest 63 n)

-- a later slot stands in what is behind the first
slot_in-later : (slot : Slot) (rest : List ℕ) (k : ℕ) → length slot.body ≡ 63 → slot_in (bytes_of slot ++ rest) (suc k) ≡ slot_in rest k
slot_in-later slot rest k n =
    let whole : length (bytes_of slot) ≡ 64 = omega (arith, n) in
    let behind : (m : ℕ) → drop (64 + m) (bytes_of slot ++ rest) ≡ drop m rest =
    λ m. sym (drop-drop m 64 (bytes_of slot ++ rest)) ∙ ap (drop m) (drop_at (bytes_of slot) rest 64 whole) in
    let place : 64 * suc k ≡ 64 + 64 * k = omega arith in
    let place_1 : 64 * suc k + 1 ≡ 64 + (64 * k + 1) = omega arith in
    let far : 64 ≤ 64 * suc k = omega arith in
    let less : 64 * suc k - 64 ≡ 64 * k = omega arith in
    same_slot _ _
    (get_or-append_right (bytes_of slot) rest 64 (64 * suc k) 0 whole far ∙ ap (λ m. get_or rest m 0) less)
    (ap (λ m. take 63 (drop m (bytes_of slot ++ rest))) place_1 ∙ ap (take 63) (behind (64 * k + 1)))

-- each slot of consecutive ones
pub slot_in-flat_map : (slots : List Slot) (k : ℕ) → ((j : ℕ) → j < length slots → length (slot_of slots j).body ≡ 63) → k < length slots → slot_in (flat_map bytes_of slots) k ≡ slot_of slots k
slot_in-flat_map [] k long below = absurd (omega arith)
slot_in-flat_map (slot ∷ slots) zero long below = slot_in-first slot (flat_map bytes_of slots) (long 0 (omega arith))
slot_in-flat_map (slot ∷ slots) (suc k) long below =
    slot_in-later slot (flat_map bytes_of slots) k (long 0 (omega arith))
    ∙ slot_in-flat_map slots k (λ j h. long (suc j) (omega arith)) (omega arith)

-- what the loop over a block's slots leaves is the block, and holds each of its slots
pub slots_read : (slots : List Slot) (b n m : ℕ) (first into : List ℕ) → 64 * b + 64 ≤ length slots → m ≡ 64 → length first ≡ 4096 → length (take m (drop (64 * b) slots)) ≤ n → into ≡ flat_map bytes_of (take n (take m (drop (64 * b) slots))) ++ drop (64 * n) first → ((j : ℕ) → j < n → length (slot_of (take m (drop (64 * b) slots)) j).body ≡ 63) → (k : ℕ) → k < 64 → slot_in into k ≡ slot_of slots (64 * b + k)
slots_read slots b n m first into fits is_64 size done is long k below =
    let part : List Slot = take m (drop (64 * b) slots) in
    let count : length part ≡ 64 = simp (length-take, length-drop) (omega arith) in
    let over : 64 ≤ n = omega (arith, count) in
    let all : take n part ≡ part = take_all n part (omega (arith, count)) in
    let none : drop (64 * n) first ≡ [] = drop_all (64 * n) first (omega arith) in
    let at : (j : ℕ) → j < 64 → slot_of part j ≡ slot_of slots (64 * b + j) =
    λ j h. get_or-take m (drop (64 * b) slots) j zero_slot (omega arith) ∙ get_or-drop (64 * b) slots j zero_slot in
    let whole : into ≡ flat_map bytes_of part =
    is ∙ ap (λ p. flat_map bytes_of p ++ drop (64 * n) first) all ∙ ap (λ r. flat_map bytes_of part ++ r) none ∙ append-nil (flat_map bytes_of part) in
    ap (λ bytes. slot_in bytes k) whole
    ∙ slot_in-flat_map part k (λ j h. long j (omega (arith, count))) (omega (arith, count))
    ∙ at k below
