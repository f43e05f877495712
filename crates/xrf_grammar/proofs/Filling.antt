-- What pairs of digits fill in is the bytes that they spell.
use Rattle.std.proofs.Common.{◌≡◌, ◌≤◌, ◌+◌, ◌-◌, ℕ, Bool, true, false, List, [], ◌∷◌, ◌++◌, length, take, drop, slice_set, slice_index, replicate, nat_le, ◌==◌, ◌%◌, ◌&&◌, refl, sym, ◌∙◌, ap, cond, arith}
use Rattle.std.proofs.lemmas.List.{take_all, take_more_set, length-set, append-nil, append_assoc}
use Rattle.std.proofs.lemmas.Bool.{leb-true, le-leb, lt-leb, eqb-true, and_parts}
use Rattle.std.specs.List.{list_all}
use Rattle.xrf_grammar.specs.Hex.{is_hex_digit, is_hex, byte_of, bytes_of_hex, torn_of_hex}
use Rattle.xrf_setup.specs.Torn.{torn_of}
use Rattle.xrf_grammar.specs.Filling.{one_more, filled, front_of}
use Rattle.xrf_grammar.specs.declared.hex.Filling.{Filling}

-- the first two digits are the next byte
pub two_more : (filling : Filling) (text : List ℕ) → 2 ≤ length text
    → filled filling text ≡ filled (one_more filling (byte_of (slice_index text 0) (slice_index text 1))) (take (length text - 2) (drop 2 text))
two_more filling [] h = absurd (omega arith)
two_more filling (high ∷ []) h = absurd (omega arith)
two_more filling (high ∷ low ∷ more) h =
    ap (filled (one_more filling (byte_of high low))) (sym (take_all (length (high ∷ low ∷ more) - 2) more (omega arith)))

-- the bytes so far are the front of the array
front-take : (filling : Filling) → length filling.bytes ≡ 63 → filling.count ≤ 63 → front_of filling ≡ take filling.count filling.bytes
front-take filling whole room = by (nat_le 63 filling.count) refl
  where
    by : (b : Bool) → nat_le 63 filling.count ≡ b → cond b filling.bytes (take filling.count filling.bytes) ≡ take filling.count filling.bytes
    by true e = let most : 63 ≤ filling.count = leb-true 63 filling.count e in sym (take_all filling.count filling.bytes (omega arith))
    by false e = refl

-- a filling with room, and so many digits more: its bytes so far and those that they spell
pub filled_front : (filling : Filling) (text : List ℕ) → length filling.bytes ≡ 63 → filling.count + length (bytes_of_hex text) ≤ 63
    → front_of (filled filling text) ≡ take filling.count filling.bytes ++ bytes_of_hex text
filled_front filling [] whole room = front-take filling whole (omega arith) ∙ sym (append-nil (take filling.count filling.bytes))
filled_front filling (high ∷ []) whole room = front-take filling whole (omega arith) ∙ sym (append-nil (take filling.count filling.bytes))
filled_front filling (high ∷ low ∷ more) whole room =
    let byte : ℕ = byte_of high low in
    let free : nat_le 63 filling.count ≡ false = lt-leb 63 filling.count (omega arith) in
    let next : Filling = record { bytes = slice_set filling.bytes filling.count byte; count = filling.count + 1 } in
    let rest : front_of (filled next more) ≡ take (filling.count + 1) (slice_set filling.bytes filling.count byte) ++ bytes_of_hex more
    = filled_front next more (length-set filling.bytes filling.count byte ∙ whole) (omega arith) in
    rw free (rest ∙ ap (λ (l : List ℕ). l ++ bytes_of_hex more) (take_more_set filling.bytes filling.count byte (omega arith)) ∙ append_assoc (take filling.count filling.bytes) (byte ∷ []) (bytes_of_hex more))

-- two digits a byte
pub most-bytes : (text : List ℕ) → length (bytes_of_hex text) + length (bytes_of_hex text) ≤ length text
most-bytes [] = omega arith
most-bytes (high ∷ []) = omega arith
most-bytes (high ∷ low ∷ more) = let rest = most-bytes more in omega arith

pub least-bytes : (text : List ℕ) → 2 ≤ length text → 1 ≤ length (bytes_of_hex text)
least-bytes [] h = absurd (omega arith)
least-bytes (high ∷ []) h = absurd (omega arith)
least-bytes (high ∷ low ∷ more) h = omega arith

-- no bytes
abbrev pub start : Filling
start = record { bytes = replicate 63 0; count = 0 }

-- what is filled in of a text of hex is what it spells
pub torn_law : (text : List ℕ) → is_hex text ≡ true → torn_of (front_of (filled start text)) ≡ torn_of_hex text
torn_law text h =
    let sized : (nat_le 1 (length text) && nat_le (length text) 126 && (length text % 2 == 0)) ≡ true = (and_parts (nat_le 1 (length text) && nat_le (length text) 126 && (length text % 2 == 0)) (list_all is_hex_digit text) h).0 in
    let between : (nat_le 1 (length text) && nat_le (length text) 126) ≡ true = (and_parts (nat_le 1 (length text) && nat_le (length text) 126) (length text % 2 == 0) sized).0 in
    let some : 1 ≤ length text = leb-true 1 (length text) (and_parts (nat_le 1 (length text)) (nat_le (length text) 126) between).0 in
    let few : length text ≤ 126 = leb-true (length text) 126 (and_parts (nat_le 1 (length text)) (nat_le (length text) 126) between).1 in
    let even : length text % 2 ≡ 0 = eqb-true (length text % 2) 0 (and_parts (nat_le 1 (length text) && nat_le (length text) 126) (length text % 2 == 0) sized).1 in
    let most = most-bytes text in
    let least : 1 ≤ length (bytes_of_hex text) = least-bytes text (omega arith) in
    let front : front_of (filled start text) ≡ bytes_of_hex text = filled_front start text refl (omega arith) in
    let low : nat_le 1 (length (bytes_of_hex text)) ≡ true = le-leb 1 (length (bytes_of_hex text)) least in
    let high : nat_le (length (bytes_of_hex text)) 63 ≡ true = le-leb (length (bytes_of_hex text)) 63 (omega arith) in
    ap torn_of front ∙ rw h (rw low (rw high refl))
