-- Bytes that are written in hex are read again.
use Rattle.std.proofs.Common.{◌≡◌, ◌<◌, ◌+◌, ◌/◌, ◌%◌, ◌==◌, ◌&&◌, ℕ, zero, suc, Bool, true, false, List, [], ◌∷◌, length, Some, refl, ◌∙◌, ap, arith}
use Rattle.std.specs.List.{AllByRecursion, list_all}
use Rattle.std.proofs.lemmas.Bool.{le-leb, eqb-true, eqb-false, eq-eqb, and_parts}
use Rattle.xrf_grammar.specs.Hex.{is_hex, is_hex_digit, byte_of, bytes_of_hex, torn_of_hex}
use Rattle.xrf_grammar.specs.Spelling.{hex_digit, hex_text}
use Rattle.xrf_setup.specs.Choices.{IsTorn}

-- a test of all numbers below one
abbrev pub all_below : (ℕ → Bool) → ℕ → Bool
all_below p zero = true
all_below p (suc n) = p n && all_below p n

below-last : (k n : ℕ) → k < suc n → (k ≡ n → ⊥) → k < n
below-last k n less apart = omega (arith, apart)

pub below-at : (p : ℕ → Bool) (n k : ℕ) → all_below p n ≡ true → k < n → p k ≡ true
below-at p zero k h less = absurd (omega arith)
below-at p (suc n) k h less = by (k == n) refl (λ below. below-at p n k (and_parts (p n) (all_below p n) h).1 below)
  where
    by : (b : Bool) → (k == n) ≡ b → (k < n → p k ≡ true) → p k ≡ true
    by true e smaller = ap p (eqb-true k n e) ∙ (and_parts (p n) (all_below p n) h).0
    by false e smaller = smaller (below-last k n less (eqb-false k n e))

-- both digits of a byte are digits, and spell it
abbrev high : ℕ → ℕ
high b = hex_digit (b / 16)

abbrev low : ℕ → ℕ
low b = hex_digit (b % 16)

abbrev passes : ℕ → Bool
passes b = is_hex_digit (high b) && (is_hex_digit (low b) && (byte_of (high b) (low b) == b))

each : (b : ℕ) → b < 256 → passes b ≡ true
each b less = below-at passes 256 b refl less

digits : (bytes : List ℕ) → AllByRecursion (λ b. b < 256) bytes → list_all is_hex_digit (hex_text bytes) ≡ true
digits [] h = refl
digits (b ∷ bs) h =
    let pass = each b h.0 in
    rw (and_parts (is_hex_digit (high b)) _ pass).0 (rw (and_parts (is_hex_digit (low b)) _ (and_parts (is_hex_digit (high b)) _ pass).1).0 (digits bs h.1))

pub again : (bytes : List ℕ) → AllByRecursion (λ b. b < 256) bytes → bytes_of_hex (hex_text bytes) ≡ bytes
again [] h = refl
again (b ∷ bs) h =
    let pass = each b h.0 in
    let same : byte_of (high b) (low b) ≡ b = eqb-true (byte_of (high b) (low b)) b (and_parts (is_hex_digit (low b)) _ (and_parts (is_hex_digit (high b)) _ pass).1).1 in
    ap (λ (n : ℕ). n ∷ bytes_of_hex (hex_text bs)) same ∙ ap (λ (l : List ℕ). b ∷ l) (again bs h.1)

two-each : (bytes : List ℕ) → length (hex_text bytes) ≡ length bytes + length bytes
two-each [] = refl
two-each (b ∷ bs) = let rest = two-each bs in omega arith

pub is-hex : (bytes : List ℕ) → IsTorn bytes → is_hex (hex_text bytes) ≡ true
is-hex bytes h =
    let size = two-each bytes in
    rw (le-leb 1 (length (hex_text bytes)) (omega (arith, h.least, h.most)))
    (rw (le-leb (length (hex_text bytes)) 126 (omega (arith, h.least, h.most)))
    (rw (eq-eqb (length (hex_text bytes) % 2) 0 (omega arith)) (digits bytes h.each)))

pub torn-again : (bytes : List ℕ) → IsTorn bytes → torn_of_hex (hex_text bytes) ≡ Some bytes
torn-again bytes h = rw (is-hex bytes h) (ap Some (again bytes h.each))
