-- Where the first element that passes a test stands.
use Rattle.std.proofs.Common.{◌≡◌, ℕ, ◌<◌, Bool, true, false, not, cond, List, [], ◌∷◌, ◌==◌, ◌≢◌, Option, Some, None, length, unwrap_or, nat_lt, refl, ◌∙◌, sym, ap, arith}
use Rattle.std.specs.List.{position, position_or_len}
use Rattle.std.proofs.lemmas.Bool.Decides.{nat_tests}
use Rattle.std.proofs.lemmas.List.Sums.{prefix_len-le-length}

-- the place of the first that passes, or the end
pub unwrap_or-position : (p : ℕ → Bool) (xs : List ℕ) → unwrap_or (position p xs) (length xs) ≡ position_or_len p xs
unwrap_or-position p xs = by (nat_lt (position_or_len p xs) (length xs)) refl
  where
    by : (inside : Bool) → nat_lt (position_or_len p xs) (length xs) ≡ inside
        → unwrap_or (cond inside (Some (position_or_len p xs)) None) (length xs) ≡ position_or_len p xs
    by true e = refl
    by false e = let le = prefix_len-le-length (λ x. not (p x)) xs in grind (arith, nat_tests)

pub position-none : (p : ℕ → Bool) (xs : List ℕ) → None ≡ position p xs → position_or_len p xs ≡ length xs
position-none p xs none = sym (unwrap_or-position p xs) ∙ ap (λ (o : Option ℕ). unwrap_or o (length xs)) (sym none)

pub position-some : (p : ℕ → Bool) (xs : List ℕ) (n : ℕ) → Some n ≡ position p xs → (n ≡ position_or_len p xs) × (n < length xs)
position-some p xs n some = by (nat_lt (position_or_len p xs) (length xs)) refl some
  where
    by : (inside : Bool) → nat_lt (position_or_len p xs) (length xs) ≡ inside → Some n ≡ cond inside (Some (position_or_len p xs)) None
        → (n ≡ position_or_len p xs) × (n < length xs)
    by true e s = let same : n ≡ position_or_len p xs = cc in (same, rw same (grind (arith, nat_tests)))
    by false e s = cc

-- A list whose length isn't 0 has an element.
pub filled_from : (rest : List ℕ) → (length rest == 0) ≡ false → rest ≢ []
filled_from [] some e = cc
filled_from (x ∷ xs) some e = cc
