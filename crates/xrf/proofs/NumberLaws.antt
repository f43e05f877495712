-- Numbers in words.
use Rattle.std.proofs.Common.{◌≡◌, ◌≤◌, ◌+◌, ◌*◌, ◌-◌, ℕ, Bool, true, false, List, [], ◌∷◌, Option, Some, None, nat_le, if◌then◌else◌, refl, sym, ◌∙◌, ap, arith}
use Rattle.std.proofs.lemmas.Bool.{le-leb, leb-true}
use Rattle.xrf_grammar.specs.Numbers.{value_behind}

-- digits behind a number make it no less
pub grows : (n : ℕ) (ds : List ℕ) → n ≤ value_behind n ds
grows n [] = omega arith
grows n (d ∷ ds) = let more = grows (10 * n + (d - 48)) ds in omega (arith, more)

-- a number that may be had is had
pub had : (n whole most : ℕ) → n ≤ most → n ≡ whole → Some n ≡ (if nat_le whole most then Some whole else None)
had n whole most small is = by (nat_le whole most) refl
  where
    by : (b : Bool) → nat_le whole most ≡ b → Some n ≡ (if b then Some whole else None)
    by true fits = ap Some is
    by false fits = absurd (let k = le-leb whole most (omega (arith, small, is)) in cc)

-- where a digit makes a number too large, the whole number is
pub too_large : (n d whole most : ℕ) (ds rest : List ℕ) (o : Option ℕ) → o ≡ (if nat_le (10 * n + (d - 48)) most then Some (10 * n + (d - 48)) else None) → o ≡ None
    → ds ≡ d ∷ rest → value_behind n ds ≡ whole → None ≡ (if nat_le whole most then Some whole else None)
too_large n d whole most ds rest o made none spelled is = by (nat_le (10 * n + (d - 48)) most) (nat_le whole most) refl refl (sym made ∙ none)
  where
    more : 10 * n + (d - 48) ≤ whole
    more = let grown = grows (10 * n + (d - 48)) rest in let same : value_behind n (d ∷ rest) ≡ whole = ap (value_behind n) (sym spelled) ∙ is in omega (arith, grown, same)

    by : (a b : Bool) → nat_le (10 * n + (d - 48)) most ≡ a → nat_le whole most ≡ b → (if a then Some (10 * n + (d - 48)) else None) ≡ None → None ≡ (if b then Some whole else None)
    by a false first second h = refl
    by true true first second h = absurd (cc)
    by false true first second h = absurd (let k = le-leb (10 * n + (d - 48)) most (omega (arith, more, leb-true whole most second)) in cc)
