-- What a unit puts is a value.
use Rattle.std.proofs.Common.{◌≡◌, ◌≤◌, ◌<◌, ℕ, true, List, [], ◌∷◌, ◌++◌, length, length-append, nat_le, refl, arith}
use Rattle.std.proofs.lemmas.Bool.{le-leb, leb-true, and_parts}
use Rattle.std.proofs.lemmas.Fmt.{digits_decimal, length-decimal-le}
use Rattle.std.specs.Char.{is_ascii_digit}
use Rattle.std.specs.Cmp.Derive.{both_true}
use Rattle.std.specs.Fmt.{decimal}
use Rattle.std.specs.List.{list_all}
use Rattle.xrf_base.specs.Values.{IsValue, is_value_byte}
use Rattle.xrf_base.specs.declared.site.Site.{Site}
use Rattle.xrf_base.specs.declared.site.Site.TheVariants.{A, B}
use Rattle.xrf_grammar.specs.Spelling.{site_word}
use Rattle.xrf_grammar.proofs.NumberLaws.{numerals}

-- a digit may stand in a value
digit-may : (d : ℕ) → is_ascii_digit d ≡ true → is_value_byte d ≡ true
digit-may d is = let k : (nat_le 48 d ≡ true) × (nat_le d 57 ≡ true) = and_parts _ _ is in both_true (le-leb 33 d (omega (arith, leb-true 48 d k.0))) (le-leb d 126 (omega (arith, leb-true d 57 k.1)))

-- so may digits, with a site behind them
digits-may : (x : Site) (ds : List ℕ) → list_all is_ascii_digit ds ≡ true → list_all is_value_byte (ds ++ site_word x) ≡ true
digits-may A [] are = refl
digits-may B [] are = refl
digits-may x (d ∷ ds) are = let k = and_parts _ _ are in both_true (digit-may d k.0) (digits-may x ds k.1)

one-letter : (x : Site) → length (site_word x) ≡ 1
one-letter A = refl
one-letter B = refl

pub is_put : (letter g : ℕ) (x : Site) → is_value_byte letter ≡ true → g < 100 → IsValue (letter ∷ (decimal g ++ site_word x))
is_put letter g x fits few =
    let digits : list_all is_ascii_digit (decimal g) ≡ true = digits_decimal numerals g (omega arith) in
    let short : length (decimal g) ≤ 2 = length-decimal-le 2 g (omega arith) (omega arith) (omega arith) in
    let size : length (decimal g ++ site_word x) ≤ 3 = omega (arith, length-append (decimal g) (site_word x), one-letter x, short) in
    both_true (both_true (le-leb 1 (length (letter ∷ (decimal g ++ site_word x))) (omega arith)) (le-leb (length (letter ∷ (decimal g ++ site_word x))) 24 (omega (arith, size))))
    (both_true fits (digits-may x (decimal g) digits))
