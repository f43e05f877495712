-- What holds of each setting that is one number: where it stands, and what its number may be.
use Rattle.std.proofs.Common.{◌≡◌, ◌≤◌, ◌+◌, ℕ, Bool, true, false, IsTrue, nat_le, List, [], get_or, Some, refl, sym, ◌∙◌, ap, subst, arith}
use Rattle.std.specs.Fmt.{decimal}
use Rattle.std.specs.Option.{is_some}
use Rattle.std.proofs.lemmas.Bool.{leb-true}
use Rattle.xrf_setup.specs.Ranges.{IsIn}
use Rattle.xrf_grammar.specs.declared.form.Form.TheVariants as form
use Rattle.xrf_grammar.specs.declared.form.Part.{Part}
use Rattle.xrf_grammar.specs.declared.form.Part.TheVariants.{Number, Multiple}
use Rattle.xrf_grammar.specs.declared.quantity.Quantity.{Quantity}
use Rattle.xrf_grammar.specs.declared.quantity.Quantity.TheVariants.{Adi}
use Rattle.xrf_grammar.specs.Fitting.{takes_all}
use Rattle.xrf_grammar.specs.Grammar.{IsNumber, IsOfPart}
use Rattle.xrf_grammar.specs.Numbers.{number_of}
use Rattle.xrf_grammar.specs.Operands.{is_multiple_of}
use Rattle.xrf_grammar.specs.Quantities.{quantities, place_of, range_of, IsOfRange}
use Rattle.xrf_grammar.specs.Table.{parts_of, settings_of_two}
use Rattle.xrf_grammar.proofs.Listed.{at_place}
use Rattle.xrf_grammar.proofs.NumberLaws.{number-of-decimal}
use Rattle.xrf_grammar.proofs.PlainLaws.{is_short}

-- a part that is a number
abbrev is_range : Part → Bool
is_range (Number least most) = nat_le most 65535
is_range (Multiple least most unit) = nat_le most 65535
is_range _ = false

-- what holds of each quantity
pub record IsQuantity (quantity : Quantity) : Type 0 where
  own : get_or quantities (place_of quantity) Adi ≡ quantity
  pub listed : at_place (4 + place_of quantity) settings_of_two ≡ Some (form.Quantity quantity)
  range : is_range (range_of quantity) ≡ true
  pub one_word : takes_all (range_of quantity) [] ≡ false
  pub short : is_short (parts_of (form.Quantity quantity)) ≡ true

pub is-quantity : (quantity : Quantity) → IsQuantity quantity
is-quantity Adi = record { own = refl; listed = refl; range = refl; one_word = refl; short = refl }
is-quantity _ = record { own = refl; listed = refl; range = refl; one_word = refl; short = refl }

-- each has a place of its own
pub same-place : (one other : Quantity) → place_of one ≡ place_of other → one ≡ other
same-place one other e = sym (is-quantity one).own ∙ ap (λ (k : ℕ). get_or quantities k Adi) e ∙ (is-quantity other).own

-- the number that a word spells is the one that is known of it
pub number-in : (least most : ℕ) (also : ℕ → Bool) (word : List ℕ) (n : ℕ) → IsNumber least most also word → number_of word ≡ Some n → IsIn least most n × IsTrue (also n)
number-in least most also word n is h =
    let both : Some is.value ≡ Some n = sym is.spelled ∙ h in
    let same : is.value ≡ n = cc in
    subst (λ (m : ℕ). IsIn least most m × IsTrue (also m)) same ((is.low, is.high), is.also_kept)

-- a word of the part of a number spells one of its range
part-read : (part : Part) (word : List ℕ) → is_range part ≡ true → IsOfPart part word → is_some (number_of word) ≡ true
part-read (Number least most) word range is = ap is_some is.spelled
part-read (Multiple least most unit) word range is = ap is_some is.spelled
part-read _ word range is = absurd (cc)

part-found : (part : Part) (word : List ℕ) (n : ℕ) → is_range part ≡ true → IsOfPart part word → number_of word ≡ Some n → IsOfRange part n
part-found (Number least most) word n range is h = (number-in least most (λ k. true) word n is h).0
part-found (Multiple least most unit) word n range is h = number-in least most (λ k. is_multiple_of k unit) word n is h
part-found _ word n range is h = absurd (cc)

-- a number of its range has at most 16 bits, and what is written of it is a word of the part
part-most : (part : Part) (n : ℕ) → is_range part ≡ true → IsOfRange part n → n ≤ 65535
part-most (Number least most) n range is =
    let high : n ≤ most = is.1 in
    let fits : most ≤ 65535 = leb-true most 65535 range in
    omega (arith, high, fits)
part-most (Multiple least most unit) n range is =
    let high : n ≤ most = is.0.1 in
    let fits : most ≤ 65535 = leb-true most 65535 range in
    omega (arith, high, fits)
part-most _ n range is = absurd (cc)

part-written : (part : Part) (n : ℕ) → is_range part ≡ true → IsOfRange part n → n ≤ 65535 → IsOfPart part (decimal n)
part-written (Number least most) n range is fits = record { value = n; spelled = number-of-decimal n fits; low = is.0; high = is.1; also_kept = refl }
part-written (Multiple least most unit) n range is fits = record { value = n; spelled = number-of-decimal n fits; low = is.0.0; high = is.0.1; also_kept = is.1 }
part-written _ n range is fits = absurd (cc)

-- so it is of each quantity
pub quantity-read : (quantity : Quantity) (word : List ℕ) → IsOfPart (range_of quantity) word → is_some (number_of word) ≡ true
quantity-read quantity word = part-read (range_of quantity) word (is-quantity quantity).range

pub quantity-found : (quantity : Quantity) (word : List ℕ) (n : ℕ) → IsOfPart (range_of quantity) word → number_of word ≡ Some n → IsOfRange (range_of quantity) n
quantity-found quantity word n = part-found (range_of quantity) word n (is-quantity quantity).range

pub quantity-most : (quantity : Quantity) (n : ℕ) → IsOfRange (range_of quantity) n → n ≤ 65535
quantity-most quantity n = part-most (range_of quantity) n (is-quantity quantity).range

pub quantity-word : (quantity : Quantity) (n : ℕ) → IsOfRange (range_of quantity) n → IsOfPart (range_of quantity) (decimal n)
quantity-word quantity n is = part-written (range_of quantity) n (is-quantity quantity).range is (quantity-most quantity n is)
