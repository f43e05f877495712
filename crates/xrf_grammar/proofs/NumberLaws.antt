-- Numbers in texts.
use Rattle.std.proofs.Common.{subst, ◌≡◌, ◌≤◌, ◌<◌, ◌+◌, ◌*◌, ◌/◌, ◌%◌, [], ◌∷◌, ◌++◌, ◌^◌, ◌==◌, ◌||◌, not, ℕ, zero, suc, Bool, true, false, Some, List, length, refl, sym, ◌∙◌, ap, arith, rules, slice_index, get_or, add-one}
use Rattle.std.proofs.lemmas.Option.{cond_some}
use Rattle.std.proofs.lemmas.Bool.{eqb-true, eq-eqb, le-leb, leb-true, and_parts}
use Rattle.std.specs.Cmp.Derive.{both_true}
use Rattle.std.proofs.Math.Nat.{pow-le-pow_right, pow-succ'}
use Rattle.std.specs.Int.{IsInRange}
use Rattle.std.specs.Char.{is_ascii_digit}
use Rattle.std.specs.List.{list_all}
use Rattle.std.specs.Fmt.{decimal}
use Rattle.std.proofs.lemmas.Str.Parse.{IsNumeralModel, numerals_by_fold, digit_at}
use Rattle.std.proofs.lemmas.Fmt.{decimal-digits_value, digits_decimal, digits_value-decimal, length-decimal-le, decimal_nonempty, first_decimal, decimal_digit, decimal_step}
use Rattle.std.proofs.lemmas.List.{append_assoc}
use Rattle.xrf_grammar.specs.Numbers.{is_number, number_of, value_behind}

-- digits and their value
pub numerals : IsNumeralModel (λ digits. list_all is_ascii_digit digits ≡ true) (value_behind 0)
numerals = numerals_by_fold _ (search rules) value_behind (search rules)

-- each of the digits is one
pub digit-range : (digits : List ℕ) (i : ℕ) → list_all is_ascii_digit digits ≡ true → i < length digits → IsInRange 48 57 (get_or digits i 0)
digit-range digits i all h = digit_at digits i (numerals.to digits all) h

-- a number of at most four digits
pub few-digits : (number i : ℕ) → number < 10 ^ i → i < 5 → number < 10000
few-digits number i small few = let top : 10 ^ i ≤ 10 ^ 4 = pow-le-pow_right {n = 10} (omega arith) {i = i} {j = 4} (omega arith) in omega arith

-- one digit more
pub digit-more : (number i digit : ℕ) → number < 10 ^ i → digit ≤ 9 → 10 * number + digit < 10 ^ (i + 1)
digit-more number i digit small low = let top : 10 ^ (i + 1) ≡ 10 * 10 ^ i = ap (λ (k : ℕ). 10 ^ k) (add-one i) ∙ pow-succ' 10 i in omega arith

-- the parts of the test of a number
pub record IsNumber (text : List ℕ) : Type 0 where
  pub some : 0 < length text
  pub few : length text ≤ 5
  pub digits : list_all is_ascii_digit text ≡ true
  pub no_zero : slice_index text 0 ≡ 48 → length text ≡ 1
  pub fits : value_behind 0 text ≤ 65535

-- where one holds or not another, the other follows from it
follows : (a b : Bool) → (not a || b) ≡ true → a ≡ true → b ≡ true
follows true b h e = h
follows false b h e = absurd (cc)

or_follows : (a b : Bool) → (a ≡ true → b ≡ true) → (not a || b) ≡ true
or_follows true b h = h refl
or_follows false b h = refl

pub number-parts : (text : List ℕ) → is_number text ≡ true → IsNumber text
number-parts text h =
    let upto_zero = (and_parts _ _ h).0 in
    let upto_digits = (and_parts _ _ upto_zero).0 in
    let upto_few = (and_parts _ _ upto_digits).0 in
    record {
      some = leb-true 1 (length text) (and_parts _ _ upto_few).0;
      few = leb-true (length text) 5 (and_parts _ _ upto_few).1;
      digits = (and_parts _ _ upto_digits).1;
      no_zero = λ zero_first. eqb-true (length text) 1 (follows (slice_index text 0 == 48) (length text == 1) (and_parts _ _ upto_zero).1 (eq-eqb _ _ zero_first));
      fits = leb-true (value_behind 0 text) 65535 (and_parts _ _ h).1;
    }

number-whole : (text : List ℕ) → IsNumber text → is_number text ≡ true
number-whole text n =
    both_true (both_true (both_true (both_true (le-leb 1 (length text) (omega (arith, n.some))) (le-leb (length text) 5 n.few)) n.digits)
    (or_follows (slice_index text 0 == 48) (length text == 1) (λ e. eq-eqb (length text) 1 (n.no_zero (eqb-true (slice_index text 0) 48 e)))))
    (le-leb (value_behind 0 text) 65535 n.fits)

-- the digits of a number begin with a zero only where they are one
decimal-no_zero : (n : ℕ) → n < 2 ^ 64 → slice_index (decimal n) 0 ≡ 48 → length (decimal n) ≡ 1
decimal-no_zero zero small h = ap length (decimal_digit 0 (omega arith))
decimal-no_zero (suc n) small h = let above = first_decimal (suc n) (omega arith) small in absurd (omega (arith, above, h))

-- a number that is read is spelled so
pub number-is : (text : List ℕ) (n : ℕ) → number_of text ≡ Some n → (n ≤ 65535) × (text ≡ decimal n)
number-is text n h =
    let k = cond_some (is_number text) (value_behind 0 text) n h in
    let parts = number-parts text k.0 in
    (omega (arith, parts.fits, k.1), sym (decimal-digits_value numerals text parts.digits parts.some parts.no_zero (omega (arith, parts.fits))) ∙ ap decimal k.1)

-- and a number that is spelled so is read
pub number-of-decimal : (n : ℕ) → n ≤ 65535 → number_of (decimal n) ≡ Some n
number-of-decimal n fits =
    let small : n < 2 ^ 64 = omega arith in
    let value : value_behind 0 (decimal n) ≡ n = digits_value-decimal numerals n small in
    let whole = number-whole (decimal n) record {
      some = decimal_nonempty n small;
      few = length-decimal-le 5 n (omega arith) (omega arith) small;
      digits = digits_decimal numerals n small;
      no_zero = decimal-no_zero n small;
      fits = omega (arith, value, fits);
    } in
    rw (whole, value) refl

-- the last three digits of a number, in place
tens : (n : ℕ) → 10 ≤ n → n < 2 ^ 64 → decimal n ≡ decimal (n / 10) ++ (48 + n % 10) ∷ []
tens n high small = decimal_step n high small

-- what is written of a number of one, two and three digits, and of the last three of more
pub one_digit : (out new : List ℕ) (n a : ℕ) → n < 10 → a ≡ 48 + n → new ≡ out ++ a ∷ [] → new ≡ out ++ decimal n
one_digit out new n a low is e = rw (decimal_digit n low) (subst (λ (d : ℕ). new ≡ out ++ d ∷ []) is e)

two-text : (n : ℕ) → 10 ≤ n → n < 100 → decimal n ≡ (48 + n / 10) ∷ (48 + n % 10) ∷ []
two-text n high low = tens n high (omega arith) ∙ ap (λ (l : List ℕ). l ++ (48 + n % 10) ∷ []) (decimal_digit (n / 10) (omega arith))

pub two_digits : (out new : List ℕ) (n a b : ℕ) → 10 ≤ n → n < 100 → a ≡ 48 + n / 10 → b ≡ 48 + n % 10 → new ≡ out ++ a ∷ b ∷ [] → new ≡ out ++ decimal n
two_digits out new n a b high low p q e =
    e ∙ ap (λ (d : ℕ). out ++ d ∷ b ∷ []) p ∙ ap (λ (d : ℕ). out ++ (48 + n / 10) ∷ d ∷ []) q ∙ ap (λ (l : List ℕ). out ++ l) (sym (two-text n high low))

hundreds : (n : ℕ) → n / 10 / 10 ≡ n / 100
hundreds n = omega arith

three-text : (n : ℕ) → 100 ≤ n → n < 1000 → decimal n ≡ (48 + n / 100) ∷ (48 + n / 10 % 10) ∷ (48 + n % 10) ∷ []
three-text n high low =
    tens n (omega arith) (omega arith) ∙ ap (λ (l : List ℕ). l ++ (48 + n % 10) ∷ []) (two-text (n / 10) (omega arith) (omega arith))
    ∙ ap (λ (k : ℕ). (48 + k) ∷ (48 + n / 10 % 10) ∷ (48 + n % 10) ∷ []) (hundreds n)

pub three_digits : (out new : List ℕ) (n a b c : ℕ) → 100 ≤ n → n < 1000 → a ≡ 48 + n / 100 → b ≡ 48 + n / 10 % 10 → c ≡ 48 + n % 10 → new ≡ out ++ a ∷ b ∷ c ∷ [] → new ≡ out ++ decimal n
three_digits out new n a b c high low p q r e =
    e ∙ ap (λ (d : ℕ). out ++ d ∷ b ∷ c ∷ []) p ∙ ap (λ (d : ℕ). out ++ (48 + n / 100) ∷ d ∷ c ∷ []) q ∙ ap (λ (d : ℕ). out ++ (48 + n / 100) ∷ (48 + n / 10 % 10) ∷ d ∷ []) r
    ∙ ap (λ (l : List ℕ). out ++ l) (sym (three-text n high low))

-- the digits of the thousands, and the last three
thousand-text : (n : ℕ) → 1000 ≤ n → n < 2 ^ 64 → decimal n ≡ decimal (n / 1000) ++ (48 + n / 100 % 10) ∷ (48 + n / 10 % 10) ∷ (48 + n % 10) ∷ []
thousand-text n high small =
    let first : n / 10 / 10 / 10 ≡ n / 1000 = omega arith in
    tens n (omega arith) small ∙ ap (λ (l : List ℕ). l ++ (48 + n % 10) ∷ []) (tens (n / 10) (omega arith) (omega arith))
    ∙ ap (λ (l : List ℕ). (l ++ (48 + n / 10 % 10) ∷ []) ++ (48 + n % 10) ∷ []) (tens (n / 10 / 10) (omega arith) (omega arith))
    ∙ append_assoc (decimal (n / 10 / 10 / 10) ++ (48 + n / 10 / 10 % 10) ∷ []) ((48 + n / 10 % 10) ∷ []) ((48 + n % 10) ∷ [])
    ∙ append_assoc (decimal (n / 10 / 10 / 10)) ((48 + n / 10 / 10 % 10) ∷ []) ((48 + n / 10 % 10) ∷ (48 + n % 10) ∷ [])
    ∙ ap (λ (k : ℕ). decimal (n / 10 / 10 / 10) ++ (48 + k % 10) ∷ (48 + n / 10 % 10) ∷ (48 + n % 10) ∷ []) (hundreds n)
    ∙ ap (λ (k : ℕ). decimal k ++ (48 + n / 100 % 10) ∷ (48 + n / 10 % 10) ∷ (48 + n % 10) ∷ []) first

-- four digits
four-text : (n : ℕ) → 1000 ≤ n → n < 10000 → decimal n ≡ (48 + n / 1000) ∷ (48 + n / 100 % 10) ∷ (48 + n / 10 % 10) ∷ (48 + n % 10) ∷ []
four-text n high low =
    thousand-text n high (omega arith) ∙ ap (λ (l : List ℕ). l ++ (48 + n / 100 % 10) ∷ (48 + n / 10 % 10) ∷ (48 + n % 10) ∷ []) (decimal_digit (n / 1000) (omega arith))

pub four_digits : (out new : List ℕ) (n a b c d : ℕ) → 1000 ≤ n → n < 10000 → a ≡ 48 + n / 1000 → b ≡ 48 + n / 100 % 10 → c ≡ 48 + n / 10 % 10 → d ≡ 48 + n % 10
    → new ≡ out ++ a ∷ b ∷ c ∷ d ∷ [] → new ≡ out ++ decimal n
four_digits out new n a b c d high low p q r s e =
    e ∙ ap (λ (x : ℕ). out ++ x ∷ b ∷ c ∷ d ∷ []) p ∙ ap (λ (x : ℕ). out ++ (48 + n / 1000) ∷ x ∷ c ∷ d ∷ []) q ∙ ap (λ (x : ℕ). out ++ (48 + n / 1000) ∷ (48 + n / 100 % 10) ∷ x ∷ d ∷ []) r
    ∙ ap (λ (x : ℕ). out ++ (48 + n / 1000) ∷ (48 + n / 100 % 10) ∷ (48 + n / 10 % 10) ∷ x ∷ []) s ∙ ap (λ (l : List ℕ). out ++ l) (sym (four-text n high low))

pub thousands : (out front new : List ℕ) (n a b c : ℕ) → 1000 ≤ n → n < 2 ^ 64 → front ≡ out ++ decimal (n / 1000) → a ≡ 48 + n / 100 % 10 → b ≡ 48 + n / 10 % 10 → c ≡ 48 + n % 10
    → new ≡ front ++ a ∷ b ∷ c ∷ [] → new ≡ out ++ decimal n
thousands out front new n a b c high small f p q r e =
    e ∙ ap (λ (l : List ℕ). l ++ a ∷ b ∷ c ∷ []) f ∙ append_assoc out (decimal (n / 1000)) (a ∷ b ∷ c ∷ []) ∙ ap (λ (d : ℕ). out ++ (decimal (n / 1000) ++ d ∷ b ∷ c ∷ [])) p
    ∙ ap (λ (d : ℕ). out ++ (decimal (n / 1000) ++ (48 + n / 100 % 10) ∷ d ∷ c ∷ [])) q ∙ ap (λ (d : ℕ). out ++ (decimal (n / 1000) ++ (48 + n / 100 % 10) ∷ (48 + n / 10 % 10) ∷ d ∷ [])) r
    ∙ ap (λ (l : List ℕ). out ++ l) (sym (thousand-text n high small))
