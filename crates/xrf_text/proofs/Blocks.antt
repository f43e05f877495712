-- Bytes that a search passes over.
use Rattle.std.proofs.Common.{◌≡◌, ◌≢◌, ◌≤◌, ◌<◌, ◌+◌, ◌*◌, ℕ, zero, suc, Bool, true, false, not, cond, ◌&&◌, ◌%◌, ◌^◌, List, [], ◌∷◌, Some, None, length, take, drop, map, replicate, nat_lt, Fits, eq-eqb, refl, sym, ap, ap₂, ◌∙◌, subst, arith, w8}
use Rattle.std.specs.List.{list_all, position, position_or_len}
use Rattle.std.specs.Simd.Lanes.{mask_l, top, zip2, Each1}
use Rattle.std.proofs.lemmas.Simd.{tops_compared, zip2_splat_left, mask_l-mod, map-map}
use Rattle.std.proofs.lemmas.List.{length-map}
use Rattle.std.proofs.lemmas.Bool.{and_parts, agree_below, agree_below_at}
use Rattle.std.proofs.lemmas.Bool.Decides.{nat_tests}
use Rattle.xrf_text.specs.Text.{words, is_blank, is_of_word, is_printable}

-- No lane passes where no bit is set.
pub none-set : (p : ℕ → Bool) (xs : List ℕ) → mask_l (map p xs) ≡ 0 → list_all (λ x. not (p x)) xs ≡ true
none-set p [] h = refl
none-set p (x ∷ xs) h = by (p x) refl (λ k. none-set p xs k)
  where
    by : (b : Bool) → p x ≡ b → (mask_l (map p xs) ≡ 0 → list_all (λ x. not (p x)) xs ≡ true) → list_all (λ x. not (p x)) (x ∷ xs) ≡ true
    by true e rest = let one : 1 + 2 * mask_l (map p xs) ≡ 0 = subst (λ (b : Bool). cond b 1 0 + 2 * mask_l (map p xs) ≡ 0) e h in absurd (omega arith)
    by false e rest = let none : 0 + 2 * mask_l (map p xs) ≡ 0 = subst (λ (b : Bool). cond b 1 0 + 2 * mask_l (map p xs) ≡ 0) e h in rw e (rest (omega arith))

-- All lanes pass where no bit is set for another.
pub none-other : (p : ℕ → Bool) (xs : List ℕ) → mask_l (map (λ x. not (p x)) xs) ≡ 0 → list_all p xs ≡ true
none-other p [] h = refl
none-other p (x ∷ xs) h = by (p x) refl (λ k. none-other p xs k)
  where
    by : (b : Bool) → p x ≡ b → (mask_l (map (λ x. not (p x)) xs) ≡ 0 → list_all p xs ≡ true) → list_all p (x ∷ xs) ≡ true
    by false e rest = let one : 1 + 2 * mask_l (map (λ x. not (p x)) xs) ≡ 0 = subst (λ (b : Bool). cond (not b) 1 0 + 2 * mask_l (map (λ x. not (p x)) xs) ≡ 0) e h in absurd (omega arith)
    by true e rest = let none : 0 + 2 * mask_l (map (λ x. not (p x)) xs) ≡ 0 = subst (λ (b : Bool). cond (not b) 1 0 + 2 * mask_l (map (λ x. not (p x)) xs) ≡ 0) e h in rw e (rest (omega arith))

-- The bits of the comparison of one number with each lane.
bitmask-left : (t : ℕ → ℕ → Bool) (y n : ℕ) (xs : List ℕ) → length xs ≡ n → n ≤ 64
    → mask_l (map (top 7) (zip2 (λ a b. cond (t a b) 255 0) (replicate n y) xs)) % 2 ^ 64 ≡ mask_l (map (t y) xs)
bitmask-left t y n xs long few =
    ap (λ ms. mask_l ms % 2 ^ 64) (tops_compared w8 t (replicate n y) xs ∙ zip2_splat_left t y n xs long)
    ∙ mask_l-mod (map (t y) xs) 64 (omega (arith, length-map xs (t y), long, few))

-- Two tests that agree at each byte agree on bytes.
agreeing : (p q : ℕ → Bool) → agree_below p q 256 ≡ true → (xs : List ℕ) → Each1 (Fits w8) xs → list_all p xs ≡ list_all q xs
agreeing p q all [] fits = refl
agreeing p q all (x ∷ xs) fits = ap₂ (λ a b. a && b) (agree_below_at p q 256 x all fits.0.fits) (agreeing p q all xs fits.1)

-- Bytes that, each taken from some byte on, are all at most 94 are printable, where that is so of each byte.
pub printable_lanes : (less : ℕ → ℕ) → agree_below (λ x. not (nat_lt 94 (less x))) is_printable 256 ≡ true → (n : ℕ) (xs ys : List ℕ) → n ≤ 64 → length xs ≡ n → Each1 (Fits w8) xs
    → ys ≡ map less xs → mask_l (map (top 7) (zip2 (λ a b. cond (nat_lt a b) 255 0) (replicate n 94) ys)) % 2 ^ 64 ≡ 0 → list_all is_printable xs ≡ true
printable_lanes less all n xs ys few long fits taken none =
    let long_too : length ys ≡ n = ap length taken ∙ length-map xs less ∙ long in
    let bits : mask_l (map (λ x. nat_lt 94 (less x)) xs) ≡ 0 = sym (ap mask_l (ap (map (nat_lt 94)) taken ∙ map-map (nat_lt 94) less xs)) ∙ sym (bitmask-left nat_lt 94 n ys long_too few) ∙ none in
    sym (agreeing (λ x. not (nat_lt 94 (less x))) is_printable all xs fits) ∙ none-set (λ x. nat_lt 94 (less x)) xs bits

-- The first that passes stands behind a block that has none, ..
pub passed-over : (p : ℕ → Bool) (n : ℕ) (xs : List ℕ) → n ≤ length xs → position_or_len p (take n xs) ≡ n → position_or_len p xs ≡ n + position_or_len p (drop n xs)
passed-over p zero xs le whole = omega arith
passed-over p (suc n) [] le whole = absurd (omega arith)
passed-over p (suc n) (x ∷ xs) le whole = by (p x) refl (λ k. passed-over p n xs (omega arith) k)
  where
    by : (b : Bool) → p x ≡ b → (position_or_len p (take n xs) ≡ n → position_or_len p xs ≡ n + position_or_len p (drop n xs)) → position_or_len p (x ∷ xs) ≡ suc n + position_or_len p (drop n xs)
    by true e more = let none : cond (not true) (1 + position_or_len p (take n xs)) 0 ≡ suc n = subst (λ (b : Bool). cond (not b) (1 + position_or_len p (take n xs)) 0 ≡ suc n) e whole in absurd (omega arith)
    by false e more =
        let one : cond (not false) (1 + position_or_len p (take n xs)) 0 ≡ suc n = subst (λ (b : Bool). cond (not b) (1 + position_or_len p (take n xs)) 0 ≡ suc n) e whole in
        let rest = more (omega arith) in
        rw e (omega (arith, rest))

-- .. and where it stands in a block that has one.
pub stopped-in : (p : ℕ → Bool) (n : ℕ) (xs : List ℕ) → position_or_len p (take n xs) < n → n ≤ length xs → position_or_len p xs ≡ position_or_len p (take n xs)
stopped-in p zero xs few le = absurd (omega arith)
stopped-in p (suc n) [] few le = absurd (omega arith)
stopped-in p (suc n) (x ∷ xs) few le = by (p x) refl (λ k. stopped-in p n xs k (omega arith))
  where
    by : (b : Bool) → p x ≡ b → (position_or_len p (take n xs) < n → position_or_len p xs ≡ position_or_len p (take n xs)) → position_or_len p (x ∷ xs) ≡ position_or_len p (x ∷ take n xs)
    by true e more = rw e refl
    by false e more =
        let one : cond (not false) (1 + position_or_len p (take n xs)) 0 < suc n = subst (λ (b : Bool). cond (not b) (1 + position_or_len p (take n xs)) 0 < suc n) e few in
        let rest = more (omega arith) in
        rw e (rw rest refl)

-- Blanks in front of a line are no words, be they a whole block ..
pub all-blank-over : (n : ℕ) (xs : List ℕ) → list_all is_blank (take n xs) ≡ true → words (drop n xs) ≡ words xs
all-blank-over zero xs h = refl
all-blank-over (suc n) [] h = refl
all-blank-over (suc n) (x ∷ xs) h = by (is_blank x) refl (λ k. all-blank-over n xs k) h
  where
    by : (b : Bool) → is_blank x ≡ b → (list_all is_blank (take n xs) ≡ true → words (drop n xs) ≡ words xs) → (is_blank x && list_all is_blank (take n xs)) ≡ true → words (drop n xs) ≡ words (x ∷ xs)
    by true e more k = rw e (more (and_parts (is_blank x) (list_all is_blank (take n xs)) k).1)
    by false e more k = let no : (false && list_all is_blank (take n xs)) ≡ true = subst (λ (b : Bool). (b && list_all is_blank (take n xs)) ≡ true) e k in absurd (cc)

one-less : (n x : ℕ) (xs : List ℕ) → drop (1 + n) (x ∷ xs) ≡ drop n xs
one-less n x xs = let e : 1 + n ≡ suc n = omega arith in rw e refl

-- .. or those before a word, ..
pub blanks-over : (n : ℕ) (xs : List ℕ) → words (drop (position_or_len is_of_word (take n xs)) xs) ≡ words xs
blanks-over zero xs = refl
blanks-over (suc n) [] = refl
blanks-over (suc n) (x ∷ xs) = by (is_blank x) refl (blanks-over n xs)
  where
    by : (b : Bool) → is_blank x ≡ b → words (drop (position_or_len is_of_word (take n xs)) xs) ≡ words xs
        → words (drop (position_or_len is_of_word (x ∷ take n xs)) (x ∷ xs)) ≡ words (x ∷ xs)
    by true e more = rw e (rw (one-less (position_or_len is_of_word (take n xs)) x xs) more)
    by false e more = rw e (rw e refl)

-- .. and behind them stands a word.
pub of_word-at : (n : ℕ) (xs : List ℕ) → position_or_len is_of_word (take n xs) < n → n ≤ length xs → (rest : List ℕ) → drop (position_or_len is_of_word (take n xs)) xs ≢ 32 ∷ rest
of_word-at zero xs few le rest = absurd (omega arith)
of_word-at (suc n) [] few le rest = absurd (omega arith)
of_word-at (suc n) (x ∷ xs) few le rest = by (is_blank x) refl (λ f. of_word-at n xs f (omega arith) rest)
  where
    by : (b : Bool) → is_blank x ≡ b → (position_or_len is_of_word (take n xs) < n → drop (position_or_len is_of_word (take n xs)) xs ≢ 32 ∷ rest)
        → drop (position_or_len is_of_word (x ∷ take n xs)) (x ∷ xs) ≢ 32 ∷ rest
    by true e more =
        let one : 1 + position_or_len is_of_word (take n xs) < suc n = rw e at few in
        rw e (rw (one-less (position_or_len is_of_word (take n xs)) x xs) (more (omega arith)))
    by false e more = rw e (λ (same : x ∷ xs ≡ 32 ∷ rest). let blank : x ≡ 32 = cc in let is : is_blank x ≡ true = eq-eqb x 32 blank in cc)

-- What passes in front changes nothing of whether all pass.
pub all-over : (p : ℕ → Bool) (n : ℕ) (xs : List ℕ) → list_all p (take n xs) ≡ true → list_all p (drop n xs) ≡ list_all p xs
all-over p zero xs h = refl
all-over p (suc n) [] h = refl
all-over p (suc n) (x ∷ xs) h = by (p x) refl (λ k. all-over p n xs k) h
  where
    by : (b : Bool) → p x ≡ b → (list_all p (take n xs) ≡ true → list_all p (drop n xs) ≡ list_all p xs) → (p x && list_all p (take n xs)) ≡ true → list_all p (drop n xs) ≡ list_all p (x ∷ xs)
    by true e more k = rw e (more (and_parts (p x) (list_all p (take n xs)) k).1)
    by false e more k = let no : (false && list_all p (take n xs)) ≡ true = subst (λ (b : Bool). (b && list_all p (take n xs)) ≡ true) e k in absurd (cc)

-- The place of the first that passes.
pub found-at : (p : ℕ → Bool) (xs : List ℕ) (n : ℕ) → n ≡ position_or_len p xs → n < length xs → Some n ≡ position p xs
found-at p xs n at inside = by (nat_lt (position_or_len p xs) (length xs)) refl
  where
    by : (b : Bool) → nat_lt (position_or_len p xs) (length xs) ≡ b → Some n ≡ cond b (Some (position_or_len p xs)) None
    by true e = ap Some at
    by false e = absurd (grind (arith, nat_tests))

pub found-nowhere : (p : ℕ → Bool) (xs : List ℕ) → position_or_len p xs ≡ length xs → None ≡ position p xs
found-nowhere p xs at = by (nat_lt (position_or_len p xs) (length xs)) refl
  where
    by : (b : Bool) → nat_lt (position_or_len p xs) (length xs) ≡ b → None ≡ cond b (Some (position_or_len p xs)) None
    by true e = absurd (grind (arith, nat_tests))
    by false e = refl
