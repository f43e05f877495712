-- How a line is taken apart into its words.
use Rattle.std.proofs.Common.{◌≡◌, ◌≢◌, ℕ, suc, ◌+◌, ◌≤◌, ◌==◌, Bool, true, false, not, List, [], ◌∷◌, length, take, drop, filter, unwrap_or, Option, ◌<◌, length-drop, refl, sym, ap, eqb-true, ◌∙◌, arith}
use Rattle.std.specs.List.{slice_split, onto_first, position, position_or_len}
use Rattle.std.proofs.lemmas.List.Sums.{prefix_len-le-length}
use Rattle.xrf_text.proofs.Places.{filled_from, unwrap_or-position}
use Rattle.xrf_text.specs.Text.{are_some, words, is_blank, is_filled}

-- The first part of a line reaches to its first blank, and the words behind it are those of the rest.
pub record FirstPart (line : List ℕ) : Type 0 where
  pub others : List (List ℕ)
  pub split : slice_split is_blank line ≡ take (position_or_len is_blank line) line ∷ others
  pub rest : filter is_filled others ≡ words (drop (position_or_len is_blank line) line)

one_more : (n : ℕ) (x : ℕ) (xs : List ℕ) → take (1 + n) (x ∷ xs) ≡ x ∷ take n xs
one_more n x xs = let e : 1 + n ≡ suc n = omega arith in rw e refl

one_less : (n : ℕ) (x : ℕ) (xs : List ℕ) → drop (1 + n) (x ∷ xs) ≡ drop n xs
one_less n x xs = let e : 1 + n ≡ suc n = omega arith in rw e refl

blank_first : (x : ℕ) (xs : List ℕ) → is_blank x ≡ true → FirstPart (x ∷ xs)
blank_first x xs e = record { others = slice_split is_blank xs; split = rw e refl; rest = rw e (rw e refl) }

word_first : (x : ℕ) (xs : List ℕ) → is_blank x ≡ false → FirstPart xs → FirstPart (x ∷ xs)
word_first x xs e more = record {
  others = more.others;
  split = rw e (rw one_more (ap (onto_first x) more.split));
  rest = rw e (rw one_less more.rest);
}

by_first : (x : ℕ) (xs : List ℕ) (blank : Bool) → is_blank x ≡ blank → FirstPart xs → FirstPart (x ∷ xs)
by_first x xs true e more = blank_first x xs e
by_first x xs false e more = word_first x xs e more

pub first_part : (line : List ℕ) → FirstPart line
first_part [] = record { others = []; split = refl; rest = refl }
first_part (x ∷ xs) = by_first x xs (is_blank x) refl (first_part xs)

kept : (word : List ℕ) (others : List (List ℕ)) → is_filled word ≡ true → filter is_filled (word ∷ others) ≡ word ∷ filter is_filled others
kept word others e = rw e refl

-- A line that begins with a word has its first part as its first word.
pub first_word : (line : List ℕ) → line ≢ [] → ((rest : List ℕ) → line ≢ 32 ∷ rest)
    → words line ≡ take (position_or_len is_blank line) line ∷ words (drop (position_or_len is_blank line) line)
first_word [] some at_word = absurd (some refl)
first_word (x ∷ xs) some at_word = by (is_blank x) refl
  where
    by : (blank : Bool) → is_blank x ≡ blank
        → words (x ∷ xs) ≡ take (position_or_len is_blank (x ∷ xs)) (x ∷ xs) ∷ words (drop (position_or_len is_blank (x ∷ xs)) (x ∷ xs))
    by true e = absurd (at_word xs (ap (λ (b : ℕ). b ∷ xs) (eqb-true x 32 e)))
    by false e =
        let f = word_first x xs e (first_part xs) in
        ap (filter is_filled) f.split ∙ kept _ f.others (rw e (rw one_more refl)) ∙ ap (λ (more : List (List ℕ)). take (position_or_len is_blank (x ∷ xs)) (x ∷ xs) ∷ more) f.rest

not_none : (n : ℕ) → not (suc n == 0) ≡ true
not_none n = by (suc n == 0) refl
  where
    by : (none : Bool) → (suc n == 0) ≡ none → not none ≡ true
    by true e = let none = eqb-true (suc n) 0 e in cc
    by false e = refl

-- A line is from its first word on, so it has a word exactly where it has a byte.
pub word_at : (line rest : List ℕ) → words rest ≡ words line → ((more : List ℕ) → rest ≢ 32 ∷ more) → are_some (words line) ≡ not (length rest == 0)
word_at line [] same at_word = ap are_some (sym same)
word_at line (x ∷ xs) same at_word = ap are_some (sym same ∙ first_word (x ∷ xs) (λ (none : x ∷ xs ≡ []). cc) at_word) ∙ sym (not_none (length xs))

pub position_or_len-positive : (line : List ℕ) → line ≢ [] → ((rest : List ℕ) → line ≢ 32 ∷ rest) → 0 < position_or_len is_blank line
position_or_len-positive [] some at_word = absurd (some refl)
position_or_len-positive (x ∷ xs) some at_word = by (is_blank x) refl
  where
    by : (blank : Bool) → is_blank x ≡ blank → 0 < position_or_len is_blank (x ∷ xs)
    by true e = absurd (at_word xs (ap (λ (b : ℕ). b ∷ xs) (eqb-true x 32 e)))
    by false e = rw e (omega arith)

pub at_first_blank : (rest : List ℕ) (n : ℕ) (end : Option ℕ) → end ≡ position is_blank rest → n ≡ unwrap_or end (length rest) → n ≡ position_or_len is_blank rest
at_first_blank rest n end was at = at ∙ ap (λ (o : Option ℕ). unwrap_or o (length rest)) was ∙ unwrap_or-position is_blank rest

-- A line whose first word begins at the front of rest is cut behind that word.
pub cut_word : (line rest word after : List ℕ) (n : ℕ) (end : Option ℕ) → words rest ≡ words line → (length rest == 0) ≡ false → ((more : List ℕ) → rest ≢ 32 ∷ more)
    → end ≡ position is_blank rest → n ≡ unwrap_or end (length rest) → word ≡ take n rest → after ≡ drop n rest
    → (words line ≡ word ∷ words after) × (length after < length rest)
cut_word line rest word after n end same some at_word was at front back =
    let at_end : n ≡ position_or_len is_blank rest = at_first_blank rest n end was at in
    let filled : rest ≢ [] = filled_from rest some in
    let p = position_or_len-positive rest filled at_word in
    let le : position_or_len is_blank rest ≤ length rest = prefix_len-le-length (λ b. not (is_blank b)) rest in
    let first = first_word rest filled at_word in
    (sym same ∙ rw (front, back, at_end) first, rw (back, at_end) (omega (arith, length-drop (position_or_len is_blank rest) rest)))
