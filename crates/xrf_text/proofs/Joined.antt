-- Words and the blanks between them.
use Rattle.std.proofs.Common.{◌≡◌, ◌≢◌, ℕ, Bool, true, false, List, [], ◌∷◌, ◌++◌, filter, refl, ap, ◌∙◌, eqb-true, eq-eqb}
use Rattle.std.specs.List.{slice_split, onto_first, join_with_byte, AllByRecursion}
use Rattle.xrf_text.specs.Text.{words, is_blank, is_filled, IsWord}

abbrev NoBlank : List ℕ → Type 0
NoBlank = AllByRecursion (λ b. b ≢ 32)

of_word : (b : ℕ) → b ≢ 32 → is_blank b ≡ false
of_word b other = by (is_blank b) refl
  where
    by : (blank : Bool) → is_blank b ≡ blank → is_blank b ≡ false
    by true e = absurd (other (eqb-true b 32 e))
    by false e = e

-- no part between blanks has a blank
onto_no_blank : (b : ℕ) (parts : List (List ℕ)) → b ≢ 32 → AllByRecursion NoBlank parts → AllByRecursion NoBlank (onto_first b parts)
onto_no_blank b [] other all = ((other, tt), tt)
onto_no_blank b (part ∷ parts) other all = ((other, all.0), all.1)

other_byte : (b : ℕ) → is_blank b ≡ false → b ≢ 32
other_byte b e same = let blank : is_blank b ≡ true = eq-eqb b 32 same in cc

parts_no_blank : (line : List ℕ) → AllByRecursion NoBlank (slice_split is_blank line)
parts_no_blank [] = (tt, tt)
parts_no_blank (b ∷ bs) = by (is_blank b) refl (parts_no_blank bs)
  where
    by : (blank : Bool) → is_blank b ≡ blank → AllByRecursion NoBlank (slice_split is_blank bs) → AllByRecursion NoBlank (slice_split is_blank (b ∷ bs))
    by true e more = rw e (tt, more)
    by false e more = rw e (onto_no_blank b (slice_split is_blank bs) (other_byte b e) more)

filled_are_words : (parts : List (List ℕ)) → AllByRecursion NoBlank parts → AllByRecursion IsWord (filter is_filled parts)
filled_are_words [] all = tt
filled_are_words ([] ∷ parts) all = filled_are_words parts all.1
filled_are_words ((b ∷ bs) ∷ parts) all = (record { some = λ e. cc; no_blank = all.0 }, filled_are_words parts all.1)

-- What stands between blanks is words.
pub words-are_words : (line : List ℕ) → AllByRecursion IsWord (words line)
words-are_words line = filled_are_words (slice_split is_blank line) (parts_no_blank line)

-- A word before a blank is the first part.
before_blank : (word rest : List ℕ) → NoBlank word → slice_split is_blank (word ++ 32 ∷ rest) ≡ word ∷ slice_split is_blank rest
before_blank [] rest all = refl
before_blank (b ∷ bs) rest all = rw (of_word b all.0) (ap (onto_first b) (before_blank bs rest all.1))

alone : (word : List ℕ) → NoBlank word → slice_split is_blank word ≡ word ∷ []
alone [] all = refl
alone (b ∷ bs) all = rw (of_word b all.0) (ap (onto_first b) (alone bs all.1))

kept : (word : List ℕ) (others : List (List ℕ)) → word ≢ [] → filter is_filled (word ∷ others) ≡ word ∷ filter is_filled others
kept [] others some = absurd (some refl)
kept (b ∷ bs) others some = refl

-- Words joined by one blank are these words.
pub words-joined : (ws : List (List ℕ)) → AllByRecursion IsWord ws → words (join_with_byte 32 ws) ≡ ws
words-joined [] all = refl
words-joined (word ∷ []) all = ap (filter is_filled) (alone word all.0.no_blank) ∙ kept word [] all.0.some
words-joined (word ∷ next ∷ more) all =
    ap (filter is_filled) (before_blank word (join_with_byte 32 (next ∷ more)) all.0.no_blank)
    ∙ kept word (slice_split is_blank (join_with_byte 32 (next ∷ more))) all.0.some ∙ ap (λ (others : List (List ℕ)). word ∷ others) (words-joined (next ∷ more) all.1)
