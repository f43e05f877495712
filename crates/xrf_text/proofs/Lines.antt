-- How a text is taken apart into its lines.
use Rattle.std.proofs.Common.{◌≡◌, ◌≢◌, ℕ, suc, ◌+◌, ◌-◌, ◌<◌, length-drop, Bool, true, false, cond, not, List, [], ◌∷◌, Some, None, length, take, drop, refl, ap, ◌∙◌, subst, arith}
use Rattle.std.specs.List.{slice_split, position, position_or_len}
use Rattle.std.proofs.lemmas.List.{take_all}
use Rattle.std.proofs.lemmas.List.Splits.{slice_split_first, length-slice_split}
use Rattle.xrf_text.proofs.Places.{position-none, position-some}
use Rattle.xrf_text.specs.Text.{lines, lines_of_parts, last_line, is_line_feed}

-- where the first line feed stands, or the length
abbrev pub line_len : List ℕ → ℕ
line_len text = position_or_len is_line_feed text

-- Without a line feed the text is one part.
whole_part : (text : List ℕ) → line_len text ≡ length text → slice_split is_line_feed text ≡ text ∷ []
whole_part [] e = refl
whole_part (x ∷ xs) e = by (is_line_feed x) refl (whole_part xs)
  where
    by : (feed : Bool) → is_line_feed x ≡ feed → (line_len xs ≡ length xs → slice_split is_line_feed xs ≡ xs ∷ []) → slice_split is_line_feed (x ∷ xs) ≡ (x ∷ xs) ∷ []
    by true t more = let zero_len : cond (not true) (1 + line_len xs) 0 ≡ suc (length xs) = subst (λ (b : Bool). cond (not b) (1 + line_len xs) 0 ≡ suc (length xs)) t e in absurd (omega arith)
    by false t more =
        let longer : cond (not false) (1 + line_len xs) 0 ≡ suc (length xs) = subst (λ (b : Bool). cond (not b) (1 + line_len xs) 0 ≡ suc (length xs)) t e in
        let same : line_len xs ≡ length xs = omega arith in
        rw t (rw (more same) refl)

more_parts : (line : List ℕ) (parts : List (List ℕ)) (n : ℕ) → length parts ≡ n + 1 → lines_of_parts (line ∷ parts) ≡ line ∷ lines_of_parts parts
more_parts line [] n e = absurd (omega arith)
more_parts line (next ∷ parts) n e = refl

last_filled : (text : List ℕ) → text ≢ [] → last_line text ≡ text ∷ []
last_filled [] some = absurd (some refl)
last_filled (x ∷ xs) some = refl

-- A text without a line feed is one line.
pub lines-whole : (text : List ℕ) → text ≢ [] → None ≡ position is_line_feed text → lines text ≡ text ∷ []
lines-whole text some none =
    rw (whole_part text (position-none is_line_feed text none)) (last_filled text some)

-- A text with a line feed is the line before it and the lines behind it.
pub lines-cut : (text : List ℕ) (n : ℕ) → Some n ≡ position is_line_feed text → (n < length text) × (lines text ≡ take n text ∷ lines (drop (n + 1) text))
lines-cut text n some =
    let at = position-some is_line_feed text n some in
    let inside : line_len text < length text = omega (arith, at.0, at.1) in
    let parts = slice_split is_line_feed (drop (line_len text + 1) text) in
    let split : slice_split is_line_feed text ≡ take (line_len text) text ∷ parts = slice_split_first is_line_feed text 0 inside in
    (at.1, rw at.0 (ap lines_of_parts split ∙ more_parts (take (line_len text) text) parts _ (length-slice_split is_line_feed (drop (line_len text + 1) text))))

-- The same, with the rest as a range up to the end.
pub lines-cut_range : (text : List ℕ) (n : ℕ) → Some n ≡ position is_line_feed text
    → lines text ≡ take n text ∷ lines (take (length text - (n + 1)) (drop (n + 1) text))
lines-cut_range text n some =
    let whole : take (length text - (n + 1)) (drop (n + 1) text) ≡ drop (n + 1) text = take_all (length text - (n + 1)) (drop (n + 1) text) (omega (arith, length-drop (n + 1) text)) in
    rw whole (lines-cut text n some).1
