-- A text of lines, each with its line feed, has these lines.
use Rattle.std.proofs.Common.{◌≡◌, ◌≢◌, ◌≤◌, ℕ, Bool, true, false, ◌==◌, List, [], ◌∷◌, ◌++◌, refl, ◌∙◌, ap, arith, eqb-true}
use Rattle.std.specs.List.{slice_split, onto_first, AllByRecursion}
use Rattle.std.proofs.lemmas.Grind.{flat_map-append}
use Rattle.xrf_text.specs.Text.{lines, lines_of_parts, is_line_feed}
use Rattle.xrf_scenario.specs.Canonical.{fed, text_of}
use Rattle.xrf_scenario.specs.Lines.{without_returns, text_lines}

-- no byte of a line is below a blank
abbrev pub IsClean : List ℕ → Type 0
IsClean line = AllByRecursion (λ (b : ℕ). 32 ≤ b) line

-- no byte of a text is a carriage return
abbrev HasNoReturn : List ℕ → Type 0
HasNoReturn text = AllByRecursion (λ (b : ℕ). b ≢ 13) text

-- a byte other than another tests so
pub other : (b c : ℕ) → b ≢ c → (b == c) ≡ false
other b c apart = by (b == c) refl
  where
    by : (t : Bool) → (b == c) ≡ t → t ≡ false
    by true e = absurd (apart (eqb-true b c e))
    by false e = refl

-- what holds of all elements of two lists holds of those of both
pub all-both : {X : Type 0} (P : X → Type 0) (xs ys : List X) → AllByRecursion P xs → AllByRecursion P ys → AllByRecursion P (xs ++ ys)
all-both P [] ys all more = more
all-both P (x ∷ xs) ys all more = (all.0, all-both P xs ys all.1 more)

-- a clean line has no carriage return
clean-no_return : (line : List ℕ) → IsClean line → HasNoReturn line
clean-no_return [] clean = tt
clean-no_return (b ∷ bs) clean = let low : 32 ≤ b = clean.0 in (λ (e : b ≡ 13). absurd (omega (arith, e, low)), clean-no_return bs clean.1)

-- neither has a text of clean lines
text-no_return : (ls : List (List ℕ)) → AllByRecursion IsClean ls → HasNoReturn (text_of ls)
text-no_return [] clean = tt
text-no_return (line ∷ ls) clean =
    all-both (λ (b : ℕ). b ≢ 13) (fed line) (text_of ls)
    (all-both (λ (b : ℕ). b ≢ 13) line (10 ∷ []) (clean-no_return line clean.0) (λ (e : 10 ≡ 13). absurd (omega (arith, e)), tt)) (text-no_return ls clean.1)

-- a text that has no carriage return stays as it is
no_return-same : (text : List ℕ) → HasNoReturn text → without_returns text ≡ text
no_return-same [] all = refl
no_return-same (byte ∷ []) all = refl
no_return-same (byte ∷ next ∷ more) all = rw (other byte 13 all.0) (ap (λ (bs : List ℕ). byte ∷ bs) (no_return-same (next ∷ more) all.1))

-- a clean line before a line feed is the first part
part-first : (line rest : List ℕ) → IsClean line → slice_split is_line_feed (fed line ++ rest) ≡ line ∷ slice_split is_line_feed rest
part-first [] rest clean = refl
part-first (b ∷ bs) rest clean =
    let low : 32 ≤ b = clean.0 in
    rw (other b 10 (λ (e : b ≡ 10). absurd (omega (arith, e, low)))) (ap (onto_first b) (part-first bs rest clean.1))

-- the parts of a text of clean lines are these, and at last an empty one
parts-again : (ls : List (List ℕ)) → AllByRecursion IsClean ls → slice_split is_line_feed (text_of ls) ≡ ls ++ [] ∷ []
parts-again [] clean = refl
parts-again (line ∷ ls) clean = part-first line (text_of ls) clean.0 ∙ ap (λ (parts : List (List ℕ)). line ∷ parts) (parts-again ls clean.1)

-- an empty part at last is no line
last-empty : (ls : List (List ℕ)) → lines_of_parts (ls ++ [] ∷ []) ≡ ls
last-empty [] = refl
last-empty (line ∷ []) = refl
last-empty (line ∷ next ∷ ls) = ap (λ (more : List (List ℕ)). line ∷ more) (last-empty (next ∷ ls))

-- The lines of a text of clean lines are these.
pub lines-again : (ls : List (List ℕ)) → AllByRecursion IsClean ls → text_lines (text_of ls) ≡ ls
lines-again ls clean = ap lines (no_return-same (text_of ls) (text-no_return ls clean)) ∙ ap lines_of_parts (parts-again ls clean) ∙ last-empty ls

-- the text of two lists of lines is that of the first and that of the second
pub text-both : (ls ms : List (List ℕ)) → text_of (ls ++ ms) ≡ text_of ls ++ text_of ms
text-both ls ms = flat_map-append fed ls ms
