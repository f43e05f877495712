-- The first of some words, and those behind it.
use Rattle.std.specs.Prelude.{ℕ, List, [], ◌∷◌}

abbrev pub first : List (List ℕ) → List ℕ
first [] = []
first (word ∷ more) = word

abbrev pub behind : List (List ℕ) → List (List ℕ)
behind [] = []
behind (word ∷ more) = more

-- the second word and so on
abbrev pub second : List (List ℕ) → List ℕ
second ws = first (behind ws)

abbrev pub third : List (List ℕ) → List ℕ
third ws = second (behind ws)

abbrev pub fourth : List (List ℕ) → List ℕ
fourth ws = third (behind ws)

abbrev pub fifth : List (List ℕ) → List ℕ
fifth ws = fourth (behind ws)

abbrev pub sixth : List (List ℕ) → List ℕ
sixth ws = fifth (behind ws)

-- the first six words, with empty texts in the places of those that are missing
abbrev pub front : List (List ℕ) → List (List ℕ)
front ws = first ws ∷ second ws ∷ third ws ∷ fourth ws ∷ fifth ws ∷ sixth ws ∷ []
