-- The lines of a text, and the words of a line.
use Rattle.std.specs.Prelude.{ℕ, Bool, true, false, ◌==◌, ◌&&◌, not, nat_le, ◌≢◌, List, [], ◌∷◌, filter}
use Rattle.std.specs.List.{slice_split, AllByRecursion}
use Rattle.std.specs.Borrow.{Bor}

-- a line feed and a blank
abbrev pub is_line_feed : ℕ → Bool
is_line_feed b = b == 10

abbrev pub is_blank : ℕ → Bool
is_blank b = b == 32

-- a byte of a word
abbrev pub is_of_word : ℕ → Bool
is_of_word b = not (is_blank b)

-- a byte from blank to `~`
abbrev pub is_printable : ℕ → Bool
is_printable b = nat_le 32 b && nat_le b 126

-- what stands behind the last line feed, which is no line where it is empty
abbrev pub last_line : List ℕ → List (List ℕ)
last_line [] = []
last_line (b ∷ bs) = (b ∷ bs) ∷ []

abbrev pub lines_of_parts : List (List ℕ) → List (List ℕ)
lines_of_parts [] = []
lines_of_parts (last ∷ []) = last_line last
lines_of_parts (line ∷ next ∷ more) = line ∷ lines_of_parts (next ∷ more)

-- A line ends at a line feed or at the end of the text, and no line begins at the end of the text.
abbrev pub lines : List ℕ → List (List ℕ)
lines text = lines_of_parts (slice_split is_line_feed text)

-- whether something stands between two blanks
abbrev pub is_filled : List ℕ → Bool
is_filled [] = false
is_filled (b ∷ bs) = true

-- The words of a line are what stands between blanks.
abbrev pub words : List ℕ → List (List ℕ)
words line = filter is_filled (slice_split is_blank line)

-- whether there is a word
abbrev pub are_some : List (List ℕ) → Bool
are_some [] = false
are_some (word ∷ more) = true

-- A word has a byte, and no blank.
pub record IsWord (word : List ℕ) : Type 0 where
  pub some : word ≢ []
  pub no_blank : AllByRecursion (λ b. b ≢ 32) word

-- the texts that some references lend
abbrev pub texts : List (Bor (List ℕ)) → List (List ℕ)
texts [] = []
texts (text ∷ more) = text.now ∷ texts more
