-- Texts that have no blank, and are not empty, are words.
use Rattle.std.proofs.Common.{◌≡◌, ◌≢◌, ◌≤◌, ℕ, Bool, true, false, List, [], ◌∷◌, length, arith, subst}
use Rattle.std.specs.List.{AllByRecursion, list_all}
use Rattle.std.proofs.lemmas.Bool.{and_parts}

-- what passes a test that a blank does not pass has no blank
pub blank-free : (test : ℕ → Bool) → test 32 ≡ false → (text : List ℕ) → list_all test text ≡ true → AllByRecursion (λ b. b ≢ 32) text
blank-free test apart [] h = tt
blank-free test apart (b ∷ bs) h =
    (λ same. let at : test 32 ≡ true = subst (λ (n : ℕ). test n ≡ true) same (and_parts (test b) (list_all test bs) h).0 in cc, blank-free test apart bs (and_parts (test b) (list_all test bs) h).1)

pub some-word : (text : List ℕ) → 1 ≤ length text → text ≢ []
some-word [] h = absurd (omega arith)
some-word (b ∷ bs) h = λ e. cc
