-- The words that are held, one after the other.
use Rattle.std.proofs.Common.{◌≡◌, ◌<◌, ◌≤◌, ◌+◌, ℕ, suc, List, [], ◌∷◌, ◌++◌, length, take, slice_set, Bor, refl, sym, ap, ◌∙◌}
use Rattle.std.proofs.lemmas.List.{take_more_set, append_assoc, append-nil, length-take-le}
use Rattle.xrf_text.specs.Text.{texts}

texts-both : (xs ys : List (Bor (List ℕ))) → texts (xs ++ ys) ≡ texts xs ++ texts ys
texts-both [] ys = refl
texts-both (x ∷ xs) ys = ap (λ (more : List (List ℕ)). x.now ∷ more) (texts-both xs ys)

-- One word more is held behind the others.
pub held-more : (ws : List (Bor (List ℕ))) (n : ℕ) (word : Bor (List ℕ)) (all before after : List (List ℕ)) → n < length ws
    → texts (take n ws) ++ before ≡ all → before ≡ word.now ∷ after → texts (take (n + 1) (slice_set ws n word)) ++ after ≡ all
held-more ws n word all before after room held next =
    ap (λ (l : List (List ℕ)). l ++ after) (ap texts (take_more_set ws n word room) ∙ texts-both (take n ws) (word ∷ []))
    ∙ append_assoc (texts (take n ws)) (word.now ∷ []) after ∙ ap (λ (l : List (List ℕ)). texts (take n ws) ++ l) (sym next) ∙ held

-- Where no word is left, all are held.
pub held-all : (held all left : List (List ℕ)) → held ++ left ≡ all → left ≡ [] → held ≡ all
held-all held all left both none = sym (append-nil held) ∙ ap (λ (l : List (List ℕ)). held ++ l) (sym none) ∙ both

length-texts : (ws : List (Bor (List ℕ))) → length (texts ws) ≡ length ws
length-texts [] = refl
length-texts (w ∷ ws) = ap suc (length-texts ws)

-- Where all are held, there are as many as are held.
pub held-count : (ws : List (Bor (List ℕ))) (n : ℕ) (all : List (List ℕ)) → n ≤ length ws → texts (take n ws) ≡ all → length all ≡ n
held-count ws n all inside held = sym (ap length held) ∙ length-texts (take n ws) ∙ length-take-le n ws inside
