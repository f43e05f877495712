-- The lines of an applid, picked one after the other.
use Rattle.std.proofs.Common.{◌≡◌, ◌+◌, ℕ, zero, suc, Bool, true, false, List, [], ◌∷◌, ◌++◌, append_assoc, drop, slice_get, Some, refl, ap, ◌∙◌, sym, arith}
use Rattle.std.specs.Str.{bytes_eq}
use Rattle.xrf_clt.specs.Kept.{Kept}
use Rattle.xrf_clt.specs.Table.{texts_for}

-- a list from a place on is the line there, and the list behind it
line-there : (clt : List Kept) (k : ℕ) (line : Kept) → slice_get clt k ≡ Some line → drop k clt ≡ line ∷ drop (k + 1) clt
line-there [] k line is = absurd (cc)
line-there (first ∷ clt) zero line is = let same : first ≡ line = cc in ap (λ (l : Kept). l ∷ clt) same
line-there (first ∷ clt) (suc k) line is = let one-more : suc k + 1 ≡ suc (k + 1) = omega arith in rw one-more (line-there clt k line is)

own-line : (applid : List ℕ) (line : Kept) (clt : List Kept) → bytes_eq line.applid applid ≡ true → texts_for applid (line ∷ clt) ≡ line.text ∷ texts_for applid clt
own-line applid line clt is = rw is refl

other-line : (applid : List ℕ) (line : Kept) (clt : List Kept) → bytes_eq line.applid applid ≡ false → texts_for applid (line ∷ clt) ≡ texts_for applid clt
other-line applid line clt is = rw is refl

-- a line of the applid joins those that were picked
pub picked : (applid : List ℕ) (clt : List Kept) (k : ℕ) (line : Kept) (own : List (List ℕ)) → slice_get clt k ≡ Some line → bytes_eq line.applid applid ≡ true
    → own ++ texts_for applid (drop k clt) ≡ texts_for applid clt → (own ++ line.text ∷ []) ++ texts_for applid (drop (k + 1) clt) ≡ texts_for applid clt
picked applid clt k line own there is so =
    append_assoc own (line.text ∷ []) (texts_for applid (drop (k + 1) clt)) ∙ ap (λ (more : List (List ℕ)). own ++ more) (sym (own-line applid line (drop (k + 1) clt) is))
    ∙ ap (λ (rest : List Kept). own ++ texts_for applid rest) (sym (line-there clt k line there)) ∙ so

-- another is passed
pub passed : (applid : List ℕ) (clt : List Kept) (k : ℕ) (line : Kept) (own : List (List ℕ)) → slice_get clt k ≡ Some line → bytes_eq line.applid applid ≡ false
    → own ++ texts_for applid (drop k clt) ≡ texts_for applid clt → own ++ texts_for applid (drop (k + 1) clt) ≡ texts_for applid clt
passed applid clt k line own there is so =
    ap (λ (more : List (List ℕ)). own ++ more) (sym (other-line applid line (drop (k + 1) clt) is)) ∙ ap (λ (rest : List Kept). own ++ texts_for applid rest) (sym (line-there clt k line there)) ∙ so
