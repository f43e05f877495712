-- What is found in a list from a place on.
use Rattle.std.proofs.Common.{◌≡◌, ℕ, zero, suc, ◌+◌, ◌-◌, ◌<◌, ◌≤◌, Bool, true, false, List, [], ◌∷◌, length, drop, cond, Some, refl, sym, ◌∙◌, ap, arith}
use Rattle.std.specs.Prelude.{slice_get}
use Rattle.xrf_msg.specs.Messages.{is_tracked}
use Rattle.xrf_terms.specs.declared.rows.Row.{Row}
use Rattle.xrf_terms.specs.Table.{row_of, is_of}
use Rattle.xrf_history.specs.Sending.{tracked_rows}

-- the rest of a list from the place of an element on
pub drop-get : {A : Type 0} (xs : List A) (i : ℕ) (x : A) → slice_get xs i ≡ Some x → drop i xs ≡ x ∷ drop (i + 1) xs
drop-get [] i x e = absurd (cc)
drop-get (y ∷ ys) zero x e = let same : y ≡ x = cc in rw same refl
drop-get (y ∷ ys) (suc i) x e = let rest = drop-get ys i x e in let next : suc i + 1 ≡ suc (i + 1) = omega arith in rw next rest

-- past its end nothing is left
pub drop-past : {A : Type 0} (xs : List A) (i : ℕ) → length xs ≤ i → drop i xs ≡ []
drop-past [] zero past = refl
drop-past [] (suc i) past = refl
drop-past (x ∷ xs) zero past = absurd (omega arith)
drop-past (x ∷ xs) (suc i) past = drop-past xs i (omega arith)

pub row_of-here : (term : List ℕ) (rows : List Row) (i : ℕ) (row : Row) → slice_get rows i ≡ Some row → is_of term row ≡ true → row_of term rows ≡ row_of term (drop i rows) → Some row ≡ row_of term rows
row_of-here term rows i row at is found = sym (found ∙ ap (row_of term) (drop-get rows i row at) ∙ rw is refl)

pub row_of-after : (term : List ℕ) (rows : List Row) (i : ℕ) (row : Row) → slice_get rows i ≡ Some row → is_of term row ≡ false → row_of term rows ≡ row_of term (drop i rows) → row_of term rows ≡ row_of term (drop (i + 1) rows)
row_of-after term rows i row at is found = found ∙ ap (row_of term) (drop-get rows i row at) ∙ rw is refl

-- the same of the rows of class 1 or 2
tracked-step : (b : Bool) (row : Row) (rows : List Row) → is_tracked row.class ≡ b → tracked_rows (row ∷ rows) ≡ cond b (row ∷ tracked_rows rows) (tracked_rows rows)
tracked-step true row rows is = rw is refl
tracked-step false row rows is = rw is refl

pub tracked-here : (rows : List Row) (i : ℕ) (row : Row) (k left : ℕ) → slice_get rows i ≡ Some row → is_tracked row.class ≡ true → left ≡ 0
    → slice_get (tracked_rows rows) k ≡ slice_get (tracked_rows (drop i rows)) left → Some row ≡ slice_get (tracked_rows rows) k
tracked-here rows i row k left at is none found =
    sym (found ∙ ap (λ (l : List Row). slice_get (tracked_rows l) left) (drop-get rows i row at)
    ∙ ap (λ (l : List Row). slice_get l left) (tracked-step true row (drop (i + 1) rows) is) ∙ rw none refl)

pub tracked-after : (rows : List Row) (i : ℕ) (row : Row) (k left : ℕ) → slice_get rows i ≡ Some row → is_tracked row.class ≡ true → 0 < left
    → slice_get (tracked_rows rows) k ≡ slice_get (tracked_rows (drop i rows)) left → slice_get (tracked_rows rows) k ≡ slice_get (tracked_rows (drop (i + 1) rows)) (left - 1)
tracked-after rows i row k left at is some found =
    let more : left ≡ suc (left - 1) = omega arith in
    found ∙ ap (λ (l : List Row). slice_get (tracked_rows l) left) (drop-get rows i row at)
    ∙ ap (λ (l : List Row). slice_get l left) (tracked-step true row (drop (i + 1) rows) is)
    ∙ ap (slice_get (row ∷ tracked_rows (drop (i + 1) rows))) more

pub tracked-other : (rows : List Row) (i : ℕ) (row : Row) (k left : ℕ) → slice_get rows i ≡ Some row → is_tracked row.class ≡ false
    → slice_get (tracked_rows rows) k ≡ slice_get (tracked_rows (drop i rows)) left → slice_get (tracked_rows rows) k ≡ slice_get (tracked_rows (drop (i + 1) rows)) left
tracked-other rows i row k left at is found =
    found ∙ ap (λ (l : List Row). slice_get (tracked_rows l) left) (drop-get rows i row at)
    ∙ ap (λ (l : List Row). slice_get l left) (tracked-step false row (drop (i + 1) rows) is)
