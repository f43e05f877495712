-- Walking the puts of a unit from the newest on.
use Rattle.std.proofs.Common.{◌≡◌, ◌≢◌, ℕ, zero, suc, ◌+◌, ◌-◌, ◌<◌, ◌≤◌, true, false, List, [], ◌∷◌, length, take, reverse, get_or, Option, Some, None, refl, sym, ◌∙◌, ap, arith}
use Rattle.std.specs.Prelude.{slice_get}
use Rattle.std.proofs.lemmas.List.{take_more}
use Rattle.std.proofs.lemmas.Option.{slice_get-get_or}
use Rattle.xrf_base.specs.declared.items.UnitId.{UnitId}
use Rattle.xrf_logrec.specs.declared.records.Undo.{Undo}
use Rattle.xrf_logrec.specs.LogRecords.{same_unit}
use Rattle.xrf_logrec.proofs.Lists.{reverse-snoc}
use Rattle.xrf_file.specs.declared.rows.LoggedPut.{LoggedPut}
use Rattle.xrf_file.specs.Rows.{undo_of}

-- the puts up to one more, the newest first
newest : (puts : List LoggedPut) (i : ℕ) (d : LoggedPut) → i < length puts → reverse (take (length puts - i) puts) ≡ get_or puts (length puts - 1 - i) d ∷ reverse (take (length puts - (i + 1)) puts)
newest puts i d below =
    let n : length puts - (i + 1) ≡ length puts - 1 - i = omega arith in
    let m : length puts - i ≡ length puts - 1 - i + 1 = omega arith in
    let inside : length puts - 1 - i < length puts = omega arith in
    ap (λ (k : ℕ). reverse (take k puts)) m
    ∙ ap reverse (take_more puts (length puts - 1 - i) d inside)
    ∙ reverse-snoc (get_or puts (length puts - 1 - i) d) (take (length puts - 1 - i) puts)
    ∙ ap (λ (k : ℕ). get_or puts (length puts - 1 - i) d ∷ reverse (take k puts)) (sym n)

-- a put of another unit is passed over
pub walk-other : (unit : UnitId) (puts : List LoggedPut) (i left : ℕ) (d : LoggedPut) (wanted : Option Undo) → i < length puts → same_unit (get_or puts (length puts - 1 - i) d).unit unit ≡ false
    → slice_get (undo_of unit (reverse (take (length puts - i) puts))) left ≡ wanted → slice_get (undo_of unit (reverse (take (length puts - (i + 1)) puts))) left ≡ wanted
walk-other unit puts i left d wanted below other h =
    let passed : undo_of unit (reverse (take (length puts - i) puts)) ≡ undo_of unit (reverse (take (length puts - (i + 1)) puts)) = ap (undo_of unit) (newest puts i d below) ∙ rw other refl in
    ap (λ (l : List Undo). slice_get l left) (sym passed) ∙ h

behind-first : (x : Undo) (xs : List Undo) (left : ℕ) → left ≢ 0 → slice_get (x ∷ xs) left ≡ slice_get xs (left - 1)
behind-first x xs zero h = absurd (h refl)
behind-first x xs (suc left) h = let e : suc left - 1 ≡ left = omega arith in ap (slice_get xs) (sym e)

-- a put of the unit is counted
pub walk-own : (unit : UnitId) (puts : List LoggedPut) (i left : ℕ) (d : LoggedPut) (wanted : Option Undo) → i < length puts → left ≢ 0 → same_unit (get_or puts (length puts - 1 - i) d).unit unit ≡ true
    → slice_get (undo_of unit (reverse (take (length puts - i) puts))) left ≡ wanted → slice_get (undo_of unit (reverse (take (length puts - (i + 1)) puts))) (left - 1) ≡ wanted
walk-own unit puts i left d wanted below more own h =
    let first : undo_of unit (reverse (take (length puts - i) puts)) ≡ (get_or puts (length puts - 1 - i) d).undo ∷ undo_of unit (reverse (take (length puts - (i + 1)) puts)) = ap (undo_of unit) (newest puts i d below) ∙ rw own refl in
    sym (behind-first (get_or puts (length puts - 1 - i) d).undo (undo_of unit (reverse (take (length puts - (i + 1)) puts))) left more)
    ∙ ap (λ (l : List Undo). slice_get l left) (sym first) ∙ h

-- none is left to find where no put is left
pub walk-end : (unit : UnitId) (puts : List LoggedPut) (i left : ℕ) (rows : List Undo) (k : ℕ) → length puts ≤ i → k < length rows → slice_get (undo_of unit (reverse (take (length puts - i) puts))) left ≡ slice_get rows k → ⊥
walk-end unit puts i left rows k done below h =
    let none_left : length puts - i ≡ 0 = omega arith in
    let no_row : Undo = record { rrn = 0; before = [] } in
    let nothing : slice_get (undo_of unit (reverse (take (length puts - i) puts))) left ≡ None = ap (λ (n : ℕ). slice_get (undo_of unit (reverse (take n puts))) left) none_left in
    let clash : None ≡ Some (get_or rows k no_row) = sym nothing ∙ h ∙ slice_get-get_or rows k no_row below in
    absurd (cc)
