-- The numbers of puts, the newest first.
use Rattle.std.proofs.Common.{◌≡◌, ℕ, ◌+◌, ◌≤◌, min, Bool, true, false, cond, List, [], ◌∷◌, ◌++◌, length, filter, reverse, Some, sym, ◌∙◌, ap, subst, arith}
use Rattle.std.specs.Prelude.{slice_get}
use Rattle.xrf_logrec.proofs.Lists.{reverse-cons}
use Rattle.xrf_file.specs.declared.rows.LoggedPut.{LoggedPut}
use Rattle.xrf_file.specs.Ledger.{least_number}
use Rattle.xrf_file.specs.Keeping.{AreNumbered}

-- a greater bound above
pub AreNumbered-weaken : (start m n : ℕ) (puts : List LoggedPut) → m ≤ n → AreNumbered start m puts → AreNumbered start n puts
AreNumbered-weaken start m n [] h are = omega (arith, are)
AreNumbered-weaken start m n (put ∷ puts) h are = (omega (arith, are.0), are.1)

-- they are as many at most as the numbers between
pub AreNumbered-length : (start next : ℕ) (puts : List LoggedPut) → AreNumbered start next puts → start + length puts ≤ next
AreNumbered-length start next [] are = omega (arith, are)
AreNumbered-length start next (put ∷ puts) are = let h = AreNumbered-length start put.number puts are.1 in omega (arith, are.0)

-- some of them
pub AreNumbered-filter : (p : LoggedPut → Bool) (start next : ℕ) (puts : List LoggedPut) → AreNumbered start next puts → AreNumbered start next (filter p puts)
AreNumbered-filter p start next [] are = are
AreNumbered-filter p start next (put ∷ puts) are = by (p put) (AreNumbered-filter p start put.number puts are.1)
  where
    by : (b : Bool) → AreNumbered start put.number (filter p puts) → AreNumbered start next (cond b (put ∷ filter p puts) (filter p puts))
    by true rest = (are.0, rest)
    by false rest = let below : put.number ≤ next = omega (arith, are.0) in AreNumbered-weaken start put.number next (filter p puts) below rest

-- the least number is not above the bound
pub least_number-le : (n : ℕ) (puts : List LoggedPut) → least_number n puts ≤ n
least_number-le n [] = omega arith
least_number-le n (put ∷ puts) = let h = least_number-le n puts in omega arith

-- a bound that is itself a number may be counted in
least_number-min : (m n : ℕ) (puts : List LoggedPut) → m ≤ n → min m (least_number n puts) ≡ least_number m puts
least_number-min m n [] h = omega arith
least_number-min m n (put ∷ puts) h = let e = least_number-min m n puts h in omega arith

-- from the least number on they are numbered too
pub AreNumbered-least : (start next : ℕ) (puts : List LoggedPut) → AreNumbered start next puts → AreNumbered (least_number next puts) next puts
AreNumbered-least start next [] are = omega arith
AreNumbered-least start next (put ∷ puts) are =
    let below : put.number ≤ next = omega (arith, are.0) in
    let same : least_number put.number puts ≡ min put.number (least_number next puts) = sym (least_number-min put.number next puts below) in
    (are.0, subst (λ (s : ℕ). AreNumbered s put.number puts) same (AreNumbered-least start put.number puts are.1))

-- the oldest has the least number
pub least_number-last : (start next : ℕ) (puts : List LoggedPut) (put : LoggedPut) → AreNumbered start next (puts ++ put ∷ []) → least_number next (puts ++ put ∷ []) ≡ put.number
least_number-last start next [] put are = omega (arith, are.0)
least_number-last start next (first ∷ puts) put are =
    let below : first.number ≤ next = omega (arith, are.0) in
    least_number-min first.number next (puts ++ put ∷ []) below ∙ least_number-last start first.number puts put are.1

-- the first of puts that are kept oldest first has the least number
pub first-least : (start next : ℕ) (items : List LoggedPut) (put : LoggedPut) → slice_get items 0 ≡ Some put → AreNumbered start next (reverse items) → put.number ≡ least_number next (reverse items)
first-least start next [] put is are = absurd (cc)
first-least start next (x ∷ xs) put is are =
    let same : put ≡ x = cc in
    ap (λ (p : LoggedPut). p.number) same
    ∙ sym (least_number-last start next (reverse xs) x (subst (AreNumbered start next) (reverse-cons x xs) are))
    ∙ ap (least_number next) (sym (reverse-cons x xs))
