-- Lists that end in one byte again and again.
use Rattle.std.proofs.Common.{◌≡◌, ◌==◌, ◌&&◌, ◌+◌, ℕ, zero, suc, Bool, true, false, List, [], ◌∷◌, ◌++◌, length, take, drop, replicate, nat_eq, refl, sym, ◌∙◌, ap, arith}
use Rattle.std.proofs.lemmas.Bool.{and_parts, eq-eqb, eqb-true, eqb-false}
use Rattle.std.proofs.lemmas.List.{take-append-drop}
use Rattle.std.proofs.lemmas.List.Folds.{list_all-append}
use Rattle.std.specs.List.{list_all}
use Rattle.std.specs.Cmp.Lexicographic.{pointwise}

-- to pass over what passes the test
pub all-over : (p : ℕ → Bool) (n : ℕ) (xs : List ℕ) → list_all p (take n xs) ≡ true → list_all p (drop n xs) ≡ list_all p xs
all-over p n xs front = ap (λ b. b && list_all p (drop n xs)) (sym front) ∙ sym (list_all-append p (take n xs) (drop n xs)) ∙ ap (list_all p) (take-append-drop n xs)

-- two tests of one pair of numbers
pub same_test : (a b : ℕ) → nat_eq a b ≡ (b == a)
same_test a b = by (nat_eq a b) (b == a) refl refl
  where
    by : (s t : Bool) → nat_eq a b ≡ s → (b == a) ≡ t → s ≡ t
    by true true e f = refl
    by false false e f = refl
    by true false e f = absurd (eqb-false b a f (sym (eqb-true a b e)))
    by false true e f = absurd (eqb-false a b e (sym (eqb-true b a f)))

-- a list is a byte again and again where all its elements are that byte
pub pointwise-replicate : (c n : ℕ) (ys : List ℕ) → length ys ≡ n → pointwise nat_eq (replicate n c) ys ≡ list_all (λ b. b == c) ys
pointwise-replicate c zero [] long = refl
pointwise-replicate c (suc n) [] long = absurd (omega arith)
pointwise-replicate c zero (y ∷ ys) long = absurd (omega arith)
pointwise-replicate c (suc n) (y ∷ ys) long =
    ap (λ t. t && pointwise nat_eq (replicate n c) ys) (same_test c y) ∙ ap (λ t. (y == c) && t) (pointwise-replicate c n ys (omega arith))

-- A list begins with its front and goes on with one byte exactly where all that stands behind the
-- front is that byte.
pub pointwise-tail : (c n m : ℕ) (ys : List ℕ) → length ys ≡ n + m → pointwise nat_eq (take n ys ++ replicate m c) ys ≡ list_all (λ b. b == c) (drop n ys)
pointwise-tail c zero m ys long = pointwise-replicate c m ys (omega arith)
pointwise-tail c (suc n) m [] long = absurd (omega arith)
pointwise-tail c (suc n) m (y ∷ ys) long =
    ap (λ t. t && pointwise nat_eq (take n ys ++ replicate m c) ys) (eq-eqb y y refl) ∙ pointwise-tail c n m ys (omega arith)

-- and then it is that front and that byte
pub is_replicate : (c : ℕ) (ys : List ℕ) → list_all (λ b. b == c) ys ≡ true → ys ≡ replicate (length ys) c
is_replicate c [] all = refl
is_replicate c (y ∷ ys) all =
    let parts = and_parts (y == c) (list_all (λ b. b == c) ys) all in
    ap (λ b. b ∷ ys) (eqb-true y c parts.0) ∙ ap (λ l. c ∷ l) (is_replicate c ys parts.1)
