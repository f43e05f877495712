-- Lists that are reversed, and filters.
use Rattle.std.proofs.Common.{◌≡◌, ◌≤◌, Bool, true, false, not, ◌||◌, cond, List, [], ◌∷◌, ◌++◌, length, reverse, filter, refl, sym, ◌∙◌, ap, arith}
use Rattle.std.specs.List.{list_any}
use Rattle.std.proofs.lemmas.List.{reverse-append, append-nil}
use Rattle.std.proofs.lemmas.List.Elements.{filter-append}
use Rattle.std.proofs.lemmas.List.Folds.{list_any-append}
use Rattle.std.proofs.lemmas.List.Sums.{length-filter, count_by-le-length}

pub reverse-cons : {X : Type 0} (x : X) (xs : List X) → reverse (x ∷ xs) ≡ reverse xs ++ x ∷ []
reverse-cons x xs = reverse-append (x ∷ []) xs

pub reverse-snoc : {X : Type 0} (x : X) (xs : List X) → reverse (xs ++ x ∷ []) ≡ x ∷ reverse xs
reverse-snoc x xs = reverse-append xs (x ∷ [])

or-false : (b : Bool) → (b || false) ≡ b
or-false true = refl
or-false false = refl

or-comm : (a b : Bool) → (a || b) ≡ (b || a)
or-comm true true = refl
or-comm true false = refl
or-comm false true = refl
or-comm false false = refl

-- an element passes wherever it stands
pub list_any-reverse : {X : Type 0} (p : X → Bool) (xs : List X) → list_any p (reverse xs) ≡ list_any p xs
list_any-reverse p [] = refl
list_any-reverse p (x ∷ xs) =
    ap (list_any p) (reverse-cons x xs) ∙ list_any-append p (reverse xs) (x ∷ [])
    ∙ ap (λ b. list_any p (reverse xs) || b) (or-false (p x)) ∙ ap (λ b. b || p x) (list_any-reverse p xs) ∙ or-comm (list_any p xs) (p x)

kept_last : {X : Type 0} (p : X → Bool) (b : Bool) (x : X) (xs : List X) → reverse xs ++ cond b (x ∷ []) [] ≡ reverse (cond b (x ∷ xs) xs)
kept_last p true x xs = sym (reverse-cons x xs)
kept_last p false x xs = append-nil (reverse xs)

-- a filter keeps the order
pub filter-reverse : {X : Type 0} (p : X → Bool) (xs : List X) → filter p (reverse xs) ≡ reverse (filter p xs)
filter-reverse p [] = refl
filter-reverse p (x ∷ xs) =
    ap (filter p) (reverse-cons x xs) ∙ filter-append p (reverse xs) (x ∷ [])
    ∙ ap (λ l. l ++ filter p (x ∷ [])) (filter-reverse p xs) ∙ kept_last p (p x) x (filter p xs)

-- what neither test takes out
pub filter-neither : {X : Type 0} (p q : X → Bool) (xs : List X) → filter (λ x. not (p x || q x)) xs ≡ filter (λ x. not (p x)) (filter (λ x. not (q x)) xs)
filter-neither p q [] = refl
filter-neither p q (x ∷ xs) = by (p x) (q x) refl (filter-neither p q xs)
  where
    by : (a b : Bool) → p x ≡ a → filter (λ y. not (p y || q y)) xs ≡ filter (λ y. not (p y)) (filter (λ y. not (q y)) xs)
        → cond (not (a || b)) (x ∷ filter (λ y. not (p y || q y)) xs) (filter (λ y. not (p y || q y)) xs) ≡ filter (λ y. not (p y)) (cond (not b) (x ∷ filter (λ y. not (q y)) xs) (filter (λ y. not (q y)) xs))
    by true true e h = h
    by true false e h = rw e h
    by false true e h = h
    by false false e h = rw e (ap (λ l. x ∷ l) h)

-- a filter takes nothing new
pub length-filter-le : {X : Type 0} (p : X → Bool) (xs : List X) → length (filter p xs) ≤ length xs
length-filter-le p xs = omega (arith, length-filter p xs, count_by-le-length p xs)
