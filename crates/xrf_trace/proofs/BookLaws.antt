-- The file and the book, record by record.
use Rattle.std.proofs.Common.{◌≡◌, ℕ, zero, suc, ◌+◌, ◌<◌, ◌≤◌, nat_lt, Bool, true, false, List, ◌∷◌, map, refl, sym, arith, subst}
use Rattle.std.proofs.lemmas.Grind.{common_steps}
use Rattle.std.specs.List.{range_with_len}
use Rattle.xrf_base.specs.Values.{slot_of}
use Rattle.xrf_trace.specs.declared.entry.Entry.{Entry}
use Rattle.xrf_trace.specs.Scenario.{Scen}
use Rattle.xrf_trace.specs.Devices.{image}
use Rattle.xrf_trace.specs.Book.{book}
use Rattle.xrf_trace.specs.FileIsBook.{IsBook, IsBookAt}

heads : (x y : List ℕ) (xs ys : List (List ℕ)) → x ∷ xs ≡ y ∷ ys → x ≡ y
heads x y xs ys same = cc

tails : (x y : List ℕ) (xs ys : List (List ℕ)) → x ∷ xs ≡ y ∷ ys → xs ≡ ys
tails x y xs ys same = cc

both : (x y : List ℕ) (xs ys : List (List ℕ)) → x ≡ y → xs ≡ ys → x ∷ xs ≡ y ∷ ys
both x y xs ys same rest = cc

at_first : (f g : ℕ → List ℕ) (a k : ℕ) → f a ≡ g a → k ≡ a → f k ≡ g k
at_first f g a k same is = subst (λ (n : ℕ). f n ≡ g n) (sym is) same

-- at a number of a range: its first, or a later one
at_one : (f g : ℕ → List ℕ) (a k : ℕ) (b : Bool) → nat_lt a k ≡ b → a ≤ k → f a ≡ g a → (a + 1 ≤ k → f k ≡ g k) → f k ≡ g k
at_one f g a k true later from same rest = rest (grind (arith, common_steps))
at_one f g a k false first from same rest = at_first f g a k same (grind (arith, common_steps))

-- functions that agree on the numbers of a range agree at each of them
at_each : (f g : ℕ → List ℕ) (a n : ℕ) → map f (range_with_len a n) ≡ map g (range_with_len a n) → (k : ℕ) → a ≤ k → k < a + n → f k ≡ g k
at_each f g a zero same k from to = absurd (omega arith)
at_each f g a (suc n) same k from to =
    at_one f g a k (nat_lt a k) refl from (heads (f a) (g a) (map f (range_with_len (a + 1) n)) (map g (range_with_len (a + 1) n)) same)
    (λ later. at_each f g (a + 1) n (tails (f a) (g a) (map f (range_with_len (a + 1) n)) (map g (range_with_len (a + 1) n)) same) k later (omega arith))

as_list : (f g : ℕ → List ℕ) (a n : ℕ) → ((k : ℕ) → a ≤ k → k < a + n → f k ≡ g k) → map f (range_with_len a n) ≡ map g (range_with_len a n)
as_list f g a zero same = refl
as_list f g a (suc n) same =
    both (f a) (g a) (map f (range_with_len (a + 1) n)) (map g (range_with_len (a + 1) n)) (same a (omega arith) (omega arith))
    (as_list f g (a + 1) n (λ k from to. same k (omega arith) (omega arith)))

-- the file is the book at each record where it is as a list, and the other way round
pub at_each_record : (s : Scen) (t : List Entry) → IsBook s t → IsBookAt s t
at_each_record s t is k from to = at_each (image s t) (λ n. slot_of (book s t n)) 1 s.settings.file is k from (omega arith)

pub as_one : (s : Scen) (t : List Entry) → IsBookAt s t → IsBook s t
as_one s t is = as_list (image s t) (λ n. slot_of (book s t n)) 1 s.settings.file (λ k from to. is k from (omega arith))
