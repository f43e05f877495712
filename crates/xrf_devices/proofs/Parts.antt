-- Parts of bytes in which others were landed.
use Rattle.std.proofs.Common.{◌≡◌, ℕ, ◌+◌, ◌≤◌, List, ◌++◌, length, take, drop, sym, ap, ◌∙◌, arith, append_assoc, length-append}
use Rattle.std.proofs.lemmas.List.{take-append-drop, take-append-le, drop-append-le, take_at, drop_at, length-take-le, length-take, length-drop}
use Rattle.std.proofs.lemmas.Slice.{drop-append-drop}
use Rattle.xrf_gated.specs.Landing.{part, landed}

-- a part of the front is that of the whole
part-front : (front rest : List ℕ) (place n : ℕ) → place + n ≤ length front → part (front ++ rest) place n ≡ part front place n
part-front front rest place n inside =
    ap (take n) (drop-append-le place front rest (omega arith))
    ∙ take-append-le n (drop place front) rest (omega (arith, length-drop place front))

-- the bytes stay as many
pub landed-length : (bytes from : List ℕ) (at : ℕ) → at + length from ≤ length bytes → length (landed bytes at from) ≡ length bytes
landed-length bytes from at inside = simp (length-append, length-take, length-drop) (omega arith)

-- what was landed stands there
pub part-landed : (bytes from : List ℕ) (at n : ℕ) → at + n ≤ length bytes → length from ≡ n → part (landed bytes at from) at n ≡ from
part-landed bytes from at n inside long =
    ap (λ b. part b at n) (append_assoc (take at bytes) from (drop (at + length from) bytes))
    ∙ ap (take n) (drop_at (take at bytes) (from ++ drop (at + length from) bytes) at (length-take-le at bytes (omega arith)))
    ∙ take_at from (drop (at + length from) bytes) n long

-- a part before it is as it was
pub part-before : (bytes from : List ℕ) (at place n : ℕ) → at ≤ length bytes → place + n ≤ at → part (landed bytes at from) place n ≡ part bytes place n
part-before bytes from at place n inside before =
    let long : length (take at bytes) ≡ at = length-take-le at bytes inside in
    ap (λ b. part b place n) (append_assoc (take at bytes) from (drop (at + length from) bytes))
    ∙ part-front (take at bytes) (from ++ drop (at + length from) bytes) place n (omega (arith, long))
    ∙ sym (part-front (take at bytes) (drop at bytes) place n (omega (arith, long)))
    ∙ ap (λ b. part b place n) (take-append-drop at bytes)

-- and so is one behind it
pub part-behind : (bytes from : List ℕ) (at place n : ℕ) → at ≤ length bytes → at + length from ≤ place
    → part (landed bytes at from) place n ≡ part bytes place n
part-behind bytes from at place n inside behind =
    let long : length (take at bytes) ≡ at = length-take-le at bytes inside in
    let front : length (take at bytes ++ from) ≡ at + length from = length-append (take at bytes) from ∙ ap (λ m. m + length from) long in
    ap (take n) (drop-append-drop (at + length from) bytes (take at bytes ++ from) place behind front)
