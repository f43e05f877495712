-- what several reads or writes do to the bytes that are told
use Rattle.std.proofs.Common.{◌+◌, ◌-◌, ◌∙◌, ap, sym, subst, ℕ, List, ◌++◌, length, take, drop, append_assoc, Option, None, Some}
use Rattle.std.proofs.Math.Seq.{take-add}
use Rattle.std.specs.Io.KnownBytes.{Appends, Consumes}
use Rattle.xrf_edge.proofs.Pieces.{left_from}

-- what two writes append, one after the other
pub Appends-append : (a b c : Option (List ℕ)) (xs ys : List ℕ) → Appends a b xs → Appends b c ys → Appends a c (xs ++ ys)
Appends-append None b c xs ys h k = tt
Appends-append (Some os) None c xs ys h k = absurd h
Appends-append (Some os) (Some ns) None xs ys h k = absurd k
Appends-append (Some os) (Some ns) (Some cs) xs ys h k = k ∙ (ap (λ zs. zs ++ ys) h ∙ append_assoc os xs ys)

-- a text that is written up to w, and then n bytes of the rest of it
pub Appends-more : (a b c : Option (List ℕ)) (text : List ℕ) (w n : ℕ) → Appends a b (take w text) → Appends b c (take n (take (length text - w) (drop w text))) → Appends a c (take (w + n) text)
Appends-more a b c text w n h k =
    rw take-add (Appends-append a b c _ _ h (subst (λ ys. Appends b c (take n ys)) (left_from w text) k))

-- what two reads take, one after the other
pub Consumes-append : (a b c : Option (List ℕ)) (xs ys : List ℕ) → Consumes a b xs → Consumes b c ys → Consumes a c (xs ++ ys)
Consumes-append None b c xs ys h k = tt
Consumes-append (Some os) None c xs ys h k = absurd h
Consumes-append (Some os) (Some ns) None xs ys h k = absurd k
Consumes-append (Some os) (Some ns) (Some cs) xs ys h k = h ∙ (ap (λ zs. xs ++ zs) k ∙ sym (append_assoc xs ys cs))
