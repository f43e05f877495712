-- a piece of what a source in memory has left
use Rattle.std.proofs.Common.{◌≡◌, ◌+◌, ◌-◌, ◌<◌, sym, ℕ, List, [], ◌++◌, length, take, drop, min, arith}
use Rattle.std.proofs.Math.ListN.{drop_of_length-le}
use Rattle.std.proofs.lemmas.List.{take_all, length-drop, drop-drop, take-append-drop}

-- what is left from place t on
pub left_from : (t : ℕ) (xs : List ℕ) → take (length xs - t) (drop t xs) ≡ drop t xs
left_from t xs = take_all _ _ (rw length-drop (omega arith))

-- a piece, and then the rest
pub piece_then_rest : (t n : ℕ) (xs : List ℕ) → drop t xs ≡ take n (take (length xs - t) (drop t xs)) ++ drop (t + n) xs
piece_then_rest t n xs = rw (left_from t xs, ← drop-drop n t xs) (sym (take-append-drop n (drop t xs)))

-- where no byte comes though there is room for one, none is left
pub no_piece : (t n piece len : ℕ) (xs : List ℕ) → n ≡ min piece (min len (length (take (length xs - t) (drop t xs)))) → 0 < piece → n ≡ 0 → 0 < len → drop (t + n) xs ≡ []
no_piece t n piece len xs is some none room =
    let count : n ≡ min piece (min len (length xs - t)) = rw (left_from t xs, length-drop t xs) at is in
    drop_of_length-le xs (omega arith)
