-- A search that passes over blocks of some bytes, and finds the first byte that passes a test.
use Rattle.std.proofs.Common.{◌≡◌, ◌+◌, ◌≤◌, ◌<◌, ℕ, Bool, List, Some, length, length-drop, take, drop, ap, sym, ◌∙◌, arith}
use Rattle.std.specs.List.{position, position_or_len}
use Rattle.std.proofs.lemmas.List.{drop-drop}
use Rattle.xrf_text.proofs.Blocks.{passed-over, stopped-in, found-at}

-- Where a block has none, the first stands behind it.
pub behind-block : (p : ℕ → Bool) (line block : List ℕ) (size at before : ℕ) → block ≡ take size (drop at line) → before ≡ position_or_len p block → before ≡ size → at + size ≤ length line
    → position_or_len p line ≡ at + position_or_len p (drop at line) → position_or_len p line ≡ at + before + position_or_len p (drop (at + before) line)
behind-block p line block size at before is place whole inside so-far =
    let over = passed-over p size (drop at line) (omega (arith, inside, length-drop at line)) (sym (place ∙ ap (position_or_len p) is) ∙ whole) in
    let behind = ap (λ (n : ℕ). position_or_len p (drop (at + n) line)) whole in
    omega (arith, whole, so-far, over, behind, ap (position_or_len p) (drop-drop size at line))

-- Where a block has one, the first stands there.
pub in-block : (p : ℕ → Bool) (line block : List ℕ) (size at before : ℕ) → block ≡ take size (drop at line) → before ≡ position_or_len p block → before < size → at + size ≤ length line
    → position_or_len p line ≡ at + position_or_len p (drop at line) → Some (at + before) ≡ position p line
in-block p line block size at before is place few inside so-far =
    let found = place ∙ ap (position_or_len p) is in
    let stopped = stopped-in p size (drop at line) (omega (arith, found, few)) (omega (arith, inside, length-drop at line)) in
    found-at p line (at + before) (omega (arith, so-far, found, stopped)) (omega (arith, inside, few))
