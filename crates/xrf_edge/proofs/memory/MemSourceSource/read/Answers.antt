use Rattle.std.proofs.Common.{arith, ap, sym, ◌∙◌, ◌+◌, ◌++◌, List, ℕ, length, drop}
use Rattle.xrf_edge.proofs.Pieces.{piece_then_rest, no_piece}
use Rattle.xrf_edge.proofs.memory.MemSourceSource.read.Goals as goal

-- the piece that was copied is the front of what was left, and empty only at the end
pub returns-clause-bytes : goal.returns-clause-bytes
returns-clause-bytes c =
    let t = c.self.inside.taken in
    let n = c.copy_piece-n.result in
    let xs = c.self.inside.bytes.items in
    let front = rw c.deref.ensures.value at c.copy_piece-n.ensures.front in
    let count = rw c.deref.ensures.value at c.copy_piece-n.ensures.count in (
      sym (ap (λ s. s.left) c.self.view_is) ∙ (piece_then_rest t n xs ∙ ap (λ (zs : List ℕ). zs ++ drop (t + n) xs) (sym front)),
      λ none room. no_piece t n c.self.inside.piece (length c.args.into.now) xs count (omega arith) none (omega arith),
    )
