use Rattle.std.proofs.Common.{◌≡◌, ◌++◌, take}
use Rattle.xrf_grammar.specs.Spelling.{pieces_text}
use Rattle.xrf_grammar.proofs.writing.put_many.Given as goal

-- the pieces so far stand behind what was there
abbrev pub invariant-loop-piece : goal.invariant-loop-piece
invariant-loop-piece l = l.out.items ≡ l.fn.out.items ++ pieces_text (take l.piece-index l.pieces)
