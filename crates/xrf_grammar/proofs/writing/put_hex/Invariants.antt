use Rattle.std.proofs.Common.{◌≡◌, ◌++◌, length, drop}
use Rattle.xrf_grammar.specs.Spelling.{hex_text}
use Rattle.xrf_grammar.proofs.writing.put_hex.Given as goal

-- the bytes so far stand behind what was there
abbrev pub invariant-loop-rest : goal.invariant-loop-rest
invariant-loop-rest l = l.out.items ++ hex_text l.rest ≡ l.fn.out.items ++ hex_text l.bytes

abbrev pub decreases-loop-rest : goal.decreases-loop-rest
decreases-loop-rest l = length l.rest

abbrev pub invariant-loop-byte : goal.invariant-loop-byte
invariant-loop-byte l = l.out.items ++ hex_text (drop l.byte-index l.byte-items) ≡ l.fn.out.items ++ hex_text l.bytes
