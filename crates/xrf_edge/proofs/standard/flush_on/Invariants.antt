use Rattle.std.specs.Io.KnownBytes.{Keeps}
use Rattle.xrf_edge.proofs.standard.flush_on.Given as goal

-- what was interrupted appended nothing
abbrev pub invariant-loop : goal.invariant-loop
invariant-loop g l = Keeps (g.W.Write.contents l.fn.writer) (g.W.Write.contents l.writer)
