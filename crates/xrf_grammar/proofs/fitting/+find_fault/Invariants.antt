use Rattle.std.proofs.Common.{length}
use Rattle.xrf_grammar.proofs.fitting.+find_fault.Given as goal

abbrev pub decreases-find_fault : goal.decreases-find_fault
decreases-find_fault l = length l.parts.now
