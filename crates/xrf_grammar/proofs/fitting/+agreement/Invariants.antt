use Rattle.std.proofs.Common.{length}
use Rattle.xrf_grammar.proofs.fitting.+agreement.Given as goal

abbrev pub decreases-agreement : goal.decreases-agreement
decreases-agreement l = length l.parts.now
