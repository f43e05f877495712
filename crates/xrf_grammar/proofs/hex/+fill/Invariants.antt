use Rattle.std.proofs.Common.{length}
use Rattle.xrf_grammar.proofs.hex.+fill.Given as goal

abbrev pub decreases-fill : goal.decreases-fill
decreases-fill l = length l.text.now
