use Rattle.std.proofs.Common.{length}
use Rattle.xrf_grammar.proofs.fitting.+most_agreement.Given as goal

abbrev pub decreases-most_agreement : goal.decreases-most_agreement
decreases-most_agreement l = length l.forms.now
