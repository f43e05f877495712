use Rattle.std.proofs.Common.{length}
use Rattle.xrf_grammar.proofs.spelled.+form_of.Given as goal

abbrev pub decreases-form_of : goal.decreases-form_of
decreases-form_of l = length l.forms.now
