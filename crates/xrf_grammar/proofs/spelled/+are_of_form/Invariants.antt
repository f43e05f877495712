use Rattle.std.proofs.Common.{length}
use Rattle.xrf_grammar.proofs.spelled.+are_of_form.Given as goal

abbrev pub decreases-are_of_form : goal.decreases-are_of_form
decreases-are_of_form l = length l.parts.now
