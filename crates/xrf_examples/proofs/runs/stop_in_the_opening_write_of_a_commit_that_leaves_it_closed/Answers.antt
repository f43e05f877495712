-- Each part computes to nothing, or to equations whose sides are the same.
use Rattle.xrf_examples.proofs.runs.stop_in_the_opening_write_of_a_commit_that_leaves_it_closed.Goals as goal

pub returns-clause-safe : goal.returns-clause-safe
returns-clause-safe c = assumption

pub returns-clause-keeps : goal.returns-clause-keeps
returns-clause-keeps c = assumption
