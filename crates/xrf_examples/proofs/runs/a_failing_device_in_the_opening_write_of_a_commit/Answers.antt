-- Each part computes to nothing, or to equations whose sides are the same.
use Rattle.xrf_examples.proofs.runs.a_failing_device_in_the_opening_write_of_a_commit.Goals as goal

pub returns-clause-safe : goal.returns-clause-safe
returns-clause-safe c = assumption

pub returns-clause-keeps : goal.returns-clause-keeps
returns-clause-keeps c = assumption
