-- Each part computes to nothing, or to equations whose sides are the same.
use Rattle.xrf_examples.proofs.runs.granting_writes_that_are_stopped.Goals as goal

pub returns-clause-safe : goal.returns-clause-safe
returns-clause-safe c = assumption

pub returns-clause-keeps : goal.returns-clause-keeps
returns-clause-keeps c = assumption
