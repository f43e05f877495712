-- What is read is the reading of the body, and what is spelled is read.
use Rattle.std.proofs.Common.{◌≡◌, Some, None, ◌∙◌, rules}
use Rattle.xrf_logrec.specs.LogRecords.{log_reading}
use Rattle.xrf_logrec.proofs.LogLaws.{log_reading-spelled}
use Rattle.xrf_logrec.proofs.records.LogRec.read.Goals as goal

pub returns-then-is_alone_in-clause-only : goal.returns-then-is_alone_in-clause-only
returns-then-is_alone_in-clause-only c place rec is =
    let exact : Some (c.read_u32-place.result, c.in_ok-rec.rec) ≡ log_reading c.args.body.now = search rules in
    exact ∙ log_reading-spelled c.args.body.now place rec is

pub returns-else-is_in_range-clause-only : goal.returns-else-is_in_range-clause-only
returns-else-is_in_range-clause-only c place rec is =
    let exact : None ≡ log_reading c.args.body.now = search rules in
    exact ∙ log_reading-spelled c.args.body.now place rec is
