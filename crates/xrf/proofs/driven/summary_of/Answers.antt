use Rattle.std.proofs.Common.{◌≡◌}
use Rattle.std.proofs.lemmas.Result.{IfOk-weaker}
use Rattle.xrf_report.specs.Summary.{summary_text}
use Rattle.xrf.specs.Driven.{IsSummary}
use Rattle.xrf.proofs.driven.summary_of.Goals as goal

pub returns : goal.returns
returns c =
    let asked = c.args.asked in
    let trace = c.in_ok-world.world.trace in
    IfOk-weaker c.summary.result (λ text. text.items ≡ summary_text asked.seed asked.turns trace) (λ text. IsSummary asked text.items)
    (λ text same. record { trace = trace; is = c.in_ok-world.ensures.run; summary = same }) c.summary.ensures
