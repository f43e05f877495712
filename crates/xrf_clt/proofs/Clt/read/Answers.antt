use Rattle.std.proofs.Common.{◌∙◌, sym, ap, List, ℕ}
use Rattle.xrf_text.specs.Text.{lines}
use Rattle.xrf_clt.proofs.Rows.{continue}
use Rattle.xrf_clt.proofs.Whole.{kept_all, stopped_at}
use Rattle.xrf_clt.proofs.Clt.read.Goals as goal

pub returns-in-Err-clause-fault : goal.returns-in-Err-clause-fault
returns-in-Err-clause-fault c =
    stopped_at (lines c.args.text.now) c.loop-line.clt (lines c.loop-line.rest.now) (lines c.in-Some.more.now) c.in-Some.line.now c.count-line.result c.in-Err.reason c.loop-line.invariant
    c.in-Some.ensures.first c.in-Err.ensures c.count-line.ensures

pub returns-clause-found : goal.returns-clause-found
returns-clause-found c =
    kept_all (lines c.args.text.now) c.loop-line.clt
    (ap (λ (rest : List ℕ). continue c.loop-line.clt (lines rest)) (sym c.in_default.ensures.first) ∙ c.loop-line.invariant)
