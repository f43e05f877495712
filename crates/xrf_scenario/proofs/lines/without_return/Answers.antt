use Rattle.xrf_scenario.proofs.LineLaws.{return-dropped, return-kept}
use Rattle.xrf_scenario.proofs.lines.without_return.Goals as goal

pub returns-then-last-eq13 : goal.returns-then-last-eq13
returns-then-last-eq13 c = return-dropped c.args.line.now c.in-len1-up.len_at_least c.if-last-eq13.true

pub returns-else-last-eq13 : goal.returns-else-last-eq13
returns-else-last-eq13 c = return-kept c.args.line.now c.in-len1-up.len_at_least c.if-last-eq13.false
