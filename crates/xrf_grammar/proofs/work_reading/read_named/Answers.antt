use Rattle.std.proofs.Common.{◌∙◌, sym, codes}
use Rattle.xrf_grammar.proofs.WorkLaws.{same_key, begin_spelled, commit_spelled, roll_spelled, logoff_spelled}
use Rattle.xrf_grammar.proofs.work_reading.read_named.Goals as goal

pub returns-then-eq : goal.returns-then-eq
returns-then-eq c =
    begin_spelled c.args.format c.args.word.now c.args.name.now c.in_ok-name.name (same_key c.args.word.now (codes "BEGIN") c.as_slice.result.now c.eq.result c.eq.ensures c.if-eq.true c.as_slice.ensures) (sym c.read.ensures ∙ c.in_ok-name.was)

pub returns-then-eq-2 : goal.returns-then-eq-2
returns-then-eq-2 c =
    commit_spelled c.args.format c.args.word.now c.args.name.now c.in_ok-name.name (same_key c.args.word.now (codes "COMMIT") c.as_slice-2.result.now c.eq-2.result c.eq-2.ensures c.if-eq-2.true c.as_slice-2.ensures) (sym c.read.ensures ∙ c.in_ok-name.was)

pub returns-then-eq-3 : goal.returns-then-eq-3
returns-then-eq-3 c =
    roll_spelled c.args.format c.args.word.now c.args.name.now c.in_ok-name.name (same_key c.args.word.now (codes "ROLL") c.as_slice-3.result.now c.eq-3.result c.eq-3.ensures c.if-eq-3.true c.as_slice-3.ensures) (sym c.read.ensures ∙ c.in_ok-name.was)

pub returns-then-eq-4 : goal.returns-then-eq-4
returns-then-eq-4 c =
    logoff_spelled c.args.format c.args.word.now c.args.name.now c.in_ok-name.name (same_key c.args.word.now (codes "LOGOFF") c.as_slice-4.result.now c.eq-4.result c.eq-4.ensures c.if-eq-4.true c.as_slice-4.ensures) (sym c.read.ensures ∙ c.in_ok-name.was)
