use Rattle.std.proofs.Common.{◌∙◌, sym, codes}
use Rattle.xrf_grammar.proofs.WorkLaws.{same_key, get_spelled, logon_spelled}
use Rattle.xrf_grammar.proofs.work_reading.read_numbered.Goals as goal

pub returns-then-eq : goal.returns-then-eq
returns-then-eq c =
    get_spelled c.args.format c.args.word.now c.args.name.now c.args.number.now c.in_ok-name.name c.in_ok-read_number.field-0 (same_key c.args.word.now (codes "GET") c.as_slice.result.now c.eq.result c.eq.ensures c.if-eq.true c.as_slice.ensures)
    (sym c.read.ensures ∙ c.in_ok-name.was) (sym c.read_number.ensures ∙ c.in_ok-read_number.was)

pub returns-then-eq-2 : goal.returns-then-eq-2
returns-then-eq-2 c =
    logon_spelled c.args.format c.args.word.now c.args.name.now c.args.number.now c.in_ok-name.name c.in_ok-read_class.field-0 (same_key c.args.word.now (codes "LOGON") c.as_slice-2.result.now c.eq-2.result c.eq-2.ensures c.if-eq-2.true c.as_slice-2.ensures)
    (sym c.read.ensures ∙ c.in_ok-name.was) (sym c.read_class.ensures ∙ c.in_ok-read_class.was)
