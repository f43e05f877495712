use Rattle.std.proofs.Common.{◌∙◌, ◌∷◌, sym, codes}
use Rattle.xrf_text.specs.Text.{texts}
use Rattle.xrf_grammar.proofs.WorkLaws.{key_is, work_spelled}
use Rattle.xrf_grammar.proofs.work_reading.read_work.Goals as goal

pub returns : goal.returns
returns c =
    work_spelled c.args.format c.args.word.now c.args.site.now c.in_ok-site.site (c.args.item.now ∷ texts c.args.operands.now) c.in_ok-read_item.field-0
    (key_is c.args.word.now (codes "WORK") c.as_slice.result.now c.ne.result c.ne.ensures c.if-ne.false c.as_slice.ensures) (sym c.read_site.ensures ∙ c.in_ok-site.was) c.in_ok-read_item.ensures
