use Rattle.std.proofs.Common.{◌∙◌, sym, codes}
use Rattle.xrf_text.specs.Text.{words}
use Rattle.xrf_grammar.proofs.WorkLaws.{key_is, message_read}
use Rattle.xrf_grammar.proofs.reading_at_once.message_behind.Goals as goal

pub returns : goal.returns
returns c =
    message_read c.args.format (words c.args.line.now) (words c.in_ok-region.rest.now) (words c.in_ok-kind.rest.now) (words c.in_ok-split_word.field-0-1.now)
    c.in_ok-region.region.now c.in_ok-kind.kind.now c.in_ok-split_word.field-0-0.now c.in_ok-region.ensures.first c.in_ok-kind.ensures.first c.in_ok-split_word.ensures.first
    (sym c.spells_name.ensures ∙ c.if-not-spells_name.false)
    (key_is c.in_ok-kind.kind.now (codes "WTO") c.as_slice.result.now c.ne.result c.ne.ensures c.if-ne.false c.as_slice.ensures)
