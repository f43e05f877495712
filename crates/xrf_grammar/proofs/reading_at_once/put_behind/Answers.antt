use Rattle.std.proofs.Common.{◌∙◌, sym, codes}
use Rattle.xrf_text.specs.Text.{words}
use Rattle.xrf_grammar.proofs.WorkLaws.{key_is, put_read}
use Rattle.xrf_grammar.proofs.reading_at_once.put_behind.Goals as goal

pub returns : goal.returns
returns c =
    put_read c.args.format (words c.args.line.now) (words c.in_ok-site.rest.now) (words c.in_ok-item.rest.now) (words c.in_ok-unit.rest.now) (words c.in_ok-number.rest.now) (words c.in_ok-value.rest.now)
    c.in_ok-site.site.now c.in_ok-item.item.now c.in_ok-unit.unit.now c.in_ok-number.number.now c.in_ok-value.value.now
    c.in_ok-site-2.site c.in_ok-unit-2.unit c.in_ok-number-2.number c.in_ok-read.field-0
    c.in_ok-site.ensures.first c.in_ok-item.ensures.first c.in_ok-unit.ensures.first c.in_ok-number.ensures.first c.in_ok-value.ensures.first
    (sym c.has_word.ensures ∙ c.if-has_word.false)
    (key_is c.in_ok-item.item.now (codes "PUT") c.as_slice.result.now c.ne.result c.ne.ensures c.if-ne.false c.as_slice.ensures)
    (sym c.read_site.ensures ∙ c.in_ok-site-2.was) (sym c.read.ensures ∙ c.in_ok-unit-2.was) (sym c.read_number.ensures ∙ c.in_ok-number-2.was) (sym c.read-2.ensures ∙ c.in_ok-read.was)
