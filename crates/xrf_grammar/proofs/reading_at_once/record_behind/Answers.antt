use Rattle.std.proofs.Common.{◌∙◌, sym}
use Rattle.xrf_text.specs.Text.{words}
use Rattle.xrf_grammar.proofs.WorkLaws.{record_read}
use Rattle.xrf_grammar.proofs.reading_at_once.record_behind.Goals as goal

pub returns : goal.returns
returns c =
    record_read c.args.format (words c.args.line.now) (words c.in_ok-number.rest.now) (words c.in_ok-value.rest.now) c.in_ok-number.number.now c.in_ok-value.value.now c.in_ok-number-2.number c.in_ok-read.field-0
    c.in_ok-number.ensures.first c.in_ok-value.ensures.first (sym c.has_word.ensures ∙ c.if-has_word.false)
    c.in_ok-number-2.ensures.0 c.in_ok-number-2.ensures.1.0 c.in_ok-number-2.ensures.1.1 (sym c.read.ensures ∙ c.in_ok-read.was)
