use Rattle.std.proofs.Common.{◌∙◌}
use Rattle.xrf_text.specs.Text.{words, texts}
use Rattle.xrf_grammar.proofs.SpelledLaws.{choice_read}
use Rattle.xrf_grammar.proofs.spelled.choice_by_first_word.Goals as goal

pub returns : goal.returns
returns c =
    choice_read c.choices_beginning-forms.result.now (words c.args.line.now) (texts c.as_slice-2.result.now) c.spelled.result c.choices_beginning-forms.ensures (c.as_slice-2.ensures ∙ c.split.ensures.held c.if-not-split.false)
    c.spelled.ensures
