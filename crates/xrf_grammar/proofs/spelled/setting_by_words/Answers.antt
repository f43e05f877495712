use Rattle.std.proofs.Common.{◌∙◌}
use Rattle.xrf_text.specs.Text.{words, texts}
use Rattle.xrf_grammar.proofs.SpelledLaws.{setting_read}
use Rattle.xrf_grammar.proofs.spelled.setting_by_words.Goals as goal

pub returns : goal.returns
returns c =
    setting_read c.args.format (words c.args.line.now) (texts c.as_slice.result.now) c.setting_spelled.result (c.as_slice.ensures ∙ c.split.ensures.held c.if-not-split.false) c.setting_spelled.ensures
