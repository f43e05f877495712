use Rattle.std.proofs.Common.{◌∙◌, ap, sym, drop, take, length, ◌-◌}
use Rattle.xrf_grammar.specs.Filling.{one_more, filled}
use Rattle.xrf_grammar.proofs.Filling.{two_more}
use Rattle.xrf_grammar.specs.declared.hex.Filling.{Filling}
use Rattle.xrf_grammar.proofs.hex.+fill.Goals as goal

pub returns-in-len2-up : goal.returns-in-len2-up
returns-in-len2-up t c =
    c.fill.ensures ∙ ap (λ (b : Filling). filled b (take (length c.args.text.now - 2) (drop 2 c.args.text.now))) (c.with_byte.ensures ∙ ap (one_more c.args.filling) c.byte.ensures)
    ∙ sym (two_more c.args.filling c.args.text.now c.in-len2-up.len_at_least)
