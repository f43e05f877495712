use Rattle.std.proofs.Common.{sym, ◌∙◌, eqb-true}
use Rattle.xrf_base.proofs.NumberLaws.{zeros_of_zero}
use Rattle.xrf_base.proofs.zeros.is_word_zero.Goals as goal

pub returns : goal.returns
returns c zero = zeros_of_zero 8 c.args.bytes.now (sym c.read_u64.ensures ∙ eqb-true _ 0 zero)
