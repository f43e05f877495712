use Rattle.std.proofs.Common.{◌∙◌, ℕ, eqb, not, eqb-true, sym, w8, arith}
use Rattle.std.proofs.lemmas.Simd.{bitmask_splat}
use Rattle.xrf_text.specs.Text.{is_blank}
use Rattle.xrf_text.proofs.Blocks.{none-other}
use Rattle.xrf_text.proofs.scan.is_all_blank.Goals as goal

pub returns : goal.returns
returns c zero = none-other is_blank c.args.block (sym (bitmask_splat w8 (λ (a b : ℕ). not (eqb a b)) c.args.block 32 32 c.fits-block.0 (omega arith)) ∙ eqb-true _ 0 zero)
