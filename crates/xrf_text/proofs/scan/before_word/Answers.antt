use Rattle.std.proofs.Common.{ℕ, ◌∙◌, eqb, ap, cond, not, w8, arith}
use Rattle.std.proofs.lemmas.List.Sums.{prefix_len-le-length}
use Rattle.std.proofs.lemmas.Simd.{bitmask_splat, first_set_mask_l}
use lib.Count.{count_trailing_zeros}
use Rattle.xrf_text.specs.Text.{is_of_word}
use Rattle.xrf_text.proofs.scan.before_word.Goals as goal

pub returns-clause-place : goal.returns-clause-place
returns-clause-place c =
    c.first_set.ensures ∙ ap (λ (bits : ℕ). cond (eqb bits 0) 32 (count_trailing_zeros 64 bits)) (bitmask_splat w8 (λ (a b : ℕ). not (eqb a b)) c.args.block 32 32 c.fits-block.0 (omega arith))
    ∙ first_set_mask_l is_of_word c.args.block 32 c.fits-block.0 (omega arith)

pub returns-clause-inside : goal.returns-clause-inside
returns-clause-inside c = omega (arith, c.fits-block.0, returns-clause-place c, prefix_len-le-length (λ b. not (is_of_word b)) c.args.block)
