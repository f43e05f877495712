use Rattle.std.proofs.Common.{◌∙◌, ap, arith}
use Rattle.xrf_base.specs.Zeros.{is_zero, are_zeros}
use Rattle.xrf_base.proofs.Tails.{all-over}
use Rattle.xrf_base.proofs.zeros.is_all_zero.Goals as goal

pub loop-rest-smaller : goal.loop-rest-smaller
loop-rest-smaller c = let shorter = c.from_place-rest.ensures.shorter in omega (arith, shorter)

pub loop-rest-preserved : goal.loop-rest-preserved
loop-rest-preserved c =
    ap are_zeros c.from_place-rest.ensures.behind ∙ all-over is_zero 8 c.loop-rest.rest.now (c.is_word_zero.ensures c.if-is_word_zero.true) ∙ c.loop-rest.invariant
