use Rattle.std.proofs.Common.{◌+◌, drop, arith}
use Rattle.std.proofs.lemmas.Grind.{common_steps}
use Rattle.xrf.proofs.NumberLaws.{had, too_large}
use Rattle.xrf.proofs.drive_words.value.Goals as goal

pub returns-in-None : goal.returns-in-None
returns-in-None c =
    too_large c.loop-digit.number _ _ 18446744073709551615 (drop c.loop-digit.digit-index c.args.digits.now) (drop (c.loop-digit.digit-index + 1) c.args.digits.now) c.with_digit.result
    c.with_digit.ensures c.in-None.is (grind (arith, common_steps)) c.loop-digit.invariant.whole

pub returns : goal.returns
returns c = had c.loop-digit.number _ 18446744073709551615 c.loop-digit.invariant.fits (grind (arith, common_steps, c.loop-digit.invariant.whole))
