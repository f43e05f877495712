use Rattle.std.proofs.Common.{◌≡◌, ◌≤◌, ◌+◌, length, arith}
use Rattle.std.proofs.lemmas.Bool.Decides.{nat_tests}
use Rattle.xrf_text.specs.Text.{is_blank}
use Rattle.xrf_text.proofs.Search.{behind-block, in-block}
use Rattle.xrf_text.proofs.scan.first_blank.Goals as goal

pub loop-passed-preserved : goal.loop-passed-preserved
loop-passed-preserved c =
    let inside : c.loop-passed.passed + 8 ≤ length c.args.line.now = grind (arith, nat_tests) in
    let whole : c.before_blank-before.result ≡ 8 = omega (arith, c.before_blank-before.ensures.inside, c.if-before-lt-SHORT.false) in
    (omega (arith, inside, whole), behind-block is_blank _ _ 8 _ _ c.short_block_at.ensures c.before_blank-before.ensures.place whole inside c.loop-passed.invariant.1)

pub returns-then-before-lt-SHORT : goal.returns-then-before-lt-SHORT
returns-then-before-lt-SHORT c =
    let inside : c.loop-passed.passed + 8 ≤ length c.args.line.now = grind (arith, nat_tests) in
    in-block is_blank _ _ 8 _ _ c.short_block_at.ensures c.before_blank-before.ensures.place (omega (arith, c.if-before-lt-SHORT.true)) inside c.loop-passed.invariant.1
