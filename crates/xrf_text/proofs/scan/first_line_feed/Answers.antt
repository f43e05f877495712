use Rattle.std.proofs.Common.{◌≡◌, ◌≤◌, ◌+◌, length, arith}
use Rattle.std.proofs.lemmas.Bool.Decides.{nat_tests}
use Rattle.xrf_text.specs.Text.{is_line_feed}
use Rattle.xrf_text.proofs.Search.{behind-block, in-block}
use Rattle.xrf_text.proofs.scan.first_line_feed.Goals as goal

pub loop-passed-preserved : goal.loop-passed-preserved
loop-passed-preserved c =
    let inside : c.loop-passed.passed + 32 ≤ length c.args.text.now = grind (arith, nat_tests) in
    let whole : c.before_line_feed-before.result ≡ 32 = omega (arith, c.before_line_feed-before.ensures.inside, c.if-before-lt-BLOCK.false) in
    (omega (arith, inside, whole), behind-block is_line_feed _ _ 32 _ _ c.block_at.ensures c.before_line_feed-before.ensures.place whole inside c.loop-passed.invariant.1)

pub returns-then-before-lt-BLOCK : goal.returns-then-before-lt-BLOCK
returns-then-before-lt-BLOCK c =
    let inside : c.loop-passed.passed + 32 ≤ length c.args.text.now = grind (arith, nat_tests) in
    in-block is_line_feed _ _ 32 _ _ c.block_at.ensures c.before_line_feed-before.ensures.place (omega (arith, c.if-before-lt-BLOCK.true)) inside c.loop-passed.invariant.1
