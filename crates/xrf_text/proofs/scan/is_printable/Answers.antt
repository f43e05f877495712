use Rattle.std.proofs.Common.{◌≡◌, ◌∙◌, ℕ, List, true, take, subst, ap, arith}
use Rattle.std.specs.List.{list_all}
use Rattle.xrf_text.specs.Text.{is_printable}
use Rattle.xrf_text.proofs.Blocks.{all-over}
use Rattle.xrf_text.proofs.scan.is_printable.Goals as goal

pub loop-rest-smaller : goal.loop-rest-smaller
loop-rest-smaller c = let shorter = c.behind_block-rest.ensures.shorter in omega (arith, shorter)

pub loop-rest-preserved : goal.loop-rest-preserved
loop-rest-preserved c =
    let rest = c.loop-rest.rest.now in
    let printable : list_all is_printable (take 32 rest) ≡ true = subst (λ (l : List ℕ). list_all is_printable l ≡ true) c.block_at.ensures (c.is_all_printable.ensures c.if-is_all_printable.true) in
    ap (list_all is_printable) c.behind_block-rest.ensures.behind ∙ all-over is_printable 32 rest printable ∙ c.loop-rest.invariant
