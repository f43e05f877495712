-- As many pieces as were counted.
use Rattle.std.proofs.Common.{◌++◌, ◌*◌, List, ℕ, ap, ◌∙◌}
use Rattle.xrf_report.specs.Images.{image_line}
use Rattle.xrf_report.proofs.ImageLaws.{grown, pieces_more}
use Rattle.xrf_report.proofs.images.put_pieces.Goals as goal

pub loop-k-preserved : goal.loop-k-preserved
loop-k-preserved c = record {
  whole =
      grown _ _ _
      (c.in_ok-put_image_line.ensures ∙ ap (λ (bytes : List ℕ). c.loop-k.out.items ++ image_line c.args.name.now (32 * c.loop-k.k) bytes) c.piece_at.ensures.bytes)
      c.loop-k.invariant.whole (pieces_more c.args.name.now c.args.extent.now c.loop-k.k);
}
