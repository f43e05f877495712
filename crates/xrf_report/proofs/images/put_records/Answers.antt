-- As many slots as were counted.
use Rattle.std.proofs.Common.{◌++◌, ◌*◌, List, ℕ, codes, ap, sym, ◌∙◌, length}
use Rattle.xrf_report.specs.Images.{image_line}
use Rattle.xrf_report.proofs.ImageLaws.{record_at, grown, records_more, pieces_fit}
use Rattle.xrf_report.proofs.images.put_records.Goals as goal

pub loop-k-preserved : goal.loop-k-preserved
loop-k-preserved c = record {
  whole = λ image is.
      grown _ _ _
      (c.in_ok-put_image_line.ensures
      ∙ ap (λ (bytes : List ℕ). c.loop-k.out.items ++ image_line (codes "FILE") (32 * c.loop-k.k) bytes)
      (c.piece_at.ensures.bytes ∙ record_at c.args.count c.args.file.now image c.loop-k.k is c.loop-k-test.true))
      (c.loop-k.invariant.whole image is) (records_more image c.loop-k.k);
  fits = λ image is.
      pieces_fit image c.loop-k.k (c.loop-k.invariant.fits image is)
      (ap length (sym (c.piece_at.ensures.bytes ∙ record_at c.args.count c.args.file.now image c.loop-k.k is c.loop-k-test.true)) ∙ c.piece_at.ensures.size);
}
