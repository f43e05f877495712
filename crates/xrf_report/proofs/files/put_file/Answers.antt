-- As many slots as were counted.
use Rattle.std.proofs.Common.{◌++◌, ◌+◌, List, ℕ, ap, ◌∙◌, subst}
use Rattle.xrf_base.specs.Values.{slot_reading}
use Rattle.xrf_report.specs.Files.{slot_line}
use Rattle.xrf_report.specs.Fits.{HeldFits}
use Rattle.xrf_report.proofs.ImageLaws.{record_at, grown, file_more, fits_more}
use Rattle.xrf_report.proofs.files.put_file.Goals as goal

pub loop-k-preserved : goal.loop-k-preserved
loop-k-preserved c = record {
  whole = λ image is.
      grown _ _ _
      (c.in_ok-put_slot_line.ensures.text
      ∙ ap (λ (bytes : List ℕ). c.loop-k.out.items ++ slot_line (c.loop-k.k + 1) (slot_reading bytes))
      (c.piece_at.ensures.bytes ∙ record_at c.args.count c.args.file.now image c.loop-k.k is c.loop-k-test.true))
      (c.loop-k.invariant.whole image is) (file_more image c.loop-k.k);
  fits = λ image is.
      fits_more image c.loop-k.k (c.loop-k.invariant.fits image is)
      (subst (λ (bytes : List ℕ). HeldFits (slot_reading bytes))
      (c.piece_at.ensures.bytes ∙ record_at c.args.count c.args.file.now image c.loop-k.k is c.loop-k-test.true) c.in_ok-put_slot_line.ensures.fits);
}
