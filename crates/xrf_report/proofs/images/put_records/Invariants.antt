use Rattle.std.proofs.Common.{◌≡◌, ◌++◌, ℕ, List, length}
use Rattle.xrf_devices.specs.Standing.{FileIs}
use Rattle.xrf_report.specs.Fits.{PiecesFit}
use Rattle.xrf_report.specs.Images.{records_text}
use Rattle.xrf_report.proofs.images.put_records.Given as goal

-- as many slots as were counted
abbrev pub invariant-loop-k : goal.invariant-loop-k
invariant-loop-k l = record {
  whole : (image : ℕ → List ℕ) → FileIs l.count l.file image → l.out.items ≡ l.fn.out.items ++ records_text image l.k;
  fits : (image : ℕ → List ℕ) → FileIs l.count l.file image → PiecesFit image l.k;
}
