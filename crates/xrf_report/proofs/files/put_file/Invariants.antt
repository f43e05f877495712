use Rattle.std.proofs.Common.{◌≡◌, ◌++◌, ℕ, List, length}
use Rattle.xrf_devices.specs.Standing.{FileIs}
use Rattle.xrf_report.specs.Files.{file_text}
use Rattle.xrf_report.specs.Fits.{RecordsFit}
use Rattle.xrf_report.proofs.files.put_file.Given as goal

-- as many slots as were counted
abbrev pub invariant-loop-k : goal.invariant-loop-k
invariant-loop-k l = record {
  whole : (image : ℕ → List ℕ) → FileIs l.count l.file image → l.out.items ≡ l.fn.out.items ++ file_text image l.k;
  fits : (image : ℕ → List ℕ) → FileIs l.count l.file image → RecordsFit image l.k;
}
