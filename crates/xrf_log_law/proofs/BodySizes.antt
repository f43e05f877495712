-- What lands of a body has 63 bytes.
use Rattle.std.proofs.Common.{arith, length, length-append, refl, replicate, ◌≡◌, ℕ}
use Rattle.xrf_logrec.specs.declared.records.LogRec.TheVariants.{Backout, Commit, Put}
use Rattle.xrf_logrec.specs.LogRecords.{IsLogRecord, spelling}
use Rattle.xrf_logrec.specs.declared.records.LogRec.{LogRec}
use Rattle.xrf_logrec.specs.declared.keypoints.Keypoint.{Keypoint}
use Rattle.xrf_logrec.specs.Keypoints.{key_spelling}
use Rattle.xrf_trace.specs.declared.entry.Land.{Land}
use Rattle.xrf_trace.proofs.ByKind.{LandFits}
use Rattle.xrf_trace.specs.declared.entry.Act.{Act}
use Rattle.xrf_log_law.specs.Jobs.{IsSized, InRange}
use Rattle.xrf_setup.specs.declared.choice.Landing.TheVariants as landing
use Rattle.xrf_trace.specs.declared.entry.Act.TheVariants as act
use Rattle.xrf_trace.specs.declared.entry.Land.TheVariants as land

-- the body of a record has 63 bytes
count-log : (place : ℕ) (rec : LogRec) → IsLogRecord rec → length (spelling place rec) ≡ 63
count-log place (Put unit rrn before) ok =
    omega (arith, ok.1.size, length-append before (replicate 16 0))
count-log place (Commit unit) ok = refl
count-log place (Backout unit) ok = refl

-- so has that of a keypoint
count-key : (keypoint : Keypoint) → length (key_spelling keypoint) ≡ 63
count-key keypoint = refl

-- what lands of a record's body
sized-log : (l : Land) (place : ℕ) (rec : LogRec) → IsLogRecord rec → LandFits l (act.LogBody place rec) → IsSized l (act.LogBody place rec)
sized-log land.Full place rec ok fits = count-log place rec ok
sized-log land.Lost place rec ok fits = tt
sized-log (land.Stop landing.Nothing) place rec ok fits = tt
sized-log (land.Stop landing.All) place rec ok fits = count-log place rec ok
sized-log (land.Stop (landing.Torn bytes)) place rec ok fits = fits
sized-log (land.Fail landing.Nothing) place rec ok fits = tt
sized-log (land.Fail landing.All) place rec ok fits = count-log place rec ok
sized-log (land.Fail (landing.Torn bytes)) place rec ok fits = fits

-- what lands of a keypoint's body
sized-key : (l : Land) (k : ℕ) (keypoint : Keypoint) → LandFits l (act.KpBody k keypoint) → IsSized l (act.KpBody k keypoint)
sized-key land.Full k keypoint fits = count-key keypoint
sized-key land.Lost k keypoint fits = tt
sized-key (land.Stop landing.Nothing) k keypoint fits = tt
sized-key (land.Stop landing.All) k keypoint fits = count-key keypoint
sized-key (land.Stop (landing.Torn bytes)) k keypoint fits = fits
sized-key (land.Fail landing.Nothing) k keypoint fits = tt
sized-key (land.Fail landing.All) k keypoint fits = count-key keypoint
sized-key (land.Fail (landing.Torn bytes)) k keypoint fits = fits

-- what lands of any body
pub sized : (l : Land) (a : Act) → InRange a → LandFits l a → IsSized l a
sized l (act.LogBody place rec) ranged fits = sized-log l place rec ranged fits
sized l (act.KpBody k keypoint) ranged fits = sized-key l k keypoint fits
sized l _ ranged fits = tt
