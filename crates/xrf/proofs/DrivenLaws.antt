-- What is written of a generated run is its summary.
use Rattle.std.proofs.Common.{inl, inr, List, ℕ, sym, subst}
use Rattle.xrf_edge.specs.Ends.{End}
use Rattle.xrf.specs.Answer.{WritesText}
use Rattle.xrf.specs.Driven.{Driven, IsSummary}
use Rattle.xrf.specs.declared.drive_words.Asked.{Asked}
use Rattle.xrf.specs.declared.status.Status.{Status}
use Rattle.xrf.specs.declared.status.Status.TheVariants.{Done}

pub driven : (asked : Asked) (sink sink' : End) (text : List ℕ) (status : Status) → IsSummary asked text → WritesText sink sink' text Done status → Driven asked sink sink' status
driven asked sink sink' text status is (inl written) = subst (Driven asked sink sink') (sym written.0) (record { text = text; is = is; grown = written.1 })
driven asked sink sink' text status is (inr failed) = subst (Driven asked sink sink') (sym failed.0) (record { cause = failed.1; text = text; is = is; grown = failed.2 })
