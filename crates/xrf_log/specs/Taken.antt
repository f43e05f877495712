-- The records that a scan took.
use Rattle.std.specs.Prelude.{ℕ, List}
use Rattle.xrf_logrec.specs.declared.records.LogRec.{LogRec}

-- the records, newest first, and how many there may be
pub record Records : Type 0 where
  pub most : ℕ
  pub list : List LogRec
