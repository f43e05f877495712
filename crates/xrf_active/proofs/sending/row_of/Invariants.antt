use Rattle.std.proofs.Common.{◌≡◌, drop}
use Rattle.xrf_terms.specs.Table.{row_of}
use Rattle.xrf_active.proofs.sending.row_of.Given as goal

-- the rows from here on have the row of the terminal where all have it
abbrev pub invariant-loop-place : goal.invariant-loop-place
invariant-loop-place l = row_of l.term l.table ≡ row_of l.term (drop l.place l.table)
