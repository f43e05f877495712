use Rattle.std.proofs.Common.{◌≡◌, drop}
use Rattle.std.specs.Prelude.{slice_get}
use Rattle.xrf_history.specs.Sending.{tracked_rows}
use Rattle.xrf_active.proofs.sending.tracked_row.Given as goal

-- the row that is wanted is that with the number left, of the rows from here on
abbrev pub invariant-loop-place : goal.invariant-loop-place
invariant-loop-place l = slice_get (tracked_rows l.table) l.k ≡ slice_get (tracked_rows (drop l.place l.table)) l.left
