-- What is left to find stands in the puts that are left.
use Rattle.std.proofs.Common.{◌≡◌, ◌-◌, length, reverse, take}
use Rattle.std.specs.Prelude.{slice_get}
use Rattle.xrf_file.specs.Rows.{undo_of}
use Rattle.xrf_file.proofs.rows.nth_undo.Given as goal

abbrev pub invariant-loop-i : goal.invariant-loop-i
invariant-loop-i l = slice_get (undo_of l.unit (reverse (take (length l.puts - l.i) l.puts))) l.left ≡ slice_get (undo_of l.unit (reverse l.puts)) l.fn.k
