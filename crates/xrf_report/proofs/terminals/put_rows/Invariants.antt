use Rattle.std.proofs.Common.{◌≡◌, ◌++◌, take, drop}
use Rattle.std.specs.List.{AllByRecursion}
use Rattle.xrf_report.specs.Fits.{RowFits}
use Rattle.xrf_report.specs.Terminals.{rows_text}
use Rattle.xrf_report.proofs.terminals.put_rows.Given as goal

-- the rows so far and those that are left are the rows
abbrev pub invariant-loop-k : goal.invariant-loop-k
invariant-loop-k l = record {
  whole : l.out.items ++ rows_text l.xrf l.site (drop l.k l.table) ≡ l.fn.out.items ++ rows_text l.xrf l.site l.table;
  fits : AllByRecursion RowFits (take l.k l.table);
}
