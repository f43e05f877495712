use Rattle.std.proofs.Common.{◌≡◌, ◌++◌, ◌+◌, drop, take}
use Rattle.std.specs.List.{AllByRecursion}
use Rattle.xrf_report.specs.Entries.{acts_text}
use Rattle.xrf_report.specs.Fits.{EntryFits}
use Rattle.xrf_report.proofs.entries.put_act_lines.Given as goal

-- the acts so far and those of the entries left are the acts
abbrev pub invariant-loop-entry : goal.invariant-loop-entry
invariant-loop-entry l = record {
  whole : l.out.items ++ acts_text l.scenario l.number (drop l.entry-index l.journal) ≡ l.fn.out.items ++ acts_text l.scenario 1 l.journal;
  fits : AllByRecursion EntryFits (take l.entry-index l.journal);
  place : l.number ≡ l.entry-index + 1;
}
