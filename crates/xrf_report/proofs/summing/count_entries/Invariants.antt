use Rattle.std.proofs.Common.{◌≡◌, ◌≤◌, take, reverse}
use Rattle.xrf_cavm.specs.Record.{inc_of_owner}
use Rattle.xrf_report.specs.Summary.{stops, throughs}
use Rattle.xrf_trace.specs.Devices as trace
use Rattle.xrf_report.proofs.summing.count_entries.Given as goal

-- what the entries so far count to, and the owner after them
abbrev pub invariant-loop-entry : goal.invariant-loop-entry
invariant-loop-entry l = record {
  stops : l.stops ≡ stops (reverse (take l.entry-index l.journal));
  throughs : l.throughs ≡ throughs (reverse (take l.entry-index l.journal));
  owner : inc_of_owner (trace.control (reverse (take l.entry-index l.journal))).owner ≡ l.owner;
  few_stops : l.stops ≤ l.entry-index;
  few_throughs : l.throughs ≤ l.entry-index;
}
