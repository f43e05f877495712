use Rattle.std.proofs.Common.{◌-◌, ◌≤◌, length, take}
use Rattle.std.specs.Io.KnownBytes.{Appends}
use Rattle.xrf_edge.proofs.sink.write_all.Given as goal

-- the text up to here is written
abbrev pub invariant-loop-written : goal.invariant-loop-written
invariant-loop-written g l =
    let end = g.K.Sink.end in
    record {
      within : l.written ≤ length l.text;
      written : Appends (end l.fn.sink).bytes (end l.sink).bytes (take l.written l.text);
      count : (end l.fn.sink).faults ≤ (end l.sink).faults;
    }

abbrev pub decreases-loop-written : goal.decreases-loop-written
decreases-loop-written g l = length l.text - l.written
