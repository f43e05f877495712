use Rattle.std.proofs.Common.{◌-◌, ◌≤◌, length}
use Rattle.std.specs.Io.KnownBytes.{Consumes}
use Rattle.xrf_edge.proofs.source.read_all.Given as goal

-- the bytes so far were taken, and they are not too many
abbrev pub invariant-loop-n : goal.invariant-loop-n
invariant-loop-n g l =
    let end = g.S.Source.end in
    record {
      allowed : length l.bytes.items ≤ l.max;
      taken : Consumes (end l.fn.source).bytes (end l.source).bytes l.bytes.items;
      count : (end l.fn.source).faults ≤ (end l.source).faults;
    }

abbrev pub decreases-loop-n : goal.decreases-loop-n
decreases-loop-n g l = l.max - length l.bytes.items
