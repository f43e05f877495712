-- What the rest of the slots gives on top of the records so far is what all of them give.
use Rattle.std.proofs.Common.{◌≡◌, ◌+◌, ◌-◌, length}
use Rattle.xrf_gated.specs.Slots.{slot_in}
use Rattle.xrf_log.specs.Scan.{run_of}
use Rattle.xrf_log.proofs.reading.read_run.Given as goal

abbrev pub invariant-loop-i : goal.invariant-loop-i
invariant-loop-i l =
    (run_of (slot_in l.block) (l.reach - l.i) (l.place + l.i) (l.next + l.i) l.taken.list ≡ run_of (slot_in l.block) l.reach l.place l.next l.fn.taken.list)
    × (l.taken.most ≡ l.fn.taken.most)
    × (length l.taken.list ≡ length l.fn.taken.list + l.i)
