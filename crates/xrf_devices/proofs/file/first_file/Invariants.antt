use Rattle.std.proofs.Common.{◌≡◌, ◌-◌, ◌*◌, length, drop}
use Rattle.xrf_base.specs.Values.{slot_of}
use Rattle.xrf_trace.specs.Scenario.{value_in}
use Rattle.xrf_devices.specs.Standing.{FileIs}
use Rattle.xrf_devices.proofs.file.first_file.Given as goal

-- the last records are written
abbrev pub invariant-loop-done : goal.invariant-loop-done
invariant-loop-done l = record {
  file : FileIs l.records l.file (λ i. slot_of (value_in (drop (length l.first - l.done) l.first) i));
  size : length l.file ≡ 32 * l.records;
}
