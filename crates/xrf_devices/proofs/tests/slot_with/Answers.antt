use Rattle.std.proofs.Common.{◌≡◌, refl, ap, arith}
use Rattle.xrf_gated.specs.declared.gated.Slot.{Slot}
use Rattle.xrf_gated.specs.Slots.{slot_of}
use Rattle.xrf_devices.proofs.FirstLaws.{zero-slots, zero-length}
use Rattle.xrf_devices.proofs.tests.slot_with.Goals as goal

pub log_open-requires-clause-closed : goal.log_open-requires-clause-closed
log_open-requires-clause-closed c opened =
    let log = c.in_ok-log.log in
    let long = zero-length log 64 64 c.in_ok-log.ensures refl in
    let zero : (slot_of log c.args.k).gate ≡ 0 = ap (λ (s : Slot). s.gate) (zero-slots log 64 c.in_ok-log.ensures c.args.k (omega (arith, long, c.requires))) in
    let open_gate : (slot_of log c.args.k).gate ≡ 193 = opened in
    absurd (omega (arith, zero, open_gate))
