use Rattle.std.proofs.Common.{◌≡◌, ◌++◌, ℕ}
use Rattle.xrf_gated.specs.declared.gated.Slot.{Slot}
use Rattle.xrf_devices.specs.Standing.{SlotsAre}
use Rattle.xrf_report.specs.Fits.{SlotsFit}
use Rattle.xrf_report.specs.Images.{slots_text}
use Rattle.xrf_report.proofs.images.put_slots.Given as goal

-- as many slots as were counted
abbrev pub invariant-loop-k : goal.invariant-loop-k
invariant-loop-k g l = record {
  whole : (slot : ℕ → Slot) → SlotsAre l.slots slot → l.out.items ≡ l.fn.out.items ++ slots_text l.name l.at slot l.k;
  fits : (slot : ℕ → Slot) → SlotsAre l.slots slot → SlotsFit slot l.k;
}
