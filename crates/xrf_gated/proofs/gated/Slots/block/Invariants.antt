use Rattle.std.proofs.Common.{◌≡◌, ℕ, ◌*◌, ◌<◌, ◌++◌, length, take, drop}
use Rattle.std.specs.List.{flat_map}
use Rattle.xrf_gated.specs.Slots.{bytes_of, slot_of}
use Rattle.xrf_gated.proofs.gated.Slots.block.Given as goal

abbrev pub invariant-loop-k : goal.invariant-loop-k
invariant-loop-k g l =
    (l.into ≡ flat_map bytes_of (take l.k l.slots) ++ drop (64 * l.k) l.fn.into)
    × ((j : ℕ) → j < l.k → length (slot_of l.slots j).body ≡ 63)
