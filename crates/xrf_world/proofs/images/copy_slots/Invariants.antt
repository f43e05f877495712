-- The slots that were copied, and behind them what was there.
use Rattle.std.proofs.Common.{◌≡◌, ◌*◌, ◌++◌, take, drop}
use Rattle.std.specs.List.{flat_map}
use Rattle.xrf_gated.specs.Slots.{bytes_of}
use Rattle.xrf_world.proofs.images.copy_slots.Given as goal

abbrev pub invariant-loop-k : goal.invariant-loop-k
invariant-loop-k g l = l.into ≡ flat_map bytes_of (take l.k l.slots) ++ drop (64 * l.k) l.fn.into
