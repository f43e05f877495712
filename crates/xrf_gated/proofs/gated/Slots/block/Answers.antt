-- The loop's bytes are those of the block, slot by slot.
use Rattle.std.proofs.Common.{arith, ap, ◌∙◌, ◌+◌, ◌-◌, ◌*◌, ◌≡◌, ◌≤◌, length}
use Rattle.xrf_gated.specs.Slots.{slot_of}
use Rattle.xrf_gated.proofs.Blocks.{slots_read}
use Rattle.xrf_gated.proofs.gated.Slots.block.Goals as goal

pub returns-clause-slots : goal.returns-clause-slots
returns-clause-slots g c k below =
    let slots : c.deref.result.now ≡ c.args.self.now = c.deref.ensures.value ∙ c.self.view_is in
    let fits : 64 * c.args.b + 64 ≤ length c.deref.result.now = omega (arith, ap length slots, c.requires) in
    let is_64 : 64 * c.args.b + 64 - 64 * c.args.b ≡ 64 = omega arith in
    slots_read c.deref.result.now c.args.b c.loop-k.k (64 * c.args.b + 64 - 64 * c.args.b) c.args.into.now c.loop-k.into fits is_64 (omega arith) (omega arith) c.loop-k.invariant.0 c.loop-k.invariant.1 k below
    ∙ ap (λ s. slot_of s (64 * c.args.b + k)) slots
