use Rattle.std.proofs.Common.{sym, ◌∙◌}
use Rattle.xrf_base.proofs.SlotLaws.{empty_slot}
use Rattle.xrf_base.proofs.values.held.Goals as goal

pub returns-then-is_zero_from : goal.returns-then-is_zero_from
returns-then-is_zero_from c =
    empty_slot c.args.slot.now c.read_u64-front.result c.told-slot c.fits-slot c.read_u64-front.ensures c.if-front-eq0.true (sym c.is_zero_from.ensures ∙ c.if-is_zero_from.true)
