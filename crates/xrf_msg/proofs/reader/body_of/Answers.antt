use Rattle.std.proofs.Common.{arith, take_all, length-drop, drop}
use Rattle.xrf_msg.proofs.reader.body_of.Goals as goal

pub returns : goal.returns
returns c = rw c.copy_from_slice.ensures.after (take_all 63 (drop 1 c.args.slot.now) (omega (arith, length-drop 1 c.args.slot.now, c.told-slot)))
