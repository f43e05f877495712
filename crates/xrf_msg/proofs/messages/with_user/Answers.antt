use Rattle.std.proofs.Common.{[], ◌∷◌, replicate}
use Rattle.xrf_msg.specs.Messages.{head_of, state_byte}
use Rattle.xrf_msg.proofs.Joining.{regrouped}
use Rattle.xrf_msg.proofs.messages.with_user.Goals as goal

pub returns : goal.returns
returns c =
    rw (c.copy_from_slice-2.ensures.after, c.copy_from_slice.ensures.after, c.state.ensures, c.head-body.ensures)
    (regrouped (head_of c.args.kind c.args.epoch c.args.seq) c.args.term.now (c.args.class ∷ state_byte c.args.on ∷ []) c.args.user.now (replicate 36 0))
