use Rattle.std.proofs.Common.{◌≡◌, ◌∙◌, sym, subst, Some, arith}
use Rattle.std.proofs.lemmas.Grind.{common_steps}
use Rattle.xrf_job.specs.declared.stage.Stage.{Stage as At}
use Rattle.xrf_job.specs.Stages.{Within}
use Rattle.xrf_history.specs.Next.{record_for}
use Rattle.xrf_active.proofs.Granting.{is_owner-written, is_draining-written}
use Rattle.xrf_active.proofs.active.Active.control_written.Goals as goal

pub returns-clause-stands : goal.returns-clause-stands
returns-clause-stands c = λ h s at.
    let p = c.args.self.now.settings in
    let w = c.args.written.now in
    let e : record_for p h ≡ Some w = subst (λ (x : At). Within x p h) at s.shared.within in
    let owner = is_owner-written p h w s.owns s.signs_on e in
    let drains = is_draining-written h w s.owns s.starts owner in
    record {
      shared = c.control_written.ensures p h s.shared at;
      rooms = s.rooms;
      owns = owner;
      starts = grind (arith, common_steps);
      signs_on = grind (arith, common_steps);
      stays = grind (arith, common_steps);
      decides = grind (arith, common_steps);
      reads = grind (arith, common_steps);
      signs_off = s.signs_off;
      tells = s.tells;
      drops = s.drops;
      drains = s.drains ∙ sym drains;
      sends = s.sends;
      terminals = s.terminals;
      takes = s.takes;
      scanned = s.scanned;
      restarted = s.restarted;
      undoes = s.undoes;
      opens = s.opens;
      keypoint = s.keypoint;
      small = s.small;
      none_backed_out = s.none_backed_out;
      none_opened = s.none_opened;
      anchored = s.anchored;
      backs_out = s.backs_out;
      has_scanned = s.has_scanned;
      has_drained = λ r. drains ∙ s.has_drained r;
      units = s.units;
      keys = s.keys;
      plans = s.plans;
      rolls = s.rolls;
    }
