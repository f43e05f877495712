use Rattle.std.proofs.Common.{◌≡◌, ◌∙◌, ℕ, ◌+◌, true, false, sym, ap, subst, refl, ◌∷◌}
use Rattle.xrf_history.specs.declared.want.Want.TheVariants as want
use Rattle.xrf_history.specs.Events.{ActFailed}
use Rattle.xrf_history.specs.Holding.{is_owner}
use Rattle.xrf_active.specs.declared.active.Active.{Active}
use Rattle.xrf_active.specs.Standing.{Stands}
use Rattle.xrf_active.proofs.Backouts.{backed_out}
use Rattle.xrf_active.proofs.Failures.{sign_off-failed, drop-failed}
use Rattle.xrf_active.proofs.active.Active.backout_failed.Goals as goal

pub returns-clause-stands : goal.returns-clause-stands
returns-clause-stands c = λ h place at s granted running hand.
    let owner : is_owner h ≡ true = s.owns ∙ granted in
    subst (λ (job : Active). Stands job (ActFailed (want.LogOpen place c.args.rec.now) at ∷ h)) (sym c.fail.ensures) (record {
      shared = record {
        inc = s.shared.inc;
        granted = s.shared.granted;
        rounds = s.shared.rounds;
        signalled = s.shared.signalled;
        seen = s.shared.seen;
        signal = s.shared.signal;
        watch = s.shared.watch;
        decided = s.shared.decided;
        signs_on = s.shared.signs_on;
        purpose = s.shared.purpose;
        read = s.shared.read;
        known = s.shared.known;
        room = s.shared.room;
        expected = s.shared.expected;
        stage = refl;
        within = tt;
      };
      rooms = record { sizes = s.rooms.sizes; units = s.rooms.units; records = s.rooms.records; scan = s.rooms.scan };
      owns = s.owns;
      starts = s.starts;
      signs_on = s.signs_on;
      stays = λ e. absurd (cc);
      decides = s.decides;
      reads = λ e. absurd (cc);
      signs_off = sign_off-failed c.args.self.now.sign_off h false c.args.self.now.is_draining owner s.drains s.signs_off;
      tells = s.tells;
      drops = drop-failed c.args.self.now.must_drop h false c.args.self.now.is_draining owner s.drains s.drops;
      drains = s.drains;
      sends = s.sends;
      terminals = s.terminals;
      takes = s.takes;
      scanned = s.scanned;
      restarted = s.restarted;
      undoes = s.undoes;
      opens = ap (λ (n : ℕ). n + 1) s.opens;
      keypoint = s.keypoint;
      small = s.small;
      none_backed_out = λ e. absurd (cc (hand.scanned));
      none_opened = λ e. absurd (cc (hand.scanned));
      anchored = s.anchored;
      backs_out = λ e. backed_out c.args.self.now.settings h place c.args.rec.now running (s.backs_out running) hand.at_hand;
      has_scanned = s.has_scanned;
      has_drained = s.has_drained;
      units = λ e. absurd (cc);
      keys = λ e. absurd (cc);
      plans = s.plans;
      rolls = s.rolls;
    })
