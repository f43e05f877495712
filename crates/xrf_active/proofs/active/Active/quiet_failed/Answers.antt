use Rattle.std.proofs.Common.{◌≡◌, ◌∙◌, sym, ap, subst, refl, ℕ, true, Bool, ◌&&◌, ◌||◌, not, ◌∷◌, drop}
use Rattle.xrf_file.specs.Ledger.{Ledger}
use Rattle.xrf_logrec.specs.declared.keypoints.Keypoint.{Keypoint}
use Rattle.xrf_log.specs.Flight.{flight}
use Rattle.xrf_history.specs.Events.{ActFailed}
use Rattle.xrf_history.specs.Holding.{is_owner, is_let_through}
use Rattle.xrf_history.specs.Restarting.{scan}
use Rattle.xrf_history.specs.Reserving.{or_else, fails_owner, sign_off_due, drop_due, fails_sending}
use Rattle.xrf_active.specs.declared.active.Active.{Active}
use Rattle.xrf_active.specs.Standing.{Stands}
use Rattle.xrf_active.proofs.Failures.{sign_off-failed, drop-failed, quiet-counts, quiet-message, sends-quiet}
use Rattle.xrf_ctl.specs.declared.parts.OwnerState.TheVariants.{OffAbend}
use Rattle.std.specs.Prelude.{if◌then◌else◌, Some, None}
use Rattle.xrf_history.specs.Taking.{is_draining}
use Rattle.xrf_active.proofs.Failures.{left-quiet}
use Rattle.xrf_active.proofs.active.Active.quiet_failed.Goals as goal

pub returns-clause-stands : goal.returns-clause-stands
returns-clause-stands c = λ h tried at s granted is.
    let p = c.args.self.now.settings in
    let b = c.args.on_message in
    let owner : is_owner h ≡ true = s.owns ∙ granted in
    let q = quiet-counts tried b at p h is in
    let on = quiet-message tried b is in
    let draining : is_draining (ActFailed tried at ∷ h) ≡ is_draining h = ap (λ (d : Bool). is_let_through h && not d) q.drains in
    subst (λ (job : Active). Stands job (ActFailed tried at ∷ h)) (sym c.fail.ensures) (record {
      shared = record {
        inc = s.shared.inc;
        granted = s.shared.granted;
        rounds = s.shared.rounds;
        signalled = s.shared.signalled;
        seen = s.shared.seen;
        signal = s.shared.signal;
        watch = s.shared.watch;
        decided = s.shared.decided;
        signs_on = s.shared.signs_on;
        purpose = s.shared.purpose;
        read = s.shared.read;
        known = s.shared.known;
        room = s.shared.room;
        expected = s.shared.expected;
        stage = refl;
        within = tt;
      };
      rooms = record { sizes = s.rooms.sizes; units = s.rooms.units; records = s.rooms.records; scan = s.rooms.scan };
      owns = s.owns;
      starts = s.starts;
      signs_on = s.signs_on;
      stays = λ e. absurd (cc);
      decides = s.decides;
      reads = λ e. absurd (cc);
      signs_off = sign_off-failed c.args.self.now.sign_off h b c.args.self.now.is_draining owner s.drains s.signs_off ∙ ap (λ (x : Bool). or_else (sign_off_due h) (if fails_owner x h then Some OffAbend else None)) on;
      tells = s.tells;
      drops = drop-failed c.args.self.now.must_drop h b c.args.self.now.is_draining owner s.drains s.drops ∙ ap (λ (x : Bool). drop_due h || fails_sending x h) on;
      drains = s.drains ∙ sym draining;
      sends = sends-quiet c.args.self.now.settings c.args.self.now.sending tried at h q s.sends;
      terminals = s.terminals;
      takes = s.takes;
      scanned = s.scanned;
      restarted = s.restarted;
      undoes = s.undoes ∙ sym q.undoes;
      opens = s.opens ∙ sym q.opens;
      keypoint = s.keypoint ∙ sym q.keys;
      small = q.small s.small;
      none_backed_out = λ e unit. q.backs_out unit ∙ s.none_backed_out e unit;
      none_opened = λ e. q.opens ∙ s.none_opened e;
      anchored = λ e. q.keys ∙ s.anchored e;
      backs_out = λ e. left-quiet p tried at h q ∙ s.backs_out e ∙ ap (λ (n : ℕ). drop n (flight (scan p h).records)) (sym q.opens);
      has_scanned = s.has_scanned;
      has_drained = λ e. draining ∙ s.has_drained e;
      units = λ e. s.units e ∙ sym q.units;
      keys = λ e. ap (λ (l : Ledger). l.start) q.units ∙ s.keys e ∙ sym (ap (λ (k : Keypoint). k.start) q.keys);
      plans = s.plans;
      rolls = s.rolls ∙ sym q.rolls;
    })
