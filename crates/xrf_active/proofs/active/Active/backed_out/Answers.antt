use Rattle.std.proofs.Common.{ℕ, ◌+◌, ap, refl}
use Rattle.xrf_active.proofs.Backouts.{backed_out}
use Rattle.xrf_active.proofs.active.Active.backed_out.Goals as goal

pub returns-clause-stands : goal.returns-clause-stands
returns-clause-stands c = λ h s running hand.
    record {
      shared = record {
        inc = s.shared.inc;
        granted = s.shared.granted;
        rounds = s.shared.rounds;
        signalled = s.shared.signalled;
        seen = s.shared.seen;
        signal = s.shared.signal;
        watch = s.shared.watch;
        decided = s.shared.decided;
        signs_on = s.shared.signs_on;
        purpose = s.shared.purpose;
        read = s.shared.read;
        known = s.shared.known;
        room = s.shared.room;
        expected = s.shared.expected;
        stage = rw running refl;
        within = tt;
      };
      rooms = record { sizes = s.rooms.sizes; units = s.rooms.units; records = s.rooms.records; scan = s.rooms.scan };
      owns = s.owns;
      starts = s.starts;
      signs_on = s.signs_on;
      stays = s.stays;
      decides = s.decides;
      reads = s.reads;
      signs_off = s.signs_off;
      tells = s.tells;
      drops = s.drops;
      drains = s.drains;
      sends = s.sends;
      terminals = s.terminals;
      takes = s.takes;
      scanned = s.scanned;
      restarted = s.restarted;
      undoes = s.undoes;
      opens = ap (λ (n : ℕ). n + 1) s.opens;
      keypoint = s.keypoint;
      small = s.small;
      none_backed_out = λ e. absurd (cc (hand.scanned));
      none_opened = λ e. absurd (cc (hand.scanned));
      anchored = s.anchored;
      backs_out = λ e. backed_out c.args.self.now.settings h c.args.place c.args.rec.now running (s.backs_out running) hand.at_hand;
      has_scanned = s.has_scanned;
      has_drained = s.has_drained;
      units = λ e. absurd (cc);
      keys = λ e. absurd (cc);
      plans = s.plans;
      rolls = s.rolls;
    }
