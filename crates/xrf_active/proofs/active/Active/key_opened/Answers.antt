use Rattle.std.proofs.Common.{◌∙◌, ◌+◌, ◌≤◌, length, ap, refl, arith}
use Rattle.xrf_file.specs.Ledger.{Ledger, keyed}
use Rattle.xrf_active.proofs.Small.{keypoint-small}
use Rattle.xrf_active.proofs.active.Active.key_opened.Goals as goal

pub returns-clause-stands : goal.returns-clause-stands
returns-clause-stands c = λ h s restarted is.
    let few = keypoint-small c.args.self.now.settings h s.small in
    let small : c.args.keypoint.number ≤ 16385 + length h = rw is (omega arith) in
    record {
      shared = record {
        inc = s.shared.inc;
        granted = s.shared.granted;
        rounds = s.shared.rounds;
        signalled = s.shared.signalled;
        seen = s.shared.seen;
        signal = s.shared.signal;
        watch = s.shared.watch;
        decided = s.shared.decided;
        signs_on = s.shared.signs_on;
        purpose = s.shared.purpose;
        read = s.shared.read;
        known = s.shared.known;
        room = s.shared.room;
        expected = s.shared.expected;
        stage = refl;
        within = tt;
      };
      rooms = record { sizes = s.rooms.sizes; units = ap (λ (l : Ledger). l.slots) c.keyed.ensures.keyed ∙ s.rooms.units; records = ap (λ (l : Ledger). l.records) c.keyed.ensures.keyed ∙ s.rooms.records; scan = s.rooms.scan };
      owns = s.owns;
      starts = s.starts;
      signs_on = s.signs_on;
      stays = s.stays;
      decides = s.decides;
      reads = s.reads;
      signs_off = s.signs_off;
      tells = s.tells;
      drops = s.drops;
      drains = s.drains;
      sends = s.sends;
      terminals = s.terminals;
      takes = s.takes;
      scanned = s.scanned;
      restarted = s.restarted;
      undoes = s.undoes;
      opens = s.opens;
      keypoint = refl;
      small = (small, s.small);
      none_backed_out = s.none_backed_out;
      none_opened = s.none_opened;
      anchored = λ e. absurd (cc);
      backs_out = s.backs_out;
      has_scanned = s.has_scanned;
      has_drained = s.has_drained;
      units = λ e. c.keyed.ensures.keyed ∙ ap (λ (l : Ledger). keyed l c.args.keypoint.start) (s.units e);
      keys = λ e. refl;
      plans = s.plans;
      rolls = s.rolls;
    }
