use Rattle.std.proofs.Common.{◌≡◌, ◌∙◌, sym, ap, refl, ◌∷◌, List, Option, Some}
use Rattle.xrf_base.specs.declared.items.ItemAnswer.{ItemAnswer}
use Rattle.xrf_ctl.specs.declared.parts.OwnerState.{OwnerState}
use Rattle.xrf_terms.specs.declared.rows.Row.{Row}
use Rattle.xrf_file.specs.Ledger.{Ledger}
use Rattle.xrf_history.specs.Events.{Given}
use Rattle.xrf_history.specs.Reserving.{or_else, state_by_item}
use Rattle.xrf_history.specs.Terminals.{table, terminal_answer}
use Rattle.xrf_history.specs.Working.{ledger}
use Rattle.xrf_history.specs.Next.{after_item}
use Rattle.xrf_active.specs.Changes.{off_row}
use Rattle.xrf_active.proofs.Plans.{terminal-planned, terminal-plan, terminal-answer}
use Rattle.xrf_active.proofs.active.Active.terminal_item_given.Goals as goal

pub returns-clause-stands : goal.returns-clause-stands
returns-clause-stands c = λ h s restarted.
    let p = c.args.self.now.settings in
    let item = c.args.item.now in
    let rows = c.args.self.now.rooms.table in
    let same = terminal-planned (ledger p h) item c.requires.item in
    let off : off_row item (table p h) ≡ c.off_row-off.result = sym (c.off_row-off.ensures ∙ ap (off_row item) s.terminals) in
    let said : c.terminal_answer-answer.result ≡ (terminal_answer item (table p h)).answer = c.terminal_answer-answer.ensures.answer ∙ ap (λ (r : List Row). (terminal_answer item r).answer) s.terminals in
    let after : c.terminal_answer-answer.new.table ≡ (terminal_answer item (table p h)).rows = c.terminal_answer-answer.ensures.rows ∙ ap (λ (r : List Row). (terminal_answer item r).rows) s.terminals in
    record {
      shared = record {
        inc = s.shared.inc;
        granted = s.shared.granted;
        rounds = s.shared.rounds;
        signalled = s.shared.signalled;
        seen = s.shared.seen;
        signal = s.shared.signal;
        watch = s.shared.watch;
        decided = s.shared.decided;
        signs_on = s.shared.signs_on;
        purpose = s.shared.purpose;
        read = s.shared.read;
        known = s.shared.known;
        room = s.shared.room;
        expected = s.shared.expected;
        stage = sym (ap (after_item p (Given item ∷ h)) (terminal-plan (ledger p h) item c.requires.item));
        within = tt;
      };
      rooms = record { sizes = s.rooms.sizes; units = s.rooms.units; records = s.rooms.records; scan = s.rooms.scan };
      owns = s.owns;
      starts = s.starts;
      signs_on = s.signs_on;
      stays = s.stays;
      decides = s.decides;
      reads = s.reads;
      signs_off = c.sign_off_after-self.ensures ∙ ap (λ (x : Option OwnerState). or_else x (state_by_item item)) s.signs_off;
      tells = s.tells;
      drops = s.drops;
      drains = s.drains;
      sends = c.sending_after-self.ensures h off said after s.sends;
      terminals = after;
      takes = s.takes;
      scanned = s.scanned;
      restarted = s.restarted;
      undoes = s.undoes;
      opens = s.opens;
      keypoint = s.keypoint;
      small = s.small;
      none_backed_out = s.none_backed_out;
      none_opened = s.none_opened;
      anchored = s.anchored;
      backs_out = s.backs_out;
      has_scanned = s.has_scanned;
      has_drained = s.has_drained;
      units = λ e. s.units e ∙ sym same;
      keys = λ e. ap (λ (l : Ledger). l.start) same ∙ s.keys e;
      plans = sym (terminal-plan (ledger p h) item c.requires.item);
      rolls = refl;
    }

pub returns-clause-answer : goal.returns-clause-answer
returns-clause-answer c = λ h s restarted.
    let p = c.args.self.now.settings in
    let item = c.args.item.now in
    ap (λ (a : ItemAnswer). Some a) (c.terminal_answer-answer.ensures.answer ∙ ap (λ (r : List Row). (terminal_answer item r).answer) s.terminals)
    ∙ sym (terminal-answer p h item c.requires.item)
