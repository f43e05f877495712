use Rattle.std.proofs.Common.{◌≡◌, ◌∙◌, sym, true, false, is_some}
use Rattle.xrf_msg.specs.Numbers.{given}
use Rattle.xrf_history.specs.Holding.{number}
use Rattle.xrf_history.specs.Taking.{expected}
use Rattle.xrf_active.proofs.Alternates.{not_restarted}
use Rattle.xrf_active.proofs.Draining.{table-read}
use Rattle.xrf_standby.proofs.Reading.{reads-none, reads-some}
use Rattle.xrf_standby.proofs.alternate.Alternate.slot_read.Goals as goal

pub returns-then-not-message_read-clause-stands : goal.returns-then-not-message_read-clause-stands
returns-then-not-message_read-clause-stands c = λ h place s alt.
    let p = c.args.self.now.settings in
    let slot = c.args.slot.now in
    let running = not_restarted h s.was in
    let gave : is_some (given slot (number h) (expected h)) ≡ c.message_read.result = cc (s.shared.inc, s.shared.expected, c.message_read.ensures.gave) in
    let none : c.message_read.result ≡ false = cc in
    record {
      shared = c.message_read.ensures.stands p h place s.shared running;
      rooms = record { sizes = s.rooms.sizes; units = s.rooms.units; records = s.rooms.records; scan = s.rooms.scan };
      terminals = table-read p h place slot c.args.self.now.common.inc c.args.self.now.common.expected c.args.self.now.rooms.table c.message_read.new.table running s.shared.inc s.shared.expected s.terminals c.message_read.ensures.table;
      unscanned = s.unscanned;
      was = (tt, alt, s.was);
      through = s.through;
      at_boundary = λ none. alt;
      mode = s.mode;
      decides = s.decides;
      leaves = s.leaves;
      abandons = s.abandons;
      starts = s.starts;
      started = s.started;
      issues = s.issues;
      reads = sym (reads-none h slot (gave ∙ none));
    }

pub returns-else-not-message_read-clause-stands : goal.returns-else-not-message_read-clause-stands
returns-else-not-message_read-clause-stands c = λ h place s alt.
    let p = c.args.self.now.settings in
    let slot = c.args.slot.now in
    let running = not_restarted h s.was in
    let gave : is_some (given slot (number h) (expected h)) ≡ c.message_read.result = cc (s.shared.inc, s.shared.expected, c.message_read.ensures.gave) in
    let some : c.message_read.result ≡ true = cc in
    record {
      shared = c.message_read.ensures.stands p h place s.shared running;
      rooms = record { sizes = s.rooms.sizes; units = s.rooms.units; records = s.rooms.records; scan = s.rooms.scan };
      terminals = table-read p h place slot c.args.self.now.common.inc c.args.self.now.common.expected c.args.self.now.rooms.table c.message_read.new.table running s.shared.inc s.shared.expected s.terminals c.message_read.ensures.table;
      unscanned = s.unscanned;
      was = (tt, alt, s.was);
      through = s.through;
      at_boundary = λ none. alt;
      mode = s.mode;
      decides = s.decides;
      leaves = s.leaves;
      abandons = s.abandons;
      starts = s.starts;
      started = s.started;
      issues = s.issues;
      reads = s.reads ∙ sym (reads-some h slot (gave ∙ some));
    }
