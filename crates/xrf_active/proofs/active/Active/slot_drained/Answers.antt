use Rattle.std.proofs.Common.{◌≡◌, ◌∙◌, sym, ap, true, false, Bool, ◌&&◌, is_some}
use Rattle.xrf_msg.specs.Numbers.{given}
use Rattle.xrf_history.specs.Holding.{number}
use Rattle.xrf_history.specs.Taking.{gives, expected}
use Rattle.xrf_active.proofs.Draining.{draining-read, table-read}
use Rattle.xrf_active.proofs.active.Active.slot_drained.Goals as goal

pub returns-then-not-message_read-clause-stands : goal.returns-then-not-message_read-clause-stands
returns-then-not-message_read-clause-stands c = λ h place s drains running.
    let p = c.args.self.now.settings in
    let slot = c.args.slot.now in
    let gave : is_some (given slot (number h) (expected h)) ≡ c.message_read.result = cc (s.shared.inc, s.shared.expected, c.message_read.ensures.gave) in
    let none : c.message_read.result ≡ false = cc in
    let drained = draining-read h place slot drains ∙ gave ∙ none in
    record {
      shared = c.message_read.ensures.stands p h place s.shared running;
      rooms = record { sizes = s.rooms.sizes; units = s.rooms.units; records = s.rooms.records; scan = s.rooms.scan };
      owns = s.owns;
      starts = s.starts;
      signs_on = s.signs_on;
      stays = s.stays;
      decides = s.decides;
      reads = λ e. ap (λ (b : Bool). b && gives slot h) (s.reads e);
      signs_off = s.signs_off;
      tells = s.tells;
      drops = s.drops;
      drains = sym drained;
      sends = s.sends;
      terminals = table-read p h place slot c.args.self.now.common.inc c.args.self.now.common.expected c.args.self.now.rooms.table c.message_read.new.table running s.shared.inc s.shared.expected s.terminals c.message_read.ensures.table;
      takes = s.takes;
      scanned = s.scanned;
      restarted = s.restarted;
      undoes = s.undoes;
      opens = s.opens;
      keypoint = s.keypoint;
      small = s.small;
      none_backed_out = s.none_backed_out;
      none_opened = s.none_opened;
      anchored = s.anchored;
      backs_out = s.backs_out;
      has_scanned = s.has_scanned;
      has_drained = λ e. drained;
      units = s.units;
      keys = s.keys;
      plans = s.plans;
      rolls = s.rolls;
    }

pub returns-else-not-message_read-clause-stands : goal.returns-else-not-message_read-clause-stands
returns-else-not-message_read-clause-stands c = λ h place s drains running.
    let p = c.args.self.now.settings in
    let slot = c.args.slot.now in
    let gave : is_some (given slot (number h) (expected h)) ≡ c.message_read.result = cc (s.shared.inc, s.shared.expected, c.message_read.ensures.gave) in
    let some : c.message_read.result ≡ true = cc in
    let drained = draining-read h place slot drains ∙ gave ∙ some in
    record {
      shared = c.message_read.ensures.stands p h place s.shared running;
      rooms = record { sizes = s.rooms.sizes; units = s.rooms.units; records = s.rooms.records; scan = s.rooms.scan };
      owns = s.owns;
      starts = s.starts;
      signs_on = s.signs_on;
      stays = s.stays;
      decides = s.decides;
      reads = λ e. ap (λ (b : Bool). b && gives slot h) (s.reads e);
      signs_off = s.signs_off;
      tells = s.tells;
      drops = s.drops;
      drains = s.drains ∙ drains ∙ sym drained;
      sends = s.sends;
      terminals = table-read p h place slot c.args.self.now.common.inc c.args.self.now.common.expected c.args.self.now.rooms.table c.message_read.new.table running s.shared.inc s.shared.expected s.terminals c.message_read.ensures.table;
      takes = s.takes;
      scanned = s.scanned;
      restarted = s.restarted;
      undoes = s.undoes;
      opens = s.opens;
      keypoint = s.keypoint;
      small = s.small;
      none_backed_out = s.none_backed_out;
      none_opened = s.none_opened;
      anchored = s.anchored;
      backs_out = s.backs_out;
      has_scanned = s.has_scanned;
      has_drained = λ e. absurd (cc);
      units = s.units;
      keys = s.keys;
      plans = s.plans;
      rolls = s.rolls;
    }
