use Rattle.std.proofs.Common.{sym, ap}
use Rattle.xrf_history.specs.Notices.{number_or_none}
use Rattle.xrf_active.proofs.Alternates.{no_epoch}
use Rattle.xrf_standby.proofs.alternate.Alternate.control_read.Goals as goal

pub returns-clause-stands : goal.returns-clause-stands
returns-clause-stands c = λ h s alt. record {
  shared = c.control_read.ensures h s.shared (sym (ap number_or_none (no_epoch h s.was)));
  rooms = s.rooms;
  terminals = s.terminals;
  unscanned = s.unscanned;
  was = (tt, alt, s.was);
  through = s.through;
  at_boundary = λ none. alt;
  mode = s.mode;
  decides = s.decides;
  leaves = s.leaves;
  abandons = c.abandons-self.ensures h s;
  starts = s.starts;
  started = s.started;
  issues = s.issues;
  reads = s.reads;
}
