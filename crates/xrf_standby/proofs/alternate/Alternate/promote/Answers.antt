use Rattle.xrf_active.proofs.Alternates.{started_standby}
use Rattle.xrf_standby.proofs.Through.{starts_none}
use Rattle.xrf_standby.proofs.alternate.Alternate.promote.Goals as goal

pub returns-clause-stands : goal.returns-clause-stands
returns-clause-stands c = λ h s owner few. record {
  owner = c.promoted.ensures.stands h (record {
    shared = s.shared;
    sizes = s.rooms;
    terminals = s.terminals;
    unscanned = s.unscanned;
    was = s.was;
    owner = owner;
  });
  owns = owner;
  started = started_standby h s.was;
  few = few;
  mode = rw c.promoted.ensures.settings s.mode;
  leaves = c.is_leaving-is_leaving.ensures h s;
  starts = starts_none h s.was owner;
}
