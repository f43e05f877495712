use Rattle.xrf_history.specs.Answers.{event}
use Rattle.std.proofs.Common.{◌∷◌}
use Rattle.xrf_standby.proofs.Roles.{started_so, was_so}
use Rattle.xrf_standby.proofs.standby.Standby.take.Goals as goal

pub returns-clause-stands : goal.returns-clause-stands
returns-clause-stands c = λ h can.
    let p = c.args.self.now.settings in
    let after = event p h c.args.answer.now ∷ h in
    let role = c.take.ensures.stands p h can.stands.role can.handed in
    record {
      role = role;
      started = started_so c.take.new.self p after role;
      was = was_so c.take.new.self p after role;
    }
