use Rattle.std.proofs.Common.{◌∷◌, subst}
use Rattle.xrf_cavm.specs.declared.decisions.Decided.{Decided}
use Rattle.xrf_history.specs.Events.{DecisionMade}
use Rattle.xrf_standby.specs.Alternate.{Stands}
use Rattle.xrf_standby.proofs.alternate.Alternate.decision_made.Goals as goal

pub returns-clause-stands : goal.returns-clause-stands
returns-clause-stands c = λ h s alt.
    subst (λ (d : Decided). Stands c.decided_so.new.self (DecisionMade c.args.known c.args.at d ∷ h)) (c.cause-decided.ensures.cause h s alt)
    (c.decided_so.ensures.stands h c.args.known s alt c.cause-decided.ensures.none)
