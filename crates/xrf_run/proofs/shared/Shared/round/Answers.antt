use Rattle.std.proofs.Common.{sym, ◌∙◌}
use Rattle.xrf_run.proofs.Going.{round_on}
use Rattle.xrf_run.proofs.Ending.{round_left, round_ends}
use Rattle.xrf_run.proofs.shared.Shared.round.Goals as goal

pub returns-clause-less : goal.returns-clause-less
returns-clause-less g c =
    λ some.
    round_left g.N.RunName.scenario (λ told said. g.F.Fn.post c.args.exit.now.closure (told, tt) said) c.args.self.now c.environment_turn-environment.new.self c.turn_of-a.new.self c.turn_of-b.new.self c.environment_turn-environment.result c.turn_of-a.result c.turn_of-b.result
    c.environment_turn-environment.ensures c.turn_of-a.ensures c.turn_of-b.ensures (sym c.any_did.ensures ∙ some)

pub returns-clause-ends : goal.returns-clause-ends
returns-clause-ends g c =
    λ none.
    round_ends g.N.RunName.scenario (λ told said. g.F.Fn.post c.args.exit.now.closure (told, tt) said) c.args.self.now c.environment_turn-environment.new.self c.turn_of-a.new.self c.turn_of-b.new.self c.environment_turn-environment.result c.turn_of-a.result c.turn_of-b.result
    c.environment_turn-environment.ensures c.turn_of-a.ensures c.turn_of-b.ensures (sym c.any_did.ensures ∙ none)

pub returns-clause-on : goal.returns-clause-on
returns-clause-on g c =
    round_on g.N.RunName.scenario (λ told said. g.F.Fn.post c.args.exit.now.closure (told, tt) said) c.args.self.now c.environment_turn-environment.new.self c.turn_of-a.new.self c.turn_of-b.new.self c.environment_turn-environment.result c.turn_of-a.result c.turn_of-b.result
    c.environment_turn-environment.ensures c.turn_of-a.ensures c.turn_of-b.ensures
