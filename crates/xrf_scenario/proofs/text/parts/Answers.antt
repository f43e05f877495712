use Rattle.std.proofs.Common.{refl, ◌∙◌, ap}
use Rattle.xrf_scenario.proofs.HeldLaws.{choices-held, scenario-held}
use Rattle.xrf_scenario.specs.Held.{held}
use Rattle.xrf_scenario.specs.Said.{is_past}
use Rattle.xrf_scenario.specs.SoFar.{SoFar}
use Rattle.xrf_scenario.proofs.text.parts.Goals as goal

pub new-scenario-requires : goal.new-scenario-requires
new-scenario-requires c =
    scenario-held (held c.reading.inside) c.settled-settings.result c.in_ok-records.records.items c.deref.result.now c.settled-settings.ensures c.in_ok-records.ensures c.deref.ensures.value
    c.reading.invariant (ap (λ (so : SoFar). is_past so.section) c.reading.view_is ∙ c.requires)

pub returns-clause-lines : goal.returns-clause-lines
returns-clause-lines c = choices-held (held c.reading.inside) c.reading.inside.choices.items refl c.reading.invariant
