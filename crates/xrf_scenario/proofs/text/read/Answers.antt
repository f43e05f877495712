use Rattle.xrf_scenario.proofs.HeldLaws.{read-found, read-bad}
use Rattle.xrf_scenario.proofs.SaidLaws.{past-whole}
use Rattle.xrf_scenario.proofs.text.read.Goals as goal

pub parts-requires : goal.parts-requires
parts-requires c = past-whole c.in-Ok.reading.section c.in-Ok.ensures.whole

pub returns-in_ok-parts-in-Ok-clause-found : goal.returns-in_ok-parts-in-Ok-clause-found
returns-in_ok-parts-in-Ok-clause-found c =
    read-found c.args.text.now c.in-Ok.reading _ _ c.in-Ok.ensures.gives c.in_ok-parts-in-Ok.ensures.scenario c.in_ok-parts-in-Ok.ensures.choices

pub returns-in-Err-clause-bad : goal.returns-in-Err-clause-bad
returns-in-Err-clause-bad c = read-bad c.args.text.now c.in-Err.bad c.in-Err.ensures.gives
