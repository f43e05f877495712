use Rattle.xrf_drive.proofs.UnitLaws.{made-is}
use Rattle.xrf_drive.proofs.scenario.generated.Goals as goal

pub new-requires-4 : goal.new-requires-4
new-requires-4 c =
    made-is c.settings.result c.new.result.items c.new-2.result c.in_ok-work.field-0.items c.in_ok-work-2.field-0.items c.new-3.result.items
    c.settings.ensures c.new.ensures.items c.new-2.ensures c.in_ok-work.ensures c.in_ok-work-2.ensures c.new-3.ensures.items
