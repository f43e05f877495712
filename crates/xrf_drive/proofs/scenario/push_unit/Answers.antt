use Rattle.std.proofs.Common.{refl}
use Rattle.xrf_drive.proofs.ValueLaws.{is_put}
use Rattle.xrf_drive.proofs.scenario.push_unit.Goals as goal

pub value-requires : goal.value-requires
value-requires c = is_put 86 c.args.number c.args.site refl c.requires
