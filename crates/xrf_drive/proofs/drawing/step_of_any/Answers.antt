use Rattle.xrf_base.specs.declared.site.Site.TheVariants.{A, B}
use Rattle.xrf_drive.proofs.TurnLaws.{or_other}
use Rattle.xrf_drive.specs.Turns.{step_at}
use Rattle.xrf_drive.proofs.drawing.step_of_any.Goals as goal

pub returns : goal.returns
returns c =
    or_other c.args.world.now c.step.new.world c.step-2.new.world (step_at c.args.world.now.scenario c.args.world.now.trace A) (λ r. step_at r.scenario r.trace B)
    c.step.result c.step-2.result c.step.ensures c.if-step.false c.step-2.ensures
