use Rattle.xrf.specs.declared.status.Status.TheVariants.{Done}
use Rattle.xrf.proofs.AnswerLaws.{same-text}
use Rattle.xrf.proofs.DrivenLaws.{driven}
use Rattle.xrf.proofs.driven.drive.Goals as goal

pub returns-in-Ok : goal.returns-in-Ok
returns-in-Ok g c =
    driven c.args.asked _ _ c.in-Ok.text.items c.write_text.result c.in-Ok.ensures (same-text _ _ c.deref.result.now _ Done c.write_text.result c.deref.ensures.value c.write_text.ensures)
