use Rattle.std.proofs.Common.{inr, ◌∙◌}
use Rattle.xrf.specs.declared.status.Status.TheVariants.{Refused}
use Rattle.xrf.proofs.AnswerLaws.{same-text}
use Rattle.xrf.proofs.top.refuse.Goals as goal

pub returns-in-Ok : goal.returns-in-Ok
returns-in-Ok g c = inr (same-text _ _ c.deref.result.now _ Refused c.write_text.result (c.deref.ensures.value ∙ c.in-Ok.ensures) c.write_text.ensures)
