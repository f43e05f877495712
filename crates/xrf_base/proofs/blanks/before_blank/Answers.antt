use Rattle.std.proofs.Common.{sym, ◌∙◌}
use Rattle.xrf_base.proofs.Texts.{position-some, position-none}
use Rattle.xrf_base.proofs.blanks.before_blank.Goals as goal

pub returns-in-Some : goal.returns-in-Some
returns-in-Some c = position-some _ _ _ (sym c.first_blank.ensures ∙ c.in-Some.is)

pub returns-in-None : goal.returns-in-None
returns-in-None c = position-none _ _ (sym c.first_blank.ensures ∙ c.in-None.is)
