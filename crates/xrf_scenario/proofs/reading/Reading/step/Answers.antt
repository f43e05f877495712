use Rattle.std.proofs.Common.{Result, sym, subst}
use Rattle.xrf_grammar.proofs.FoundLaws.{choosing_found}
use Rattle.xrf_grammar.specs.declared.line.Line.TheVariants.{Once}
use Rattle.xrf_grammar.specs.declared.reason.Reason.{Reason}
use Rattle.xrf_text.specs.Text.{words}
use Rattle.xrf_scenario.specs.Outcomes.{Takes}
use Rattle.xrf_scenario.specs.SoFar.{SoFar}
use Rattle.xrf_scenario.proofs.AgainLaws.{taken_again}
use Rattle.xrf_scenario.proofs.reading.Reading.step.Goals as goal

-- the same line once more says the same choice
pub take_choice-requires-clause-choice : goal.take_choice-requires-clause-choice
take_choice-requires-clause-choice c = choosing_found (words c.args.line.now) (Once c.in-Some.choice) c.in-Some.ensures.1.spelled

pub returns-in-Some : goal.returns-in-Some
returns-in-Some c =
    subst (λ (r : Result SoFar Reason). Takes c.take_choice.result c.args.self.now c.take_choice.new.self r)
    (sym (taken_again c.args.number c.args.self.now c.args.line.now c.in-Some.choice c.in-Some.ensures.0 c.in-Some.ensures.1)) c.take_choice.ensures
