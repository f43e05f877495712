-- What an answer of a known form makes of a job.
use Rattle.std.proofs.Common.{◌≡◌, ℕ, List, ◌∷◌, None, refl, sym, subst}
use Rattle.xrf_history.specs.declared.settings.Settings.{Settings}
use Rattle.xrf_history.specs.declared.want.Want.{Want}
use Rattle.xrf_history.specs.declared.want.Want.TheVariants as want
use Rattle.xrf_history.specs.declared.answer.Answer.{Answer}
use Rattle.xrf_history.specs.Events.{Event}
use Rattle.xrf_history.specs.Answers.{gate_event, event}
use Rattle.xrf_history.specs.Working.{item_answer}
use Rattle.xrf_active.specs.declared.active.Active.{Active}
use Rattle.xrf_active.specs.Standing.{Stands}

-- a job that stands after an answer stands after the same answer
pub taken : (job : Active) (p : Settings) (h : List Event) (a b : Answer) → a ≡ b → Stands job (event p h b ∷ h) → Stands job (event p h a ∷ h)
taken job p h a b same stands = subst (λ (x : Answer). Stands job (event p h x ∷ h)) (sym same) stands

-- a look at a gate ends no item
pub gate-answer : (p : Settings) (h : List Event) (w : Want) (gate : ℕ) → item_answer p (gate_event w gate ∷ h) ≡ None
gate-answer p h (want.KpRead place) gate = refl
gate-answer p h _ gate = refl
