-- What was chosen stays, turn after turn.
use Rattle.std.proofs.Common.{◌≡◌, ℕ, ◌+◌, [], ◌∷◌, ◌++◌, append_assoc, Option, Some, None, sym, ap, ◌∙◌}
use Rattle.xrf_base.specs.declared.site.Site.{Site}
use Rattle.xrf_base.specs.declared.site.Site.TheVariants.{A, B}
use Rattle.xrf_exit.specs.declared.ExitAnswer.{ExitAnswer}
use Rattle.xrf_exit.specs.declared.Notice.{Notice}
use Rattle.xrf_setup.specs.declared.choice.Choice.{Choice}
use Rattle.xrf_setup.specs.declared.choice.Choice.TheVariants.{Tick}
use Rattle.xrf_trace.specs.Scenario.{Scen}
use Rattle.xrf_run.specs.declared.steps.Phase.{Phase}
use Rattle.xrf_run.specs.declared.steps.Phase.TheVariants.{Alone}
use Rattle.xrf_run.specs.declared.turn.Turn.{Turn}
use Rattle.xrf_run.specs.declared.turn.Turn.TheVariants.{Applied, Dropped, Nothing}
use Rattle.xrf_run.specs.Offering.{due}
use Rattle.xrf_run.specs.Threaded.{Progress}
use Rattle.xrf_run.specs.Turns.{Adds, GoesOn, IsSiteTurn, IsEnvironmentTurn, IsChosenAround}

pub goes_on-both : (p q r : Progress) → GoesOn p q → GoesOn q r → GoesOn p r
goes_on-both p q r (m, first) (n, second) = (n ++ m, second ∙ (ap (λ cs. n ++ cs) first ∙ sym (append_assoc n m p.choices)))

stays : (p q : Progress) → q ≡ p → GoesOn p q
stays p q is = ([], ap (λ (x : Progress). x.choices) is)

adds-on : (s : Scen) (p q : Progress) (c : Choice) (k : ℕ) → Adds s p c k q → GoesOn p q
adds-on s p q c k (e, accepted, is) = (c ∷ [], ap (λ (x : Progress). x.choices) is)

site-on : (phase : Phase) (s : Scen) (gives : Notice → ExitAnswer → Type 0) (p q : Progress) (x : Site) (turn : Turn) → IsSiteTurn phase s gives p x turn q → GoesOn p q
site-on phase s gives p q x Applied (has, c, chosen, is) = adds-on s p q c p.offered is
site-on phase s gives p q x Dropped never = absurd never
site-on phase s gives p q x Nothing (none, is) = stays p q is

around-on : (s : Scen) (p q : Progress) (o : Option Choice) → IsChosenAround s p o q → GoesOn p q
around-on s p q (Some c) is = adds-on s p q c (p.offered + 1) is
around-on s p q None is = adds-on s p q Tick p.offered is

environment-on : (s : Scen) (p q : Progress) (turn : Turn) → IsEnvironmentTurn s p turn q → GoesOn p q
environment-on s p q Applied (has, is) = around-on s p q (due s p.trace p.offered) is
environment-on s p q Dropped (has, refused, is) = ([], ap (λ (x : Progress). x.choices) is)
environment-on s p q Nothing (none, is) = stays p q is

pub round_on : (s : Scen) (gives : Notice → ExitAnswer → Type 0) (p q r v : Progress) (e a b : Turn) → IsEnvironmentTurn s p e q → IsSiteTurn Alone s gives q A a r → IsSiteTurn Alone s gives r B b v → GoesOn p v
round_on s gives p q r v e a b first second third = goes_on-both p r v (goes_on-both p q r (environment-on s p q e first) (site-on Alone s gives q r A a second)) (site-on Alone s gives r v B b third)
