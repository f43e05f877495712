-- Policies: what a closure may be asked, and what it may answer.
use Rattle.std.specs.Prelude.{IsTrue}
use Rattle.xrf_overseer.specs.declared.view.Advice.{Advice}
use Rattle.xrf_overseer.specs.declared.view.PairView.{PairView}
use Rattle.xrf_overseer.specs.Views.{advised}

-- Each advice that a closure may give for a view may be followed. gives holds of a view and an advice where a
-- call with the view may give that advice.
abbrev pub AdvicesFit : (gives : PairView → Advice → Type 0) → Type 0
AdvicesFit gives = (v : PairView) (a : Advice) → gives v a → IsTrue (advised v a)
