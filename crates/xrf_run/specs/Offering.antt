-- Which lines of the plan were offered.
use Rattle.std.specs.Prelude.{◌≡◌, ℕ, ◌+◌, false, nat_le, List, [], ◌∷◌, reverse, slice_get, Option, Some, None, Ok, if◌then◌else◌}
use Rattle.xrf_base.specs.declared.site.Site.{Site}
use Rattle.xrf_exit.specs.declared.ExitAnswer.{ExitAnswer}
use Rattle.xrf_setup.specs.declared.choice.Choice.{Choice}
use Rattle.xrf_setup.specs.declared.choice.Choice.TheVariants.{Tick, Step, Exit}
use Rattle.xrf_trace.specs.declared.entry.Entry.{Entry}
use Rattle.xrf_trace.specs.Runs.{run}
use Rattle.xrf_trace.specs.Scenario.{Scen}
use Rattle.xrf_trace.specs.Words.{now}
use Rattle.xrf_world.specs.Report.{is_enabled}

-- a trace is that of the run of some choices, the newest first
abbrev pub IsRunOf : Scen → List Choice → List Entry → Type 0
IsRunOf s cs t = run s (reverse cs) ≡ Ok t

-- the choice of a planned line whose tick has come
abbrev pub due_of : ℕ → Option (ℕ × Choice) → Option Choice
due_of tick None = None
due_of tick (Some line) = if nat_le line.0 tick then Some line.1 else None

-- the planned choice that is due behind the first k lines of the plan
abbrev pub due : Scen → List Entry → ℕ → Option Choice
due s t k = due_of (now t) (slice_get s.plan k)

-- By some choices, the newest first, the first k lines of the plan were offered: at the beginning none. A STEP and an
-- EXIT change nothing of it. A TICK comes only where no line is due. A line that is due is offered: it is the choice
-- that is made, or it is refused, and no choice is made.
pub data AreOffered (s : Scen) : List Choice → ℕ → Type 0 where
  none_yet : AreOffered s [] 0
  by_step : (cs : List Choice) (k : ℕ) (x : Site) → AreOffered s cs k → AreOffered s (Step x ∷ cs) k
  by_exit : (cs : List Choice) (k : ℕ) (x : Site) (said : ExitAnswer) → AreOffered s cs k → AreOffered s (Exit x said ∷ cs) k
  by_tick : (cs : List Choice) (k : ℕ) (t : List Entry) → AreOffered s cs k → IsRunOf s cs t → due s t k ≡ None → AreOffered s (Tick ∷ cs) k
  taken : (cs : List Choice) (k : ℕ) (t : List Entry) (c : Choice) → AreOffered s cs k → IsRunOf s cs t → due s t k ≡ Some c → AreOffered s (c ∷ cs) (k + 1)
  refused : (cs : List Choice) (k : ℕ) (t : List Entry) (c : Choice) → AreOffered s cs k → IsRunOf s cs t → due s t k ≡ Some c → is_enabled s t c ≡ false → AreOffered s cs (k + 1)
