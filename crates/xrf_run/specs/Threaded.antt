-- The threaded run of a scenario.
use Rattle.std.specs.Prelude.{◌≡◌, ℕ, Bool, true, ◌&&◌, ◌||◌, nat_le, is_none, List, length}
use Rattle.std.specs.List.{AllByRecursion}
use Rattle.xrf_base.specs.declared.site.Site.TheVariants.{A, B}
use Rattle.xrf_exit.specs.declared.ExitAnswer.{ExitAnswer}
use Rattle.xrf_setup.specs.declared.choice.Choice.{Choice}
use Rattle.xrf_setup.specs.declared.ranges.TheConstants.{CHOICES_MOST}
use Rattle.xrf_trace.specs.declared.entry.Entry.{Entry}
use Rattle.xrf_trace.specs.Scenario.{Scen}
use Rattle.xrf_trace.specs.Words.{now}
use Rattle.xrf_world.specs.Report.{is_at_rest}
use Rattle.xrf_run.specs.Answering.{MayBeSaid}
use Rattle.xrf_run.specs.Offering.{IsRunOf, due, AreOffered}
use Rattle.xrf_run.specs.Pacing.{IsPaced}

-- how far a threaded run is: its trace, its choices, the newest first, and how many lines of the plan were offered
pub record Progress : Type 0 where
  pub trace : List Entry
  pub choices : List Choice
  pub offered : ℕ

-- What a threaded run keeps: its trace is the run of its choices, the lines of the plan were offered in their order, each
-- at its tick, its steps and ticks were paced, and each EXIT is an answer that may be given.
pub record IsThreaded (s : Scen) (may : ExitAnswer → Type 0) (p : Progress) : Type 0 where
  pub run : IsRunOf s p.choices p.trace
  pub offered : AreOffered s p.choices p.offered
  pub paced : IsPaced s p.choices
  pub said : AllByRecursion (MayBeSaid may) p.choices

-- A journal is full with 8,192 entries.
abbrev pub is_full : List Entry → Bool
is_full t = nat_le CHOICES_MOST (length t)

-- A threaded run has ended where its journal is full, or its last tick has come, both sites are at rest, and no line of
-- the plan is due.
abbrev pub has_ended : Scen → List Entry → ℕ → Bool
has_ended s t k = is_full t || (nat_le s.settings.ticks (now t) && is_at_rest s t A && is_at_rest s t B && is_none (due s t k))

-- a threaded run from its beginning to its end
abbrev pub IsThreadedRun : Scen → (may : ExitAnswer → Type 0) → List Entry → List Choice → Type 0
IsThreadedRun s may t cs = (k : ℕ) × IsThreaded s may (record { trace = t; choices = cs; offered = k }) × (has_ended s t k ≡ true)
