-- What a turn does.
use Rattle.std.specs.Prelude.{◌≡◌, ℕ, ◌+◌, ◌-◌, ◌≤◌, Bool, true, false, ◌&&◌, ◌||◌, not, is_some, IsTrue, List, [], ◌∷◌, ◌++◌, length, reverse, Option, Some, None, Result, Ok, Err}
use Rattle.xrf_base.specs.declared.site.Site.{Site}
use Rattle.xrf_exit.specs.Exit.{is_allowed}
use Rattle.xrf_exit.specs.declared.ExitAnswer.{ExitAnswer}
use Rattle.xrf_exit.specs.declared.Notice.{Notice}
use Rattle.xrf_setup.specs.declared.choice.Choice.{Choice}
use Rattle.xrf_setup.specs.declared.choice.Choice.TheVariants.{Tick, Step, Exit}
use Rattle.xrf_setup.specs.declared.ranges.TheConstants.{CHOICES_MOST}
use Rattle.xrf_trace.specs.declared.entry.Entry.{Entry}
use Rattle.xrf_trace.specs.declared.entry.Refused.{Refused}
use Rattle.xrf_trace.specs.Runs.{outcome}
use Rattle.xrf_trace.specs.Scenario.{Scen, IsScen}
use Rattle.xrf_world.specs.Report.{is_enabled, notice_at}
use Rattle.xrf_world.specs.Runs.{Run}
use Rattle.xrf_run.specs.declared.steps.Steps.{Steps}
use Rattle.xrf_run.specs.declared.steps.Phase.{Phase}
use Rattle.xrf_run.specs.declared.turn.Turn.{Turn}
use Rattle.xrf_run.specs.declared.turn.Turn.TheVariants.{Applied, Dropped, Nothing}
use Rattle.xrf_run.specs.Answering.{MayBeSaid}
use Rattle.xrf_run.specs.Offering.{due, AreOffered}
use Rattle.xrf_run.specs.Pacing.{steps_of, steps_made, is_in_pace, may_tick, IsPaced}
use Rattle.xrf_run.specs.Threaded.{Progress, IsThreadedRun, is_full}

-- before the first choice
abbrev pub begun : Progress
begun = record { trace = []; choices = []; offered = 0 }

-- one choice more, with its entry and the lines of the plan that are offered then
abbrev pub added : Progress → Entry → Choice → ℕ → Progress
added p e c k = record { trace = e ∷ p.trace; choices = c ∷ p.choices; offered = k }

-- one line of the plan more is offered, by no choice
abbrev pub passed : Progress → Progress
passed p = record { trace = p.trace; choices = p.choices; offered = p.offered + 1 }

-- the choice is accepted, and added
abbrev pub Adds : Scen → Progress → Choice → ℕ → Progress → Type 0
Adds s old c k new = (e : Entry) × (outcome s old.trace c ≡ Ok e) × (new ≡ added old e c k)

-- The choice of a site is the exit's answer to the notice that is pending there, and where none is, a STEP.
abbrev pub IsChosenAt : (gives : Notice → ExitAnswer → Type 0) → Site → Option Notice → Choice → Type 0
IsChosenAt gives x (Some told) c = (said : ExitAnswer) × gives told said × (c ≡ Exit x said)
IsChosenAt gives x None c = c ≡ Step x

-- a site has a turn where the journal has room, and a notice is pending there or a step is in its pace and enabled
abbrev pub has_site_turn : Phase → Scen → Progress → Site → Bool
has_site_turn phase s p x =
    not (is_full p.trace)
    && (is_some (notice_at s p.trace x) || (is_in_pace phase s p.trace (steps_of (steps_made p.choices) x) && is_enabled s p.trace (Step x)))

-- A turn of a site adds its choice where it has a turn, and else changes nothing.
abbrev pub IsSiteTurn : Phase → Scen → (gives : Notice → ExitAnswer → Type 0) → Progress → Site → Turn → Progress → Type 0
IsSiteTurn phase s gives old x Applied new =
    (has_site_turn phase s old x ≡ true) × (c : Choice) × IsChosenAt gives x (notice_at s old.trace x) c × Adds s old c old.offered new
IsSiteTurn phase s gives old x Dropped new = ⊥
IsSiteTurn phase s gives old x Nothing new = (has_site_turn phase s old x ≡ false) × (new ≡ old)

-- the environment has a turn where the journal has room, and a line of the plan is due or a tick may come
abbrev pub has_environment_turn : Scen → Progress → Bool
has_environment_turn s p = not (is_full p.trace) && (is_some (due s p.trace p.offered) || may_tick s p.trace (steps_made p.choices))

-- the line that is due is refused
abbrev pub IsRefused : Scen → Progress → Type 0
IsRefused s p = (c : Choice) × (due s p.trace p.offered ≡ Some c) × (is_enabled s p.trace c ≡ false)

-- the choice of the environment is the line that is due, and where none is, a TICK
abbrev pub IsChosenAround : Scen → Progress → Option Choice → Progress → Type 0
IsChosenAround s old (Some c) new = Adds s old c (old.offered + 1) new
IsChosenAround s old None new = Adds s old Tick old.offered new

-- A turn of the environment adds its choice where it has a turn; where that is a line that is refused, it is passed.
abbrev pub IsEnvironmentTurn : Scen → Progress → Turn → Progress → Type 0
IsEnvironmentTurn s old Applied new = (has_environment_turn s old ≡ true) × IsChosenAround s old (due s old.trace old.offered) new
IsEnvironmentTurn s old Dropped new = (has_environment_turn s old ≡ true) × IsRefused s old × (new ≡ passed old)
IsEnvironmentTurn s old Nothing new = (has_environment_turn s old ≡ false) × (new ≡ old)

-- the choices so far stay, and others come behind them
abbrev pub GoesOn : Progress → Progress → Type 0
GoesOn old new = (more : List Choice) × (new.choices ≡ more ++ old.choices)

-- WITHIN A TURN. A choice is added, or it is refused and nothing changes.
abbrev pub Added : Progress → Choice → ℕ → Result Entry Refused → Bool → Progress → Type 0
Added old c k (Ok e) result new = (result ≡ true) × (new ≡ added old e c k)
Added old c k (Err reason) result new = (result ≡ false) × (new ≡ old)

-- what a choice needs to come next, with the lines of the plan that are offered then
pub record MayFollow (s : Scen) (may : ExitAnswer → Type 0) (p : Progress) (c : Choice) (k : ℕ) : Type 0 where
  pub offered : AreOffered s (c ∷ p.choices) k
  pub within : k ≤ length s.plan
  pub paced : IsPaced s (c ∷ p.choices)
  pub said : MayBeSaid may c

-- what is kept beside a run, as data
pub record IsKept (s : Scen) (p : Progress) (scenario : Scen) (steps : Steps) (pace ticks : ℕ) (plan : List (ℕ × Choice)) (capacity : ℕ) : Type 0 where
  pub scen : IsScen s
  pub scenario_is : scenario ≡ s
  pub as_many : length p.choices ≡ length p.trace
  pub few : length p.trace ≤ CHOICES_MOST
  pub steps_are : steps ≡ steps_made p.choices
  pub a_fits : steps.a ≤ length p.choices
  pub b_fits : steps.b ≤ length p.choices
  pub pace_is : pace ≡ s.settings.pace
  pub ticks_is : ticks ≡ s.settings.ticks
  pub plan_is : plan ≡ s.plan
  pub within : p.offered ≤ length s.plan
  pub capacity_is : capacity ≡ CHOICES_MOST

-- an answer is allowed for the notice that is pending at a site
abbrev pub IsPending : Scen → Progress → Site → ExitAnswer → Type 0
IsPending s p x said = (told : Notice) × (notice_at s p.trace x ≡ Some told) × IsTrue (is_allowed told said)

-- it is added
abbrev pub WasSaid : Scen → Progress → Site → ExitAnswer → Progress → Type 0
WasSaid s old x said new = Adds s old (Exit x said) old.offered new

-- a line of the plan is offered: it is added, or refused and passed
abbrev pub WasOffered : Scen → Progress → Choice → Turn → Progress → Type 0
WasOffered s old c Applied new = Adds s old c (old.offered + 1) new
WasOffered s old c Dropped new = (is_enabled s old.trace c ≡ false) × (new ≡ passed old)
WasOffered s old c Nothing new = ⊥

-- a TICK comes, or may not come
abbrev pub WasTicked : Scen → Progress → Turn → Progress → Type 0
WasTicked s old Applied new = (may_tick s old.trace (steps_made old.choices) ≡ true) × Adds s old Tick old.offered new
WasTicked s old Dropped new = ⊥
WasTicked s old Nothing new = (may_tick s old.trace (steps_made old.choices) ≡ false) × (new ≡ old)

-- a step of a site is made, or is not in its pace, or not enabled
abbrev pub may_step : Phase → Scen → Progress → Site → Bool
may_step phase s p x = is_in_pace phase s p.trace (steps_of (steps_made p.choices) x) && is_enabled s p.trace (Step x)

abbrev pub WasStepped : Phase → Scen → Progress → Site → Turn → Progress → Type 0
WasStepped phase s old x Applied new = (may_step phase s old x ≡ true) × Adds s old (Step x) old.offered new
WasStepped phase s old x Dropped new = ⊥
WasStepped phase s old x Nothing new = (may_step phase s old x ≡ false) × (new ≡ old)

-- whether a turn did something
abbrev pub did : Turn → Bool
did Applied = true
did Dropped = true
did Nothing = false

-- what is left at most to be done: choices, and lines of the plan
abbrev pub left : Scen → Progress → ℕ
left s p = (CHOICES_MOST - length p.trace) + (length s.plan - p.offered)

-- where a run by threads has come to, with its choices, the oldest first
pub record IsLive (s : Scen) (may : ExitAnswer → Type 0) (world : Run) (cs : List Choice) : Type 0 where
  pub scen : IsScen s
  pub scenario_is : world.scenario ≡ s
  pub few : length world.trace ≤ CHOICES_MOST
  pub threaded : IsThreadedRun s may world.trace (reverse cs)
