-- The generated run of a seed.
use Rattle.std.specs.Prelude.{◌≡◌, ℕ, zero, suc, List, [], ◌∷◌, ◌++◌, length, Result, Ok, Err}
use Rattle.rand_pcg.specs.Lcg.{Lcg, started, increment_of}
use Rattle.rand_pcg.specs.Pcg.{multiplier_64, pcg32}
use Rattle.xrf_setup.specs.declared.choice.Choice.{Choice}
use Rattle.xrf_trace.specs.declared.entry.Entry.{Entry}
use Rattle.xrf_trace.specs.declared.entry.Refused.{Refused}
use Rattle.xrf_trace.specs.Promises.{Promises}
use Rattle.xrf_trace.specs.Runs.{outcome, run}
use Rattle.xrf_trace.specs.Safe.{Safe}
use Rattle.xrf_trace.specs.Scenario.{Scen}
use Rattle.xrf_drive.specs.declared.driving.TheConstants.{STREAM}
use Rattle.xrf_drive.specs.Scenario.{generated}
use Rattle.xrf_drive.specs.Turns.{turn}

-- the generator of a seed: `Lcg64Xsh32::new(seed, 54)`
abbrev pub first_generator : ℕ → Lcg
first_generator seed = started 64 multiplier_64 seed (increment_of 64 STREAM)

-- what some turns come to: the generator behind them, their choices in order, and the trace, the newest entry first
pub record Turns : Type 0 where
  pub generator : Lcg
  pub choices : List Choice
  pub trace : List Entry

abbrev pub trace_with : List Entry → Result Entry Refused → List Entry
trace_with t (Ok e) = e ∷ t
trace_with t (Err reason) = t

-- A turn more: the next word of the generator gives a choice, which is made. It is never refused.
abbrev pub with_choice : Scen → Turns → Lcg → Choice → Turns
with_choice s so generator c = record { generator = generator; choices = so.choices ++ c ∷ []; trace = trace_with so.trace (outcome s so.trace c) }

abbrev pub turned : Scen → Turns → Turns
turned s so = with_choice s so (pcg32 so.generator).1 (turn s so.trace (pcg32 so.generator).0)

-- so many turns in a scenario, from a generator on
unfoldable pub turns_of : Scen → Lcg → ℕ → Turns
turns_of s generator zero = record { generator = generator; choices = []; trace = [] }
turns_of s generator (suc n) = turned s (turns_of s generator n)

-- the choices of so many turns of the generated run of a seed
abbrev pub drawn : ℕ → ℕ → List Choice
drawn seed turns = (turns_of generated (first_generator seed) turns).choices

-- THE GENERATED RUN: the choices that are drawn are a run of the generated scenario, with an entry for each turn, and its
-- trace is safe and keeps the promises.
pub record IsGenerated (seed turns : ℕ) (t : List Entry) : Type 0 where
  pub is_run : run generated (drawn seed turns) ≡ Ok t
  pub count : length t ≡ turns
  pub safe : Safe generated t
  pub keeps : Promises generated t
