-- What the parts of a turn, and some turns, leave of a World.
use Rattle.std.specs.Prelude.{◌≡◌, ℕ, Bool, true, false, length, Option, Some, None, Ok}
use Rattle.xrf_setup.specs.declared.choice.Choice.{Choice}
use Rattle.xrf_trace.specs.Runs.{run}
use Rattle.xrf_trace.specs.Scenario.{Scen}
use Rattle.xrf_world.specs.Runs.{Run, Applied}
use Rattle.rand_pcg.specs.Lcg.{Lcg}
use Rattle.xrf_drive.specs.Drawn.{first_generator, turns_of}

-- a choice that is there was made, or none was there and nothing changed
abbrev pub Tried : Run → Option Choice → Bool → Run → Type 0
Tried old (Some c) made new = (made ≡ true) × Applied old c (Ok tt) new
Tried old None made new = (made ≡ false) × (new ≡ old)

-- So many turns were made from a generator on, which is by now this one: the World has the trace to which their choices run,
-- an entry for each.
pub record DrivesTo (s : Scen) (first : Lcg) (turns : ℕ) (now : Lcg) (r : Run) : Type 0 where
  pub generator : now ≡ (turns_of s first turns).generator
  pub is : r ≡ record { scenario = s; trace = (turns_of s first turns).trace }
  pub is_run : run s (turns_of s first turns).choices ≡ Ok (turns_of s first turns).trace
  pub count : length (turns_of s first turns).trace ≡ turns

-- so many turns were made from a seed
abbrev pub Drives : Scen → ℕ → ℕ → Run → Type 0
Drives s seed turns r = (now : Lcg) × DrivesTo s (first_generator seed) turns now r
