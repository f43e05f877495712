-- What becomes of a choice that a caller makes in a World of its own.
use Rattle.std.specs.Prelude.{◌≡◌, ◌<◌, ℕ, true, false, List, ◌∷◌, length, Option, Some, None, Result, Ok, Err}
use Rattle.xrf_setup.specs.declared.choice.Choice.{Choice}
use Rattle.xrf_setup.specs.declared.ranges.TheConstants.{CHOICES_MOST}
use Rattle.xrf_trace.specs.declared.entry.Entry.{Entry}
use Rattle.xrf_trace.specs.Devices.{control}
use Rattle.xrf_trace.specs.OneUpdater.{running_owner}
use Rattle.xrf_trace.specs.Runs.{outcome}
use Rattle.xrf_trace.specs.Throughs.{is_update}
use Rattle.xrf_world.specs.Runs.{Run}
use Rattle.xrf_embed.specs.declared.caller.NotMade.{NotMade}
use Rattle.xrf_embed.specs.declared.caller.NotMade.TheVariants.{Refused, Full}

-- an entry is an update by this incarnation, which is that of the running owner; or it is none
abbrev pub IsUpdateBy : List Entry → Entry → Option ℕ → Type 0
IsUpdateBy t e (Some n) = (is_update e.act ≡ true) × (e.inc ≡ n) × ((control t).owner ≡ running_owner e.who n)
IsUpdateBy t e None = is_update e.act ≡ false

-- the choice adds its entry; or it is refused, or the run has no room, and nothing changes
abbrev pub Becomes : Run → Choice → Result (Option ℕ) NotMade → Run → Type 0
Becomes old c (Ok by) new = (e : Entry) × (outcome old.scenario old.trace c ≡ Ok e)
    × (new ≡ record { scenario = old.scenario; trace = e ∷ old.trace }) × IsUpdateBy old.trace e by
Becomes old c (Err (Refused why)) new = (length old.trace < CHOICES_MOST) × (outcome old.scenario old.trace c ≡ Err why) × (new ≡ old)
Becomes old c (Err Full) new = (length old.trace ≡ CHOICES_MOST) × (new ≡ old)
