-- One owner: at every moment an active, which is an owner that has not signed off, is the Running owner of the
-- record, so at most one job is; and no incarnation that a job holds is confirmed to have ended.
use Rattle.std.specs.Prelude.{◌≡◌, Bool, false, List, Some}
use Rattle.std.specs.Option.{option_map_or}
use Rattle.xrf_base.specs.declared.site.Site.{Site}
use Rattle.xrf_ctl.specs.declared.parts.OwnerState.TheVariants.{Running}
use Rattle.xrf_history.specs.Events.{Event}
use Rattle.xrf_history.specs.Holding.{number, is_granted}
use Rattle.xrf_history.specs.Progress.{is_active}
use Rattle.xrf_trace.specs.declared.entry.Entry.{Entry}
use Rattle.xrf_trace.specs.Scenario.{Scen}
use Rattle.xrf_trace.specs.Words.{confirmed}
use Rattle.xrf_trace.specs.Devices.{control}
use Rattle.xrf_trace.specs.Jobs.{hist}
use Rattle.xrf_trace.specs.Each.{After, EverySite, Where}

abbrev pub IsOwnerOfRecord : List Entry → Site → List Event → Type 0
IsOwnerOfRecord t x h = Where (is_active h) ((control t).owner ≡ Some (record { inc = number h; site = x; state = Running }))

abbrev pub IsNotConfirmed : List Entry → List Event → Type 0
IsNotConfirmed t h = Where (is_granted h) (confirmed t (number h) ≡ false)

-- an active is at a site
abbrev pub has_active : Scen → List Entry → Site → Bool
has_active s t x = option_map_or is_active (hist s t x) false

pub record OneOwner (s : Scen) (t : List Entry) : Type 0 where
  pub stands : After (λ t. EverySite s t (IsOwnerOfRecord t)) t
  pub alive : After (λ t. EverySite s t (λ x h. IsNotConfirmed t h)) t
