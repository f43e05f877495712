-- One owner, by tests of the jobs after each entry.
use Rattle.std.proofs.Common.{◌≡◌, true, false, Bool, ◌||◌, not, List, Some}
use Rattle.xrf_base.specs.declared.site.Site.{Site}
use Rattle.xrf_ctl.specs.declared.parts.OwnerState.TheVariants.{Running}
use Rattle.xrf_history.specs.Events.{Event}
use Rattle.xrf_history.specs.Holding.{number, is_granted}
use Rattle.xrf_history.specs.Progress.{is_active}
use Rattle.xrf_trace.specs.declared.entry.Entry.{Entry}
use Rattle.xrf_trace.specs.Scenario.{Scen}
use Rattle.xrf_trace.specs.Words.{confirmed}
use Rattle.xrf_trace.specs.Devices.{control}
use Rattle.xrf_trace.specs.OneOwner.{OneOwner, IsOwnerOfRecord, IsNotConfirmed}
use Rattle.xrf_long_runs.proofs.Tests.{not_met, where_by, jobs_meet_after, jobs_after_by}
use Rattle.xrf_long_runs.proofs.Same.{same_option, options, same_owner, owners}

-- an active is the Running owner of the record
abbrev is_owner_of_record : List Entry → Site → List Event → Bool
is_owner_of_record t x h =
    not (is_active h) || same_option same_owner (control t).owner (Some (record { inc = number h; site = x; state = Running }))

owner_of_record : (t : List Entry) (x : Site) (h : List Event) → is_owner_of_record t x h ≡ true → IsOwnerOfRecord t x h
owner_of_record t x h =
    where_by (is_active h) (same_option same_owner (control t).owner (Some (record { inc = number h; site = x; state = Running })))
    ((control t).owner ≡ Some (record { inc = number h; site = x; state = Running }))
    (options same_owner owners (control t).owner (Some (record { inc = number h; site = x; state = Running })))

abbrev pub all_stand : Scen → List Entry → Bool
all_stand s t = jobs_meet_after s is_owner_of_record t

-- a number that a job holds is not confirmed
abbrev is_alive : List Entry → Site → List Event → Bool
is_alive t x h = not (is_granted h) || not (confirmed t (number h))

not_confirmed : (t : List Entry) (x : Site) (h : List Event) → is_alive t x h ≡ true → IsNotConfirmed t h
not_confirmed t x h = where_by (is_granted h) (not (confirmed t (number h))) (confirmed t (number h) ≡ false) (not_met (confirmed t (number h)))

abbrev pub all_alive : Scen → List Entry → Bool
all_alive s t = jobs_meet_after s is_alive t

pub one_owner : (s : Scen) (t : List Entry) → all_stand s t ≡ true → all_alive s t ≡ true → OneOwner s t
one_owner s t stand live = record {
  stands = jobs_after_by s is_owner_of_record IsOwnerOfRecord owner_of_record t stand;
  alive = jobs_after_by s is_alive (λ t x h. IsNotConfirmed t h) not_confirmed t live;
}
