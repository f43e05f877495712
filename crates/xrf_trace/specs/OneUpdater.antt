-- One updater: the running owner alone updates, and incarnations are given one by one.
use Rattle.std.specs.Prelude.{◌≡◌, ℕ, ◌+◌, Bool, true, false, not, if◌then◌else◌, List, Option, Some, None}
use Rattle.xrf_base.specs.declared.site.Site.{Site}
use Rattle.xrf_base.specs.declared.site.Site.TheVariants as site
use Rattle.xrf_ctl.specs.declared.parts.Owner.{Owner}
use Rattle.xrf_ctl.specs.declared.parts.OwnerState.TheVariants.{Running}
use Rattle.xrf_ctl.specs.Control.{ControlRecord}
use Rattle.xrf_history.specs.Events.{Event}
use Rattle.xrf_history.specs.Holding.{starts_active, is_granted}
use Rattle.xrf_trace.specs.declared.entry.Entry.{Entry}
use Rattle.xrf_trace.specs.declared.entry.Act.{Act}
use Rattle.xrf_trace.specs.declared.entry.Act.TheVariants as act
use Rattle.xrf_trace.specs.declared.entry.Who.{Who}
use Rattle.xrf_trace.specs.declared.entry.Who.TheVariants as who
use Rattle.xrf_trace.specs.Scenario.{Scen}
use Rattle.xrf_trace.specs.Landing.{lands}
use Rattle.xrf_trace.specs.Devices.{control}
use Rattle.xrf_trace.specs.Throughs.{is_update}
use Rattle.xrf_trace.specs.Each.{Each, Where, AtSite}

-- the incarnation and the site of an entry, as a running owner
abbrev pub running_owner : Who → (inc : ℕ) → Option Owner
running_owner who.A inc = Some (record { inc = inc; site = site.A; state = Running })
running_owner who.B inc = Some (record { inc = inc; site = site.B; state = Running })
running_owner who.Env inc = None

-- an update is made by the incarnation and the site of the owner, which is Running
abbrev pub UpdatesAsOwner : List Entry → Entry → Type 0
UpdatesAsOwner t e = Where (is_update e.act) ((control t).owner ≡ running_owner e.who e.inc)

-- the last incarnation that was given never falls, and rises by one at a grant alone
abbrev pub CountsUp : List Entry → Bool → Act → Type 0
CountsUp t is_grant (act.CtlWrite written) = written.last ≡ (if is_grant then (control t).last + 1 else (control t).last)
CountsUp t is_grant _ = Unit {0}

abbrev pub CountsByGrants : Scen → List Entry → Entry → Type 0
CountsByGrants s t e = Where (lands e.land) (AtSite s t e.who (λ x h. CountsUp t (not (is_granted h)) e.act))

-- a grant gives that number to its job
abbrev pub HasNumber : List Entry → Entry → Bool → Act → Type 0
HasNumber t e is_grant (act.CtlWrite written) = Where is_grant (e.inc ≡ (control t).last + 1)
HasNumber t e is_grant _ = Unit {0}

abbrev pub GrantsNext : Scen → List Entry → Entry → Type 0
GrantsNext s t e = Where (lands e.land) (AtSite s t e.who (λ x h. HasNumber t e (not (is_granted h)) e.act))

-- and a place in the record: that of the owner to a START as active, and that of the alternate to one as standby
abbrev pub PlaceIs : Site → ℕ → ControlRecord → Bool → Type 0
PlaceIs x n written true = written.owner ≡ Some (record { inc = n; site = x; state = Running })
PlaceIs x n written false = written.alt ≡ Some (record { inc = n; site = x })

abbrev pub HasPlace : Entry → Site → List Event → Act → Type 0
HasPlace e x h (act.CtlWrite written) = Where (not (is_granted h)) (PlaceIs x e.inc written (starts_active h))
HasPlace e x h _ = Unit {0}

abbrev pub GrantsPlace : Scen → List Entry → Entry → Type 0
GrantsPlace s t e = Where (lands e.land) (AtSite s t e.who (λ x h. HasPlace e x h e.act))

pub record OneUpdater (s : Scen) (t : List Entry) : Type 0 where
  pub updates : Each UpdatesAsOwner t
  pub counts : Each (CountsByGrants s) t
  pub grants : Each (GrantsNext s) t
  pub places : Each (GrantsPlace s) t
