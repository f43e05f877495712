-- What is read of a job that waits, and what holds of it.
use Rattle.std.specs.Prelude.{Bool, ℕ, false, true, List, ◌||◌, ◌&&◌, None, Option, Some, ◌≡◌, not, is_some}
use Rattle.xrf_base.specs.declared.site.Site.{Site}
use Rattle.xrf_ctl.specs.Control.{ControlRecord}
use Rattle.xrf_ctl.specs.declared.parts.Owner.{Owner}
use Rattle.xrf_ctl.specs.declared.parts.OwnerState.TheVariants.{Running}
use Rattle.xrf_cavm.specs.Record.{is_state, inc_of_owner, owner_is}
use Rattle.xrf_history.specs.Holding.{number, is_waiting}
use Rattle.xrf_history.proofs.Phases.{Held, Phase, HasWritten, Over, phase}
use Rattle.xrf_history.specs.Reserving.{Leave, Purpose, is_through_decision, open_decision, purpose}
use Rattle.xrf_history.specs.Events.{Event}
use Rattle.xrf_history.specs.declared.settings.Settings.{Settings}
use Rattle.xrf_history.specs.Next.{inside}
use Rattle.xrf_history.proofs.Decisions.{is_go}
use Rattle.xrf_history.proofs.Silence.{is_looking_of}
use Rattle.xrf_history.specs.Looking.{record_seen}

-- what the law of waiting reads of a history
pub record WaitView : Type 0 where
  pub waiting : Bool
  pub number : ℕ
  pub looking : Bool
  pub seen : ControlRecord
  pub decided : Bool
  pub gone : Bool

-- under the reserve before the CTLREAD
abbrev pub is_held : Phase → Bool
is_held Held = true
is_held _ = false

-- its leave is written, or it is over
abbrev pub is_gone : Phase → Purpose → Bool
is_gone HasWritten (Leave reason) = true
is_gone Over q = true
is_gone _ _ = false

-- of a history
abbrev pub wait_view : Settings → List Event → WaitView
wait_view p h = record {
  waiting = is_waiting h;
  number = number h;
  looking = is_looking_of (inside p h);
  seen = record_seen h;
  decided = is_through_decision (open_decision h) || (is_held (phase p h) && is_go (purpose h));
  gone = is_gone (phase p h) (purpose h);
}

-- the owner is the one that was seen, and went from Running on alone
abbrev pub SameOwner : Option Owner → Option Owner → Type 0
SameOwner None None = Unit {0}
SameOwner (Some seen) (Some o) = (seen.inc ≡ o.inc) × (is_state o.state Running ≡ true → is_state seen.state Running ≡ true)
SameOwner _ _ = ⊥

-- the owner runs and is not confirmed
abbrev pub MayRun : ControlRecord → (ℕ → Bool) → Bool
MayRun c k = owner_is c Running && not (k (inc_of_owner c.owner))

-- while it waits: its place and a taking stand, the owner that it saw is there, and once it decided THROUGH no owner
-- may run
pub record WaitsNow (c : ControlRecord) (k : ℕ → Bool) (x : Site) (v : WaitView) : Type 0 where
  pub alt : c.alt ≡ Some (record { inc = v.number; site = x })
  pub taking : is_some c.taking ≡ true
  pub saw : v.looking ≡ true → SameOwner v.seen.owner c.owner
  pub over : v.decided ≡ true → MayRun c k ≡ false

-- so it is while it waits and is not gone
abbrev pub Waits : ControlRecord → (ℕ → Bool) → Site → WaitView → Type 0
Waits c k x v = v.waiting ≡ true → v.gone ≡ false → WaitsNow c k x v
