-- Own hand: nobody changes an owner's state but the owner itself, and nobody's place in the record goes while it may
-- still be at work, but by its own hand or by the drop. A taking goes with its through, or by its hand after a failed act.
use Rattle.std.specs.Prelude.{◌≡◌, ℕ, ◌==◌, Bool, true, false, ◌&&◌, ◌||◌, not, is_some, List, [], ◌∷◌, Option, Some, None}
use Rattle.xrf_ctl.specs.declared.parts.Owner.{Owner}
use Rattle.xrf_ctl.specs.declared.parts.OwnerState.{OwnerState}
use Rattle.xrf_ctl.specs.declared.parts.OwnerState.TheVariants.{Running}
use Rattle.xrf_ctl.specs.declared.parts.Taking.{Taking}
use Rattle.xrf_ctl.specs.Control.{ControlRecord}
use Rattle.xrf_cavm.specs.Record.{inc_of_owner, inc_of_alt, is_alt, is_state}
use Rattle.xrf_cavm.specs.Writes.{with_state}
use Rattle.xrf_history.specs.Events.{Event, ActFailed}
use Rattle.xrf_history.specs.Reserving.{purpose}
use Rattle.xrf_history.specs.Notices.{is_drop}
use Rattle.xrf_trace.specs.declared.entry.Entry.{Entry}
use Rattle.xrf_trace.specs.declared.entry.Act.{Act}
use Rattle.xrf_trace.specs.declared.entry.Act.TheVariants as act
use Rattle.xrf_trace.specs.Scenario.{Scen}
use Rattle.xrf_trace.specs.Landing.{lands}
use Rattle.xrf_trace.specs.Words.{confirmed}
use Rattle.xrf_trace.specs.Devices.{control}
use Rattle.xrf_trace.specs.Throughs.{changes_owner, has_taking}
use Rattle.xrf_trace.specs.OneUpdater.{running_owner}
use Rattle.xrf_trace.specs.Each.{Each, Where, AtSite}

-- the state of an owner; that of none is never asked
abbrev pub state_of : Option Owner → OwnerState
state_of None = Running
state_of (Some owner) = owner.state

-- the owner is the same incarnation, in another state
abbrev pub changes_state : (before after : Option Owner) → Bool
changes_state before after =
    is_some before && inc_of_owner before == inc_of_owner after && not (is_state (state_of before) (state_of after))

-- a write that changes the owner's state is by the hand of the owner, which was Running
abbrev pub IsByOwner : List Entry → Entry → Act → Type 0
IsByOwner t e (act.CtlWrite written) = Where (changes_state (control t).owner written.owner) ((control t).owner ≡ running_owner e.who e.inc)
IsByOwner t e _ = Unit {0}

-- and changes nothing else
abbrev pub ChangesNoMore : List Entry → Act → Type 0
ChangesNoMore t (act.CtlWrite written) =
    Where (changes_state (control t).owner written.owner) (written ≡ record (control t) { owner = with_state (state_of written.owner) (control t).owner })
ChangesNoMore t _ = Unit {0}

abbrev pub inc_of_taking : Option Taking → ℕ
inc_of_taking None = 0
inc_of_taking (Some taking) = taking.inc

-- the alternate, and the taking, of a record before is not that of the record after
abbrev pub alternate_goes : (before after : ControlRecord) → Bool
alternate_goes before after = is_some before.alt && not (is_alt after (inc_of_alt before.alt))

abbrev pub taking_goes : (before after : ControlRecord) → Bool
taking_goes before after = is_some before.taking && not (has_taking after.taking (inc_of_taking before.taking))

-- an incarnation is that of the entry, or it is confirmed that it ended
abbrev pub is_own_or_ended : List Entry → Entry → ℕ → Bool
is_own_or_ended t e n = n == e.inc || confirmed t n

-- a write by which the alternate goes is by its own hand, or by the drop, or it is confirmed that it ended
abbrev pub AlternateLets : List Entry → Entry → List Event → Act → Type 0
AlternateLets t e h (act.CtlWrite written) =
    Where (alternate_goes (control t) written) ((is_own_or_ended t e (inc_of_alt (control t).alt) || is_drop (purpose h)) ≡ true)
AlternateLets t e h _ = Unit {0}

-- an act of it has failed, whichever it was
abbrev pub has_failed : List Event → Bool
has_failed [] = false
has_failed (ActFailed tried at ∷ h) = true
has_failed (_ ∷ h) = has_failed h

-- A write by which the taking goes is made once it is confirmed that its incarnation ended; or it is by its own hand,
-- which goes through, or has failed an act.
abbrev pub lets_taking : List Entry → Entry → List Event → (taken : ℕ) → Bool
lets_taking t e h taken = confirmed t taken || (taken == e.inc && (changes_owner (control t) e.act || has_failed h))

abbrev pub TakingLets : List Entry → Entry → List Event → Act → Type 0
TakingLets t e h (act.CtlWrite written) = Where (taking_goes (control t) written) (lets_taking t e h (inc_of_taking (control t).taking) ≡ true)
TakingLets t e h _ = Unit {0}

pub record OwnHand (s : Scen) (t : List Entry) : Type 0 where
  pub states : Each (λ t e. Where (lands e.land) (IsByOwner t e e.act)) t
  pub states_alone : Each (λ t e. Where (lands e.land) (ChangesNoMore t e.act)) t
  pub alternates : Each (λ t e. Where (lands e.land) (AtSite s t e.who (λ x h. AlternateLets t e h e.act))) t
  pub takings : Each (λ t e. Where (lands e.land) (AtSite s t e.who (λ x h. TakingLets t e h e.act))) t
