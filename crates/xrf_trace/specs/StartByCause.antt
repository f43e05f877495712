-- Start by cause: an alternate starts by its cause, and writes a taking exactly where it decided to start and the
-- record that it then reads still names it beside an owner that is not OffNormal.
use Rattle.std.specs.Prelude.{◌≡◌, ℕ, Bool, true, false, ◌&&◌, not, is_some, if◌then◌else◌, List, [], ◌∷◌, ◌++◌, Option, Some, None}
use Rattle.xrf_ctl.specs.declared.parts.OwnerState.TheVariants.{OffNormal}
use Rattle.xrf_ctl.specs.declared.parts.Cause.{Cause}
use Rattle.xrf_ctl.specs.declared.parts.Taking.{Taking}
use Rattle.xrf_ctl.specs.Control.{ControlRecord}
use Rattle.xrf_cavm.specs.Record.{is_alt, owner_is}
use Rattle.xrf_cavm.specs.declared.decisions.Decided.{Decided}
use Rattle.xrf_cavm.specs.declared.decisions.Decided.TheVariants.{Alternate}
use Rattle.xrf_history.specs.declared.want.EndWhy.TheVariants as end
use Rattle.xrf_history.specs.Events.{Event}
use Rattle.xrf_history.specs.Holding.{number, is_tracking}
use Rattle.xrf_history.specs.Progress.{made_since_decision, has_read_since_decision}
use Rattle.xrf_history.specs.Reserving.{last_decision, start_in, record_read}
use Rattle.xrf_history.specs.Looking.{record_seen}
use Rattle.xrf_history.specs.Causes.{tracking_decision}
use Rattle.xrf_trace.specs.declared.entry.Entry.{Entry}
use Rattle.xrf_trace.specs.declared.entry.Act.{Act}
use Rattle.xrf_trace.specs.declared.entry.Act.TheVariants as act
use Rattle.xrf_trace.specs.Scenario.{Scen, settings}
use Rattle.xrf_trace.specs.Acts.{is_act}
use Rattle.xrf_trace.specs.Each.{Each, Where, AtSite, InPlace}

-- each DECIDE of a tracking alternate is by the record that it looked at and its news
abbrev pub DecidesSo : Bool → Decided → Act → Type 0
DecidesSo applies wanted (act.Decide made) = Where applies (made ≡ wanted)
DecidesSo applies wanted _ = Unit {0}

abbrev pub DecidesByCause : Scen → List Entry → Entry → Type 0
DecidesByCause s t e =
    AtSite s t e.who (λ x h. DecidesSo (is_tracking h) (Alternate (tracking_decision (settings s x) h e.tick (record_seen h))) e.act)

-- the cause of the START that is its last DECIDE, where it has read the record since
abbrev pub start_read : List Event → Option Cause
start_read h = elim (has_read_since_decision h) [ true ↦ start_in (last_decision h) | false ↦ None ]

-- the record names this incarnation as alternate, and has an owner that is not OffNormal
abbrev pub lets_start : ControlRecord → ℕ → Bool
lets_start held n = is_alt held n && is_some held.owner && not (owner_is held OffNormal)

-- what it does after DECIDE START: under the reserve the taking is written, or none is and it ends as ABANDONED
abbrev pub left_if : Bool → ControlRecord → List Act
left_if true held = act.CtlWrite (record held { alt = None; taking = None }) ∷ []
left_if false held = []

abbrev pub start_sequence : ControlRecord → ℕ → Cause → List Act
start_sequence held n why =
    act.Reserve ∷ act.CtlRead ∷ elim (lets_start held n) [
      | true ↦ act.CtlWrite (record held { taking = Some (record { inc = n; cause = why }) }) ∷ act.Release ∷ []
      | false ↦ left_if (is_alt held n) held ++ act.Release ∷ act.Ended end.Abandoned ∷ []
    ]

abbrev pub GoesOn : List Event → Act → Option Cause → Type 0
GoesOn h a None = Unit {0}
GoesOn h a (Some why) = Where (is_act a) (InPlace (start_sequence (record_read h) (number h) why) (made_since_decision h) a)

abbrev pub StartsWhere : Scen → List Entry → Entry → Type 0
StartsWhere s t e = AtSite s t e.who (λ x h. GoesOn h e.act (start_in (last_decision h)))

-- A CTLWRITE that has a taking has the one of the record read, or where that has none, the one of the START that
-- is the last DECIDE, and the record let it start.
abbrev pub taking_of_start : ControlRecord → ℕ → Option Cause → Option Taking
taking_of_start held n None = None
taking_of_start held n (Some why) = if lets_start held n then Some (record { inc = n; cause = why }) else None

abbrev pub taking_after : ControlRecord → Option Taking → Option Taking
taking_after held started = elim held.taking [ None ↦ started | Some taking ↦ Some taking ]

abbrev pub BringsOnly : List Event → Act → Type 0
BringsOnly h (act.CtlWrite written) =
    Where (is_some written.taking) (written.taking ≡ taking_after (record_read h) (taking_of_start (record_read h) (number h) (start_read h)))
BringsOnly h _ = Unit {0}

abbrev pub StartsOnlyWhere : Scen → List Entry → Entry → Type 0
StartsOnlyWhere s t e = AtSite s t e.who (λ x h. BringsOnly h e.act)

pub record StartByCause (s : Scen) (t : List Entry) : Type 0 where
  pub decides : Each (DecidesByCause s) t
  pub starts : Each (StartsWhere s) t
  pub only : Each (StartsOnlyWhere s) t
