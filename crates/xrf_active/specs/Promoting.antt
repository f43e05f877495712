-- What is known of an alternate that was let through.
use Rattle.std.specs.Prelude.{◌≡◌, true, false, List, [], ◌∷◌}
use Rattle.xrf_cavm.specs.declared.decisions.Decided.{Decided}
use Rattle.xrf_cavm.specs.declared.decisions.Decided.TheVariants as decided
use Rattle.xrf_log.specs.Scan.{cleared}
use Rattle.xrf_history.specs.declared.settings.Settings.{Settings}
use Rattle.xrf_history.specs.declared.want.Want.{Want}
use Rattle.xrf_history.specs.declared.want.Want.TheVariants as want
use Rattle.xrf_history.specs.Events.{Event, StartedStandby, Ticked, Replied, Commanded, Reserved, ControlRead, ControlWritten, Released, Signalled1, Signalled2, Looked1, Looked2, DecisionMade, MessageRead, LineIssued, EndedAs, ActFailed}
use Rattle.xrf_history.specs.Holding.{is_owner}
use Rattle.xrf_history.specs.Terminals.{table}
use Rattle.xrf_job.specs.declared.common.Common.{Common}
use Rattle.xrf_job.specs.declared.rooms.Rooms.{Rooms}
use Rattle.xrf_job.specs.Rooms.{AreFor}
use Rattle.xrf_job.specs.Sharing.{Shares}

-- a decision of an alternate, tracking or waiting
abbrev pub IsNoOwners : Decided → Type 0
IsNoOwners (decided.Owner acting) = ⊥
IsNoOwners _ = Unit {0}

-- of the acts that may fail an alternate makes one, the read of a message slot
abbrev pub IsRead : Want → Type 0
IsRead (want.MsgRead place) = Unit {0}
IsRead _ = ⊥

-- an event behind the START of an alternate, or of a job that signs on as one
abbrev pub IsOfAlternate : Event → Type 0
IsOfAlternate Ticked = Unit {0}
IsOfAlternate (Replied go at) = Unit {0}
IsOfAlternate (Commanded command at) = Unit {0}
IsOfAlternate Reserved = Unit {0}
IsOfAlternate (ControlRead held known) = Unit {0}
IsOfAlternate (ControlWritten written) = Unit {0}
IsOfAlternate Released = Unit {0}
IsOfAlternate (Signalled1 signal) = Unit {0}
IsOfAlternate (Signalled2 signal) = Unit {0}
IsOfAlternate (Looked1 held signal) = Unit {0}
IsOfAlternate (Looked2 signal at) = Unit {0}
IsOfAlternate (DecisionMade known at decision) = IsNoOwners decision
IsOfAlternate (MessageRead place slot) = Unit {0}
IsOfAlternate (LineIssued line) = Unit {0}
IsOfAlternate (EndedAs reason) = Unit {0}
IsOfAlternate (ActFailed tried at) = IsRead tried
IsOfAlternate _ = ⊥

-- It was started as standby, and up to its last event it was no owner. By that one it may have become one.
abbrev pub WasAlternate : List Event → Type 0
WasAlternate [] = ⊥
WasAlternate (StartedStandby ∷ h) = h ≡ []
WasAlternate (e ∷ h) = IsOfAlternate e × (is_owner h ≡ false) × WasAlternate h

-- an alternate was let through, and these are what it kept, and the rooms that it worked in
pub record IsLetThrough (common : Common) (rooms : Rooms) (p : Settings) (h : List Event) : Type 0 where
  pub shared : Shares common p h
  pub sizes : AreFor rooms p.limits
  pub terminals : rooms.table ≡ table p h
  pub unscanned : rooms.scan ≡ cleared p.limits.log
  pub was : WasAlternate h
  pub owner : is_owner h ≡ true
