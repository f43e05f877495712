-- Where an alternate stands that is served, from any moment up to its restart.
use Rattle.std.specs.Prelude.{◌≡◌, ℕ, ◌+◌, ◌≤◌, ◌⊎◌, ◌&&◌, ◌||◌, Bool, true, false, List, ◌∷◌, Option, Some, None, is_some}
use Rattle.xrf_base.specs.declared.items.UnitId.{UnitId}
use Rattle.xrf_logrec.specs.declared.records.LogRec.TheVariants.{Backout}
use Rattle.xrf_ctl.specs.declared.parts.OwnerState.{OwnerState}
use Rattle.xrf_ctl.specs.declared.parts.OwnerState.TheVariants.{Running, OffNormal}
use Rattle.xrf_ctl.specs.declared.parts.Cause.{Cause}
use Rattle.xrf_ctl.specs.Control.{ControlRecord}
use Rattle.xrf_ctl.specs.Signal.{SignalRecord}
use Rattle.xrf_cavm.specs.Watch.{Look, last_look}
use Rattle.xrf_cavm.specs.Record.{is_alt, owner_is, inc_of_owner, is_owner as names_owner}
use Rattle.xrf_cavm.specs.Decisions.{is_auto, is_manual}
use Rattle.xrf_cavm.specs.declared.decisions.Mode.{Mode}
use Rattle.xrf_cavm.specs.declared.decisions.Decision.TheVariants as decision
use Rattle.xrf_cavm.specs.declared.decisions.Waiting.TheVariants as waiting
use Rattle.xrf_cavm.specs.declared.decisions.Decided.TheVariants.{Alternate, Waiting}
use Rattle.xrf_exit.specs.declared.Notice.{Notice}
use Rattle.xrf_history.specs.declared.settings.Settings.{Settings}
use Rattle.xrf_history.specs.declared.want.Want.TheVariants as want
use Rattle.xrf_history.specs.Events.{Event}
use Rattle.xrf_history.specs.Holding.{number, is_granted, is_owner, has_started_takeover, is_restarted}
use Rattle.xrf_history.specs.Deciding.{mode_of}
use Rattle.xrf_history.specs.Looking.{change, record_seen, signal_seen, told_to_watch}
use Rattle.xrf_history.specs.Notices.{notice, is_drop}
use Rattle.xrf_history.specs.Reserving.{StartTakeover, GoThrough, sign_off_due, drop_due, leaves, open_decision, start_in, is_through_decision, purpose, record_read}
use Rattle.xrf_history.specs.Restarting.{scan, backouts_left}
use Rattle.xrf_history.specs.Rows.{has_signalled}
use Rattle.xrf_history.specs.Next.{inside, after_release}

-- by what an alternate comes to its taking: by itself, by a command, by the operator's GO; or it comes to ask for that
pub data Way : Type 0 where
  ByItself : Way
  Commanded : Way
  Given : Way
  Asking : Way

-- What stays while it is served: its number, its way, the tick from which it is served, a tick by which it saw the last
-- change, how many TICKs come at most up to its restart, and the signals of the other site.
pub record Ground : Type 0 where
  pub me : ℕ
  pub way : Way
  pub from : ℕ
  pub late : ℕ
  pub by : ℕ
  pub one : Option SignalRecord
  pub two : Option SignalRecord

-- what is read of a history throughout
pub record Kept : Type 0 where
  pub granted : Bool
  pub owner : Bool
  pub started : Bool
  pub number : ℕ
  pub off : Option OwnerState
  pub told : Option Notice
  pub drop : Bool
  pub restarted : Bool
  pub change : ℕ

-- of a history
abbrev pub kept : List Event → Kept
kept h = record {
  granted = is_granted h;
  owner = is_owner h;
  started = has_started_takeover h;
  number = number h;
  off = sign_off_due h;
  told = notice h;
  drop = drop_due h;
  restarted = is_restarted h;
  change = change h;
}

-- what it goes by leads it that way
abbrev pub leads_way : Way → Mode → Bool
leads_way ByItself m = m.commanded || (is_auto m.takeovr && m.surveillance)
leads_way Commanded m = m.commanded
leads_way Given m = is_manual m.takeovr && m.surveillance && m.go
leads_way Asking m = is_manual m.takeovr && m.surveillance

-- by itself, and before it asks, it waits until the owner is lost; with GO the owner is lost already
abbrev pub IsSoon : (adi : ℕ) → Ground → Way → Type 0
IsSoon adi g ByItself = g.late + adi + 1 ≤ g.from + g.by
IsSoon adi g Commanded = Unit {0}
IsSoon adi g Given = g.late + adi ≤ g.from
IsSoon adi g Asking = g.late + adi + 1 ≤ g.from + g.by

-- it goes its way, with no shutdown commanded, and in time
pub record IsSet (p : Settings) (g : Ground) (m : Mode) : Type 0 where
  pub will : leads_way g.way m ≡ true
  pub stays : m.shutdown ≡ false
  pub soon : IsSoon p.adi g g.way

-- so it is of one that does not wait yet
abbrev pub Goes : Settings → Ground → (waits : Bool) → List Event → Type 0
Goes p g waits h = waits ≡ false → IsSet p g (mode_of p h)

-- an alternate of this number, waiting or not
pub record IsAlternate (g : Ground) (waits : Bool) (v : Kept) : Type 0 where
  pub granted : v.granted ≡ true
  pub no_owner : v.owner ≡ false
  pub started : v.started ≡ waits
  pub mine : v.number ≡ g.me
  pub no_off : v.off ≡ None
  pub no_told : v.told ≡ None
  pub no_drop : v.drop ≡ false
  pub fresh : v.restarted ≡ false
  pub changed : v.change ≤ g.late

-- the record names it, beside another owner: with a taking where it waits, and else one that did not sign off normally
pub record IsNamed (me : ℕ) (waits : Bool) (c : ControlRecord) : Type 0 where
  pub named : is_alt c me ≡ true
  pub owned : is_some c.owner ≡ true
  pub not_mine : names_owner c me ≡ false
  pub not_normal : waits ≡ false → owner_is c OffNormal ≡ false
  pub taking : waits ≡ true → is_some c.taking ≡ true

-- the owner of the record is not Running, or is confirmed
abbrev pub IsOver : (k : ℕ → Bool) → ControlRecord → Type 0
IsOver k c = owner_is c Running ≡ true → k (inc_of_owner c.owner) ≡ true

-- the last look is of the signals that stand, or the tick is before the one by which it saw the last change
abbrev pub HasLooked : Ground → (n : ℕ) → Option Look → Type 0
HasLooked g n last = (g.from + n + 1 ≤ g.late) ⊎ (last ≡ Some (g.one, g.two))

-- the same before the look of a round
abbrev pub Looks : Ground → (n : ℕ) → Option Look → Type 0
Looks g n last = (g.from + n ≤ g.late) ⊎ (last ≡ Some (g.one, g.two))

-- an alternate that does not wait yet is a TICK behind
abbrev pub lag : Bool → ℕ
lag true = 0
lag false = 1

-- where it rests but for reads of messages and lines of the command list
pub record Idle (p : Settings) (g : Ground) (waits : Bool) (n : ℕ) (h : List Event) : Type 0 where
  pub alternate : IsAlternate g waits (kept h)
  pub goes : Goes p g waits h
  pub at : inside p h ≡ None
  pub signalled : has_signalled h ≡ true
  pub stays_on : leaves h ≡ None
  pub no_start : start_in (open_decision h) ≡ None
  pub no_through : is_through_decision (open_decision h) ≡ false
  pub looked : HasLooked g n (last_look (told_to_watch h))
  pub few : n + lag waits + 1 ≤ g.by

-- in a round: what holds all through it
pub record InRound (p : Settings) (g : Ground) (waits : Bool) (n : ℕ) (h : List Event) : Type 0 where
  pub alternate : IsAlternate g waits (kept h)
  pub goes : Goes p g waits h
  pub looked : Looks g n (last_look (told_to_watch h))
  pub few : n + lag waits ≤ g.by

-- in a sequence under the reserve: what holds all through it
pub record InSequence (g : Ground) (waits : Bool) (n : ℕ) (h : List Event) : Type 0 where
  pub alternate : IsAlternate g waits (kept h)
  pub stays_on : leaves h ≡ None
  pub looked : HasLooked g n (last_look (told_to_watch h))
  pub few : n + lag waits ≤ g.by

-- What it saw of the record: before it waits one that named it, beside an owner that did not sign off normally; while it
-- waits the record that stands, or a TICK may come yet.
pub record HasSeen (g : Ground) (waits : Bool) (n : ℕ) (c seen : ControlRecord) : Type 0 where
  pub named : waits ≡ false → is_alt seen g.me ≡ true
  pub owned : waits ≡ false → is_some seen.owner ≡ true
  pub not_normal : waits ≡ false → owner_is seen OffNormal ≡ false
  pub same : waits ≡ true → (n + 1 ≤ g.by) ⊎ (seen ≡ c)

-- the signal that it saw is the one that stands, or the tick is before the one by which it saw the last change
abbrev pub SawSignal : Ground → (n : ℕ) → Option SignalRecord → Type 0
SawSignal g n signal = (g.from + n + 1 ≤ g.late) ⊎ (signal ≡ g.one)

-- the record names no alternate, and has no taking
pub record IsAlone (c : ControlRecord) : Type 0 where
  pub no_alt : c.alt ≡ None
  pub no_taking : c.taking ≡ None

-- where it stands, with the record as it is
pub data Course (p : Settings) (g : Ground) (n : ℕ) (c : ControlRecord) (waits : Bool) (h : List Event) : Type 0 where
  Rests : Idle p g waits n h → Course p g n c waits h
  -- the round
  AtSignal1 : InRound p g waits n h → inside p h ≡ None → has_signalled h ≡ false → leaves h ≡ None → start_in (open_decision h) ≡ None
      → is_through_decision (open_decision h) ≡ false → Course p g n c waits h
  AtSignal2 : InRound p g waits n h → (signal : SignalRecord) → inside p h ≡ Some (want.Signal2 signal) → Course p g n c waits h
  AtLook1 : InRound p g waits n h → inside p h ≡ Some want.Look1 → Course p g n c waits h
  AtLook2 : InRound p g waits n h → inside p h ≡ Some want.Look2 → HasSeen g waits n c (record_seen h) → SawSignal g n (signal_seen h)
      → Course p g n c waits h
  AtDecide : InRound p g waits n h → inside p h ≡ Some want.Decide → HasSeen g waits n c (record_seen h)
      → HasLooked g n (last_look (told_to_watch h)) → Course p g n c waits h
  -- the start of the takeover
  StartDue : InSequence g false n h → waits ≡ false → (why : Cause) → inside p h ≡ None → open_decision h ≡ Some (Alternate (decision.Start why))
      → Course p g n c waits h
  StartHeld : InSequence g false n h → waits ≡ false → (why : Cause) → inside p h ≡ Some want.CtlRead → open_decision h ≡ None
      → purpose h ≡ StartTakeover why → Course p g n c waits h
  StartRead : InSequence g false n h → waits ≡ false → (why : Cause)
      → inside p h ≡ Some (want.CtlWrite (record c { taking = Some (record { inc = g.me; cause = why }) })) → open_decision h ≡ None
      → purpose h ≡ StartTakeover why → record_read h ≡ c → Course p g n c waits h
  -- the RELEASE of a start, or of a sign-on
  AtRelease : InSequence g waits n h → Goes p g waits h → n + lag waits + 1 ≤ g.by → inside p h ≡ Some want.Release → after_release p h ≡ None
      → is_drop (purpose h) ≡ false → open_decision h ≡ None → Course p g n c waits h
  -- the through
  ThroughDue : InSequence g true n h → waits ≡ true → inside p h ≡ None → open_decision h ≡ Some (Waiting waiting.Through) → Course p g n c waits h
  ThroughHeld : InSequence g true n h → waits ≡ true → inside p h ≡ Some want.CtlRead → purpose h ≡ GoThrough → Course p g n c waits h
  ThroughRead : InSequence g true n h → waits ≡ true → (w : ControlRecord) → inside p h ≡ Some (want.CtlWrite w) → purpose h ≡ GoThrough
      → names_owner w g.me ≡ true → IsAlone w → Course p g n c waits h

-- an owner that has not restarted, with nothing in its way
pub record IsOwning (v : Kept) : Type 0 where
  pub granted : v.granted ≡ true
  pub owner : v.owner ≡ true
  pub no_off : v.off ≡ None
  pub no_told : v.told ≡ None
  pub no_drop : v.drop ≡ false
  pub fresh : v.restarted ≡ false

-- so it is of this number, and in time
pub record Owning (g : Ground) (n : ℕ) (h : List Event) : Type 0 where
  pub owning : IsOwning (kept h)
  pub mine : number h ≡ g.me
  pub few : n ≤ g.by

-- where a restart stands: at a boundary, or in the write of a Backout
pub data Place (p : Settings) (h : List Event) : Type 0 where
  Outer : inside p h ≡ None → Place p h
  AtClose : (k : ℕ) → (unit : UnitId) → (units : List UnitId) → inside p h ≡ Some (want.LogClose k) → (scan p h).ended ≡ true
      → backouts_left p h ≡ unit ∷ units → Place p h
  AtBody : (k : ℕ) → (unit : UnitId) → (units : List UnitId) → inside p h ≡ Some (want.LogBody k (Backout unit)) → (scan p h).ended ≡ true
      → backouts_left p h ≡ unit ∷ units → Place p h
  AtOpen : (k : ℕ) → (unit : UnitId) → (units : List UnitId) → inside p h ≡ Some (want.LogOpen k (Backout unit)) → (scan p h).ended ≡ true
      → backouts_left p h ≡ unit ∷ units → Place p h

-- Where one stands that became the owner, up to its restart. Where it made no SIGNAL1 in this tick it makes a round first.
pub data Restart (p : Settings) (g : Ground) (n : ℕ) (h : List Event) : Type 0 where
  Written : Owning g n h → inside p h ≡ Some want.Release → after_release p h ≡ None → is_drop (purpose h) ≡ false → Restart p g n h
  RoundDue : Owning g n h → inside p h ≡ None → has_signalled h ≡ false → Restart p g n h
  OwnSignal2 : Owning g n h → has_signalled h ≡ true → (signal : SignalRecord) → inside p h ≡ Some (want.Signal2 signal) → Restart p g n h
  OwnLook1 : Owning g n h → has_signalled h ≡ true → inside p h ≡ Some want.Look1 → Restart p g n h
  OwnLook2 : Owning g n h → has_signalled h ≡ true → inside p h ≡ Some want.Look2 → IsAlone (record_seen h) → Restart p g n h
  OwnDecide : Owning g n h → has_signalled h ≡ true → inside p h ≡ Some want.Decide → IsAlone (record_seen h) → Restart p g n h
  Restarting : Owning g n h → has_signalled h ≡ true → Place p h → Restart p g n h
