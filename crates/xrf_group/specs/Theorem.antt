-- What holds of every run of a group.
use Rattle.std.specs.Prelude.{◌≡◌, ◌≤◌, ℕ, Bool, true, false, List, [], ◌∷◌, ◌++◌, length, reverse, Option, Some, None, Ok}
use Rattle.xrf_base.specs.declared.site.Site.{Site}
use Rattle.xrf_base.specs.declared.site.Takeovr.TheVariants.{Command}
use Rattle.xrf_ctl.specs.declared.parts.Cause.{Cause}
use Rattle.xrf_ctl.specs.declared.parts.Cause.TheVariants as cause
use Rattle.xrf_ctl.specs.Control.{ControlRecord}
use Rattle.xrf_cavm.specs.declared.decisions.Decided.TheVariants.{Alternate}
use Rattle.xrf_cavm.specs.declared.decisions.Decision.TheVariants as decision
use Rattle.xrf_cebt.specs.declared.commands.Cebt.TheVariants.{SetTakeover}
use Rattle.xrf_history.specs.Events.{Event, ControlWritten}
use Rattle.xrf_history.specs.Holding.{is_granted, is_waiting, number}
use Rattle.xrf_set.specs.SetSoFar.{pair_at}
use Rattle.xrf_set.specs.declared.set_line.SetLine.{SetLine}
use Rattle.xrf_trace.specs.declared.entry.Act.{Act}
use Rattle.xrf_trace.specs.declared.entry.Act.TheVariants as act
use Rattle.xrf_trace.specs.declared.entry.Entry.{Entry}
use Rattle.xrf_trace.specs.declared.entry.Land.TheVariants as land
use Rattle.xrf_trace.specs.Jobs.{hist}
use Rattle.xrf_trace.specs.Runs.{run}
use Rattle.xrf_setup.specs.declared.ranges.TheConstants.{CHOICES_MOST}
use Rattle.xrf_trace.specs.Promises.{Promises}
use Rattle.xrf_trace.specs.Safe.{Safe}
use Rattle.xrf_trace.specs.Scenario.{IsScen, Scen}
use Rattle.xrf_trace.specs.Words.{who_at}
use Rattle.xrf_group.specs.Orders.{Moved, own, chosen, places, placed, given}
use Rattle.xrf_group.specs.Group.{group_run}

-- The trace of each pair is the run of its own choices.
abbrev pub OwnRuns : List Scen → List Moved → Type 0
OwnRuns scenarios g = (k : ℕ) (s : Scen) → pair_at scenarios k ≡ Some s → run s (reverse (chosen k g)) ≡ Ok (own k g)

-- An entry by which an alternate starts its takeover: its CTLWRITE lands, and from it on it is a waiting one.
pub record StartsTakeover (s : Scen) (t : List Entry) (e : Entry) : Type 0 where
  pub at : Site
  pub job : List Event
  pub written : ControlRecord
  pub its_site : e.who ≡ who_at at
  pub its_act : e.act ≡ act.CtlWrite written
  pub landed : e.land ≡ land.Full
  pub there : hist s t at ≡ Some job
  pub tracked : is_waiting job ≡ false
  pub waits : is_waiting (ControlWritten written ∷ job) ≡ true

-- An order was given to the job of incarnation n at a site, after its sign-on.
pub record OrderGiven (s : Scen) (k n : ℕ) (at : Site) (before : List Moved) (o : Moved) : Type 0 where
  pub pair : o.pair ≡ k
  pub ordered : o.ordered ≡ true
  pub its_site : o.entry.who ≡ who_at at
  pub its_number : o.entry.inc ≡ n
  pub job : List Event
  pub there : hist s (own k before) at ≡ Some job
  pub signed_on : is_granted job ≡ true
  pub is_number : number job ≡ n

-- The takeover of a dependent's alternate n follows, in the order of the script, an order to that pair after n's sign-on,
-- and that follows a CLT act of pair 1 that placed one, which follows a landed CTLWRITE by which an alternate of pair 1
-- started its takeover.
pub record FollowsOrder (coordinator s : Scen) (k n : ℕ) (at : Site) (g : List Moved) : Type 0 where
  pub later : List Moved
  pub order : Moved
  pub before : List Moved
  pub split : g ≡ later ++ order ∷ before
  pub given : OrderGiven s k n at before order
  pub between : List Moved
  pub line : Moved
  pub ahead : List Moved
  pub split_before : before ≡ between ++ line ∷ ahead
  pub of_coordinator : line.pair ≡ 1
  pub placed : places coordinator k line.entry ≡ true
  pub since : List Moved
  pub start : Moved
  pub first : List Moved
  pub split_ahead : ahead ≡ since ++ start ∷ first
  pub of_pair_one : start.pair ≡ 1
  pub starts : StartsTakeover coordinator (own 1 first) start.entry

-- the cause of a DECIDE START
abbrev pub start_decided : Act → Option Cause
start_decided (act.Decide (Alternate (decision.Start why))) = Some why
start_decided _ = None

-- a move by which an alternate of a pair decides to start its takeover by a cause
pub record IsStartOf (why : Cause) (m : Moved) (k : ℕ) (at : Site) : Type 0 where
  pub pair : m.pair ≡ k
  pub its_site : m.entry.who ≡ who_at at
  pub starts : start_decided m.entry.act ≡ Some why

-- Each DECIDE START COMMAND of an alternate of a dependent follows an order.
abbrev pub ByOrder : List Scen → List Moved → Type 0
ByOrder scenarios g =
    (later before : List Moved) (m : Moved) (k : ℕ) (at : Site) (coordinator s : Scen) → g ≡ later ++ m ∷ before → pair_at scenarios 1 ≡ Some coordinator
    → pair_at scenarios k ≡ Some s → 2 ≤ k → IsStartOf cause.Command m k at → FollowsOrder coordinator s k m.entry.inc at before

-- No more orders were given to a dependent than placed for it.
abbrev pub GivenArePlaced : List Scen → List Moved → Type 0
GivenArePlaced scenarios g = (k : ℕ) (coordinator : Scen) → pair_at scenarios 1 ≡ Some coordinator → 2 ≤ k → given k g ≤ placed coordinator k (own 1 g)

-- An act of the coordinator places an order for one pair at most.
abbrev pub PlacesOne : Type 0
PlacesOne = (s : Scen) (e : Entry) (k k' : ℕ) → places s k e ≡ true → places s k' e ≡ true → k ≡ k'

-- a CEBT SET TAKEOVER, and a trace without one
abbrev pub sets_takeover : Act → Bool
sets_takeover (act.Cebt (SetTakeover mode) reply) = true
sets_takeover _ = false

abbrev pub SetsNone : List Entry → Type 0
SetsNone [] = Unit {0}
SetsNone (e ∷ t) = SetsNone t × (sets_takeover e.act ≡ false)

-- Where a pair has TAKEOVR COMMAND and its trace no CEBT SET TAKEOVER, each DECIDE START of it is one by command; so of a
-- dependent each follows an order.
abbrev pub StartsByCommand : List Scen → List Moved → Type 0
StartsByCommand scenarios g =
    (later before : List Moved) (m : Moved) (k : ℕ) (at : Site) (s : Scen) (why : Cause) → g ≡ later ++ m ∷ before → pair_at scenarios k ≡ Some s
    → s.settings.takeovr ≡ Command → SetsNone (own k g) → IsStartOf why m k at → why ≡ cause.Command

-- The trace of each pair with a scenario in its ranges is safe and keeps the promises, while it has at most 8,192 entries.
abbrev pub PairsSafe : List Scen → List Moved → Type 0
PairsSafe scenarios g =
    (k : ℕ) (s : Scen) → pair_at scenarios k ≡ Some s → IsScen s → length (own k g) ≤ CHOICES_MOST → Safe s (own k g) × Promises s (own k g)

-- What holds of every group.
pub record GroupKeeps (scenarios : List Scen) (g : List Moved) : Type 0 where
  pub own_runs : OwnRuns scenarios g
  pub safe : PairsSafe scenarios g
  pub by_order : ByOrder scenarios g
  pub given_are_placed : GivenArePlaced scenarios g
  pub starts_by_command : StartsByCommand scenarios g

-- It holds of every run of a script.
abbrev pub GroupsKeep : Type 0
GroupsKeep = (scenarios : List Scen) (lines : List SetLine) (g : List Moved) → group_run scenarios lines ≡ Ok g → GroupKeeps scenarios g
