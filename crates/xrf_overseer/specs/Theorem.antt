-- What holds of every set that an overseer watches.
use Rattle.std.specs.Prelude.{◌≡◌, ◌≤◌, ◌⊎◌, ℕ, length, Bool, true, false, is_some, List, [], ◌∷◌, ◌++◌, reverse, Some, None, Ok, IsTrue}
use Rattle.xrf_base.specs.declared.site.Site.{Site}
use Rattle.xrf_ctl.specs.declared.parts.OwnerState.TheVariants.{Running}
use Rattle.xrf_cavm.specs.Grants.{is_at}
use Rattle.xrf_cavm.specs.Record.{owner_is, owner_may_run, alt_may_run, inc_of_owner, inc_of_alt}
use Rattle.xrf_cavm.specs.declared.grants.Grant.{Grant}
use Rattle.xrf_cavm.specs.declared.grants.Grant.TheVariants.{Granted}
use Rattle.xrf_history.specs.Events.{Event}
use Rattle.xrf_history.specs.Holding.{is_granted, starts_active}
use Rattle.xrf_history.specs.Next.{next}
use Rattle.xrf_history.specs.declared.want.Want.TheVariants as want
use Rattle.xrf_setup.specs.declared.choice.Choice.TheVariants as choice
use Rattle.xrf_set.specs.SetSoFar.{pair_at}
use Rattle.xrf_set.specs.declared.set_line.SetHead.{SetHead}
use Rattle.xrf_set.specs.declared.set_line.SetLine.{SetLine}
use Rattle.xrf_trace.specs.Acts.{next_act}
use Rattle.xrf_trace.specs.Devices.{control}
use Rattle.xrf_trace.specs.Entries.{entry}
use Rattle.xrf_trace.specs.Jobs.{hist, known_of, live}
use Rattle.xrf_trace.specs.Refusals.{refusal}
use Rattle.xrf_trace.specs.Runs.{run, IsRun}
use Rattle.xrf_setup.specs.declared.ranges.TheConstants.{CHOICES_MOST}
use Rattle.xrf_trace.specs.Promises.{Promises}
use Rattle.xrf_trace.specs.Safe.{Safe}
use Rattle.xrf_trace.specs.Scenario.{IsScen, Scen, settings}
use Rattle.xrf_trace.specs.declared.entry.Act.TheVariants as act
use Rattle.xrf_trace.specs.declared.entry.Entry.{Entry}
use Rattle.xrf_overseer.specs.Policies.{AdvicesFit}
use Rattle.xrf_overseer.specs.Views.{active_grant, advised, standby_grant}
use Rattle.xrf_overseer.specs.Watching.{Happened, Looked, Watches, chosen, own, view_of, watch_run}
use Rattle.xrf_overseer.specs.declared.view.Advice.{Advice}
use Rattle.xrf_overseer.specs.declared.view.Advice.TheVariants.{Leave, StartActive, StartStandby}
use Rattle.xrf_overseer.specs.declared.view.PairView.{PairView}

-- The trace of each pair is the run of its choices, with the overseer's starts among them.
abbrev pub OwnRuns : List Scen → List Happened → Type 0
OwnRuns scenarios w = (k : ℕ) (s : Scen) → pair_at scenarios k ≡ Some s → run s (reverse (chosen k w)) ≡ Ok (own k w)

-- A start as active by the overseer is accepted: no job is at the site. The record has no owner that is Running and
-- unconfirmed, and no alternate that is unconfirmed; so no live incarnation holds the place of its Running owner or of
-- its alternate.
pub record StartsFree (s : Scen) (t : List Entry) (x : Site) : Type 0 where
  pub accepted : refusal s t (choice.StartActive x) ≡ None
  pub no_job : hist s t x ≡ None
  pub no_owner : owner_may_run (control t) (known_of t (control t)) ≡ false
  pub no_alternate : alt_may_run (control t) (known_of t (control t)) ≡ false
  pub owner_dead : owner_is (control t) Running ≡ true → live s t (inc_of_owner (control t).owner) ≡ false
  pub alternate_dead : is_some (control t).alt ≡ true → live s t (inc_of_alt (control t).alt) ≡ false

-- A start to stand by is accepted, the owner is Running, at the other site, and there is no unconfirmed alternate; so no
-- live incarnation holds the alternate's place.
pub record StandsBy (s : Scen) (t : List Entry) (x : Site) : Type 0 where
  pub accepted : refusal s t (choice.StartStandby x) ≡ None
  pub no_job : hist s t x ≡ None
  pub owner_runs : owner_is (control t) Running ≡ true
  pub owner_elsewhere : is_at (control t).owner x ≡ false
  pub no_alternate : alt_may_run (control t) (known_of t (control t)) ≡ false
  pub alternate_dead : is_some (control t).alt ≡ true → live s t (inc_of_alt (control t).alt) ≡ false

-- what is done of an advice
abbrev pub IsDoneWell : Scen → List Entry → Advice → Type 0
IsDoneWell s t Leave = Unit {0}
IsDoneWell s t (StartActive x) = StartsFree s t x
IsDoneWell s t (StartStandby x) = StandsBy s t x

-- At each look, what is done was advised by the policy for the view at that moment, or nothing is done; and it is done well.
pub record IsLook (gives : PairView → Advice → Type 0) (s : Scen) (t : List Entry) (advice done : Advice) : Type 0 where
  pub given : gives (view_of s t) advice
  pub advised : (done ≡ advice) ⊎ (done ≡ Leave)
  pub well : IsDoneWell s t done

abbrev pub LooksWell : (gives : PairView → Advice → Type 0) → List Scen → List Happened → Type 0
LooksWell gives scenarios w =
    (later before : List Happened) (line k : ℕ) (advice done : Advice) (s : Scen) → w ≡ later ++ Looked line k advice done ∷ before → pair_at scenarios k ≡ Some s
    → IsLook gives s (own k before) advice done

-- The trace of each pair with a scenario in its ranges is safe and keeps the promises, while it has at most 8,192 entries.
abbrev pub PairsSafe : List Scen → List Happened → Type 0
PairsSafe scenarios w =
    (k : ℕ) (s : Scen) → pair_at scenarios k ≡ Some s → IsScen s → length (own k w) ≤ CHOICES_MOST → Safe s (own k w) × Promises s (own k w)

-- What holds of every set that an overseer watches.
pub record WatchKeeps (gives : PairView → Advice → Type 0) (scenarios : List Scen) (w : List Happened) : Type 0 where
  pub own_runs : OwnRuns scenarios w
  pub safe : PairsSafe scenarios w
  pub looks : LooksWell gives scenarios w

-- It holds for every policy whose advice may be followed.
abbrev pub WatchesKeep : Type 1
WatchesKeep =
    (gives : PairView → Advice → Type 0) (head : SetHead) (scenarios : List Scen) (lines : List SetLine) (w : List Happened) → AdvicesFit gives
    → Watches gives head scenarios 1 lines [] w → WatchKeeps gives scenarios w

-- So it does for each policy that is a function of the view.
abbrev pub PoliciesKeep : Type 0
PoliciesKeep =
    (policy : PairView → Advice) (head : SetHead) (scenarios : List Scen) (lines : List SetLine) (w : List Happened)
    → ((v : PairView) → IsTrue (advised v (policy v))) → watch_run policy head scenarios lines ≡ Ok w → WatchKeeps (λ v advice. advice ≡ policy v) scenarios w

-- the next act of a job that is granted writes the record of its grant
abbrev pub IsGrant : Grant → Scen → List Entry → Site → Type 0
IsGrant (Granted written) s t x = next_act s t x ≡ Some (act.CtlWrite written)
IsGrant _ s t x = Unit {0}

-- the grant of a start
abbrev pub grant_of : Bool → PairView → Site → Grant
grant_of true v x = active_grant v x
grant_of false v x = standby_grant v x

-- A start is granted whose record, with the same confirmations, does not change before its CTLREAD: a job that was started so
-- and holds no incarnation yet, whose CTLREAD is handed what the overseer saw, writes the record of its grant next.
abbrev pub StartsAreGranted : Type 0
StartsAreGranted =
    (s : Scen) (before t : List Entry) (x : Site) (h : List Event) → IsRun s t → hist s t x ≡ Some h → is_granted h ≡ false → next (settings s x) h ≡ want.CtlRead
    → control t ≡ control before → known_of t (control t) ≡ known_of before (control before)
    → IsGrant (grant_of (starts_active h) (view_of s before) x) s (entry s t (choice.Step x) ∷ t) x
