-- The paused active: one that goes on beside a taking sees it in its next round, and once it is told to end it signs off.
use Rattle.std.specs.Prelude.{◌≡◌, ◌≤◌, Bool, true, false, not, is_some, List, ◌∷◌, ◌++◌, Option, Some, None}
use Rattle.xrf_base.specs.declared.site.Site.{Site}
use Rattle.xrf_ctl.specs.Signal.{SignalRecord}
use Rattle.xrf_exit.specs.declared.Notice.{Notice}
use Rattle.xrf_exit.specs.declared.Notice.TheVariants.{TakeoverSeen}
use Rattle.xrf_exit.specs.declared.ExitAnswer.TheVariants as exit
use Rattle.xrf_setup.specs.declared.choice.Choice.TheVariants as choice
use Rattle.xrf_history.specs.Events.{Event}
use Rattle.xrf_history.specs.Holding.{is_owner}
use Rattle.xrf_history.specs.Notices.{notice}
use Rattle.xrf_trace.specs.declared.entry.Entry.{Entry}
use Rattle.xrf_trace.specs.declared.entry.Act.TheVariants as act
use Rattle.xrf_trace.specs.Scenario.{Scen}
use Rattle.xrf_trace.specs.Devices.{control}
use Rattle.xrf_trace.specs.Entries.{entry}
use Rattle.xrf_trace.specs.Jobs.{hist}
use Rattle.xrf_trace.specs.Acts.{next_act}
use Rattle.xrf_trace.specs.Runs.{IsRun}
use Rattle.xrf_trace.specs.ThroughByProof.{may_run}
use Rattle.xrf_progress.specs.Serving.{Serves, acts_of, was_so}

-- the notice is pending that a takeover was seen
abbrev pub is_seen : Option Notice → Bool
is_seen (Some TakeoverSeen) = true
is_seen _ = false

-- A TAKEOVER IS SEEN: an owner that makes a round next, beside a record with a taking, and is served from there on, has the
-- notice after the five acts of the round.
abbrev pub TakeoversAreSeen : Type 0
TakeoversAreSeen =
    (s : Scen) (t part : List Entry) (x : Site) (h : List Event) (signal : SignalRecord) → IsRun s (part ++ t) → hist s t x ≡ Some h → is_owner h ≡ true
    → is_some (control t).taking ≡ true → next_act s t x ≡ Some (act.Signal1 signal) → Serves s t x part → 5 ≤ acts_of x part
    → was_so s (λ r g. is_seen (notice g)) t x part ≡ true

-- the answer to that notice
abbrev pub told_to_end : Scen → List Entry → Site → Entry
told_to_end s t x = entry s t (choice.Exit x exit.Abend)

-- AND IT ENDS: an owner with that notice, which rests, is told to end, and is served from there on: after three acts there was
-- a moment at which no owner may run. From then on an alternate that waits can go through.
abbrev pub SignOffsFollow : Type 0
SignOffsFollow =
    (s : Scen) (t part : List Entry) (x : Site) (h : List Event) → IsRun s (part ++ told_to_end s t x ∷ t) → hist s t x ≡ Some h → is_owner h ≡ true
    → is_seen (notice h) ≡ true → next_act s t x ≡ None → Serves s (told_to_end s t x ∷ t) x part → 3 ≤ acts_of x part
    → was_so s (λ r g. not (may_run r (control r))) (told_to_end s t x ∷ t) x part ≡ true
