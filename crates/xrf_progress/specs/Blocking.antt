-- Steps never block: a job that has a next act may make it, but for a RESERVE while the other site holds the reserve; and
-- a job has no next act only where it waits for what is named here.
use Rattle.std.specs.Prelude.{◌≡◌, ◌≤◌, ◌⊎◌, Bool, true, false, List, length, Some, None}
use Rattle.xrf_base.specs.declared.site.Site.{Site}
use Rattle.xrf_exit.specs.declared.Notice.{Notice}
use Rattle.xrf_msg.specs.declared.messages.Message.{Message}
use Rattle.xrf_setup.specs.declared.choice.Choice.TheVariants as choice
use Rattle.xrf_history.specs.Events.{Event}
use Rattle.xrf_history.specs.Holding.{is_owner, is_granted}
use Rattle.xrf_history.specs.Notices.{notice}
use Rattle.xrf_history.specs.Sending.{message_due, may_write}
use Rattle.xrf_history.specs.Rows.{has_signalled}
use Rattle.xrf_trace.specs.declared.entry.Entry.{Entry}
use Rattle.xrf_trace.specs.declared.entry.Act.{Act}
use Rattle.xrf_trace.specs.declared.entry.Act.TheVariants as act
use Rattle.xrf_trace.specs.Scenario.{Scen, settings, other, work}
use Rattle.xrf_trace.specs.Words.{holds_reserve, items_taken}
use Rattle.xrf_trace.specs.Jobs.{hist}
use Rattle.xrf_trace.specs.Acts.{next_act}
use Rattle.xrf_trace.specs.Refusals.{refusal}
use Rattle.xrf_trace.specs.Runs.{IsRun}

-- its RESERVE waits for the other site, which holds the reserve, and may make its next act
abbrev pub WaitsForReserve : Scen → List Entry → Site → Act → Type 0
WaitsForReserve s t x a = (a ≡ act.Reserve) × (holds_reserve t (other x) ≡ true) × (refusal s t (choice.Step (other x)) ≡ None)

-- STEPS NEVER BLOCK: a STEP of a site that has a next act is accepted, or its RESERVE waits.
abbrev pub StepsNeverBlock : Type 0
StepsNeverBlock =
    (s : Scen) (t : List Entry) (x : Site) (a : Act) → IsRun s t → next_act s t x ≡ Some a
    → (refusal s t (choice.Step x) ≡ None) ⊎ WaitsForReserve s t x a

-- What a job without a next act waits for. An alternate has made its round in the present tick: it waits for a tick, or
-- for what reaches it. An owner waits for the answer to a notice; or it has made its round too, and the ring has no room
-- for the message that is due until the other site has taken one, or the work list is used up.
abbrev pub OwnerWaits : Scen → List Entry → Site → List Event → Type 0
OwnerWaits s t x h =
    ((told : Notice) × (notice h ≡ Some told))
    ⊎ ((has_signalled h ≡ true)
    × (((message : Message) × (message_due (settings s x) h ≡ Some message) × (may_write (settings s x) h ≡ false))
    ⊎ (length (work s x) ≤ items_taken t x)))

-- What a job without a next act waits for: an owner as said, another for a tick, with its number given and its SIGNAL1 made.
abbrev pub WaitsFor : Scen → List Entry → Site → List Event → Bool → Type 0
WaitsFor s t x h true = OwnerWaits s t x h
WaitsFor s t x h false = (is_granted h ≡ true) × (has_signalled h ≡ true)

-- A JOB RESTS ONLY WHERE IT WAITS: one without a next act waits for what is named here.
abbrev pub RestsWhere : Type 0
RestsWhere =
    (s : Scen) (t : List Entry) (x : Site) (h : List Event) → IsRun s t → hist s t x ≡ Some h → next_act s t x ≡ None → WaitsFor s t x h (is_owner h)
