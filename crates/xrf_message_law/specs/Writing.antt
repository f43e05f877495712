-- The writing of a message: what is known of its slot where an act of it comes next.
use Rattle.std.specs.Prelude.{false, true, ◌≡◌, ℕ, List}
use Rattle.xrf_base.specs.declared.site.Site.{Site}
use Rattle.xrf_gated.specs.declared.gated.Slot.{Slot}
use Rattle.xrf_gated.specs.Slots.{is_open}
use Rattle.xrf_msg.specs.Messages.{spelling}
use Rattle.xrf_history.specs.declared.want.Want.{Want}
use Rattle.xrf_history.specs.Events.{Event}
use Rattle.xrf_history.specs.Next.{next}
use Rattle.xrf_history.specs.declared.want.Want.TheVariants as want
use Rattle.xrf_trace.specs.declared.entry.Entry.{Entry}
use Rattle.xrf_trace.specs.Scenario.{Scen, settings}
use Rattle.xrf_trace.specs.Devices.{message_slot}
use Rattle.xrf_trace.proofs.JobSteps.{OfJobs}

-- before a CLOSE the slot is open, before a BODY it is closed, and before an OPEN it is closed and its body is the
-- message's
abbrev pub ReadyAt : (ℕ → Slot) → Want → Type 0
ReadyAt slot (want.MsgClose k) = is_open (slot k) ≡ true
ReadyAt slot (want.MsgBody k message) = is_open (slot k) ≡ false
ReadyAt slot (want.MsgOpen k message) = (is_open (slot k) ≡ false) × ((slot k).body ≡ spelling message)
ReadyAt slot _ = Unit {0}

-- so it is of the job at a site
abbrev pub IsReady : Scen → List Entry → Site → List Event → Type 0
IsReady s t x h = ReadyAt (message_slot t) (next (settings s x) h)

-- of both jobs
abbrev pub AreReady : Scen → List Entry → Type 0
AreReady s t = OfJobs s t (IsReady s t)
