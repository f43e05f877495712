-- What the writes of message slots find there.
use Rattle.std.proofs.Common.{arith, subst, sym, ◌≡◌, ℕ, ◌<◌, ◌≤◌, ◌%◌, List, Option, ap, is_some, Bool, false, true, eqb-true, eq-eqb, Some, refl}
use Rattle.xrf_base.specs.declared.site.Site.{Site}
use Rattle.xrf_gated.specs.declared.gated.TheConstants.{OPEN}
use Rattle.xrf_gated.specs.declared.gated.Slot.{Slot}
use Rattle.xrf_gated.specs.Slots.{is_open}
use Rattle.xrf_msg.specs.declared.messages.Message.{Message}
use Rattle.xrf_msg.specs.Messages.{MsgIs, number_of}
use Rattle.xrf_msg.proofs.MessageLaws.{message_reading-spelled}
use Rattle.xrf_history.specs.Events.{Event}
use Rattle.xrf_history.specs.declared.settings.Settings.{Settings}
use Rattle.xrf_history.specs.Taking.{expected}
use Rattle.xrf_history.specs.declared.want.Want.{Want}
use Rattle.xrf_history.specs.Holding.{is_restarted}
use Rattle.xrf_history.specs.Next.{next}
use Rattle.xrf_history.specs.declared.want.Want.TheVariants as want
use Rattle.xrf_trace.specs.declared.entry.Entry.{Entry}
use Rattle.xrf_trace.proofs.Short.{IsShort}
use Rattle.xrf_trace.specs.Scenario.{Scen, settings}
use Rattle.xrf_trace.proofs.JobSteps.{at-job, of_job}
use Rattle.xrf_trace.specs.Jobs.{hist}
use Rattle.xrf_trace.specs.Devices.{message_slot}
use Rattle.xrf_trace.specs.Tracking.{messages}
use Rattle.xrf_message_law.specs.MayLand.{IsWhole, MayLand, SlotsMayLand}
use Rattle.xrf_message_law.specs.Due.{ReadsOrSends, DueAt, IsDue}
use Rattle.xrf_message_law.specs.Writing.{IsReady, ReadyAt}
use Rattle.xrf_message_law.specs.Names.{ItemsNamed}
use Rattle.xrf_message_law.proofs.Due.{are_due}
use Rattle.xrf_message_law.proofs.Writing.{are_ready}
use Rattle.xrf_message_law.proofs.Bounds.{sending-whole}
use Rattle.xrf_message_law.specs.LastOpened.{Holds}
use Rattle.xrf_message_law.proofs.LastOpened.{are_sound}

-- a number's place is in the ring
in-ring : (n ring k : ℕ) → 1 ≤ ring → k ≡ n % ring → k < ring
in-ring n ring k least is = subst (λ (j : ℕ). j < ring) (sym is) (grind (arith, least))

-- a body that spells a message is whole
whole-spelled : (body : List ℕ) (m : Message) → MsgIs body m → IsWhole body
whole-spelled body m is = ap (λ (o : Option Message). is_some o) (message_reading-spelled body m is)

-- a MSGREAD reads in the ring
reads-in : (p : Settings) (h : List Event) (k : ℕ) (b : Bool) → 1 ≤ p.limits.ring → ReadsOrSends p h k b → k < p.limits.ring
reads-in p h k true least due = in-ring (number_of due.message) p.limits.ring k least due.sending.place
reads-in p h k false least due = in-ring (expected h) p.limits.ring k least due.place

-- an open slot's gate
open-gate : (slot : Slot) → is_open slot ≡ true → slot.gate ≡ OPEN
open-gate slot is = eqb-true slot.gate OPEN is

-- a closed slot's gate
closed-gate : (slot : Slot) → is_open slot ≡ false → slot.gate ≡ OPEN → ⊥
closed-gate slot is same = apart (is_open slot) (eq-eqb slot.gate OPEN same) is
  where
    apart : (b : Bool) → b ≡ true → b ≡ false → ⊥
    apart b yes_it no_it = cc

-- what the next act of a job finds
may-land : (s : Scen) → ItemsNamed s → 1 ≤ s.settings.ring → (t : List Entry) → IsShort s t → (x : Site) (h : List Event) → hist s t x ≡ Some h
    → MayLand (message_slot t) s.settings.ring (next (settings s x) h)
may-land s names least t is x h there =
    by (next (settings s x) h) refl (at-job s (IsReady s t) t x h (are_ready s t is) there)
    (at-job s (λ y g. IsDue (settings s y) g) t x h (are_due s t is) there).due
  where
    by : (w : Want) → next (settings s x) h ≡ w → ReadyAt (message_slot t) w → DueAt (settings s x) h w → MayLand (message_slot t) s.settings.ring w
    by (want.MsgRead k) told ready due = reads-in (settings s x) h k (is_restarted h) least due
    by (want.MsgClose k) told ready due = (in-ring (number_of due.message) s.settings.ring k least due.sending.place, open-gate (message_slot t k) ready)
    by (want.MsgBody k m) told ready due =
        (in-ring (number_of m) s.settings.ring k least due.place, closed-gate (message_slot t k) ready, (sending-whole s names t is x h k m there due).0)
    by (want.MsgOpen k m) told ready due =
        let names_it = sending-whole s names t is x h k m there due in (
          in-ring (number_of m) s.settings.ring k least due.place,
          whole-spelled (message_slot t k).body m (record { ranges = names_it.0; names = names_it.1; spelled = ready.1 }),
        )
    by _ told ready due = tt

-- **what the writes of message slots find, in every run**
pub slots_may_land : (s : Scen) → ItemsNamed s → 1 ≤ s.settings.ring → (t : List Entry) → IsShort s t → SlotsMayLand s t
slots_may_land s names least t is =
    record {
      may =
          λ x. of_job (λ y h. MayLand (message_slot t) s.settings.ring (next (settings s y) h)) x (hist s t x)
          (λ h there. may-land s names least t is x h there);
      whole =
          λ i open_it. let holds : Holds (messages t) (message_slot t i).body = are_sound s names t is i
          (eq-eqb (message_slot t i).gate OPEN open_it) in
          whole-spelled (message_slot t i).body holds.message holds.spelled;
    }
