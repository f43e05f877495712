-- A job that is no owner, or has signed off, does nothing to the log, the keypoints and the file.
use Rattle.std.proofs.Common.{None, Option, Some, refl, IfSome, List, ℕ, ◌==◌, ◌∷◌, Bool, false, not, true, ◌≡◌, ◌&&◌, is_some}
use Rattle.xrf_base.specs.declared.site.Site.{Site}
use Rattle.xrf_ctl.specs.Control.{ControlRecord}
use Rattle.xrf_gated.specs.declared.gated.TheConstants.{OPEN}
use Rattle.xrf_gated.specs.Slots.{bytes_of}
use Rattle.xrf_msg.specs.declared.messages.Message.{Message}
use Rattle.xrf_history.specs.Next.{write_next, end_next, after_message_read, gate_of, after_message_close, inside, message_at_hand, or_boundary, next}
use Rattle.xrf_history.specs.declared.want.EndWhy.{EndWhy}
use Rattle.xrf_history.specs.Events.{Event}
use Rattle.xrf_history.specs.declared.want.Want.{Want}
use Rattle.xrf_history.specs.declared.settings.Settings.{Settings}
use Rattle.xrf_history.specs.Rows.{boundary}
use Rattle.xrf_history.specs.Progress.{has_signed_off, is_active}
use Rattle.xrf_history.specs.Holding.{is_owner}
use Rattle.xrf_history.specs.Reserving.{sign_off_due}
use Rattle.xrf_trace.specs.declared.entry.Act.{Act}
use Rattle.xrf_trace.specs.declared.entry.Entry.{Entry}
use Rattle.xrf_trace.specs.Scenario.{Scen, settings}
use Rattle.xrf_trace.specs.Jobs.{handed}
use Rattle.xrf_trace.specs.Words.{now}
use Rattle.xrf_trace.specs.Acts.{act_of}
use Rattle.xrf_trace.specs.Devices.{message_slot}
use Rattle.xrf_log_law.specs.Jobs.{Idle}
use Rattle.xrf_log_law.proofs.Tests.{choose, sound-by, none-not_some}
use Rattle.xrf_log_law.proofs.DueAtBoundary.{boundary-idle}
use Rattle.xrf_log_law.specs.Soundness.{is_sound}
use Rattle.xrf_history.proofs.Tests.{not-both}
use Rattle.xrf_history.specs.declared.want.Want.TheVariants as want

-- a CTLWRITE is idle
write-idle : (o : Option ControlRecord) → Idle (write_next o)
write-idle None = refl
write-idle (Some written) = refl

-- so is an end
end-idle : (o : Option EndWhy) → IfSome (end_next o) Idle
end-idle None = tt
end-idle (Some reason) = refl

-- so is what comes after a MSGREAD
message-idle : (k : ℕ) (slot : List ℕ) (o : Option Message) → IfSome (after_message_read k slot o) Idle
message-idle k slot None = tt
message-idle k slot (Some message) = choose Idle (gate_of slot == OPEN) _ _ (λ e. refl) (λ e. refl)

-- so is what comes after a MSGCLOSE
closed-idle : (k : ℕ) (o : Option Message) → IfSome (after_message_close k o) Idle
closed-idle k None = tt
closed-idle k (Some message) = refl

-- what is next inside the sequence after an act is idle
abbrev pub AfterIdle : Scen → List Entry → Site → List Event → Act → Type 0
AfterIdle s t x h a = IfSome (inside (settings s x) (handed s t x (now t) h a ∷ h)) Idle

-- after an idle act
pub act-idle : (s : Scen) (t : List Entry) (x : Site) (h : List Event) (w : Want) → Idle w → IfSome (act_of s t x h w) (AfterIdle s t x h)
act-idle s t x h want.Nothing idle = tt
act-idle s t x h (want.Exit told) idle = tt
act-idle s t x h want.Reserve idle = refl
act-idle s t x h want.CtlRead idle = write-idle _
act-idle s t x h (want.CtlWrite written) idle = refl
act-idle s t x h want.Release idle = end-idle _
act-idle s t x h (want.Signal1 signal) idle = refl
act-idle s t x h (want.Signal2 signal) idle = refl
act-idle s t x h want.Look1 idle = refl
act-idle s t x h want.Look2 idle = refl
act-idle s t x h want.Decide idle = tt
act-idle s t x h (want.MsgRead k) idle = message-idle k (bytes_of (message_slot t k)) (message_at_hand (settings s x) h)
act-idle s t x h (want.MsgClose k) idle = closed-idle k (message_at_hand (settings s x) h)
act-idle s t x h (want.MsgBody k message) idle = refl
act-idle s t x h (want.MsgOpen k message) idle = tt
act-idle s t x h (want.Clt line) idle = tt
act-idle s t x h (want.Ended reason) idle = tt
act-idle s t x h _ idle = absurd (cc)

-- its next act
or_boundary-idle : (p : Settings) (h : List Event) (o : Option Want) → IfSome o Idle → Idle (boundary p h) → Idle (or_boundary p h o)
or_boundary-idle p h None inner outer = outer
or_boundary-idle p h (Some w) inner outer = inner

-- an owner that is no active has signed off
off-by : (owner off : Bool) → (owner && not off) ≡ false → owner ≡ true → off ≡ true
off-by true true none is = refl
off-by true false none is = absurd (cc)
off-by false off none is = absurd (cc)

-- the next act of a job that is no active is idle
pub next-idle : (p : Settings) (h : List Event) → (has_signed_off h ≡ true → is_some (sign_off_due h) ≡ true) → is_active h ≡ false
    → IfSome (inside p h) Idle → Idle (next p h)
next-idle p h off none inner =
    or_boundary-idle p h (inside p h) inner (boundary-idle p h
    (λ owner not_due. none-not_some (sign_off_due h) not_due (off (off-by (is_owner h) (has_signed_off h) none owner))))

-- nor does one after a failure
pub unsound-idle : (p : Settings) (h : List Event) → is_sound h ≡ false → IfSome (inside p h) Idle → Idle (next p h)
unsound-idle p h unsound inner =
    or_boundary-idle p h (inside p h) inner (boundary-idle p h (λ owner not_due. not-both (is_sound h) (sound-by h not_due) unsound))
