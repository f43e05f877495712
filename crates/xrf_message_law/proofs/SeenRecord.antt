-- What is known of the record that an owner saw, until its DECIDE.
use Rattle.std.proofs.Common.{List, ℕ, Bool, None, Option, Some, false, true, ◌==◌, ◌∷◌, subst}
use Rattle.xrf_ctl.specs.Control.{ControlRecord}
use Rattle.xrf_gated.specs.declared.gated.TheConstants.{OPEN}
use Rattle.xrf_msg.specs.declared.messages.Message.{Message}
use Rattle.xrf_history.specs.declared.want.Want.{Want}
use Rattle.xrf_history.specs.Events.{Event, MessageRead, MessageClosed, Abended, Commanded, Exited, Replied, Ticked}
use Rattle.xrf_history.proofs.Boundary.{IsCalm, IsIdle, Cases, boundary-by}
use Rattle.xrf_history.specs.declared.settings.Settings.{Settings}
use Rattle.xrf_history.specs.Next.{after_message_read, gate_of, message_at_hand, next, or_boundary, after_message_close}
use Rattle.xrf_history.proofs.Inside.{IsQuiet, quiet-next, IsPassing, passing-next}
use Rattle.xrf_history.specs.declared.want.Want.TheVariants as want
use Rattle.xrf_message_law.specs.Epochs.{SawAt}

-- the acts that no record that was seen waits for
abbrev IsNoLook : Want → Type 0
IsNoLook want.Look2 = ⊥
IsNoLook want.Decide = ⊥
IsNoLook _ = Unit {0}

-- nothing is said before another act
saw-no_look : (r : ControlRecord) (f : ℕ → List Message) (h : List Event) (w : Want) → IsNoLook w → SawAt r f h w
saw-no_look r f h want.Look2 is = absurd is
saw-no_look r f h want.Decide is = absurd is
saw-no_look r f h _ is = tt

-- an act of a restart is no such act
calm-no_look : (w : Want) → IsCalm w → IsNoLook w
calm-no_look want.Look2 calm = absurd calm
calm-no_look want.Decide calm = absurd calm
calm-no_look _ calm = tt

-- nor is an idle one
idle-no_look : (w : Want) → IsIdle w → IsNoLook w
idle-no_look want.Look2 idle = absurd idle
idle-no_look want.Decide idle = absurd idle
idle-no_look _ idle = tt

-- what is known at a boundary, row by row
pub saw-cases : (r : ControlRecord) (f : ℕ → List Message) (p : Settings) (h : List Event) → Cases p h (SawAt r f h)
saw-cases r f p h = record {
  idle = λ w idle. saw-no_look r f h w (idle-no_look w idle);
  calm = λ w calm works. saw-no_look r f h w (calm-no_look w calm);
  signals = λ granted works. tt;
  reads = λ alternate due. tt;
  drains = λ works draining. tt;
  restarts = λ works drained not_yet. tt;
  sends = λ works drained restarted m due may. tt;
  works = λ works drained restarted none. tt;
}

-- after a MSGREAD
pub saw-read : (r : ControlRecord) (f : ℕ → List Message) (p : Settings) (h : List Event) (k : ℕ) (slot : List ℕ)
    → SawAt r f (MessageRead k slot ∷ h) (next p (MessageRead k slot ∷ h))
saw-read r f p h k slot = by (message_at_hand p h)
  where
    gate : (m : Message) (b : Bool) → SawAt r f (MessageRead k slot ∷ h) (elim b [ true ↦ want.MsgClose k | false ↦ want.MsgBody k m ])
    gate m true = tt
    gate m false = tt

    by : (o : Option Message) → SawAt r f (MessageRead k slot ∷ h) (or_boundary p (MessageRead k slot ∷ h) (after_message_read k slot o))
    by None = boundary-by (SawAt r f (MessageRead k slot ∷ h)) p (MessageRead k slot ∷ h) (saw-cases r f p (MessageRead k slot ∷ h))
    by (Some m) = gate m (gate_of slot == OPEN)

-- after a CLOSE
pub saw-closed : (r : ControlRecord) (f : ℕ → List Message) (p : Settings) (h : List Event) (k : ℕ)
    → SawAt r f (MessageClosed k ∷ h) (next p (MessageClosed k ∷ h))
saw-closed r f p h k = by (message_at_hand p h)
  where
    by : (o : Option Message) → SawAt r f (MessageClosed k ∷ h) (or_boundary p (MessageClosed k ∷ h) (after_message_close k o))
    by None = boundary-by (SawAt r f (MessageClosed k ∷ h)) p (MessageClosed k ∷ h) (saw-cases r f p (MessageClosed k ∷ h))
    by (Some m) = tt

-- after an event that the boundary follows
pub saw-quiet : (r : ControlRecord) (f : ℕ → List Message) (p : Settings) (h : List Event) (e : Event) → IsQuiet e → SawAt r f (e ∷ h) (next p (e ∷ h))
saw-quiet r f p h e is = quiet-next (SawAt r f (e ∷ h)) p h e is (λ w calm. saw-no_look r f (e ∷ h) w (calm-no_look w calm)) (saw-cases r f p (e ∷ h))

-- over an event that may come inside a sequence
saw-on : (r : ControlRecord) (f : ℕ → List Message) (h : List Event) (e : Event) (w : Want) → IsPassing e → SawAt r f h w → SawAt r f (e ∷ h) w
saw-on r f h Ticked w is b = b
saw-on r f h Abended w is b = b
saw-on r f h (Replied go at) w is b = b
saw-on r f h (Commanded command at) w is b = b
saw-on r f h (Exited answer at) w is b = b
saw-on r f h _ w is b = absurd is

-- so what is next there is known
pub saw-passing : (r : ControlRecord) (f : ℕ → List Message) (p : Settings) (h : List Event) (e : Event) → IsPassing e → SawAt r f h (next p h)
    → SawAt r f (e ∷ h) (next p (e ∷ h))
saw-passing r f p h e is before =
    passing-next (SawAt r f (e ∷ h)) p h e is (λ w now inner. saw-on r f h e w is (subst (SawAt r f h) now before)) (saw-cases r f p (e ∷ h))
