-- What the sender of an epoch has opened: its messages, and their count.
use Rattle.std.specs.Prelude.{Bool, true, List, false, [], ◌∷◌, ◌≡◌, ℕ, Some, length}
use Rattle.xrf_cavm.specs.declared.decisions.Decided.{Decided}
use Rattle.xrf_cavm.specs.declared.decisions.Decided.TheVariants.{Owner}
use Rattle.xrf_cavm.specs.declared.decisions.Acting.TheVariants as acting
use Rattle.xrf_msg.specs.declared.messages.Message.{Message}
use Rattle.xrf_history.specs.Events.{ActFailed, DecisionMade, Event, MessageOpened}
use Rattle.xrf_history.proofs.SigningOff.{Stays}
use Rattle.xrf_history.specs.Notices.{epoch}
use Rattle.xrf_history.specs.Sending.{sent}
use Rattle.xrf_history.specs.declared.want.Want.TheVariants as want

-- no MSGOPEN has failed since the last CATCHUP
abbrev pub unbroken_after : Decided → Bool → Bool
unbroken_after (Owner (acting.CatchUp n)) before = true
unbroken_after _ before = before

-- the same of a history
abbrev pub is_unbroken : List Event → Bool
is_unbroken [] = true
is_unbroken (DecisionMade known at decision ∷ h) = unbroken_after decision (is_unbroken h)
is_unbroken (ActFailed (want.MsgOpen place message) at ∷ h) = false
is_unbroken (_ ∷ h) = is_unbroken h

-- the messages that were opened since the last CATCHUP, the newest first
abbrev pub opened_after : Decided → List Message → List Message
opened_after (Owner (acting.CatchUp n)) before = []
opened_after _ before = before

-- the same of a history
abbrev pub opened : List Event → List Message
opened [] = []
opened (DecisionMade known at decision ∷ h) = opened_after decision (opened h)
opened (MessageOpened place message ∷ h) = message ∷ opened h
opened (_ ∷ h) = opened h

-- they are those of the epoch
pub record Lists (messages : ℕ → List Message) (h : List Event) (n : ℕ) : Type 0 where
  pub same : opened h ≡ messages n

-- an owner that has not reserved for its sign-off, with no failed MSGOPEN, has opened all messages of its epoch
abbrev pub Listed : (ℕ → List Message) → List Event → Type 0
Listed messages h = Stays h → is_unbroken h ≡ true → (n : ℕ) → epoch h ≡ Some n → Lists messages h n

-- what the sender of an epoch counts is the count of its opened messages
pub record Counts (messages : ℕ → List Message) (h : List Event) (n : ℕ) : Type 0 where
  pub same : sent h ≡ length (messages n)

-- and has counted them
abbrev pub Counted : (ℕ → List Message) → List Event → Type 0
Counted messages h = Stays h → is_unbroken h ≡ true → (n : ℕ) → epoch h ≡ Some n → Counts messages h n
