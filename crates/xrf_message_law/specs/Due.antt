-- What is known of a job where an act on a message, an ITEM or RESTARTED comes next.
use Rattle.std.specs.Prelude.{List, Some, false, true, ◌≡◌, ℕ, ◌%◌, Bool, None}
use Rattle.xrf_msg.specs.declared.messages.Message.{Message}
use Rattle.xrf_msg.specs.Messages.{number_of}
use Rattle.xrf_history.specs.Events.{Event}
use Rattle.xrf_history.specs.declared.settings.Settings.{Settings}
use Rattle.xrf_history.proofs.SigningOff.{Stays}
use Rattle.xrf_history.specs.Taking.{is_draining}
use Rattle.xrf_history.specs.Holding.{is_restarted, is_owner}
use Rattle.xrf_history.specs.Sending.{may_write, message_due}
use Rattle.xrf_history.specs.Rows.{reading_place}
use Rattle.xrf_history.specs.Reserving.{sign_off_due}
use Rattle.xrf_history.specs.declared.want.Want.{Want}
use Rattle.xrf_history.specs.Next.{next}
use Rattle.xrf_history.specs.declared.want.Want.TheVariants as want

-- it writes this message, which is due and may be written, to its slot
pub record Sending (p : Settings) (h : List Event) (k : ℕ) (message : Message) : Type 0 where
  pub stays : Stays h
  pub drained : is_draining h ≡ false
  pub restarted : is_restarted h ≡ true
  pub due : message_due p h ≡ Some message
  pub may : may_write p h ≡ true
  pub place : k ≡ number_of message % p.limits.ring

-- it writes some message to a slot
pub record SendsSome (p : Settings) (h : List Event) (k : ℕ) : Type 0 where
  pub message : Message
  pub sending : Sending p h k message

-- it reads for a message, before its restart is done
pub record Reading (p : Settings) (h : List Event) (k : ℕ) : Type 0 where
  pub place : k ≡ reading_place p h

-- a job that is restarted reads the gate of the slot it writes to; before, it reads for a message
abbrev pub ReadsOrSends : Settings → List Event → ℕ → Bool → Type 0
ReadsOrSends p h k true = SendsSome p h k
ReadsOrSends p h k false = Reading p h k

-- its restart is done, once the messages are drained
pub record Declares (h : List Event) : Type 0 where
  pub stays : Stays h
  pub drained : is_draining h ≡ false
  pub not_yet : is_restarted h ≡ false
  pub no_sign_off : sign_off_due h ≡ None

-- what is known where an act comes next
abbrev pub DueAt : Settings → List Event → Want → Type 0
DueAt p h (want.MsgRead k) = ReadsOrSends p h k (is_restarted h)
DueAt p h (want.MsgClose k) = SendsSome p h k
DueAt p h (want.MsgBody k message) = Sending p h k message
DueAt p h (want.MsgOpen k message) = Sending p h k message
DueAt p h want.Restarted = Declares h
DueAt p h want.Item = is_restarted h ≡ true
DueAt p h _ = Unit {0}

-- a job that is restarted is an owner and has drained the messages
pub record Done (h : List Event) : Type 0 where
  pub owner : is_restarted h ≡ true → is_owner h ≡ true
  pub drained : is_restarted h ≡ true → is_draining h ≡ false

-- both, of a history
pub record IsDue (p : Settings) (h : List Event) : Type 0 where
  pub done : Done h
  pub due : DueAt p h (next p h)

-- an act by which a message is written
abbrev pub writes : Want → Bool
writes (want.MsgClose k) = true
writes (want.MsgBody k message) = true
writes (want.MsgOpen k message) = true
writes _ = false
