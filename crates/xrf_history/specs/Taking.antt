-- The messages that a job has taken.
use Rattle.std.specs.Prelude.{ℕ, Bool, false, ◌&&◌, ◌||◌, not, is_some, if◌then◌else◌, List, [], ◌∷◌, length, Option, Some, None}
use Rattle.xrf_msg.specs.declared.messages.Message.{Message}
use Rattle.xrf_msg.specs.Numbers.{given}
use Rattle.xrf_history.specs.declared.want.Want.TheVariants as want
use Rattle.xrf_history.specs.Events.{Event, MessageRead, ActFailed}
use Rattle.xrf_history.specs.Holding.{number, is_let_through, is_restarted}

abbrev pub with_message : Option Message → List Message → List Message
with_message None messages = messages
with_message (Some message) messages = message ∷ messages

-- The messages that MSGREADs before RESTARTED gave, the newest first. A slot gives one where it is open
-- and spells a message of the job's incarnation whose number is the count of those taken before.
abbrev pub taken : List Event → List Message
taken [] = []
taken (MessageRead place slot ∷ h) = if is_restarted h then taken h else with_message (given slot (number h) (length (taken h))) (taken h)
taken (_ ∷ h) = taken h

-- the number of the message that it takes next
abbrev pub expected : List Event → ℕ
expected h = length (taken h)

-- a slot that it reads now gives a message
abbrev pub gives : List ℕ → List Event → Bool
gives slot h = is_some (given slot (number h) (expected h))

-- drained: a MSGREAD after the through gave none
abbrev pub is_drained : List Event → Bool
is_drained [] = false
is_drained (MessageRead place slot ∷ h) = is_drained h || (is_let_through h && not (gives slot h))
is_drained (ActFailed (want.MsgRead place) at ∷ h) = is_drained h || is_let_through h
is_drained (_ ∷ h) = is_drained h

-- it was let through, and the messages are not drained
abbrev pub is_draining : List Event → Bool
is_draining h = is_let_through h && not (is_drained h)
