-- The messages that an owner sends to the alternate of its epoch.
use Rattle.std.specs.Prelude.{ℕ, ◌+◌, ◌-◌, ◌==◌, Bool, true, false, ◌&&◌, ◌||◌, not, nat_lt, if◌then◌else◌, List, [], ◌∷◌, filter, map, slice_get, Option, Some, None}
use Rattle.xrf_base.specs.declared.items.Item.{Item}
use Rattle.xrf_base.specs.declared.items.Item.TheVariants as items
use Rattle.xrf_base.specs.declared.items.ItemAnswer.{ItemAnswer}
use Rattle.xrf_base.specs.declared.items.ItemAnswer.TheVariants.{Done}
use Rattle.xrf_ctl.specs.declared.parts.Level.{Level}
use Rattle.xrf_ctl.specs.declared.parts.Level.TheVariants.{One, Two}
use Rattle.xrf_ctl.specs.Signal.{SignalRecord}
use Rattle.xrf_cavm.specs.declared.decisions.Acting.TheVariants as acting
use Rattle.xrf_cavm.specs.declared.decisions.Decided.{Decided}
use Rattle.xrf_cavm.specs.declared.decisions.Decided.TheVariants.{Owner}
use Rattle.xrf_msg.specs.declared.messages.Message.{Message}
use Rattle.xrf_msg.specs.declared.messages.Message.TheVariants.{Begin, Term, End, User}
use Rattle.xrf_msg.specs.Messages.{is_tracked}
use Rattle.xrf_msg.specs.Numbers.{cursor_after}
use Rattle.xrf_terms.specs.declared.rows.Row.{Row}
use Rattle.xrf_terms.specs.Table.{row_of}
use Rattle.xrf_terms.specs.Tracking.{tracked_row}
use Rattle.xrf_history.specs.declared.settings.Settings.{Settings}
use Rattle.xrf_history.specs.declared.want.Want.TheVariants as want
use Rattle.xrf_history.specs.Events.{Event, Looked1, Looked2, DecisionMade, MessageOpened, Given, ActFailed}
use Rattle.xrf_history.specs.Holding.{is_owner, is_restarted}
use Rattle.xrf_history.specs.Reserving.{or_else, is_on_message}
use Rattle.xrf_history.specs.Notices.{epoch}
use Rattle.xrf_history.specs.Terminals.{terminal_answer, table}

-- sent: the MSGOPENs since the CATCHUP of the epoch
abbrev pub sent_after : Decided → ℕ → ℕ
sent_after (Owner (acting.CatchUp n)) before = 0
sent_after _ before = before

abbrev pub sent : List Event → ℕ
sent [] = 0
sent (DecisionMade known at decision ∷ h) = sent_after decision (sent h)
sent (MessageOpened place message ∷ h) = sent h + 1
sent (ActFailed (want.MsgOpen place message) at ∷ h) = sent h + 1
sent (_ ∷ h) = sent h

-- End is sent since that CATCHUP
abbrev pub is_end : Message → Bool
is_end (End epoch seq) = true
is_end _ = false

abbrev pub end_after : Decided → Bool → Bool
end_after (Owner (acting.CatchUp n)) before = false
end_after _ before = before

abbrev pub is_end_sent : List Event → Bool
is_end_sent [] = false
is_end_sent (DecisionMade known at decision ∷ h) = end_after decision (is_end_sent h)
is_end_sent (MessageOpened place message ∷ h) = is_end_sent h || is_end message
is_end_sent (ActFailed (want.MsgOpen place message) at ∷ h) = is_end_sent h || is_end message
is_end_sent (_ ∷ h) = is_end_sent h

-- The cursor: the greatest, at most the number then sent, of a signal of the epoch in the looks since that
-- CATCHUP, and 0 where there is none.
abbrev pub cursor_of : Option ℕ → ℕ → ℕ → Option SignalRecord → ℕ
cursor_of (Some n) sent_then before (Some signal) = cursor_after n sent_then before signal
cursor_of _ sent_then before _ = before

abbrev pub cursor_by : Decided → ℕ → ℕ
cursor_by (Owner (acting.CatchUp n)) before = 0
cursor_by _ before = before

abbrev pub cursor : List Event → ℕ
cursor [] = 0
cursor (Looked1 held signal ∷ h) = cursor_of (epoch h) (sent h) (cursor h) signal
cursor (Looked2 signal at ∷ h) = cursor_of (epoch h) (sent h) (cursor h) signal
cursor (DecisionMade known at decision ∷ h) = cursor_by decision (cursor h)
cursor (_ ∷ h) = cursor h

-- it may write where sent less cursor is below RING
abbrev pub may_write : Settings → List Event → Bool
may_write p h = nat_lt (sent h - cursor h) p.limits.ring

-- the rows of class 1 or 2, in the table's order
abbrev pub tracked_rows : List Row → List Row
tracked_rows rows = filter (λ (row : Row). is_tracked row.class) rows

-- a message of a terminal is Term at level 1, and User at level 2, where an on carries the row's user
abbrev pub on_message : Level → (epoch number : ℕ) → Row → Message
on_message One n q row = Term n q row.term row.class true
on_message Two n q row = User n q row.term row.class true row.user

abbrev pub off_message : Level → (epoch number : ℕ) → Row → Message
off_message One n q row = Term n q row.term row.class false
off_message Two n q row = User n q row.term row.class false None

-- The message of an item of a terminal of class 1 or 2 that is answered Done: an off for LOGOFF, of the row
-- before it, else an on, of the row after it. SIGNON and SIGNOFF have one at level 2 alone.
abbrev pub if_tracked : Level → (epoch number : ℕ) → Bool → Option Row → Option Message
if_tracked level n q on None = None
if_tracked level n q true (Some row) = if is_tracked row.class then Some (on_message level n q row) else None
if_tracked level n q false (Some row) = if is_tracked row.class then Some (off_message level n q row) else None

abbrev pub is_done : ItemAnswer → Bool
is_done Done = true
is_done _ = false

abbrev pub at_level_two : Level → Option Message → Option Message
at_level_two One message = None
at_level_two Two message = message

abbrev pub change_message : Level → (epoch number : ℕ) → Item → (before after : List Row) → Option Message
change_message level n q (items.Logon term class) before after = if_tracked level n q true (row_of term after)
change_message level n q (items.Logoff term) before after = if_tracked level n q false (row_of term before)
change_message level n q (items.Signon term user) before after = at_level_two level (if_tracked level n q true (row_of term after))
change_message level n q (items.Signoff term) before after = at_level_two level (if_tracked level n q true (row_of term after))
change_message level n q _ before after = None

abbrev pub message_of_item : Settings → (epoch number : ℕ) → Item → List Event → Option Message
message_of_item p n q item h =
    if is_done (terminal_answer item (table p h)).answer
    then change_message p.level n q item (table p h) (terminal_answer item (table p h)).rows else None

-- after End: the message of the last such item, where no MSGOPEN follows it
abbrev pub message_of_change : Settings → (epoch number : ℕ) → List Event → Option Message
message_of_change p n q [] = None
message_of_change p n q (MessageOpened place message ∷ h) = None
message_of_change p n q (ActFailed (want.MsgOpen place message) at ∷ h) = None
message_of_change p n q (Given item ∷ h) = or_else (message_of_item p n q item h) (message_of_change p n q h)
message_of_change p n q (_ ∷ h) = message_of_change p n q h

-- before End: Begin first, then the on of each row of class 1 or 2, in the table's order, then End
abbrev pub on_or_end : Level → (epoch number : ℕ) → Option Row → Message
on_or_end level n q (Some row) = on_message level n q row
on_or_end level n q None = End n q

abbrev pub message_of_catch_up : Settings → (epoch number : ℕ) → List Row → Message
message_of_catch_up p n q rows = if q == 0 then Begin n else on_or_end p.level n q (slice_get (tracked_rows rows) (q - 1))

-- the message due; without an epoch none is
abbrev pub message_due_in : Settings → Option ℕ → List Event → Option Message
message_due_in p None h = None
message_due_in p (Some n) h =
    elim (is_end_sent h) [
      | true ↦ message_of_change p n (sent h) h
      | false ↦ Some (message_of_catch_up p n (sent h) (table p h))
    ]

abbrev pub message_due : Settings → List Event → Option Message
message_due p h = message_due_in p (epoch h) h

-- a message has failed since that CATCHUP
abbrev pub cut_after : Decided → Bool → Bool
cut_after (Owner (acting.CatchUp n)) before = false
cut_after _ before = before

abbrev pub is_cut : List Event → Bool
is_cut [] = false
is_cut (DecisionMade known at decision ∷ h) = cut_after decision (is_cut h)
is_cut (ActFailed tried at ∷ h) = is_cut h || is_on_message tried
is_cut (_ ∷ h) = is_cut h

-- its alternate is caught up: it has sent End, and no message has failed since the CATCHUP
abbrev pub is_caught_up : List Event → Bool
is_caught_up h = is_owner h && is_restarted h && is_end_sent h && not (is_cut h)

-- what its messages tell of a table: the rows of class 1 or 2, and at level 2 their users
abbrev pub told_row : Level → Row → Row
told_row One row = tracked_row row.term row.class None
told_row Two row = tracked_row row.term row.class row.user

abbrev pub told_rows : Level → List Row → List Row
told_rows level rows = map (told_row level) (tracked_rows rows)
