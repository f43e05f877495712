-- The message due is of the epoch, and its number is that of the messages sent.
use Rattle.std.proofs.Common.{refl, ℕ, IfSome, Option, Bool, None, Some, false, true, if◌then◌else◌, List, [], ◌∷◌, eqb-true, slice_get, sym, ◌≡◌, ◌==◌, ◌-◌, subst}
use Rattle.xrf_base.specs.declared.items.Item.{Item}
use Rattle.xrf_base.specs.declared.items.Item.TheVariants as items
use Rattle.xrf_ctl.specs.declared.parts.Level.{Level}
use Rattle.xrf_ctl.specs.declared.parts.Level.TheVariants.{One, Two}
use Rattle.xrf_msg.specs.declared.messages.Message.{Message}
use Rattle.xrf_msg.specs.Messages.{is_tracked, epoch_of, number_of}
use Rattle.xrf_msg.specs.declared.messages.Message.TheVariants.{Begin}
use Rattle.xrf_terms.specs.declared.rows.Row.{Row}
use Rattle.xrf_terms.specs.Table.{row_of}
use Rattle.xrf_history.specs.Notices.{epoch}
use Rattle.xrf_history.specs.Sending.{on_message, off_message, if_tracked, at_level_two, change_message, is_done, message_of_item, message_of_change, on_or_end, message_of_catch_up, tracked_rows, is_end_sent, message_due_in, sent, message_due}
use Rattle.xrf_history.specs.Events.{Event, ActFailed, Given, MessageOpened}
use Rattle.xrf_history.specs.declared.settings.Settings.{Settings}
use Rattle.xrf_history.specs.Terminals.{table, terminal_answer}
use Rattle.xrf_history.specs.Reserving.{or_else}
use Rattle.xrf_history.specs.declared.want.Want.TheVariants as want
use Rattle.xrf_message_law.specs.Numbering.{IsOf}

-- an on is of its epoch and number
on-is : (level : Level) (n q : ℕ) (row : Row) → IsOf n q (on_message level n q row)
on-is One n q row = record { epoch = refl; number = refl }
on-is Two n q row = record { epoch = refl; number = refl }

-- and an off
off-is : (level : Level) (n q : ℕ) (row : Row) → IsOf n q (off_message level n q row)
off-is One n q row = record { epoch = refl; number = refl }
off-is Two n q row = record { epoch = refl; number = refl }

-- a message, where there is one, is of an epoch and a number
abbrev AreOf : ℕ → ℕ → Option Message → Type 0
AreOf n q o = IfSome o (IsOf n q)

-- so is that of a tracked row
if-is : (n q : ℕ) (m : Message) (b : Bool) → IsOf n q m → AreOf n q (if b then Some m else None)
if-is n q m true is = is
if-is n q m false is = tt

-- that of a row, where it is tracked
tracked-is : (level : Level) (n q : ℕ) (on : Bool) (o : Option Row) → AreOf n q (if_tracked level n q on o)
tracked-is level n q on None = tt
tracked-is level n q true (Some row) = if-is n q (on_message level n q row) (is_tracked row.class) (on-is level n q row)
tracked-is level n q false (Some row) = if-is n q (off_message level n q row) (is_tracked row.class) (off-is level n q row)

-- that of level 2
two-is : (level : Level) (n q : ℕ) (o : Option Message) → AreOf n q o → AreOf n q (at_level_two level o)
two-is One n q o is = tt
two-is Two n q o is = is

-- that of a change
change-is : (level : Level) (n q : ℕ) (item : Item) (before after : List Row) → AreOf n q (change_message level n q item before after)
change-is level n q (items.Logon term class) before after = tracked-is level n q true (row_of term after)
change-is level n q (items.Logoff term) before after = tracked-is level n q false (row_of term before)
change-is level n q (items.Signon term user) before after =
    two-is level n q (if_tracked level n q true (row_of term after)) (tracked-is level n q true (row_of term after))
change-is level n q (items.Signoff term) before after =
    two-is level n q (if_tracked level n q true (row_of term after)) (tracked-is level n q true (row_of term after))
change-is level n q _ before after = tt

-- that of an item
item-is : (p : Settings) (n q : ℕ) (item : Item) (h : List Event) → AreOf n q (message_of_item p n q item h)
item-is p n q item h = by (is_done (terminal_answer item (table p h)).answer)
  where
    by : (b : Bool) → AreOf n q (if b then change_message p.level n q item (table p h) (terminal_answer item (table p h)).rows else None)
    by true = change-is p.level n q item (table p h) (terminal_answer item (table p h)).rows
    by false = tt

-- the newer of two
newer-is : (n q : ℕ) (a b : Option Message) → AreOf n q a → AreOf n q b → AreOf n q (or_else a b)
newer-is n q (Some m) b is rest = is
newer-is n q None b is rest = rest

-- that of the last change
of_change-is : (p : Settings) (n q : ℕ) (h : List Event) → AreOf n q (message_of_change p n q h)
of_change-is p n q [] = tt
of_change-is p n q (MessageOpened place message ∷ h) = tt
of_change-is p n q (ActFailed (want.MsgOpen place message) at ∷ h) = tt
of_change-is p n q (Given item ∷ h) = newer-is n q (message_of_item p n q item h) (message_of_change p n q h) (item-is p n q item h) (of_change-is p n q h)
of_change-is p n q (_ ∷ h) = of_change-is p n q h

-- End, or an on
end-is : (level : Level) (n q : ℕ) (o : Option Row) → IsOf n q (on_or_end level n q o)
end-is level n q (Some row) = on-is level n q row
end-is level n q None = record { epoch = refl; number = refl }

-- that of a catch-up
catch_up-is : (p : Settings) (n q : ℕ) (rows : List Row) → IsOf n q (message_of_catch_up p n q rows)
catch_up-is p n q rows = by (q == 0) refl
  where
    by : (b : Bool) → (q == 0) ≡ b → IsOf n q (if b then Begin n else on_or_end p.level n q (slice_get (tracked_rows rows) (q - 1)))
    by true first = record { epoch = refl; number = sym (eqb-true q 0 first) }
    by false later = end-is p.level n q (slice_get (tracked_rows rows) (q - 1))

-- the message due of an epoch
due_in-is : (p : Settings) (n : ℕ) (h : List Event) → AreOf n (sent h) (message_due_in p (Some n) h)
due_in-is p n h = by (is_end_sent h)
  where
    by : (b : Bool) → AreOf n (sent h) (elim b [ true ↦ message_of_change p n (sent h) h | false ↦ Some (message_of_catch_up p n (sent h) (table p h)) ])
    by true = of_change-is p n (sent h) h
    by false = catch_up-is p n (sent h) (table p h)

-- the message that is due in a job with an epoch
pub record IsDueOf (h : List Event) (message : Message) : Type 0 where
  pub epoch_is : epoch h ≡ Some (epoch_of message)
  pub number_is : number_of message ≡ sent h

-- **the message due is of the job's epoch, and its number is what was sent**
pub due-is : (p : Settings) (h : List Event) (m : Message) → message_due p h ≡ Some m → IsDueOf h m
due-is p h m due = by (epoch h) refl due
  where
    at : (n : ℕ) → epoch h ≡ Some n → (o : Option Message) → o ≡ Some m → AreOf n (sent h) o → IsDueOf h m
    at n is o same of = let one : IsOf n (sent h) m = subst (AreOf n (sent h)) same of in
        record { epoch_is = subst (λ (k : ℕ). epoch h ≡ Some k) (sym one.epoch) is; number_is = one.number }

    by : (o : Option ℕ) → epoch h ≡ o → message_due_in p o h ≡ Some m → IsDueOf h m
    by None is same = absurd (cc)
    by (Some n) is same = at n is (message_due_in p (Some n) h) same (due_in-is p n h)
