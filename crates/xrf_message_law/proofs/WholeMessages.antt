-- A message that is due is one: its numbers are in their ranges, and its names are names.
use Rattle.std.proofs.Common.{IfSome, Option, nat_le, true, ◌≡◌, ℕ, Bool, None, Some, false, refl, if◌then◌else◌, List, [], ◌∷◌, slice_get, suc, zero, arith, ◌-◌, ◌^◌, ◌<◌, ◌==◌, ◌≤◌, subst}
use Rattle.std.proofs.lemmas.Bool.{and_parts, leb-true}
use Rattle.std.proofs.lemmas.Grind.{common_steps}
use Rattle.xrf_base.specs.declared.items.Item.{Item}
use Rattle.xrf_base.specs.declared.items.Item.TheVariants as items
use Rattle.xrf_ctl.specs.declared.parts.Level.{Level}
use Rattle.xrf_ctl.specs.declared.parts.Level.TheVariants.{One, Two}
use Rattle.xrf_cavm.specs.declared.decisions.Decided.{Decided}
use Rattle.xrf_cavm.specs.declared.decisions.Decided.TheVariants.{Owner}
use Rattle.xrf_cavm.specs.declared.decisions.Acting.TheVariants as acting
use Rattle.xrf_msg.specs.Messages.{HasNames, HasRanges, IsTracked, is_tracked, IsNumber}
use Rattle.xrf_msg.specs.declared.messages.Message.{Message}
use Rattle.xrf_msg.specs.declared.messages.Message.TheVariants.{Begin}
use Rattle.xrf_terms.specs.declared.rows.Row.{Row}
use Rattle.xrf_terms.specs.Table.{row_of}
use Rattle.xrf_history.specs.Sending.{on_message, off_message, if_tracked, at_level_two, change_message, is_done, message_of_item, message_of_change, tracked_rows, on_or_end, message_of_catch_up, end_after, is_end_sent, sent, sent_after, message_due_in, message_due}
use Rattle.xrf_history.specs.Events.{Event, ActFailed, Given, MessageOpened, DecisionMade}
use Rattle.xrf_history.specs.declared.settings.Settings.{Settings}
use Rattle.xrf_history.specs.Terminals.{table, terminal_answer}
use Rattle.xrf_history.specs.Reserving.{or_else}
use Rattle.xrf_history.specs.Notices.{epoch}
use Rattle.xrf_history.specs.declared.want.Want.TheVariants as want
use Rattle.xrf_message_law.specs.Names.{RowNamed, AreNamed, ItemNamed}
use Rattle.xrf_message_law.proofs.RowNames.{row_of-named, answer-named}
use Rattle.xrf_message_law.proofs.TableNames.{Named, IsNamed}

-- a message is whole
abbrev IsWhole : Message → Type 0
IsWhole m = HasRanges m × HasNames m

-- a message, where there is one, is whole
abbrev WholeIf : Option Message → Type 0
WholeIf o = IfSome o IsWhole

-- a tracked class is 1 or 2
tracked-is : (class : ℕ) → is_tracked class ≡ true → IsTracked class
tracked-is class passes =
    record {
      least = leb-true 1 class (and_parts (nat_le 1 class) (nat_le class 2) passes).0;
      most = leb-true class 2
          (and_parts (nat_le 1 class) (nat_le class 2) passes).1;
    }

-- an on of a row with names
on-whole : (level : Level) (n q : ℕ) (row : Row) → IsNumber n → IsNumber q → is_tracked row.class ≡ true → RowNamed row → IsWhole (on_message level n q row)
on-whole One n q row epoch_is number_is class_is row_is = ((epoch_is, number_is, tracked-is row.class class_is), row_is.term)
on-whole Two n q row epoch_is number_is class_is row_is = ((epoch_is, number_is, tracked-is row.class class_is, tt), (row_is.term, row_is.user))

-- an off
off-whole : (level : Level) (n q : ℕ) (row : Row) → IsNumber n → IsNumber q → is_tracked row.class ≡ true → RowNamed row → IsWhole (off_message level n q row)
off-whole One n q row epoch_is number_is class_is row_is = ((epoch_is, number_is, tracked-is row.class class_is), row_is.term)
off-whole Two n q row epoch_is number_is class_is row_is = ((epoch_is, number_is, tracked-is row.class class_is, tt), (row_is.term, tt))

-- the message of a tracked row
if-tracked : (level : Level) (n q : ℕ) (on : Bool) (o : Option Row) → IsNumber n → IsNumber q → IfSome o RowNamed → WholeIf (if_tracked level n q on o)
if-tracked level n q on None e i row_is = tt
if-tracked level n q true (Some row) e i row_is = by (is_tracked row.class) refl
  where
    by : (b : Bool) → is_tracked row.class ≡ b → WholeIf (if b then Some (on_message level n q row) else None)
    by true is = on-whole level n q row e i is row_is
    by false is = tt
if-tracked level n q false (Some row) e i row_is = by (is_tracked row.class) refl
  where
    by : (b : Bool) → is_tracked row.class ≡ b → WholeIf (if b then Some (off_message level n q row) else None)
    by true is = off-whole level n q row e i is row_is
    by false is = tt

-- that of level 2
two-whole : (level : Level) (o : Option Message) → WholeIf o → WholeIf (at_level_two level o)
two-whole One o is = tt
two-whole Two o is = is

-- that of a change
change-whole : (level : Level) (n q : ℕ) (item : Item) (before after : List Row) → IsNumber n → IsNumber q → AreNamed before → AreNamed after
    → WholeIf (change_message level n q item before after)
change-whole level n q (items.Logon term class) before after e i old new = if-tracked level n q true (row_of term after) e i (row_of-named term after new)
change-whole level n q (items.Logoff term) before after e i old new = if-tracked level n q false (row_of term before) e i (row_of-named term before old)
change-whole level n q (items.Signon term user) before after e i old new =
    two-whole level (if_tracked level n q true (row_of term after)) (if-tracked level n q true (row_of term after) e i (row_of-named term after new))
change-whole level n q (items.Signoff term) before after e i old new =
    two-whole level (if_tracked level n q true (row_of term after)) (if-tracked level n q true (row_of term after) e i (row_of-named term after new))
change-whole level n q _ before after e i old new = tt

-- that of an item
item-whole : (p : Settings) (n q : ℕ) (item : Item) (h : List Event) → IsNumber n → IsNumber q → AreNamed (table p h) → ItemNamed item
    → WholeIf (message_of_item p n q item h)
item-whole p n q item h e i rows is = by (is_done (terminal_answer item (table p h)).answer)
  where
    by : (b : Bool) → WholeIf (if b then change_message p.level n q item (table p h) (terminal_answer item (table p h)).rows else None)
    by true = change-whole p.level n q item (table p h) (terminal_answer item (table p h)).rows e i rows (answer-named item (table p h) is rows)
    by false = tt

-- the newer of two
newer-whole : (a b : Option Message) → WholeIf a → WholeIf b → WholeIf (or_else a b)
newer-whole (Some m) b is rest = is
newer-whole None b is rest = rest

-- that of the last change
of_change-whole : (p : Settings) (n q : ℕ) (h : List Event) → IsNumber n → IsNumber q → Named p h → WholeIf (message_of_change p n q h)
of_change-whole p n q [] e i named = tt
of_change-whole p n q (MessageOpened place message ∷ h) e i named = tt
of_change-whole p n q (ActFailed (want.MsgOpen place message) at ∷ h) e i named = tt
of_change-whole p n q (Given item ∷ h) e i named =
    newer-whole (message_of_item p n q item h) (message_of_change p n q h) (item-whole p n q item h e i named.1 named.2) (of_change-whole p n q h e i named.0)
of_change-whole p n q (_ ∷ h) e i named = of_change-whole p n q h e i named

-- the rows of a catch-up
record IsGood (row : Row) : Type 0 where
  named : RowNamed row
  class : is_tracked row.class ≡ true

-- each of some rows
abbrev AreGood : List Row → Type 0
AreGood [] = Unit {0}
AreGood (row ∷ rows) = IsGood row × AreGood rows

-- the rows that are tracked
tracked-good : (rows : List Row) → AreNamed rows → AreGood (tracked_rows rows)
tracked-good [] named = tt
tracked-good (row ∷ rows) named = by (is_tracked row.class) refl (tracked-good rows named.1)
  where
    by : (b : Bool) → is_tracked row.class ≡ b → AreGood (tracked_rows rows) → AreGood (if b then row ∷ tracked_rows rows else tracked_rows rows)
    by true is rest = (record { named = named.0; class = is }, rest)
    by false is rest = rest

-- a row of them
good-at : (rows : List Row) (i : ℕ) → AreGood rows → IfSome (slice_get rows i) IsGood
good-at [] i good = tt
good-at (row ∷ rows) zero good = good.0
good-at (row ∷ rows) (suc i) good = good-at rows i good.1

-- End, or an on
end-whole : (level : Level) (n q : ℕ) (o : Option Row) → IsNumber n → IsNumber q → IfSome o IsGood → IsWhole (on_or_end level n q o)
end-whole level n q (Some row) e i good = on-whole level n q row e i good.class good.named
end-whole level n q None e i good = ((e, i), tt)

-- that of a catch-up
catch_up-whole : (p : Settings) (n q : ℕ) (rows : List Row) → IsNumber n → q < 2 ^ 32 → AreNamed rows → IsWhole (message_of_catch_up p n q rows)
catch_up-whole p n q rows e few named = by (q == 0) refl
  where
    by : (b : Bool) → (q == 0) ≡ b → IsWhole (if b then Begin n else on_or_end p.level n q (slice_get (tracked_rows rows) (q - 1)))
    by true first = (e, tt)
    by false later =
        end-whole p.level n q (slice_get (tracked_rows rows) (q - 1)) e (record { least = grind (arith, common_steps, later); most = few })
        (good-at (tracked_rows rows) (q - 1) (tracked-good rows named))

-- once End is sent, a message is
sent-end : (h : List Event) → is_end_sent h ≡ true → 1 ≤ sent h
sent-end [] is = absurd (cc)
sent-end (DecisionMade known at decision ∷ h) is = by decision is (sent-end h)
  where
    by : (d : Decided) → end_after d (is_end_sent h) ≡ true → (is_end_sent h ≡ true → 1 ≤ sent h) → 1 ≤ sent_after d (sent h)
    by (Owner (acting.CatchUp n)) none rest = absurd (cc)
    by (Owner _) is rest = rest is
    by _ is rest = rest is
sent-end (MessageOpened place message ∷ h) is = omega arith
sent-end (ActFailed (want.MsgOpen place message) at ∷ h) is = omega arith
sent-end (_ ∷ h) is = sent-end h is

-- the message due of an epoch
due_in-whole : (p : Settings) (n : ℕ) (h : List Event) → IsNumber n → sent h < 2 ^ 32 → IsNamed p h → WholeIf (message_due_in p (Some n) h)
due_in-whole p n h e few named = by (is_end_sent h) refl
  where
    by : (b : Bool) → is_end_sent h ≡ b
        → WholeIf (elim b [ true ↦ message_of_change p n (sent h) h | false ↦ Some (message_of_catch_up p n (sent h) (table p h)) ])
    by true is = of_change-whole p n (sent h) h e (record { least = sent-end h is; most = few }) named.named
    by false is = catch_up-whole p n (sent h) (table p h) e few named.rows

-- **the message due is whole**
pub due-whole : (p : Settings) (h : List Event) (m : Message) (n : ℕ) → epoch h ≡ Some n → IsNumber n → sent h < 2 ^ 32 → IsNamed p h
    → message_due p h ≡ Some m → HasRanges m × HasNames m
due-whole p h m n is e few named due =
    let one : message_due_in p (Some n) h ≡ Some m = subst (λ (o : Option ℕ). message_due_in p o h ≡ Some m) is due in
    subst WholeIf one (due_in-whole p n h e few named)
