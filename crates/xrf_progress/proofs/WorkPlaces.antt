-- Where an owner stands at its work, up to its next item: in its round, in the write of a message, or of a keypoint.
use Rattle.std.proofs.Common.{◌==◌, ◌≡◌, ℕ, ◌+◌, ◌-◌, ◌/◌, ◌%◌, ◌≤◌, ◌&&◌, not, nat_lt, nat_le, max, Bool, true, false, ◌⊎◌, inl, inr, List, ◌∷◌, Option, Some, None, is_some, is_none, refl, ap, ◌∙◌, arith, if◌then◌else◌}
use Rattle.std.proofs.lemmas.Grind.{common_steps}
use Rattle.xrf_base.specs.declared.site.Site.{Site}
use Rattle.xrf_ctl.specs.declared.parts.OwnerState.{OwnerState}
use Rattle.xrf_ctl.specs.Control.{ControlRecord}
use Rattle.xrf_ctl.specs.Signal.{SignalRecord}
use Rattle.xrf_cavm.specs.Decisions.{is_of_epoch, decide_active}
use Rattle.xrf_cavm.specs.Watch.{is_lost, is_news, last_look, changes, latest}
use Rattle.xrf_cavm.specs.declared.known.Known.{Known}
use Rattle.xrf_cavm.specs.declared.decisions.Acting.TheVariants as acting
use Rattle.xrf_cavm.specs.declared.decisions.Decided.TheVariants.{Owner}
use Rattle.xrf_exit.specs.declared.Notice.{Notice}
use Rattle.xrf_logrec.specs.declared.keypoints.Keypoint.{Keypoint}
use Rattle.xrf_msg.specs.declared.messages.Message.{Message}
use Rattle.xrf_msg.specs.Messages.{number_of}
use Rattle.xrf_file.specs.Ledger.{oldest}
use Rattle.xrf_history.specs.declared.settings.Settings.{Settings}
use Rattle.xrf_history.specs.declared.want.Want.TheVariants as want
use Rattle.xrf_history.specs.Events.{Event, Signalled1, Signalled2, Looked1, Looked2, DecisionMade, KeyOpened}
use Rattle.xrf_history.specs.Holding.{is_owner, is_restarted}
use Rattle.xrf_history.specs.Deciding.{cause}
use Rattle.xrf_history.specs.Looking.{change, record_seen, signal_seen, told_to_watch}
use Rattle.xrf_history.specs.Next.{inside}
use Rattle.xrf_history.specs.Notices.{epoch, notice}
use Rattle.xrf_history.specs.Reserving.{sign_off_due, drop_due}
use Rattle.xrf_history.specs.Rows.{boundary, has_signalled, active_next}
use Rattle.xrf_history.specs.Sending.{is_end_sent, may_write, message_due, message_due_in, message_of_change, message_of_catch_up, sent, cursor, cursor_of}
use Rattle.xrf_history.specs.Taking.{is_draining}
use Rattle.xrf_history.specs.Terminals.{table}
use Rattle.xrf_history.specs.Working.{keypoint_due, next_keypoint, ledger}
use Rattle.xrf_trace.specs.declared.entry.Entry.{Entry}
use Rattle.xrf_trace.specs.Words.{now, items_taken}
use Rattle.xrf_trace.specs.Devices.{control}
use Rattle.xrf_progress.specs.Working.{IsSettled}
use Rattle.xrf_progress.proofs.Rounds.{larger-within}

-- what is read of an owner throughout
pub record WorkView : Type 0 where
  pub owner : Bool
  pub restarted : Bool
  pub draining : Bool
  pub off : Option OwnerState
  pub told : Option Notice
  pub drop : Bool
  pub epoch : Option ℕ
  pub change : ℕ

-- of a history
abbrev pub work_view : List Event → WorkView
work_view h = record {
  owner = is_owner h;
  restarted = is_restarted h;
  draining = is_draining h;
  off = sign_off_due h;
  told = notice h;
  drop = drop_due h;
  epoch = epoch h;
  change = change h;
}

-- what stands beside it: the record, the items taken, and the tick
pub record Ground : Type 0 where
  pub held : ControlRecord
  pub count : ℕ
  pub at : ℕ

-- of a trace
abbrev pub ground : List Entry → Site → Ground
ground t x = record { held = control t; count = items_taken t x; at = now t }

-- an owner at its work
pub record Steady (p : Settings) (g : Ground) (all : ℕ) (v : WorkView) : Type 0 where
  pub owner : v.owner ≡ true
  pub restarted : v.restarted ≡ true
  pub drained : v.draining ≡ false
  pub no_off : v.off ≡ None
  pub no_told : v.told ≡ None
  pub no_drop : v.drop ≡ false
  pub more : nat_lt g.count all ≡ true
  pub settled : IsSettled g.held v.epoch
  pub missed : (is_some v.epoch && is_lost v.change p.pdi g.at) ≡ false
  pub by_now : v.change ≤ g.at

-- nothing is left to send: it has no alternate, or all is told to it
abbrev pub IsTold : Settings → List Event → Type 0
IsTold p h = (epoch h ≡ None) ⊎ ((n : ℕ) × (epoch h ≡ Some n) × (is_end_sent h ≡ true) × (message_of_change p n (sent h) h ≡ None))

-- a message is left to send to the epoch
pub record Owes (p : Settings) (h : List Event) (n : ℕ) (message : Message) : Type 0 where
  pub of_epoch : epoch h ≡ Some n
  pub end_sent : is_end_sent h ≡ true
  pub due : message_of_change p n (sent h) h ≡ Some message

-- what it has to send, with so many acts: nothing, or one message, with room for it
pub data Due (p : Settings) (h : List Event) (acts : ℕ) : Type 0 where
  Nothing : IsTold p h → Due p h acts
  One : (n : ℕ) → (message : Message) → Owes p h n message → may_write p h ≡ true → 4 ≤ acts → Due p h acts

-- where it stands, with so many acts left up to its ITEM: in its round, in the write of a message, or of a keypoint
pub data Stands (p : Settings) (g : Ground) (all : ℕ) (left : ℕ) (h : List Event) : Type 0 where
  ToSignal1 : Steady p g all (work_view h) → inside p h ≡ None → has_signalled h ≡ false → (m : ℕ) → Due p h m → m + 10 ≤ left → Stands p g all left h
  ToSignal2 : Steady p g all (work_view h) → has_signalled h ≡ true → (signal : SignalRecord) → inside p h ≡ Some (want.Signal2 signal) → (m : ℕ) → Due p h m
      → m + 9 ≤ left → Stands p g all left h
  ToLook1 : Steady p g all (work_view h) → has_signalled h ≡ true → inside p h ≡ Some want.Look1 → (m : ℕ) → Due p h m → m + 8 ≤ left → Stands p g all left h
  ToLook2 : Steady p g all (work_view h) → has_signalled h ≡ true → inside p h ≡ Some want.Look2 → IsSettled (record_seen h) (epoch h) → (m : ℕ) → Due p h m
      → m + 7 ≤ left → Stands p g all left h
  ToDecide : Steady p g all (work_view h) → has_signalled h ≡ true → inside p h ≡ Some want.Decide → IsSettled (record_seen h) (epoch h) → (m : ℕ) → Due p h m
      → m + 6 ≤ left → Stands p g all left h
  AtBoundary : Steady p g all (work_view h) → has_signalled h ≡ true → inside p h ≡ None → (m : ℕ) → Due p h m → m + 5 ≤ left → Stands p g all left h
  ToClose : Steady p g all (work_view h) → has_signalled h ≡ true → (place n : ℕ) → (message : Message) → inside p h ≡ Some (want.MsgClose place)
      → Owes p h n message → 8 ≤ left → Stands p g all left h
  ToBody : Steady p g all (work_view h) → has_signalled h ≡ true → (place n : ℕ) → (message : Message) → inside p h ≡ Some (want.MsgBody place message)
      → Owes p h n message → 7 ≤ left → Stands p g all left h
  ToOpen : Steady p g all (work_view h) → has_signalled h ≡ true → (place n : ℕ) → (message : Message) → inside p h ≡ Some (want.MsgOpen place message)
      → Owes p h n message → 6 ≤ left → Stands p g all left h
  ToKpClose : Steady p g all (work_view h) → has_signalled h ≡ true → (place : ℕ) → inside p h ≡ Some (want.KpClose place) → IsTold p h → 4 ≤ left
      → Stands p g all left h
  ToKpBody : Steady p g all (work_view h) → has_signalled h ≡ true → (place : ℕ) → (kp : Keypoint) → inside p h ≡ Some (want.KpBody place kp)
      → kp.start ≡ oldest (ledger p h) → IsTold p h → 3 ≤ left → Stands p g all left h
  ToKpOpen : Steady p g all (work_view h) → has_signalled h ≡ true → (place : ℕ) → (kp : Keypoint) → inside p h ≡ Some (want.KpOpen place kp)
      → kp.start ≡ oldest (ledger p h) → IsTold p h → 2 ≤ left → Stands p g all left h
  ToItem : Steady p g all (work_view h) → has_signalled h ≡ true → inside p h ≡ None → IsTold p h → keypoint_due p h ≡ false → 1 ≤ left → Stands p g all left h

-- where nothing is left to send no message is due
pub told-due : (p : Settings) (h : List Event) → IsTold p h → message_due p h ≡ None
told-due p h (inl none) = ap (λ (o : Option ℕ). message_due_in p o h) none
told-due p h (inr (n, of_epoch, end_sent, due)) =
    ap (λ (o : Option ℕ). message_due_in p o h) of_epoch
    ∙ ap (λ (b : Bool). elim b [ true ↦ message_of_change p n (sent h) h | false ↦ Some (message_of_catch_up p n (sent h) (table p h)) ]) end_sent ∙ due

-- and a message that is left is due
pub owes-due : (p : Settings) (h : List Event) (n : ℕ) (message : Message) → Owes p h n message → message_due p h ≡ Some message
owes-due p h n message o =
    ap (λ (m : Option ℕ). message_due_in p m h) o.of_epoch
    ∙ ap (λ (b : Bool). elim b [ true ↦ message_of_change p n (sent h) h | false ↦ Some (message_of_catch_up p n (sent h) (table p h)) ]) o.end_sent ∙ o.due

-- an owner at its work sends messages, writes keypoints, or takes items
pub works-boundary : (p : Settings) (h : List Event) (m : Option Message) → is_owner h ≡ true → is_restarted h ≡ true → is_draining h ≡ false → sign_off_due h ≡ None
    → notice h ≡ None → drop_due h ≡ false → has_signalled h ≡ true → message_due p h ≡ m → boundary p h ≡ active_next p h m
works-boundary p h m owner restarted drained no_off no_told no_drop signalled due = grind (arith, common_steps)

-- a message that it may write is read for first
pub message-first : (p : Settings) (h : List Event) (m : Message) → may_write p h ≡ true → active_next p h (Some m) ≡ want.MsgRead (number_of m % p.limits.ring)
message-first p h m room = grind (arith, common_steps)

-- a keypoint that is due is written next, and else an item is taken
pub keypoint-first : (p : Settings) (h : List Event) → keypoint_due p h ≡ true → active_next p h None ≡ want.KpRead ((next_keypoint p h).number % 2)
keypoint-first p h due = grind (arith, common_steps)

pub item-first : (p : Settings) (h : List Event) → keypoint_due p h ≡ false → active_next p h None ≡ want.Item
item-first p h due = grind (arith, common_steps)

-- with the keypoint opened that was due none is due
pub keypoint-done : (p : Settings) (h : List Event) (place : ℕ) (kp : Keypoint) → kp.start ≡ oldest (ledger p h) → keypoint_due p (KeyOpened place kp ∷ h) ≡ false
keypoint-done p h place kp is = by kp.start (oldest (ledger p h)) is (is_restarted h) (nat_le (p.limits.log / 2) ((ledger p h).next - kp.start))
  where
    by : (a b : ℕ) → a ≡ b → (c d : Bool) → (c && d && nat_lt a b) ≡ false
    by a b same c d = grind (arith, common_steps)

-- the cursor does not fall
cursor-rises : (o : Option ℕ) (sent_then before : ℕ) (signal : Option SignalRecord) → before ≤ cursor_of o sent_then before signal
cursor-rises None sent_then before signal = omega arith
cursor-rises (Some n) sent_then before None = omega arith
cursor-rises (Some n) sent_then before (Some signal) = by (signal.inc == n && nat_le signal.cursor sent_then)
  where
    by : (b : Bool) → before ≤ (if b then max before signal.cursor else before)
    by true = grind arith
    by false = omega arith

-- so room stays
room-stays : (s c d ring : ℕ) → c ≤ d → nat_lt (s - c) ring ≡ true → nat_lt (s - d) ring ≡ true
room-stays s c d ring rises room = grind (arith, rises, room)

-- after a look it has as much to send
pub look1-due : (p : Settings) (h : List Event) (c : ControlRecord) (signal : Option SignalRecord) (m : ℕ) → Due p h m → Due p (Looked1 c signal ∷ h) m
look1-due p h c signal m (Nothing told) = Nothing told
look1-due p h c signal m (One n message o room few) =
    One n message (record { of_epoch = o.of_epoch; end_sent = o.end_sent; due = o.due })
    (room-stays (sent h) (cursor h) (cursor_of (epoch h) (sent h) (cursor h) signal) p.limits.ring (cursor-rises (epoch h) (sent h) (cursor h) signal) room) few

pub look2-due : (p : Settings) (h : List Event) (signal : Option SignalRecord) (at m : ℕ) → Due p h m → Due p (Looked2 signal at ∷ h) m
look2-due p h signal at m (Nothing told) = Nothing told
look2-due p h signal at m (One n message o room few) =
    One n message (record { of_epoch = o.of_epoch; end_sent = o.end_sent; due = o.due })
    (room-stays (sent h) (cursor h) (cursor_of (epoch h) (sent h) (cursor h) signal) p.limits.ring (cursor-rises (epoch h) (sent h) (cursor h) signal) room) few

-- and after a signal
pub signal1-due : (p : Settings) (h : List Event) (signal : SignalRecord) (m : ℕ) → Due p h m → Due p (Signalled1 signal ∷ h) m
signal1-due p h signal m (Nothing told) = Nothing told
signal1-due p h signal m (One n message o room few) = One n message (record { of_epoch = o.of_epoch; end_sent = o.end_sent; due = o.due }) room few

pub signal2-due : (p : Settings) (h : List Event) (signal : SignalRecord) (m : ℕ) → Due p h m → Due p (Signalled2 signal ∷ h) m
signal2-due p h signal m (Nothing told) = Nothing told
signal2-due p h signal m (One n message o room few) = One n message (record { of_epoch = o.of_epoch; end_sent = o.end_sent; due = o.due }) room few

-- and after a decision that does nothing
pub decided-due : (p : Settings) (h : List Event) (known : Known) (at m : ℕ) → Due p h m → Due p (DecisionMade known at (Owner acting.Nothing) ∷ h) m
decided-due p h known at m (Nothing told) = Nothing told
decided-due p h known at m (One n message o room few) = One n message (record { of_epoch = o.of_epoch; end_sent = o.end_sent; due = o.due }) room few

-- an owner that the record leaves at its work decides nothing
decides-none : (changed pdi at : ℕ) (r : ControlRecord) → IsSettled r None → decide_active changed r None pdi at ≡ acting.Nothing
decides-none changed pdi at r is = by is.no_taking is.no_other is.no_less
  where
    by : is_some r.taking ≡ false → (is_some r.alt && not (is_of_epoch r None)) ≡ false → (is_none r.alt && false) ≡ false
        → decide_active changed r None pdi at ≡ acting.Nothing
    by no_taking no_other no_less = grind (arith, common_steps)

decides-some : (changed pdi at n : ℕ) (r : ControlRecord) → IsSettled r (Some n) → is_lost changed pdi at ≡ false → decide_active changed r (Some n) pdi at ≡ acting.Nothing
decides-some changed pdi at n r is lost = by is.no_taking is.no_other is.no_less
  where
    by : is_some r.taking ≡ false → (is_some r.alt && not (is_of_epoch r (Some n))) ≡ false → (is_none r.alt && true) ≡ false
        → decide_active changed r (Some n) pdi at ≡ acting.Nothing
    by no_taking no_other no_less = grind (arith, common_steps)

pub decides-nothing : (changed pdi at : ℕ) (r : ControlRecord) (o : Option ℕ) → IsSettled r o → (is_some o && is_lost changed pdi at) ≡ false
    → decide_active changed r o pdi at ≡ acting.Nothing
decides-nothing changed pdi at r None is missed = decides-none changed pdi at r is
decides-nothing changed pdi at r (Some n) is missed = decides-some changed pdi at n r is missed

pub owner-cause : (p : Settings) (h : List Event) (known : Known) (at : ℕ) → is_owner h ≡ true → cause p h known at ≡ Owner (decide_active (change h) (record_seen h) (epoch h) p.pdi at)
owner-cause p h known at owner = grind (arith, common_steps)

-- a look at the present tick leaves the alternate not missed
missed-after : (some news : Bool) (at pdi : ℕ) (ts : List ℕ) → (some && is_lost (latest 0 ts) pdi at) ≡ false → latest 0 ts ≤ at
    → (some && is_lost (latest 0 (if news then at ∷ ts else ts)) pdi at) ≡ false
missed-after false news at pdi ts missed by_now = refl
missed-after true false at pdi ts missed by_now = missed
missed-after true true at pdi ts missed by_now = within (latest 0 ts) missed by_now
  where
    within : (l : ℕ) → nat_le pdi (at - l) ≡ false → l ≤ at → nat_le pdi (at - max at l) ≡ false
    within l none early = grind (arith, none, early)

-- and the last change by the present tick
change-after : (news : Bool) (at : ℕ) (ts : List ℕ) → latest 0 ts ≤ at → latest 0 (if news then at ∷ ts else ts) ≤ at
change-after true at ts by_now = larger-within at (latest 0 ts) at (omega arith) by_now
change-after false at ts by_now = by_now

-- so a look leaves it at its work
pub look2-steady : (p : Settings) (g : Ground) (all : ℕ) (h : List Event) (signal : Option SignalRecord) → Steady p g all (work_view h)
    → Steady p g all (work_view (Looked2 signal g.at ∷ h))
look2-steady p g all h signal w =
    let news = is_news (signal_seen h, signal) (last_look (told_to_watch h)) in
    record {
      owner = w.owner;
      restarted = w.restarted;
      drained = w.drained;
      no_off = w.no_off;
      no_told = w.no_told;
      no_drop = w.no_drop;
      more = w.more;
      settled = w.settled;
      missed = missed-after (is_some (epoch h)) news g.at p.pdi (changes (told_to_watch h)) w.missed w.by_now;
      by_now = change-after news g.at (changes (told_to_watch h)) w.by_now;
    }
