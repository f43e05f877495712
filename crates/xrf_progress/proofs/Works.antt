-- An owner at its work takes its next item: its round, a message, a keypoint, and the ITEM.
use Rattle.std.proofs.Common.{◌==◌, ◌≡◌, ℕ, zero, suc, ◌+◌, ◌-◌, ◌%◌, ◌≤◌, ◌&&◌, nat_lt, Bool, true, false, ◌⊎◌, inl, inr, List, [], ◌∷◌, length, slice_get, Option, Some, None, refl, ap, ◌∙◌, sym, subst, arith, if◌then◌else◌}
use Rattle.std.proofs.lemmas.Grind.{common_steps}
use Rattle.xrf_base.specs.declared.site.Site.{Site}
use Rattle.xrf_base.specs.declared.items.Item.{Item}
use Rattle.xrf_ctl.specs.Control.{ControlRecord}
use Rattle.xrf_cavm.specs.declared.decisions.Acting.{Acting}
use Rattle.xrf_cavm.specs.declared.decisions.Decided.{Decided}
use Rattle.xrf_cavm.specs.declared.decisions.Decided.TheVariants.{Owner}
use Rattle.xrf_gated.specs.declared.gated.TheConstants.{OPEN}
use Rattle.xrf_gated.specs.Slots.{bytes_of}
use Rattle.xrf_msg.specs.declared.messages.Message.{Message}
use Rattle.xrf_msg.specs.Messages.{number_of}
use Rattle.xrf_history.specs.declared.settings.Settings.{Settings}
use Rattle.xrf_history.specs.declared.want.Want.{Want}
use Rattle.xrf_history.specs.declared.want.Want.TheVariants as want
use Rattle.xrf_history.specs.Events.{Event, DecisionMade, MessageRead, KeyLooked}
use Rattle.xrf_history.specs.Deciding.{cause}
use Rattle.xrf_history.specs.Looking.{change, record_seen}
use Rattle.xrf_history.specs.Next.{inside, next, after_gate, after_message_read, after_message_close, message_at_hand, gate_of}
use Rattle.xrf_history.specs.Notices.{epoch}
use Rattle.xrf_history.specs.Rows.{has_signalled, rounds, signal_of, active_next}
use Rattle.xrf_history.specs.Sending.{is_end, is_end_sent, message_due, message_of_change, sent}
use Rattle.xrf_history.specs.Taking.{is_draining}
use Rattle.xrf_history.specs.Working.{keypoint_due, next_keypoint}
use Rattle.xrf_history.proofs.Holding.{owner-granted}
use Rattle.xrf_history.proofs.PhaseLaws.{next-inside}
use Rattle.xrf_history.proofs.Tests.{or-left}
use Rattle.xrf_trace.specs.declared.entry.Entry.{Entry}
use Rattle.xrf_trace.specs.declared.entry.Act.{Act}
use Rattle.xrf_trace.specs.declared.entry.Act.TheVariants as act
use Rattle.xrf_trace.specs.declared.entry.Land.TheVariants as land
use Rattle.xrf_trace.specs.Scenario.{Scen, settings, other, work}
use Rattle.xrf_trace.specs.Words.{is_of, is_item, now, items_taken}
use Rattle.xrf_trace.specs.Devices.{control, control_after, sector1, sector2, message_slot, key_slot}
use Rattle.xrf_trace.specs.Jobs.{handed, known_of, item_event}
use Rattle.xrf_trace.specs.Acts.{act_of}
use Rattle.xrf_trace.specs.Runs.{IsRun}
use Rattle.xrf_progress.specs.Working.{HasRoom, CanWork, takes_item, message_acts, ItemsAreTaken}
use Rattle.xrf_progress.proofs.Busy.{At, Leaves, Keeps, comes-to}
use Rattle.xrf_progress.proofs.Coming.{run-before}
use Rattle.xrf_progress.proofs.Entries.{is_ended, Own, no-ticks}
use Rattle.xrf_progress.proofs.OwnRounds.{round-boundary}
use Rattle.xrf_progress.proofs.Pauses.{own-record}
use Rattle.xrf_progress.proofs.Rests.{next-boundary}
use Rattle.xrf_progress.proofs.Times.{time-of}
use Rattle.xrf_progress.proofs.WorkPlaces.{decided-due, decides-nothing, Due, Ground, ground, IsTold, item-first, keypoint-done, keypoint-first, look1-due, look2-due, look2-steady, message-first, Owes, owes-due, owner-cause, signal1-due, signal2-due, Stands, Steady, told-due, work_view, works-boundary, Nothing, One, ToSignal1, ToSignal2, ToLook1, ToLook2, ToDecide, AtBoundary, ToClose, ToBody, ToOpen, ToKpClose, ToKpBody, ToKpOpen, ToItem}

-- the trace with an act that is no ITEM, and writes no control record, is such a ground
carried : (t : List Entry) (e : Entry) (x : Site) → control (e ∷ t) ≡ control t → items_taken (e ∷ t) x ≡ items_taken t x → now (e ∷ t) ≡ now t
    → ground t x ≡ ground (e ∷ t) x
carried t e x records items ticks =
    ap (λ (c : ControlRecord). record { held = c; count = items_taken t x; at = now t }) (sym records)
    ∙ ap (λ (k : ℕ). record { held = control (e ∷ t); count = k; at = now t }) (sym items)
    ∙ ap (λ (n : ℕ). record { held = control (e ∷ t); count = items_taken (e ∷ t) x; at = n }) (sym ticks)

-- an entry that takes no item
items-same : (t : List Entry) (e : Entry) (x : Site) → (is_of e.who x && is_item e.act) ≡ false → items_taken (e ∷ t) x ≡ items_taken t x
items-same t e x none = ap (λ (b : Bool). if b then items_taken t x + 1 else items_taken t x) none

and-right : (a b : Bool) → b ≡ false → (a && b) ≡ false
and-right true b is = is
and-right false b is = refl

and-left : (a b : Bool) → a ≡ false → (a && b) ≡ false
and-left a b is = ap (λ (c : Bool). c && b) is

-- the place of a job in a trace
abbrev Place : Scen → Site → At
Place s x t left h = Stands (settings s x) (ground t x) (length (work s x)) left h

-- what its next act comes to
abbrev Comes : Scen → Site → List Entry → List Event → (left : ℕ) → Type 0
Comes s x t h left =
    (a : Act) × (act_of s t x h (next (settings s x) h) ≡ Some a) × (is_ended a ≡ false) × (1 ≤ left)
    × ((e : Entry) → IsRun s (e ∷ t) → Own s t e x h → e.act ≡ a
    → (takes_item (handed s t x (now t) h a ∷ h) ≡ true) ⊎ ((after : ℕ) × Place s x (e ∷ t) after (handed s t x (now t) h a ∷ h) × (after + 1 ≤ left)))

-- an act that leads on
leads : (s : Scen) (t : List Entry) (x : Site) (h : List Event) (left after : ℕ) (w : Want) (a : Act) → next (settings s x) h ≡ w → act_of s t x h w ≡ Some a
    → is_ended a ≡ false → is_item a ≡ false → control_after a land.Full (control t) ≡ control t → Place s x t after (handed s t x (now t) h a ∷ h) → after + 1 ≤ left
    → Comes s x t h left
leads s t x h left after w a is of goes no_item same stands less = (
  a,
  ap (act_of s t x h) is ∙ of,
  goes,
  omega (arith, less),
  λ e runs o made.
      inr (
        after,
        subst (λ (g : Ground). Stands (settings s x) g (length (work s x)) after (handed s t x (now t) h a ∷ h))
            (carried t e x (own-record s t e x h a o made same) (items-same t e x (and-right (is_of e.who x) (is_item e.act) (ap is_item made ∙ no_item))) (o.ticks (now t))) stands,
        less,
      ),
)

-- an item is there while the list has more
item-there : (items : List Item) (k : ℕ) → nat_lt k (length items) ≡ true → (item : Item) × (slice_get items k ≡ Some item)
item-there [] k more = absurd (none k more)
  where
    none : (a : ℕ) → nat_lt a 0 ≡ true → ⊥
    none a is = grind (arith, is)
item-there (item ∷ items) zero more = (item, refl)
item-there (item ∷ items) (suc k) more = item-there items k (less k (length items) more)
  where
    less : (a b : ℕ) → nat_lt (suc a) (suc b) ≡ true → nat_lt a b ≡ true
    less a b is = grind (arith, is)

-- an item is taken
takes : (s : Scen) (t : List Entry) (x : Site) (h : List Event) (left : ℕ) → next (settings s x) h ≡ want.Item → nat_lt (items_taken t x) (length (work s x)) ≡ true → 1 ≤ left
    → Comes s x t h left
takes s t x h left is more some =
    let k = items_taken t x in
    let item = item-there (work s x) k more in
    let place : k + 1 - 1 ≡ k = omega arith in (
      act.Item (k + 1),
      ap (act_of s t x h) is ∙ ap (λ (b : Bool). if b then Some (act.Item (k + 1)) else None) more,
      refl,
      some,
      λ e runs o made. inl (ap (λ (i : Option Item). takes_item (item_event i ∷ h)) (ap (slice_get (work s x)) place ∙ item.1)),
    )

-- at a boundary: a message, a keypoint, or the item
next-works : (p : Settings) (g : Ground) (all : ℕ) (h : List Event) (m : Option Message) (w : Want) → Steady p g all (work_view h) → has_signalled h ≡ true → inside p h ≡ None
    → message_due p h ≡ m → active_next p h m ≡ w → next p h ≡ w
next-works p g all h m w st signalled at due is =
    next-boundary p h w at (works-boundary p h m st.owner st.restarted st.drained st.no_off st.no_told st.no_drop signalled due ∙ is)

-- a read of a slot for a message leaves it at its work
read-steady : (p : Settings) (g : Ground) (all : ℕ) (h : List Event) (place : ℕ) (slot : List ℕ) → Steady p g all (work_view h)
    → Steady p g all (work_view (MessageRead place slot ∷ h))
read-steady p g all h place slot w = record {
  owner = w.owner;
  restarted = w.restarted;
  drained = still-drained h place slot w.drained;
  no_off = w.no_off;
  no_told = w.no_told;
  no_drop = w.no_drop;
  more = w.more;
  settled = w.settled;
  missed = w.missed;
  by_now = w.by_now;
}
  where
    still-drained : (h : List Event) (place : ℕ) (slot : List ℕ) → is_draining h ≡ false → is_draining (MessageRead place slot ∷ h) ≡ false
    still-drained h place slot is = grind (arith, common_steps)

-- after the read of a slot for a message it is closed where it is open, and else the message written
read-leads : (s : Scen) (t : List Entry) (x : Site) (h : List Event) (place n : ℕ) (message : Message) (slot : List ℕ) → Steady (settings s x) (ground t x) (length (work s x)) (work_view h)
    → has_signalled h ≡ true → Owes (settings s x) h n message → Place s x t 8 (MessageRead place slot ∷ h)
read-leads s t x h place n message slot w signalled o = by (gate_of slot == OPEN) refl
  where
    p : Settings
    p = settings s x

    hand : message_at_hand p h ≡ Some message
    hand = ap (λ (b : Bool). elim b [ true ↦ message_due p h | false ↦ None ]) w.restarted ∙ owes-due p h n message o

    at : inside p (MessageRead place slot ∷ h) ≡ Some (after_gate (gate_of slot) (want.MsgClose place) (want.MsgBody place message))
    at = ap (after_message_read place slot) hand

    owes : Owes p (MessageRead place slot ∷ h) n message
    owes = record { of_epoch = o.of_epoch; end_sent = o.end_sent; due = o.due }

    steady : Steady p (ground t x) (length (work s x)) (work_view (MessageRead place slot ∷ h))
    steady = read-steady p (ground t x) (length (work s x)) h place slot w

    by : (b : Bool) → (gate_of slot == OPEN) ≡ b → Place s x t 8 (MessageRead place slot ∷ h)
    by true is = ToClose steady signalled place n message (at ∙ ap (λ (c : Bool). Some (elim c [ true ↦ want.MsgClose place | false ↦ want.MsgBody place message ])) is) owes (omega arith)
    by false is = ToBody steady signalled place n message (at ∙ ap (λ (c : Bool). Some (elim c [ true ↦ want.MsgClose place | false ↦ want.MsgBody place message ])) is) owes (omega arith)

-- after the read of a keypoint slot
key-leads : (s : Scen) (t : List Entry) (x : Site) (h : List Event) (place gate : ℕ) → Steady (settings s x) (ground t x) (length (work s x)) (work_view h)
    → has_signalled h ≡ true → IsTold (settings s x) h → Place s x t 4 (KeyLooked place gate ∷ h)
key-leads s t x h place gate w signalled told = by (gate == OPEN) refl
  where
    p : Settings
    p = settings s x

    by : (b : Bool) → (gate == OPEN) ≡ b → Place s x t 4 (KeyLooked place gate ∷ h)
    by true is = ToKpClose w signalled place (ap (λ (c : Bool). Some (elim c [ true ↦ want.KpClose place | false ↦ want.KpBody place (next_keypoint p h) ])) is) told (omega arith)
    by false is =
        ToKpBody w signalled place (next_keypoint p h) (ap (λ (c : Bool). Some (elim c [ true ↦ want.KpClose place | false ↦ want.KpBody place (next_keypoint p h) ])) is) refl told
        (omega arith)

-- where nothing is left to send
quiet-comes : (s : Scen) (t : List Entry) (x : Site) (h : List Event) (left : ℕ) → Steady (settings s x) (ground t x) (length (work s x)) (work_view h)
    → has_signalled h ≡ true → inside (settings s x) h ≡ None → IsTold (settings s x) h → 5 ≤ left → Comes s x t h left
quiet-comes s t x h left w signalled at told few = by (keypoint_due p h) refl
  where
    p : Settings
    p = settings s x

    by : (b : Bool) → keypoint_due p h ≡ b → Comes s x t h left
    by true due =
        let k = (next_keypoint p h).number % 2 in
        leads s t x h left 4 (want.KpRead k) (act.KpRead k) (next-works p (ground t x) (length (work s x)) h None (want.KpRead k) w signalled at (told-due p h told) (keypoint-first p h due)) refl refl refl
        refl (key-leads s t x h k (key_slot t k).gate w signalled told) (omega (arith, few))
    by false due =
        takes s t x h left (next-works p (ground t x) (length (work s x)) h None want.Item w signalled at (told-due p h told) (item-first p h due)) w.more (omega (arith, few))

-- **each act of an owner at its work leads on, or takes its item**
works-leave : (s : Scen) (x : Site) → Leaves s x (Place s x) (λ r g. takes_item g)
works-leave s x t h left is there (ToSignal1 w at signalled m due few) =
    let p = settings s x in
    let signal = signal_of h (rounds h + 1) in
    leads s t x h left (m + 9) (want.Signal1 signal) (act.Signal1 signal)
    (next-boundary p h (want.Signal1 signal) at (round-boundary p h (owner-granted h w.owner) w.owner signalled w.no_off w.no_told w.no_drop)) refl refl refl refl
    (ToSignal2 w refl (signal_of h (rounds h + 1)) refl m (signal1-due p h signal m due) (omega arith)) (omega (arith, few))
works-leave s x t h left is there (ToSignal2 w signalled signal at m due few) =
    let p = settings s x in
    leads s t x h left (m + 8) (want.Signal2 signal) (act.Signal2 signal) (next-inside p h (want.Signal2 signal) at) refl refl refl refl
    (ToLook1 w signalled refl m (signal2-due p h signal m due) (omega arith)) (omega (arith, few))
works-leave s x t h left is there (ToLook1 w signalled at m due few) =
    let p = settings s x in
    leads s t x h left (m + 7) want.Look1 act.Look1 (next-inside p h want.Look1 at) refl refl refl refl
    (ToLook2 w signalled refl w.settled m (look1-due p h (control t) (sector1 t (other x)) m due) (omega arith)) (omega (arith, few))
works-leave s x t h left is there (ToLook2 w signalled at saw m due few) =
    let p = settings s x in
    leads s t x h left (m + 6) want.Look2 act.Look2 (next-inside p h want.Look2 at) refl refl refl refl
    (ToDecide (look2-steady p (ground t x) (length (work s x)) h (sector2 t (other x)) w) signalled refl saw m (look2-due p h (sector2 t (other x)) (now t) m due) (omega arith)) (omega (arith, few))
works-leave s x t h left is there (ToDecide w signalled at saw m due few) =
    let p = settings s x in
    let known = known_of t (record_seen h) in
    let nothing = owner-cause p h known (now t) w.owner ∙ ap (λ (d : Acting). Owner d) (decides-nothing (change h) p.pdi (now t) (record_seen h) (epoch h) saw w.missed) in
    leads s t x h left (m + 5) want.Decide (act.Decide (cause p h known (now t))) (next-inside p h want.Decide at) refl refl refl refl
    (subst (λ (d : Decided). Place s x t (m + 5) (DecisionMade known (now t) d ∷ h)) (sym nothing)
    (AtBoundary w signalled refl m (decided-due p h known (now t) m due) (omega arith))) (omega (arith, few))
works-leave s x t h left is there (AtBoundary w signalled at m (Nothing told) few) = quiet-comes s t x h left w signalled at told (omega (arith, few))
works-leave s x t h left is there (AtBoundary w signalled at m (One n message o room four) few) =
    let p = settings s x in
    let k = number_of message % p.limits.ring in
    leads s t x h left 8 (want.MsgRead k) (act.MsgRead k)
    (next-works p (ground t x) (length (work s x)) h (Some message) (want.MsgRead k) w signalled at (owes-due p h n message o) (message-first p h message room)) refl refl refl refl
    (read-leads s t x h k n message (bytes_of (message_slot t k)) w signalled o) (omega (arith, few, four))
works-leave s x t h left is there (ToClose w signalled place n message at o few) =
    let p = settings s x in
    leads s t x h left 7 (want.MsgClose place) (act.MsgClose place) (next-inside p h (want.MsgClose place) at) refl refl refl refl
    (ToBody w signalled place n message
    (ap (after_message_close place) (ap (λ (b : Bool). elim b [ true ↦ message_due p h | false ↦ None ]) w.restarted ∙ owes-due p h n message o))
    (record { of_epoch = o.of_epoch; end_sent = o.end_sent; due = o.due }) (omega arith)) (omega (arith, few))
works-leave s x t h left is there (ToBody w signalled place n message at o few) =
    let p = settings s x in
    leads s t x h left 6 (want.MsgBody place message) (act.MsgBody place message) (next-inside p h (want.MsgBody place message) at) refl refl refl refl
    (ToOpen w signalled place n message refl (record { of_epoch = o.of_epoch; end_sent = o.end_sent; due = o.due }) (omega arith)) (omega (arith, few))
works-leave s x t h left is there (ToOpen w signalled place n message at o few) =
    let p = settings s x in
    leads s t x h left 5 (want.MsgOpen place message) (act.MsgOpen place message) (next-inside p h (want.MsgOpen place message) at) refl refl refl refl
    (AtBoundary w signalled refl 0 (Nothing (inr (n, o.of_epoch, or-left (is_end_sent h) (is_end message) o.end_sent, refl))) (omega arith)) (omega (arith, few))
works-leave s x t h left is there (ToKpClose w signalled place at told few) =
    let p = settings s x in
    leads s t x h left 3 (want.KpClose place) (act.KpClose place) (next-inside p h (want.KpClose place) at) refl refl refl refl
    (ToKpBody w signalled place (next_keypoint p h) refl refl told (omega arith)) (omega (arith, few))
works-leave s x t h left is there (ToKpBody w signalled place kp at start told few) =
    let p = settings s x in
    leads s t x h left 2 (want.KpBody place kp) (act.KpBody place kp) (next-inside p h (want.KpBody place kp) at) refl refl refl refl
    (ToKpOpen w signalled place kp refl start told (omega arith)) (omega (arith, few))
works-leave s x t h left is there (ToKpOpen w signalled place kp at start told few) =
    let p = settings s x in
    leads s t x h left 1 (want.KpOpen place kp) (act.KpOpen place kp) (next-inside p h (want.KpOpen place kp) at) refl refl refl refl
    (ToItem w signalled refl told (keypoint-done p h place kp start) (omega arith)) (omega (arith, few))
works-leave s x t h left is there (ToItem w signalled at told due few) =
    let p = settings s x in
    takes s t x h left (next-works p (ground t x) (length (work s x)) h None want.Item w signalled at (told-due p h told) (item-first p h due)) w.more few

-- an entry beside it leaves it
works-keep : (s : Scen) (x : Site) → Keeps s x (Place s x)
works-keep s x t e h left away ticks q stands =
    subst (λ (g : Ground). Stands (settings s x) g (length (work s x)) left h)
    (carried t e x q.record_after (items-same t e x (and-left (is_of e.who x) (is_item e.act) away)) (no-ticks e.act (now t) ticks)) stands

-- where it begins
due-of : (p : Settings) (h : List Event) → (epoch h ≡ None) ⊎ ((n : ℕ) × HasRoom p h n) → Due p h (message_acts (epoch h))
due-of p h (inl none) = Nothing (inl none)
due-of p h (inr (n, room)) = by (message_of_change p n (sent h) h) refl
  where
    by : (o : Option Message) → message_of_change p n (sent h) h ≡ o → Due p h (message_acts (epoch h))
    by None due = Nothing (inr (n, room.of_epoch, room.end_sent, due))
    by (Some message) due =
        let four : message_acts (epoch h) ≡ 4 = ap message_acts room.of_epoch in
        One n message (record { of_epoch = room.of_epoch; end_sent = room.end_sent; due = due }) room.room (omega (arith, four))

begins : (s : Scen) (t : List Entry) (x : Site) (h : List Event) → IsRun s t → CanWork s t x h → Place s x t (message_acts (epoch h) + 10) h
begins s t x h is can = by (has_signalled h) refl
  where
    p : Settings
    p = settings s x

    steady : Steady p (ground t x) (length (work s x)) (work_view h)
    steady = record {
      owner = can.owner;
      restarted = can.restarted;
      drained = can.drained;
      no_off = can.no_off;
      no_told = can.no_told;
      no_drop = can.no_drop;
      more = can.more;
      settled = can.settled;
      missed = can.missed;
      by_now = (time-of s t x h is can.there).change_is;
    }

    by : (b : Bool) → has_signalled h ≡ b → Place s x t (message_acts (epoch h) + 10) h
    by true signalled = AtBoundary steady signalled can.between (message_acts (epoch h)) (due-of p h can.sends) (omega arith)
    by false signalled = ToSignal1 steady can.between signalled (message_acts (epoch h)) (due-of p h can.sends) (omega arith)

-- **items are taken**
pub items-are-taken : ItemsAreTaken
items-are-taken s t part x h is can served many =
    comes-to s t part x (Place s x) (λ r g. takes_item g) (message_acts (epoch h) + 10) (works-leave s x) (works-keep s x) is served h can.there
    (begins s t x h (run-before s part t is) can) many
