-- An open message slot holds the message that was last opened there, and that message was counted.
use Rattle.std.proofs.Common.{Bool, List, Option, eqb-true, false, refl, subst, sym, true, ℕ, ◌==◌, ◌≡◌, None, Some, [], ◌∷◌, arith, length, ◌≤◌, ◌&&◌, if◌then◌else◌, ap, eq-eqb, ◌<◌}
use Rattle.xrf_base.specs.declared.site.Site.{Site}
use Rattle.xrf_gated.specs.declared.gated.Slot.{Slot}
use Rattle.xrf_gated.specs.Slots.{is_open}
use Rattle.xrf_gated.specs.declared.gated.TheConstants.{OPEN}
use Rattle.xrf_msg.specs.declared.messages.Message.{Message}
use Rattle.xrf_msg.specs.Messages.{epoch_of, HasNames, HasRanges, number_of, spelling}
use Rattle.xrf_history.specs.Events.{Event}
use Rattle.xrf_history.specs.Next.{next}
use Rattle.xrf_trace.specs.Devices.{with_gate, with_body, message_slot_after, open_at, message_slot}
use Rattle.xrf_trace.specs.Landing.{is_gate, opens, landed}
use Rattle.xrf_trace.specs.declared.entry.Act.{Act}
use Rattle.xrf_trace.specs.declared.entry.Land.{Land}
use Rattle.xrf_trace.specs.Tracking.{messages_after, messages}
use Rattle.xrf_trace.proofs.TraceActs.{IsApart, Tells, by_act, inert-apart, tells}
use Rattle.xrf_trace.specs.declared.entry.Entry.{Entry}
use Rattle.xrf_trace.proofs.Short.{IsShort, over_run}
use Rattle.xrf_trace.specs.Scenario.{Scen, settings}
use Rattle.xrf_trace.specs.Jobs.{hist}
use Rattle.xrf_trace.proofs.JobSteps.{at-job}
use Rattle.xrf_trace.specs.declared.entry.Act.TheVariants as act
use Rattle.xrf_message_law.specs.LastOpened.{LastAt, HoldsLast, last_opened_after, OpenHoldLast, last_opened, SoundAt}
use Rattle.xrf_message_law.specs.Listing.{Counted}
use Rattle.xrf_message_law.specs.Due.{DueAt, IsDue, Sending}
use Rattle.xrf_message_law.specs.Writing.{IsReady, ReadyAt}
use Rattle.xrf_message_law.specs.Names.{ItemsNamed}
use Rattle.xrf_message_law.proofs.Counting.{sends-next, are_counted}
use Rattle.xrf_message_law.proofs.Bounds.{sends-whole}
use Rattle.xrf_message_law.proofs.Due.{are_due}
use Rattle.xrf_message_law.proofs.Writing.{are_ready}

-- a write at slot k leaves the others, and what was last opened there
last-write : (f : ℕ → List Message) (last : ℕ → Option Message) (slot : ℕ → Slot) (k : ℕ) (write : Slot → Slot)
    → ((i : ℕ) → LastAt f (last i) (slot i)) → LastAt f (last k) (write (slot k)) → (i : ℕ)
    → LastAt f (last i) (elim (i == k) [ true ↦ write (slot i) | false ↦ slot i ])
last-write f last slot k write before here i = by (i == k) refl
  where
    by : (b : Bool) → (i == k) ≡ b → LastAt f (last i) (elim b [ true ↦ write (slot i) | false ↦ slot i ])
    by true same = subst (λ (j : ℕ). LastAt f (last j) (write (slot j))) (sym (eqb-true i k same)) here
    by false other = before i

-- a CLOSE of an open slot leaves its body, whatever lands
last-close : (f : ℕ → List Message) (last : Option Message) (slot : Slot) (bytes : Option (List ℕ)) → is_open slot ≡ true → LastAt f last slot
    → LastAt f last (with_gate bytes slot)
last-close f last slot None was before = before
last-close f last slot (Some []) was before = before
last-close f last slot (Some (gate ∷ rest)) was before = λ is. before was

-- a BODY of a closed slot leaves it closed
last-body : (f : ℕ → List Message) (last : Option Message) (slot : Slot) (bytes : Option (List ℕ)) → is_open slot ≡ false → LastAt f last slot
    → LastAt f last (with_body bytes slot)
last-body f last slot None was before = before
last-body f last slot (Some body) was before = λ is. absurd (cc)

-- an OPEN of a closed slot opens it exactly where its gate landed
last-open : (f : ℕ → List Message) (last : Option Message) (slot : Slot) (bytes : Option (List ℕ)) → is_open slot ≡ false
    → (is_gate bytes ≡ true → HoldsLast f last slot.body) → LastAt f last (with_gate bytes slot)
last-open f last slot None was holds = λ is. absurd (cc)
last-open f last slot (Some []) was holds = λ is. absurd (cc)
last-open f last slot (Some (gate ∷ rest)) was holds = holds

-- the count of an epoch never falls
grown : (n : ℕ) (a : Act) (l : Land) (before : List Message) → length before ≤ length (messages_after n a l before)
grown n (act.MsgOpen k m) l before = by (opens l && epoch_of m == n)
  where
    by : (b : Bool) → length before ≤ length (if b then m ∷ before else before)
    by true = omega arith
    by false = omega arith
grown n _ l before = omega arith

-- so what a slot holds stays counted
holds-on : (f : ℕ → List Message) (a : Act) (l : Land) (last : Option Message) (body : List ℕ) → HoldsLast f last body
    → HoldsLast (λ n. messages_after n a l (f n)) last body
holds-on f a l last body is = record {
  holds = record {
    message = is.holds.message;
    spelled = is.holds.spelled;
    counted = omega (arith, is.holds.counted, grown (epoch_of is.holds.message) a l (f (epoch_of is.holds.message)));
  };
  is_last = is.is_last;
}

-- an act that writes no slot
last-apart : (f : ℕ → List Message) (last : ℕ → Option Message) (slot : ℕ → Slot) (a : Act) (l : Land) → IsApart a
    → ((i : ℕ) → LastAt f (last i) (slot i)) → (i : ℕ)
    → LastAt (λ n. messages_after n a l (f n)) (last_opened_after i a l (last i)) (message_slot_after a l i (slot i))
last-apart f last slot (act.MsgRead k) l off before = absurd off
last-apart f last slot (act.MsgClose k) l off before = absurd off
last-apart f last slot (act.MsgBody k m) l off before = absurd off
last-apart f last slot (act.MsgOpen k m) l off before = absurd off
last-apart f last slot _ l off before = before

-- the message that is opened is counted then, and is the last one
just-sent : (f : ℕ → List Message) (k : ℕ) (m : Message) (l : Land) (last : Option Message) (body : List ℕ) → number_of m ≡ length (f (epoch_of m))
    → HasRanges m × HasNames m → body ≡ spelling m → opens l ≡ true
    → HoldsLast (λ n. messages_after n (act.MsgOpen k m) l (f n)) (if opens l then Some m else last) body
just-sent f k m l last body number whole spelled landed_open = record {
  holds = record {
    message = m;
    spelled = record { ranges = whole.0; names = whole.1; spelled = spelled };
    counted = by (opens l) (epoch_of m == epoch_of m) landed_open (eq-eqb (epoch_of m) (epoch_of m) refl);
  };
  is_last = ap (λ (b : Bool). if b then Some m else last) landed_open;
}
  where
    by : (a b : Bool) → a ≡ true → b ≡ true → number_of m < length (if a && b then m ∷ f (epoch_of m) else f (epoch_of m))
    by true true is same = omega (arith, number)
    by true false is same = absurd (cc)
    by false b is same = absurd (cc)

-- an OPEN whose body stands ready
last-opened : (f : ℕ → List Message) (last : ℕ → Option Message) (slot : ℕ → Slot) (k : ℕ) (m : Message) (l : Land) → is_open (slot k) ≡ false
    → (slot k).body ≡ spelling m → number_of m ≡ length (f (epoch_of m)) → HasRanges m × HasNames m → ((i : ℕ) → LastAt f (last i) (slot i)) → (i : ℕ)
    → LastAt (λ n. messages_after n (act.MsgOpen k m) l (f n)) (last_opened_after i (act.MsgOpen k m) l (last i)) (open_at k l i (slot i))
last-opened f last slot k m l closed body number whole before i = by (i == k) refl
  where
    after : ℕ → List Message
    after = λ n. messages_after n (act.MsgOpen k m) l (f n)

    here : (o : Option Message) → LastAt after (if opens l then Some m else o) (with_gate (landed l (OPEN ∷ [])) (slot k))
    here o = last-open after (if opens l then Some m else o) (slot k) (landed l (OPEN ∷ [])) closed (just-sent f k m l o (slot k).body number whole body)

    by : (b : Bool) → (i == k) ≡ b
        → LastAt after (if b then (if opens l then Some m else last i) else last i)
        (elim b [ true ↦ with_gate (landed l (OPEN ∷ [])) (slot i) | false ↦ slot i ])
    by true same =
        subst (λ (j : ℕ). LastAt after (if opens l then Some m else last j) (with_gate (landed l (OPEN ∷ [])) (slot j))) (sym (eqb-true i k same))
        (here (last k))
    by false other = λ is. holds-on f (act.MsgOpen k m) l (last i) (slot i).body (before i is)

-- an act of a job
last-made : (s : Scen) → ItemsNamed s → (t : List Entry) → IsShort s t → (x : Site) (h : List Event) (a : Act) (l : Land) → hist s t x ≡ Some h
    → Tells a (next (settings s x) h) → IsReady s t x h → IsDue (settings s x) h → Counted (messages t) h → OpenHoldLast t → (i : ℕ)
    → LastAt (λ n. messages_after n a l (messages t n)) (last_opened_after i a l (last_opened t i)) (message_slot_after a l i (message_slot t i))
last-made s names t is x h (act.MsgRead k) l there told ready due counted before = before
last-made s names t is x h (act.MsgClose k) l there told ready due counted before =
    last-write (messages t) (last_opened t) (message_slot t) k (with_gate (landed l (0 ∷ []))) before
    (last-close (messages t) (last_opened t k) (message_slot t k) (landed l (0 ∷ [])) (subst (ReadyAt (message_slot t)) told ready) (before k))
last-made s names t is x h (act.MsgBody k m) l there told ready due counted before =
    last-write (messages t) (last_opened t) (message_slot t) k (with_body (landed l (spelling m))) before
    (last-body (messages t) (last_opened t k) (message_slot t k) (landed l (spelling m)) (subst (ReadyAt (message_slot t)) told ready) (before k))
last-made s names t is x h (act.MsgOpen k m) l there told ready due counted before =
    let sending : Sending (settings s x) h k m = subst (DueAt (settings s x) h) told due.due in
    let slot_ready : (is_open (message_slot t k) ≡ false) × ((message_slot t k).body ≡ spelling m) = subst (ReadyAt (message_slot t)) told ready in
    let number : number_of m ≡ length (messages t (epoch_of m)) = sends-next s names t is x h k m there told sending counted in
    last-opened (messages t) (last_opened t) (message_slot t) k m l slot_ready.0 slot_ready.1 number (sends-whole s names t is x h k m there told) before
last-made s names t is x h a l there told ready due counted before = last-apart (messages t) (last_opened t) (message_slot t) a l tt before

-- at first no slot is open
none-open : OpenHoldLast []
none-open i is = absurd (cc)

-- **in every run**
pub hold-last : (s : Scen) → ItemsNamed s → (t : List Entry) → IsShort s t → OpenHoldLast t
hold-last s names t is = over_run s OpenHoldLast none-open
    (λ t is before e step. by_act s t e (λ one. OpenHoldLast (one ∷ t)) step (record {
      inert = λ one inert. last-apart (messages t) (last_opened t) (message_slot t) one.act one.land (inert-apart one.act inert) before;
      made = λ x h a l there wants can. last-made s names t is x h a l there (tells s t x h (next (settings s x) h) a wants)
          (at-job s (IsReady s t) t x h (are_ready s t is) there)
          (at-job s (λ y g. IsDue (settings s y) g) t x h (are_due s t is) there)
          (at-job s (λ y g. Counted (messages t) g) t x h (are_counted s names t is) there) before;
    })) t is

-- so what an open slot holds was counted
pub are_sound : (s : Scen) → ItemsNamed s → (t : List Entry) → IsShort s t → (i : ℕ) → SoundAt (messages t) (message_slot t i)
are_sound s names t is i opened = (hold-last s names t is i opened).holds
