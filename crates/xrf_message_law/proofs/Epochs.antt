-- No epoch is caught up twice.
use Rattle.std.proofs.Common.{List, ℕ, ◌∷◌, ap, subst, sym, ◌≡◌, ◌∙◌, Bool, None, Some, false, refl, true, if◌then◌else◌, eqb-true, ◌==◌, ◌&&◌, Option, arith, ◌≤◌, [], ◌<◌}
use Rattle.xrf_base.specs.declared.site.Site.{Site}
use Rattle.xrf_base.specs.declared.items.Item.{Item}
use Rattle.xrf_ctl.specs.Control.{ControlRecord}
use Rattle.xrf_cavm.specs.declared.decisions.Acting.{Acting}
use Rattle.xrf_cavm.specs.declared.decisions.Decided.{Decided}
use Rattle.xrf_cavm.specs.declared.known.Known.{Known}
use Rattle.xrf_cavm.specs.Decisions.{decide_active}
use Rattle.xrf_cavm.specs.Record.{is_alt}
use Rattle.xrf_cavm.specs.declared.decisions.Decided.TheVariants.{Owner}
use Rattle.xrf_cavm.specs.declared.decisions.Acting.TheVariants as acting
use Rattle.xrf_gated.specs.Slots.{bytes_of}
use Rattle.xrf_setup.specs.declared.choice.Landing.{Landing}
use Rattle.xrf_msg.specs.declared.messages.Message.{Message}
use Rattle.xrf_msg.specs.Messages.{epoch_of}
use Rattle.xrf_history.specs.Events.{ControlWritten, DecisionMade, Event, Looked1, Looked2, Released, Reserved, StartedActive, StartedStandby, MessageBodied, MessageClosed, Signalled1, Signalled2, Ticked, Abended, MessageOpened, ActFailed}
use Rattle.xrf_history.specs.declared.settings.Settings.{Settings}
use Rattle.xrf_history.specs.Next.{next}
use Rattle.xrf_history.proofs.SigningOff.{Stays, has_reserved_off}
use Rattle.xrf_history.specs.Deciding.{cause}
use Rattle.xrf_history.specs.Looking.{change, record_seen}
use Rattle.xrf_history.specs.Notices.{epoch, epoch_in, drop_is_made}
use Rattle.xrf_history.proofs.Inside.{released-next, control-next}
use Rattle.xrf_history.specs.Holding.{is_owner}
use Rattle.xrf_history.proofs.Tests.{not-both}
use Rattle.xrf_history.specs.Restarting.{has_read_block}
use Rattle.xrf_history.proofs.Purposes.{is_sign_off}
use Rattle.xrf_history.specs.Reserving.{purpose_now}
use Rattle.xrf_history.specs.declared.want.Want.{Want}
use Rattle.xrf_history.specs.declared.want.Want.TheVariants as want
use Rattle.xrf_trace.specs.Scenario.{other, Scen, settings, item_at}
use Rattle.xrf_trace.specs.declared.entry.Land.{Land}
use Rattle.xrf_trace.specs.Tracking.{messages_after, messages}
use Rattle.xrf_trace.specs.Landing.{opens, lands}
use Rattle.xrf_trace.specs.declared.entry.Act.{Act}
use Rattle.xrf_trace.specs.declared.entry.Entry.{Entry}
use Rattle.xrf_trace.proofs.Short.{IsShort, over_run}
use Rattle.xrf_trace.specs.Devices.{control, message_slot, control_after, written_if}
use Rattle.xrf_trace.specs.Jobs.{hist, block_event, handed, item_event, known_of}
use Rattle.xrf_trace.proofs.TraceActs.{Decides, Tells, by_other, decides, tells, by_act}
use Rattle.xrf_trace.specs.Acts.{is_act, may_fail}
use Rattle.xrf_trace.specs.Words.{now}
use Rattle.xrf_trace.proofs.Steps.{Reaches, CanLand, IsStart, Step}
use Rattle.xrf_trace.proofs.JobSteps.{GoesOn, started, OfJobs, JobCases, at-job, is-own, job-steps, no-jobs}
use Rattle.xrf_trace.specs.declared.entry.Act.TheVariants as act
use Rattle.xrf_trace.specs.declared.entry.Land.TheVariants as land
use Rattle.xrf_message_law.specs.Epochs.{IsKnown, SawAt, Knows, Saw, Unsent}
use Rattle.xrf_message_law.proofs.CatchUps.{catches, decides-owner, epoch_by, epoch_in-by, knows-decided, Rewrites, knows-rewritten, saw-now, saw-rewritten, fresh-epoch}
use Rattle.xrf_message_law.proofs.SeenRecord.{saw-quiet, saw-cases, saw-closed, saw-passing, saw-read}
use Rattle.xrf_message_law.proofs.Owner.{dropped, alone, alt-next, last-rises, alt-few, one-stays}
use Rattle.xrf_message_law.proofs.Tests.{neither-left}
use Rattle.xrf_message_law.specs.Due.{DueAt, IsDue, Sending}
use Rattle.xrf_message_law.proofs.DueMessage.{IsDueOf, due-is}
use Rattle.xrf_message_law.proofs.Alternates.{epoch-none}
use Rattle.xrf_message_law.proofs.Due.{are_due}

-- an event that leaves the epoch, and after which no record that was seen is waited for
abbrev IsSteady : Event → Type 0
IsSteady StartedActive = ⊥
IsSteady StartedStandby = ⊥
IsSteady Reserved = ⊥
IsSteady (ControlWritten written) = ⊥
IsSteady Released = ⊥
IsSteady (DecisionMade known at decision) = ⊥
IsSteady (Looked1 held signal) = ⊥
IsSteady (Looked2 signal at) = ⊥
IsSteady _ = Unit {0}

-- such an event leaves what is known
known-on : (r : ControlRecord) (f : ℕ → List Message) (p : Settings) (h : List Event) (e : Event) → IsSteady e
    → (SawAt r f h (next p h) → SawAt r f (e ∷ h) (next p (e ∷ h))) → IsKnown r f p h
    → IsKnown r f p (e ∷ h)
known-on r f p h StartedActive is sees before stays = absurd is
known-on r f p h StartedStandby is sees before stays = absurd is
known-on r f p h Reserved is sees before stays = absurd is
known-on r f p h (ControlWritten written) is sees before stays = absurd is
known-on r f p h Released is sees before stays = absurd is
known-on r f p h (DecisionMade known at decision) is sees before stays = absurd is
known-on r f p h (Looked1 held signal) is sees before stays = absurd is
known-on r f p h (Looked2 signal at) is sees before stays = absurd is
known-on r f p h _ is sees before stays = let b = before (record { owner = stays.owner; stays = stays.stays }) in record { knows = b.knows; saw = sees b.saw }

-- a decision of an owner
known-decided : (r : ControlRecord) (f : ℕ → List Message) (p : Settings) (h : List Event) (known : Known) (at : ℕ) (d : Decided)
    → cause p h known at ≡ d → next p h ≡ want.Decide → IsKnown r f p h
    → IsKnown r f p (DecisionMade known at d ∷ h)
known-decided r f p h known at d is next_is before stays =
    let old : Stays h = record { owner = stays.owner; stays = stays.stays } in
    let b = before old in
    let saw : Saw r f (epoch h) (record_seen h) = subst (SawAt r f h) next_is b.saw in
    let a : Acting = decide_active (change h) (record_seen h) (epoch h) p.pdi at in
    let after : Knows r f (epoch_by (decide_active (change h) (record_seen h) (epoch h) p.pdi at) (epoch h)) =
    knows-decided r f (epoch h) (record_seen h) (decide_active (change h) (record_seen h) (epoch h) p.pdi at)
    (catches (change h) (record_seen h) (epoch h) p.pdi at) b.knows saw in
    let epoch_is : epoch_in d (epoch h) ≡ epoch_by (decide_active (change h) (record_seen h) (epoch h) p.pdi at) (epoch h) =
    ap (λ (one : Decided). epoch_in one (epoch h)) (sym is ∙ decides-owner p h known at old.owner) ∙ epoch_in-by
    (decide_active (change h) (record_seen h) (epoch h) p.pdi at) (epoch h) in
    record { knows = subst (Knows r f) (sym epoch_is) after; saw = saw-quiet r f p h (DecisionMade known at d) tt }

-- a RELEASE, by which a drop ends the epoch
known-released : (r : ControlRecord) (f : ℕ → List Message) (p : Settings) (h : List Event)
    → ((n : ℕ) → drop_is_made h ≡ true → Stays h → is_alt r n ≡ true → epoch h ≡ Some n → ⊥) → IsKnown r f p h
    → IsKnown r f p (Released ∷ h)
known-released r f p h dropped before stays = record {
  knows = by (drop_is_made h) refl;
  saw = released-next (SawAt r f (Released ∷ h)) p h (λ why. tt) (saw-cases r f p (Released ∷ h));
}
  where
    old : Stays h
    old = record { owner = stays.owner; stays = stays.stays }

    by : (b : Bool) → drop_is_made h ≡ b → Knows r f (if b then None else epoch h)
    by true made = record { given = λ n is. absurd (cc); unsent = λ n named other. (before old).knows.unsent n named (dropped n made old named) }
    by false none = (before old).knows

-- its own write of the record
known-written : (r written : ControlRecord) (f : ℕ → List Message) (p : Settings) (h : List Event) → Rewrites r written → Unsent r f
    → (is_owner h ≡ false → epoch h ≡ None)
    → (is_owner h ≡ false → is_owner (ControlWritten written ∷ h) ≡ true → (n : ℕ) → is_alt written n ≡ false) → IsKnown r f p h
    → IsKnown written f p (ControlWritten written ∷ h)
known-written r written f p h rewrites unsent no_epoch alone before stays = record { knows = by (is_owner h) refl; saw = tt }
  where
    by : (b : Bool) → is_owner h ≡ b → Knows written f (epoch h)
    by true owner = knows-rewritten r written f (epoch h) rewrites unsent (before (record { owner = owner; stays = stays.stays })).knows
    by false alternate = record {
      given = λ n is. absurd (let none : epoch h ≡ None = no_epoch alternate in let same : Some n ≡ None = sym is ∙ none in cc);
      unsent = λ n named other. absurd (not-both (is_alt written n) named (alone alternate stays.owner n));
    }

-- an act that opens no message, or one of this epoch
not-of : (n : ℕ) (m : Message) (k : ℕ) (l : Land) (before : List Message) → (epoch_of m ≡ n → ⊥) → messages_after n (act.MsgOpen k m) l before ≡ before
not-of n m k l before differs = by (opens l) (epoch_of m == n) refl
  where
    by : (a b : Bool) → (epoch_of m == n) ≡ b → (if a && b then m ∷ before else before) ≡ before
    by a true same = absurd (differs (eqb-true (epoch_of m) n same))
    by true false other = refl
    by false false other = refl

-- an OPEN of a message of the epoch
known-opened : (r : ControlRecord) (f : ℕ → List Message) (p : Settings) (h : List Event) (e : Event) (k : ℕ) (m : Message) (l : Land)
    → epoch h ≡ Some (epoch_of m) → epoch (e ∷ h) ≡ epoch h
    → (Stays (e ∷ h) → Stays h) → ((g : ℕ → List Message) → SawAt r g (e ∷ h) (next p (e ∷ h))) → IsKnown r f p h
    → IsKnown r (λ n. messages_after n (act.MsgOpen k m) l (f n)) p (e ∷ h)
known-opened r f p h e k m l is same back sees before stays =
    let b = (before (back stays)).knows in
    let after : Knows r (λ n. messages_after n (act.MsgOpen k m) l (f n)) (epoch h) = record {
      given = b.given;
      unsent = λ n named other. not-of n m k l (f n) (λ one. other (is ∙ ap (λ (i : ℕ). Some i) one)) ∙ b.unsent n named other;
    } in
    record {
      knows = subst (Knows r (λ n. messages_after n (act.MsgOpen k m) l (f n))) (sym same) after;
      saw = sees
          (λ n. messages_after n (act.MsgOpen k m) l (f n));
    }

-- an act that writes neither the record nor a message's gate
abbrev IsApartKnown : Act → Type 0
IsApartKnown (act.MsgOpen k m) = ⊥
IsApartKnown (act.CtlWrite written) = ⊥
IsApartKnown _ = Unit {0}

-- a CTLWRITE that comes keeps the alternate, or names none, or the next number
write-rewrites : (s : Scen) → (t : List Entry) → IsShort s t → (x : Site) (h : List Event) (written : ControlRecord) → hist s t x ≡ Some h
    → next (settings s x) h ≡ want.CtlWrite written
    → Rewrites (control t) written
write-rewrites s t is x h written there told = record {
  rises = last-rises s t is x h written there told;
  next = λ n named gone. alt-next s t is x h written n there told named gone;
}

-- the job's own act, where that is no OPEN and no CTLWRITE
own-known : (s : Scen) → (t : List Entry) → IsShort s t → (x : Site) (h : List Event) (a : Act) → hist s t x ≡ Some h → is_act a ≡ true
    → Tells a (next (settings s x) h)
    → Decides s t x h a → IsKnown (control t) (messages t) (settings s x) h → IsApartKnown a
    → IsKnown (control t) (messages t) (settings s x) (handed s t x (now t) h a ∷ h)
own-known s t is x h (act.MsgOpen k m) there own told decided before off = absurd off
own-known s t is x h (act.CtlWrite written) there own told decided before off = absurd off
own-known s t is x h act.Reserve there own told decided before off =
    λ stays. let b =
    before
    (record { owner = stays.owner; stays = neither-left (has_reserved_off h) (is_sign_off (purpose_now h)) stays.stays }) in record
    { knows = b.knows; saw = tt }
own-known s t is x h act.CtlRead there own told decided before off =
    known-on (control t) (messages t) (settings s x) h (handed s t x (now t) h act.CtlRead) tt
    (λ _. control-next (SawAt (control t) (messages t) (handed s t x (now t) h act.CtlRead ∷ h)) (settings s x) h (control t) (known_of t (control t))
    (λ written. tt) tt) before
own-known s t is x h act.Release there own told decided before off =
    known-released (control t) (messages t) (settings s x) h (λ n made stays named. dropped s t is x h n there told made stays named) before
own-known s t is x h act.Look1 there own told decided before off =
    λ stays. let b = before (record { owner = stays.owner; stays = stays.stays }) in
    record { knows = b.knows; saw = saw-now (control t) (messages t) (epoch h) (alt-few s t is) b.knows }
own-known s t is x h act.Look2 there own told decided before off =
    λ stays. let b = before (record { owner = stays.owner; stays = stays.stays }) in
    record { knows = b.knows; saw = subst (SawAt (control t) (messages t) h) told b.saw }
own-known s t is x h (act.Decide d) there own told decided before off =
    known-decided (control t) (messages t) (settings s x) h (known_of t (record_seen h)) (now t) d decided told before
own-known s t is x h (act.Signal1 signal) there own told decided before off =
    known-on (control t) (messages t) (settings s x) h (Signalled1 signal) tt (λ _. tt) before
own-known s t is x h (act.Signal2 signal) there own told decided before off =
    known-on (control t) (messages t) (settings s x) h (Signalled2 signal) tt (λ _. tt) before
own-known s t is x h (act.MsgRead k) there own told decided before off =
    known-on (control t) (messages t) (settings s x) h (handed s t x (now t) h (act.MsgRead k)) tt
    (λ _. saw-read (control t) (messages t) (settings s x) h k (bytes_of (message_slot t k))) before
own-known s t is x h (act.MsgClose k) there own told decided before off =
    known-on (control t) (messages t) (settings s x) h (MessageClosed k) tt (λ _. saw-closed (control t) (messages t) (settings s x) h k) before
own-known s t is x h (act.MsgBody k m) there own told decided before off =
    known-on (control t) (messages t) (settings s x) h (MessageBodied k m) tt (λ _. tt) before
own-known s t is x h (act.LogRead b) there own told decided before off = by (has_read_block h)
  where
    by : (has : Bool) → IsKnown (control t) (messages t) (settings s x) (block_event s t b has ∷ h)
    by true =
        known-on (control t) (messages t) (settings s x) h (block_event s t b true) tt
        (λ _. saw-quiet (control t) (messages t) (settings s x) h (block_event s t b true) tt) before
    by false =
        known-on (control t) (messages t) (settings s x) h (block_event s t b false) tt
        (λ _. saw-quiet (control t) (messages t) (settings s x) h (block_event s t b false) tt) before
own-known s t is x h (act.Item k) there own told decided before off = by (item_at s x k)
  where
    by : (item : Option Item) → IsKnown (control t) (messages t) (settings s x) (item_event item ∷ h)
    by None = known-on (control t) (messages t) (settings s x) h Ticked tt (saw-passing (control t) (messages t) (settings s x) h Ticked tt) before
    by (Some item) =
        known-on (control t) (messages t) (settings s x) h (item_event (Some item)) tt
        (λ _. saw-quiet (control t) (messages t) (settings s x) h (item_event (Some item)) tt) before
own-known s t is x h act.Tick there own told decided before off = absurd (cc)
own-known s t is x h act.StartActive there own told decided before off = absurd (cc)
own-known s t is x h act.StartStandby there own told decided before off = absurd (cc)
own-known s t is x h act.Abend there own told decided before off = absurd (cc)
own-known s t is x h (act.Confirm n) there own told decided before off = absurd (cc)
own-known s t is x h (act.Reply go) there own told decided before off = absurd (cc)
own-known s t is x h (act.Cebt command reply) there own told decided before off = absurd (cc)
own-known s t is x h (act.Exit said) there own told decided before off = absurd (cc)
own-known s t is x h act.NoAct there own told decided before off = absurd (cc)
own-known s t is x h a there own told decided before off =
    known-on (control t) (messages t) (settings s x) h (handed s t x (now t) h a) tt
    (λ _. saw-quiet (control t) (messages t) (settings s x) h (handed s t x (now t) h a) tt) before

-- what is said after an act
abbrev KnownAfter : Scen → List Entry → Act → Land → Site → List Event → Type 0
KnownAfter s t a l x g = IsKnown (control_after a l (control t)) (λ n. messages_after n a l (messages t n)) (settings s x) g

-- an act on neither leaves what is known
apart-known : (s : Scen) (t : List Entry) (a : Act) (l : Land) (x : Site) (g : List Event) → IsApartKnown a
    → IsKnown (control t) (messages t) (settings s x) g → KnownAfter s t a l x g
apart-known s t (act.MsgOpen k m) l x g off before = absurd off
apart-known s t (act.CtlWrite written) l x g off before = absurd off
apart-known s t _ l x g off before = before

-- an entry of no job is no such act
inert-apart_known : (a : Act) → is_act a ≡ false → IsApartKnown a
inert-apart_known (act.MsgOpen k m) inert = absurd (cc)
inert-apart_known (act.CtlWrite written) inert = absurd (cc)
inert-apart_known _ inert = tt

-- nor is a choice that reaches a job
reach-apart_known : (s : Scen) (x : Site) (h : List Event) (a : Act) → Reaches s x h a → IsApartKnown a
reach-apart_known s x h (act.MsgOpen k m) reach = absurd reach
reach-apart_known s x h (act.CtlWrite written) reach = absurd reach
reach-apart_known s x h _ reach = tt

-- a choice that reaches the job
reach-known : (s : Scen) (t : List Entry) (x : Site) (h : List Event) (a : Act) → Reaches s x h a → IsKnown (control t) (messages t) (settings s x) h
    → IsKnown (control t) (messages t) (settings s x) (handed s t x (now t) h a ∷ h)
reach-known s t x h act.Abend reach before =
    known-on (control t) (messages t) (settings s x) h Abended tt (saw-passing (control t) (messages t) (settings s x) h Abended tt) before
reach-known s t x h (act.Reply go) reach before =
    known-on (control t) (messages t) (settings s x) h (handed s t x (now t) h (act.Reply go)) tt
    (saw-passing (control t) (messages t) (settings s x) h (handed s t x (now t) h (act.Reply go)) tt) before
reach-known s t x h (act.Cebt command reply) reach before =
    known-on (control t) (messages t) (settings s x) h (handed s t x (now t) h (act.Cebt command reply)) tt
    (saw-passing (control t) (messages t) (settings s x) h (handed s t x (now t) h (act.Cebt command reply)) tt) before
reach-known s t x h (act.Exit said) reach before =
    known-on (control t) (messages t) (settings s x) h (handed s t x (now t) h (act.Exit said)) tt
    (saw-passing (control t) (messages t) (settings s x) h (handed s t x (now t) h (act.Exit said)) tt) before
reach-known s t x h _ reach before = absurd reach

-- the job's own act of any kind
made-known : (s : Scen) → (t : List Entry) → IsShort s t → (x : Site) (h : List Event) (a : Act) (l : Land) → hist s t x ≡ Some h
    → is_act a ≡ true → CanLand t a l → GoesOn l
    → Tells a (next (settings s x) h) → Decides s t x h a → IsDue (settings s x) h → Unsent (control t) (messages t)
    → IsKnown (control t) (messages t) (settings s x) h
    → KnownAfter s t a l x (handed s t x (now t) h a ∷ h)
made-known s t is x h (act.MsgOpen k m) l there own can on told decided due unsent before =
    let sending : Sending (settings s x) h k m = subst (DueAt (settings s x) h) told due.due in
    let is_due : IsDueOf h m = due-is (settings s x) h m sending.due in
    known-opened (control t) (messages t) (settings s x) h (MessageOpened k m) k m l is_due.epoch_is refl
    (λ stays. record { owner = stays.owner; stays = stays.stays })
    (λ g. saw-quiet (control t) g (settings s x) h (MessageOpened k m) tt) before
made-known s t is x h (act.CtlWrite written) land.Full there own can on told decided due unsent before =
    known-written (control t) written (messages t) (settings s x) h (write-rewrites s t is x h written there told) unsent
    (epoch-none s t is x h there)
    (λ alternate owner n. alone s t is x h written n there told alternate owner) before
made-known s t is x h (act.CtlWrite written) land.Lost there own can on told decided due unsent before = absurd (cc)
made-known s t is x h (act.CtlWrite written) _ there own can on told decided due unsent before = absurd on
made-known s t is x h a l there own can on told decided due unsent before =
    apart-known s t a l x (handed s t x (now t) h a ∷ h) tt (own-known s t is x h a there own told decided before tt)

-- a failed act of its own
failed-known : (s : Scen) (t : List Entry) (x : Site) (h : List Event) (a : Act) (cut : Landing) → may_fail a ≡ true
    → Tells a (next (settings s x) h) → IsDue (settings s x) h
    → IsKnown (control t) (messages t) (settings s x) h → KnownAfter s t a (land.Fail cut) x (ActFailed (next (settings s x) h) (now t) ∷ h)
failed-known s t x h (act.MsgOpen k m) cut may told due before =
    let sending : Sending (settings s x) h k m = subst (DueAt (settings s x) h) told due.due in
    let is_due : IsDueOf h m = due-is (settings s x) h m sending.due in
    let e : Event = ActFailed (next (settings s x) h) (now t) in
    known-opened (control t) (messages t) (settings s x) h (ActFailed (next (settings s x) h) (now t)) k m (land.Fail cut) is_due.epoch_is refl
    (λ stays. record { owner = stays.owner; stays = stays.stays })
    (λ g. saw-quiet (control t) g (settings s x) h (ActFailed (next (settings s x) h) (now t)) tt) before
failed-known s t x h (act.CtlWrite written) cut may told due before = absurd (cc)
failed-known s t x h a cut may told due before =
    apart-known s t a (land.Fail cut) x (ActFailed (next (settings s x) h) (now t) ∷ h) tt
    (known-on (control t) (messages t) (settings s x) h (ActFailed (next (settings s x) h) (now t)) tt (λ _. saw-quiet (control t) (messages t)
    (settings s x) h (ActFailed (next (settings s x) h) (now t)) tt) before)

-- an act of the other site
rewritten-known : (r written : ControlRecord) (f : ℕ → List Message) (p : Settings) (g : List Event) → Rewrites r written → Unsent r f
    → IsKnown r f p g → IsKnown written f p g
rewritten-known r written f p g writes unsent before stays =
    let b = before stays in
    record { knows = knows-rewritten r written f (epoch g) writes unsent b.knows; saw = by (next p g) b.saw }
  where
    by : (w : Want) → SawAt r f g w → SawAt written f g w
    by want.Look2 saw = saw-rewritten r written f (epoch g) (record_seen g) writes saw
    by want.Decide saw = saw-rewritten r written f (epoch g) (record_seen g) writes saw
    by _ saw = tt

-- a CTLWRITE of the other site, whether it lands or not
written-if : (s : Scen) (t : List Entry) (x : Site) (g : List Event) (written : ControlRecord) (b : Bool) → Rewrites (control t) written
    → Unsent (control t) (messages t)
    → IsKnown (control t) (messages t) (settings s x) g → IsKnown (written_if b written (control t)) (messages t) (settings s x) g
written-if s t x g written true writes unsent before = rewritten-known (control t) written (messages t) (settings s x) g writes unsent before
written-if s t x g written false writes unsent before = before

-- an act of the other site
beside-known : (s : Scen) → (t : List Entry) → IsShort s t → (z : Site) (g h : List Event) (a : Act) (l : Land) → hist s t z ≡ Some g
    → hist s t (other z) ≡ Some h
    → Tells a (next (settings s (other z)) h) → IsDue (settings s (other z)) h → Unsent (control t) (messages t)
    → IsKnown (control t) (messages t) (settings s z) g → KnownAfter s t a l z g
beside-known s t is z g h (act.MsgOpen k m) l also there told due unsent before =
    let sending : Sending (settings s (other z)) h k m = subst (DueAt (settings s (other z)) h) told due.due in
    λ stays. absurd (one-stays s t is z g h also there stays sending.stays)
beside-known s t is z g h (act.CtlWrite written) l also there told due unsent before =
    written-if s t z g written (lands l) (write-rewrites s t is (other z) h written there told) unsent before
beside-known s t is z g h a l also there told due unsent before = apart-known s t a l z g tt before

-- a number that is not given is sent nothing
unsent-if : (r written : ControlRecord) (f : ℕ → List Message) (b : Bool) → r.last ≤ written.last → Unsent r f → Unsent (written_if b written r) f
unsent-if r written f true rises unsent n above = unsent n (omega (arith, rises, above))
unsent-if r written f false rises unsent n above = unsent n above

-- an act sends nothing to a number that is not given
unsent-made : (s : Scen) → (t : List Entry) → IsShort s t → (x : Site) (h : List Event) (a : Act) (l : Land) → hist s t x ≡ Some h
    → Tells a (next (settings s x) h) → IsDue (settings s x) h
    → IsKnown (control t) (messages t) (settings s x) h → Unsent (control t) (messages t)
    → Unsent (control_after a l (control t)) (λ n. messages_after n a l (messages t n))
unsent-made s t is x h (act.MsgOpen k m) l there told due known unsent n above =
    let sending : Sending (settings s x) h k m = subst (DueAt (settings s x) h) told due.due in
    let is_due : IsDueOf h m = due-is (settings s x) h m sending.due in
    let few : epoch_of m ≤ (control t).last = (known sending.stays).knows.given (epoch_of m) is_due.epoch_is in
    not-of n m k l (messages t n) (λ same. omega (arith, few, above, same)) ∙ unsent n above
unsent-made s t is x h (act.CtlWrite written) l there told due known unsent n above =
    unsent-if (control t) written (messages t) (lands l) (last-rises s t is x h written there told) unsent n above
unsent-made s t is x h a l there told due known unsent n above = unsent-apart (control t) (messages t) a l tt unsent n above
  where
    unsent-apart : (r : ControlRecord) (f : ℕ → List Message) (a : Act) (l : Land) → IsApartKnown a → Unsent r f
        → Unsent (control_after a l r) (λ n. messages_after n a l (f n))
    unsent-apart r f (act.MsgOpen k m) l off before = absurd off
    unsent-apart r f (act.CtlWrite written) l off before = absurd off
    unsent-apart r f _ l off before = before

-- nor does an entry of no job
unsent-inert : (r : ControlRecord) (f : ℕ → List Message) (a : Act) (l : Land) → IsApartKnown a → Unsent r f
    → Unsent (control_after a l r) (λ n. messages_after n a l (f n))
unsent-inert r f (act.MsgOpen k m) l off before = absurd off
unsent-inert r f (act.CtlWrite written) l off before = absurd off
unsent-inert r f _ l off before = before

-- a START, which makes no owner
start-known : (r : ControlRecord) (f : ℕ → List Message) (p : Settings) (a : Act) → IsStart a → IsKnown r f p (started a)
start-known r f p act.StartActive is stays = let no_owner : is_owner (started act.StartActive) ≡ true = stays.owner in absurd (cc)
start-known r f p act.StartStandby is stays = let no_owner : is_owner (started act.StartStandby) ≡ true = stays.owner in absurd (cc)
start-known r f p _ is stays = absurd is

-- what is known of a run
pub record AreKnown (s : Scen) (t : List Entry) : Type 0 where
  pub unsent : Unsent (control t) (messages t)
  pub known : OfJobs s t (λ x h. IsKnown (control t) (messages t) (settings s x) h)

-- an entry keeps it
known-moves : (s : Scen) → (t : List Entry) → IsShort s t → (e : Entry) → Step s t e → AreKnown s t
    → JobCases s t e (λ x h. IsKnown (control (e ∷ t)) (messages (e ∷ t)) (settings s x) h)
known-moves s t is e step both =
    let at : (x : Site) (h : List Event) → hist s t x ≡ Some h → IsKnown (control t) (messages t) (settings s x) h =
    λ x h there. at-job s (λ y g. IsKnown (control t) (messages t) (settings s y) g) t x h both.known there in
    let due : (x : Site) (h : List Event) → hist s t x ≡ Some h → IsDue (settings s x) h = λ x h there. at-job s
    (λ y g. IsDue (settings s y) g) t x h (are_due s t is) there in
    record {
      starts = λ x a start same. start-known (control (e ∷ t)) (messages (e ∷ t)) (settings s x) a start;
      ticks = λ x h there same. subst (λ (one : Entry). IsKnown (control (one ∷ t)) (messages (one ∷ t)) (settings s x) (Ticked ∷ h)) same
          (known-on (control t) (messages t) (settings s x) h Ticked tt (saw-passing (control t) (messages t) (settings s x) h Ticked tt) (at x h there));
      reaches =
          λ x h a there reach same. subst (λ (one : Entry). IsKnown (control (one ∷ t)) (messages (one ∷ t)) (settings s x) (handed s t x (now t) h a ∷ h)) same
          (apart-known s t a land.Full x (handed s t x (now t) h a ∷ h) (reach-apart_known s x h a reach) (reach-known s t x h a reach (at x h there)));
      makes =
          λ x h a l there wants can on same. subst
          (λ (one : Entry). IsKnown (control (one ∷ t)) (messages (one ∷ t)) (settings s x) (handed s t x (now t) h a ∷ h)) same
          (made-known s t is x h a l there (is-own s t x h (next (settings s x) h) a wants) can on (tells s t x h (next (settings s x) h) a wants)
          (decides s t x h (next (settings s x) h) a wants) (due x h there) both.unsent (at x h there));
      fails =
          λ x h a cut there wants can same. subst
          (λ (one : Entry). IsKnown (control (one ∷ t)) (messages (one ∷ t)) (settings s x) (ActFailed (next (settings s x) h) (now t) ∷ h)) same
          (failed-known s t x h a cut can (tells s t x h (next (settings s x) h) a wants) (due x h there) (at x h there));
      others = λ z g also away. by_other s t e z (λ one. IsKnown (control (one ∷ t)) (messages (one ∷ t)) (settings s z) g) step away (record {
        inert = λ one inert. apart-known s t one.act one.land z g (inert-apart_known one.act inert) (at z g also);
        made =
            λ h a l there wants can. beside-known s t is z g h a l also there (tells s t (other z) h (next (settings s (other z)) h) a wants)
            (due (other z) h there) both.unsent (at z g also);
      });
    }

-- **what owners know of epochs, in every run**
pub are_known : (s : Scen) → (t : List Entry) → IsShort s t → AreKnown s t
are_known s t is =
    over_run s (AreKnown s) (record { unsent = λ n above. refl; known = no-jobs s (λ x h. IsKnown (control []) (messages []) (settings s x) h) })
    (λ t is both e step. record {
      unsent = by_act s t e (λ one. Unsent (control (one ∷ t)) (messages (one ∷ t))) step (record {
        inert = λ one inert. unsent-inert (control t) (messages t) one.act one.land (inert-apart_known one.act inert) both.unsent;
        made = λ x h a l there wants can. unsent-made s t is x h a l there (tells s t x h (next (settings s x) h) a wants)
            (at-job s (λ y g. IsDue (settings s y) g) t x h (are_due s t is) there)
            (at-job s (λ y g. IsKnown (control t) (messages t) (settings s y) g) t x h both.known there) both.unsent;
      });
      known = job-steps s t e (λ x h. IsKnown (control (e ∷ t)) (messages (e ∷ t)) (settings s x) h) step (known-moves s t is e step both);
    }) t is

-- so no epoch is caught up twice, and the alternate of the record was sent nothing, or is the epoch
pub fresh-catch_up : (s : Scen) → (t : List Entry) → IsShort s t → (x : Site) (h : List Event) (n : ℕ) → hist s t x ≡ Some h → Stays h
    → next (settings s x) h ≡ want.Decide
    → cause (settings s x) h (known_of t (record_seen h)) (now t) ≡ Owner (acting.CatchUp n) → messages t n ≡ []
fresh-catch_up s t is x h n there stays told caught =
    let known = at-job s (λ y g. IsKnown (control t) (messages t) (settings s y) g) t x h (are_known s t is).known there in
    let saw : Saw (control t) (messages t) (epoch h) (record_seen h) = subst (SawAt (control t) (messages t) h) told (known stays).saw in
    let both : Owner (decide_active (change h) (record_seen h) (epoch h) (settings s x).pdi (now t)) ≡ Owner (acting.CatchUp n) =
    sym (decides-owner (settings s x) h (known_of t (record_seen h)) (now t) stays.owner) ∙ caught in
    fresh-epoch (control t) (messages t) (epoch h) (record_seen h) (change h) (settings s x).pdi (now t) n saw
    (owner-same (decide_active (change h) (record_seen h) (epoch h) (settings s x).pdi (now t)) (acting.CatchUp n) both)
  where
    owner-same : (a b : Acting) → Owner a ≡ Owner b → a ≡ b
    owner-same a b same = cc

-- nor is the alternate of the record sent anything, but where it is the epoch
pub unsent-epochs : (s : Scen) → (t : List Entry) → IsShort s t → (x : Site) (h : List Event) (n : ℕ) → hist s t x ≡ Some h → Stays h
    → is_alt (control t) n ≡ true → (epoch h ≡ Some n → ⊥)
    → messages t n ≡ []
unsent-epochs s t is x h n there stays named other =
    (at-job s (λ y g. IsKnown (control t) (messages t) (settings s y) g) t x h (are_known s t is).known there stays).knows.unsent n named other

-- a number that is not given yet was sent nothing
pub last-unsent : (s : Scen) (t : List Entry) → IsShort s t → (n : ℕ) → (control t).last < n → messages t n ≡ []
last-unsent s t is = (are_known s t is).unsent
