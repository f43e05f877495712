-- A drained owner has taken all messages of its epoch.
use Rattle.std.proofs.Common.{None, Option, Some, refl, ◌≡◌, List, ◌∷◌, if◌then◌else◌, ℕ, Bool, false, not, true, ◌&&◌, ◌||◌, ap, arith, is_some, length, subst, ◌<◌, ◌∙◌, sym, ◌+◌, IfSome, []}
use Rattle.xrf_base.specs.declared.site.Site.{Site}
use Rattle.xrf_base.specs.declared.items.Item.{Item}
use Rattle.xrf_ctl.specs.declared.parts.OwnerState.{OwnerState}
use Rattle.xrf_ctl.specs.declared.parts.OwnerState.TheVariants.{OffAbend}
use Rattle.xrf_ctl.specs.Control.{ControlRecord}
use Rattle.xrf_cavm.specs.Record.{is_owner as names_owner, is_alt}
use Rattle.xrf_gated.specs.declared.gated.Slot.{Slot}
use Rattle.xrf_gated.specs.Slots.{bytes_of}
use Rattle.xrf_exit.specs.declared.ExitAnswer.TheVariants as exit
use Rattle.xrf_msg.specs.declared.messages.Message.{Message}
use Rattle.xrf_msg.specs.Numbers.{given}
use Rattle.xrf_history.specs.Events.{ActFailed, ControlWritten, Event, MessageRead, Reserved, RestartDeclared, StartedActive, StartedStandby, Abended, Exited, Given, MessageOpened, Ticked}
use Rattle.xrf_history.specs.Reserving.{or_else, fails_owner, is_on_message, sign_off_due, state_by_item, purpose_now}
use Rattle.xrf_history.proofs.SigningOff.{has_reserved_off}
use Rattle.xrf_history.proofs.Purposes.{is_sign_off}
use Rattle.xrf_history.specs.declared.want.Want.{Want}
use Rattle.xrf_history.specs.Taking.{is_draining, expected, gives, is_drained, taken, with_message}
use Rattle.xrf_history.specs.Holding.{is_owner, is_let_through, is_restarted, number, is_granted, starts_active}
use Rattle.xrf_history.specs.Next.{next}
use Rattle.xrf_history.proofs.Holding.{owner-granted}
use Rattle.xrf_history.specs.Restarting.{has_read_block}
use Rattle.xrf_history.specs.declared.want.Want.TheVariants as want
use Rattle.xrf_trace.specs.declared.entry.Entry.{Entry}
use Rattle.xrf_trace.proofs.Short.{IsShort, over_run}
use Rattle.xrf_trace.specs.Scenario.{Scen, settings, item_at, other}
use Rattle.xrf_trace.specs.Devices.{control, message_slot}
use Rattle.xrf_trace.specs.Jobs.{hist, block_event, handed, item_event}
use Rattle.xrf_trace.specs.Tracking.{messages, messages_after}
use Rattle.xrf_trace.specs.declared.entry.Act.{Act}
use Rattle.xrf_trace.specs.declared.entry.Land.{Land}
use Rattle.xrf_trace.proofs.TraceActs.{Tells, by_other, tells}
use Rattle.xrf_trace.specs.Acts.{is_act}
use Rattle.xrf_trace.specs.Words.{now}
use Rattle.xrf_trace.proofs.Steps.{Reaches, IsStart, Step}
use Rattle.xrf_trace.proofs.JobSteps.{started, JobCases, OfJobs, at-job, is-own, job-steps, no-jobs}
use Rattle.xrf_trace.specs.declared.entry.Act.TheVariants as act
use Rattle.xrf_trace.specs.declared.entry.Land.TheVariants as land
use Rattle.xrf_message_law.specs.Drained.{IsDrained}
use Rattle.xrf_message_law.proofs.Tests.{neither-left}
use Rattle.xrf_message_law.proofs.Owner.{owns, active-owns, gives-next, one-stays}
use Rattle.xrf_message_law.specs.Readers.{Reads, placed, Stands}
use Rattle.xrf_message_law.proofs.Oldest.{nth-above, nth-below, oldest-all}
use Rattle.xrf_message_law.specs.Numbering.{nth_old}
use Rattle.xrf_message_law.proofs.Alternates.{undrained}
use Rattle.xrf_message_law.specs.Names.{ItemsNamed}
use Rattle.xrf_message_law.proofs.Epochs.{last-unsent}
use Rattle.xrf_message_law.proofs.Rounds.{none-taken}
use Rattle.xrf_message_law.proofs.Listing.{IsNoOpen, inert-no_open, reach-no_open}
use Rattle.xrf_message_law.proofs.Readers.{ReaderIn, are_readers}
use Rattle.xrf_message_law.specs.Due.{ReadsOrSends, DueAt, IsDue, Sending}
use Rattle.xrf_message_law.proofs.Numbering.{are_numbered}
use Rattle.xrf_message_law.proofs.LastOpened.{are_sound}
use Rattle.xrf_message_law.proofs.Expected.{given-nth}
use Rattle.xrf_message_law.specs.Shown.{shown}
use Rattle.xrf_message_law.proofs.Due.{are_due}

-- an event that the words of draining do not see; what is due before it is not lost
abbrev pub IsUndrained : Event → Type 0
IsUndrained StartedActive = ⊥
IsUndrained StartedStandby = ⊥
IsUndrained Reserved = ⊥
IsUndrained (ControlWritten written) = ⊥
IsUndrained (MessageRead k slot) = ⊥
IsUndrained RestartDeclared = ⊥
IsUndrained (ActFailed w at) = ⊥
IsUndrained _ = Unit {0}

-- no sign-off is due after: none was due before
none-before : (a b : Option OwnerState) → or_else a b ≡ None → a ≡ None
none-before None b is = refl
none-before (Some state) b is = absurd (cc)

-- the same of a history
due-before : (h : List Event) (e : Event) → sign_off_due (e ∷ h) ≡ None → sign_off_due h ≡ None
due-before h Abended none = none-before (sign_off_due h) (Some OffAbend) none
due-before h (Exited exit.Abend at) none = none-before (sign_off_due h) (Some OffAbend) none
due-before h (Given item) none = none-before (sign_off_due h) (state_by_item item) none
due-before h (ActFailed tried at) none = none-before (sign_off_due h) (if fails_owner (is_on_message tried) h then Some OffAbend else None) none
due-before h (Exited _ at) none = none
due-before h _ none = none

-- such an event
pub drained-on : (f : ℕ → List Message) (h : List Event) (e : Event) → IsUndrained e → IsDrained f h → IsDrained f (e ∷ h)
drained-on f h StartedActive is before stays not_yet none drained = absurd is
drained-on f h StartedStandby is before stays not_yet none drained = absurd is
drained-on f h Reserved is before stays not_yet none drained = absurd is
drained-on f h (ControlWritten written) is before stays not_yet none drained = absurd is
drained-on f h (MessageRead k slot) is before stays not_yet none drained = absurd is
drained-on f h RestartDeclared is before stays not_yet none drained = absurd is
drained-on f h (ActFailed w at) is before stays not_yet none drained = absurd is
drained-on f h Abended is before stays not_yet none drained =
    before (record { owner = stays.owner; stays = stays.stays }) not_yet (due-before h Abended none) drained
drained-on f h (Given item) is before stays not_yet none drained =
    before (record { owner = stays.owner; stays = stays.stays }) not_yet (due-before h (Given item) none) drained
drained-on f h (Exited answer at) is before stays not_yet none drained =
    before (record { owner = stays.owner; stays = stays.stays }) not_yet (due-before h (Exited answer at) none) drained
drained-on f h _ is before stays not_yet none drained = before (record { owner = stays.owner; stays = stays.stays }) not_yet none drained

-- a RESERVE
pub drained-reserved : (f : ℕ → List Message) (h : List Event) → IsDrained f h → IsDrained f (Reserved ∷ h)
drained-reserved f h before stays not_yet none drained =
    before (record { owner = stays.owner; stays = neither-left (has_reserved_off h) (is_sign_off (purpose_now h)) stays.stays }) not_yet none drained

-- RESTARTED
pub drained-declared : (f : ℕ → List Message) (h : List Event) → IsDrained f (RestartDeclared ∷ h)
drained-declared f h stays not_yet none drained = absurd (cc)

-- a failed act of an owner while it drains makes a sign-off due
not-draining : (owner on draining : Bool) (o : Option OwnerState) → owner ≡ true
    → or_else o (if owner && not (owner && on && not draining) then Some OffAbend else None) ≡ None → draining ≡ false
not-draining owner on false o owns none = refl
not-draining true on true (Some state) owns none = absurd (cc)
not-draining true true true None owns none = absurd (cc)
not-draining true false true None owns none = absurd (cc)
not-draining false on true o owns none = absurd (cc)

-- a failed act
pub drained-failed : (f : ℕ → List Message) (h : List Event) (w : Want) (at : ℕ) → IsDrained f h → IsDrained f (ActFailed w at ∷ h)
drained-failed f h w at before stays not_yet none drained =
    before (record { owner = stays.owner; stays = stays.stays }) not_yet (due-before h (ActFailed w at) none)
    (not-draining (is_owner h) (is_on_message w) (is_draining h) (sign_off_due h) stays.owner none)

-- a MSGREAD of an owner: it gives none, and all were taken; or it gives one, and the job still drains
still-draining : (through drained : Bool) → (through && not (drained || (through && not true))) ≡ false → (through && not drained) ≡ false
still-draining true true is = refl
still-draining true false is = is
still-draining false drained is = refl

-- a MSGREAD
pub drained-read : (ring : ℕ) (slots : ℕ → Slot) (f : ℕ → List Message) (sh : ℕ) (h : List Event) (k : ℕ) (slot : List ℕ)
    → Reads ring slots (f (number h)) sh (taken h)
    → (is_restarted h ≡ false → given slot (number h) (expected h) ≡ nth_old (f (number h)) (expected h)) → IsDrained f h → IsDrained f (MessageRead k slot ∷ h)
drained-read ring slots f sh h k slot reads gives_nth before stays not_yet none drained = by (nth_old (f (number h)) (expected h)) refl
  where
    later : List Event
    later = MessageRead k slot ∷ h

    nth : given slot (number h) (expected h) ≡ nth_old (f (number h)) (expected h)
    nth = gives_nth not_yet

    takes : (o : Option Message) → nth_old (f (number h)) (expected h) ≡ o → taken later ≡ with_message o (taken h)
    takes o is = rw not_yet (ap (λ (one : Option Message). with_message one (taken h)) (nth ∙ is))

    by : (o : Option Message) → nth_old (f (number h)) (expected h) ≡ o → taken later ≡ f (number h)
    by None is = takes None is ∙ reads.taken_is ∙ oldest-all (f (number h)) (expected h) (nth-above (f (number h)) (expected h) is)
    by (Some m) is =
        let gave : gives slot h ≡ true = ap (λ (one : Option Message). is_some one) (nth ∙ is) in
        let was : is_draining h ≡ false = still-draining (is_let_through h) (is_drained h)
        (subst (λ (b : Bool). (is_let_through h && not (is_drained h || (is_let_through h && not b))) ≡ false) gave drained) in
        let all : taken h ≡ f (number h) = before (record { owner = stays.owner; stays = stays.stays }) not_yet none was in
        let less : expected h < length (f (number h)) = nth-below (f (number h)) (expected h) m is in
        absurd (let long : length (taken h) ≡ length (f (number h)) = ap length all in omega (arith, long, less))

-- an owner that is drained after was drained before
was-draining : (o n a d : Bool) → o ≡ true → ((o || n) && not a && not d) ≡ false → (o && not a && not d) ≡ false
was-draining true n a d owner is = is
was-draining false n a d owner is = absurd (cc)

-- an owner that was let through and has read nothing is not drained
not-through : (o a d : Bool) → o ≡ true → a ≡ false → d ≡ false → (o && not a && not d) ≡ false → ⊥
not-through true false false owner standby undrained is = absurd (cc)
not-through true false true owner standby undrained is = absurd (cc)
not-through true true d owner standby undrained is = absurd (cc)
not-through false a d owner standby undrained is = absurd (cc)

-- its own CTLWRITE
drained-written : (s : Scen) → ItemsNamed s → (t : List Entry) → IsShort s t → (x : Site) (h : List Event) (written : ControlRecord) → hist s t x ≡ Some h
    → next (settings s x) h ≡ want.CtlWrite written → IsDrained (messages t) h → IsDrained (messages t) (ControlWritten written ∷ h)
drained-written s names t is x h written there told before stays not_yet none drained = by (is_owner h) refl
  where
    later : List Event
    later = ControlWritten written ∷ h

    of_granted : is_granted h ≡ true → number later ≡ number h
    of_granted granted = rw granted refl

    new : (b : Bool) → is_granted h ≡ b → is_owner h ≡ false → taken h ≡ messages t (number later)
    new true granted alternate = absurd (active (starts_active h) refl)
      where
        active : (a : Bool) → starts_active h ≡ a → ⊥
        active true is_active = let owner : is_owner h ≡ true = active-owns s t is x h there is_active granted in absurd (cc)
        active false standby =
            not-through (is_owner later) (starts_active h) (is_drained h) stays.owner standby (undrained h alternate) drained
    new false granted alternate =
        let last : written.last ≡ (control t).last + 1 = gives-next s t is x h written there told granted in
        let number_is : number later ≡ written.last = rw granted refl in
        none-taken s t is x h there granted ∙ sym (last-unsent s t is (number later) (omega (arith, last, number_is)))

    by : (o : Bool) → is_owner h ≡ o → taken h ≡ messages t (number later)
    by true owner =
        before (record { owner = owner; stays = stays.stays }) not_yet none
        (was-draining (is_owner h) (names_owner written (number later)) (starts_active h) (is_drained h) owner drained)
        ∙ ap (messages t) (sym (of_granted (owner-granted h owner)))
    by false alternate = new (is_granted h) refl alternate

-- an act that is no OPEN leaves what is said
drained-keeps : (f : ℕ → List Message) (g : List Event) (a : Act) (l : Land) → IsNoOpen a → IsDrained f g → IsDrained (λ n. messages_after n a l (f n)) g
drained-keeps f g (act.MsgOpen k m) l off before = absurd off
drained-keeps f g _ l off before = before

-- a job that is restarted is none of these
drained-restarted : (f : ℕ → List Message) (h : List Event) → is_restarted h ≡ true → IsDrained f h
drained-restarted f h restarted stays not_yet none drained = absurd (cc)

-- an owner whose restart is not done is in its place
placed-if_owner : (r : ControlRecord) (h : List Event) → is_owner h ≡ true → has_reserved_off h ≡ false → is_restarted h ≡ false → placed r h ≡ true
placed-if_owner r h owner stays not_yet = by (is_owner h) owner
  where
    by : (o : Bool) → o ≡ true → (elim o [ true ↦ not (has_reserved_off h) && not (is_restarted h) | false ↦ is_granted h && is_alt r (number h) ]) ≡ true
    by true is = rw (stays, not_yet) refl
    by false is = absurd (cc)

-- its own MSGREAD
read-drained : (s : Scen) → ItemsNamed s → (t : List Entry) → IsShort s t → (x : Site) (h : List Event) (k : ℕ)
    → ReadsOrSends (settings s x) h k (is_restarted h) → ReaderIn s t x h
    → IsDrained (messages t) h → IsDrained (messages t) (MessageRead k (bytes_of (message_slot t k)) ∷ h)
read-drained s names t is x h k due reader before stays not_yet none drained =
    let reads : Reads s.settings.ring (message_slot t) (messages t (number h)) (shown t (number h)) (taken h) = reader
    (placed-if_owner (control t) h stays.owner stays.stays not_yet) in
    let reading : ReadsOrSends (settings s x) h k false = subst (ReadsOrSends (settings s x) h k) not_yet due in
    let here : IfSome (nth_old (messages t (number h)) (expected h)) (Stands (message_slot t k)) =
    subst (λ (i : ℕ). IfSome (nth_old (messages t (number h)) (expected h)) (Stands (message_slot t i))) (sym reading.place)
    (reads.stands (expected h) (omega arith)) in
    let gives_it : given (bytes_of (message_slot t k)) (number h) (expected h) ≡ nth_old (messages t (number h)) (expected h) =
    given-nth (message_slot t k) (messages t) (number h) (expected h) (are_numbered s names t is (number h)) here (are_sound s names t is k) in
    drained-read s.settings.ring (message_slot t) (messages t) (shown t (number h)) h k (bytes_of (message_slot t k)) reads
    (λ _. gives_it) before stays not_yet none drained

-- the job's own act
own-drained : (s : Scen) → ItemsNamed s → (t : List Entry) → IsShort s t → (x : Site) (h : List Event) (a : Act) → hist s t x ≡ Some h → is_act a ≡ true
    → Tells a (next (settings s x) h) → IsDue (settings s x) h → ReaderIn s t x h → IsDrained (messages t) h
    → IsDrained (messages t) (handed s t x (now t) h a ∷ h)
own-drained s names t is x h act.Reserve there own told due reader before stays not_yet none drained =
    drained-reserved (messages t) h before stays not_yet none drained
own-drained s names t is x h act.Restarted there own told due reader before stays not_yet none drained =
    drained-declared (messages t) h stays not_yet none drained
own-drained s names t is x h (act.CtlWrite written) there own told due reader before stays not_yet none drained =
    drained-written s names t is x h written there told before stays not_yet none drained
own-drained s names t is x h (act.MsgRead k) there own told due reader before stays not_yet none drained =
    read-drained s names t is x h k (subst (DueAt (settings s x) h) told due.due) reader before stays not_yet none drained
own-drained s names t is x h (act.LogRead b) there own told due reader before stays not_yet none drained = by (has_read_block h) stays not_yet none drained
  where
    by : (has : Bool) → IsDrained (messages t) (block_event s t b has ∷ h)
    by true = drained-on (messages t) h (block_event s t b true) tt before
    by false = drained-on (messages t) h (block_event s t b false) tt before
own-drained s names t is x h (act.Item k) there own told due reader before stays not_yet none drained = by (item_at s x k) stays not_yet none drained
  where
    by : (item : Option Item) → IsDrained (messages t) (item_event item ∷ h)
    by None = drained-on (messages t) h (item_event None) tt before
    by (Some item) = drained-on (messages t) h (item_event (Some item)) tt before
own-drained s names t is x h a there own told due reader before stays not_yet none drained =
    drained-on (messages t) h (handed s t x (now t) h a) tt before stays not_yet none drained

-- a choice that reaches the job
reach-drained : (s : Scen) (t : List Entry) (x : Site) (h : List Event) (a : Act) (f : ℕ → List Message) → Reaches s x h a → IsDrained f h
    → IsDrained f (handed s t x (now t) h a ∷ h)
reach-drained s t x h act.Abend f reach before = drained-on f h (handed s t x (now t) h act.Abend) tt before
reach-drained s t x h (act.Reply go) f reach before = drained-on f h (handed s t x (now t) h (act.Reply go)) tt before
reach-drained s t x h (act.Cebt command reply) f reach before = drained-on f h (handed s t x (now t) h (act.Cebt command reply)) tt before
reach-drained s t x h (act.Exit said) f reach before = drained-on f h (handed s t x (now t) h (act.Exit said)) tt before
reach-drained s t x h _ f reach before = absurd reach

-- a START
start-drained : (f : ℕ → List Message) (a : Act) → IsStart a → IsDrained f (started a)
start-drained f act.StartActive is stays not_yet none drained = let no_owner : is_owner (started act.StartActive) ≡ true = stays.owner in absurd (cc)
start-drained f act.StartStandby is stays not_yet none drained = let no_owner : is_owner (started act.StartStandby) ≡ true = stays.owner in absurd (cc)
start-drained f _ is stays not_yet none drained = absurd is

-- its own act, with the messages
made-drained : (s : Scen) → ItemsNamed s → (t : List Entry) → IsShort s t → (x : Site) (h : List Event) (a : Act) (l : Land)
    → hist s t x ≡ Some h → is_act a ≡ true
    → Tells a (next (settings s x) h) → IsDue (settings s x) h → ReaderIn s t x h → IsDrained (messages t) h
    → IsDrained (λ n. messages_after n a l (messages t n)) (handed s t x (now t) h a ∷ h)
made-drained s names t is x h (act.MsgOpen k m) l there own told due reader before =
    let sending : Sending (settings s x) h k m = subst (DueAt (settings s x) h) told due.due in
    drained-restarted (λ n. messages_after n (act.MsgOpen k m) l (messages t n)) (MessageOpened k m ∷ h) sending.restarted
made-drained s names t is x h a l there own told due reader before =
    drained-keeps (messages t) (handed s t x (now t) h a ∷ h) a l tt (own-drained s names t is x h a there own told due reader before)

-- a failed act of its own
fails-drained : (s : Scen) (t : List Entry) (x : Site) (h : List Event) (a : Act) (l : Land) → Tells a (next (settings s x) h)
    → IsDue (settings s x) h → IsDrained (messages t) h
    → IsDrained (λ n. messages_after n a l (messages t n)) (ActFailed (next (settings s x) h) (now t) ∷ h)
fails-drained s t x h (act.MsgOpen k m) l told due before =
    let sending : Sending (settings s x) h k m = subst (DueAt (settings s x) h) told due.due in
    drained-restarted (λ n. messages_after n (act.MsgOpen k m) l (messages t n)) (ActFailed (next (settings s x) h) (now t) ∷ h) sending.restarted
fails-drained s t x h a l told due before =
    drained-keeps (messages t) (ActFailed (next (settings s x) h) (now t) ∷ h) a l tt (drained-failed (messages t) h (next (settings s x) h) (now t) before)

-- an act of the other site
beside-drained : (s : Scen) → (t : List Entry) → IsShort s t → (z : Site) (h g : List Event) (a : Act) (l : Land)
    → hist s t (other z) ≡ Some h → hist s t z ≡ Some g
    → Tells a (next (settings s (other z)) h) → IsDue (settings s (other z)) h → IsDrained (messages t) g
    → IsDrained (λ n. messages_after n a l (messages t n)) g
beside-drained s t is z h g (act.MsgOpen k m) l there also told due before =
    let sending : Sending (settings s (other z)) h k m = subst (DueAt (settings s (other z)) h) told due.due in
    λ stays not_yet none drained. absurd (one-stays s t is z g h also there stays sending.stays)
beside-drained s t is z h g a l there also told due before = drained-keeps (messages t) g a l tt before

-- an entry keeps it
drained-moves : (s : Scen) → ItemsNamed s → (t : List Entry) → IsShort s t → (e : Entry) → Step s t e → OfJobs s t (λ x h. IsDrained (messages t) h)
    → JobCases s t e (λ x h. IsDrained (messages (e ∷ t)) h)
drained-moves s names t is e step each =
    let at : (x : Site) (h : List Event) → hist s t x ≡ Some h → IsDrained (messages t) h = λ x h there. at-job s
    (λ y g. IsDrained (messages t) g) t x h each there in
    let due : (x : Site) (h : List Event) → hist s t x ≡ Some h → IsDue (settings s x) h = λ x h there. at-job s
    (λ y g. IsDue (settings s y) g) t x h (are_due s t is) there in
    let reader : (x : Site) (h : List Event) → hist s t x ≡ Some h → ReaderIn s t x h = λ x h there. at-job s (ReaderIn s t) t x h
    (are_readers s names t is) there in
    record {
      starts = λ x a start same. start-drained (messages (e ∷ t)) a start;
      ticks = λ x h there same. subst (λ (one : Entry). IsDrained (messages (one ∷ t)) (Ticked ∷ h)) same (drained-on (messages t) h Ticked tt (at x h there));
      reaches = λ x h a there reach same. subst (λ (one : Entry). IsDrained (messages (one ∷ t)) (handed s t x (now t) h a ∷ h)) same
          (drained-keeps (messages t) (handed s t x (now t) h a ∷ h) a land.Full (reach-no_open s x h a reach) (reach-drained s t x h a (messages t) reach
          (at x h there)));
      makes = λ x h a l there wants can on same. subst (λ (one : Entry). IsDrained (messages (one ∷ t)) (handed s t x (now t) h a ∷ h)) same
          (made-drained s names t is x h a l there (is-own s t x h (next (settings s x) h) a wants) (tells s t x h (next (settings s x) h) a wants)
          (due x h there) (reader x h there) (at x h there));
      fails = λ x h a cut there wants can same. subst (λ (one : Entry). IsDrained (messages (one ∷ t)) (ActFailed (next (settings s x) h) (now t) ∷ h)) same
          (fails-drained s t x h a (land.Fail cut) (tells s t x h (next (settings s x) h) a wants) (due x h there) (at x h there));
      others = λ z g also away. by_other s t e z (λ one. IsDrained (messages (one ∷ t)) g) step away (record {
        inert = λ one inert. drained-keeps (messages t) g one.act one.land (inert-no_open one.act inert) (at z g also);
        made =
            λ h a l there wants can. beside-drained s t is z h g a l there also (tells s t (other z) h (next (settings s (other z)) h) a wants)
            (due (other z) h there) (at z g also);
      });
    }

-- in every run
pub are_drained : (s : Scen) → ItemsNamed s → (t : List Entry) → IsShort s t → OfJobs s t (λ x h. IsDrained (messages t) h)
are_drained s names t is = over_run s (λ one. OfJobs s one (λ x h. IsDrained (messages one) h)) (no-jobs s (λ x h. IsDrained (messages []) h))
    (λ t is each e step. job-steps s t e (λ x h. IsDrained (messages (e ∷ t)) h) step (drained-moves s names t is e step each)) t is
