-- What an owner has opened is all of its epoch, also once it has reserved for its sign-off.
use Rattle.std.proofs.Common.{Bool, List, None, Some, ap, false, refl, sym, true, ◌≡◌, ℕ, ◌∷◌, ◌∙◌, if◌then◌else◌, eqb-true, ◌==◌, ◌&&◌, eq-eqb, Option, subst, []}
use Rattle.std.proofs.lemmas.Bool.{and_parts}
use Rattle.xrf_base.specs.declared.items.Item.{Item}
use Rattle.xrf_base.specs.declared.site.Site.{Site}
use Rattle.xrf_cavm.specs.declared.decisions.Decided.TheVariants.{Owner}
use Rattle.xrf_cavm.specs.declared.decisions.Acting.TheVariants as acting
use Rattle.xrf_msg.specs.declared.messages.Message.{Message}
use Rattle.xrf_msg.specs.Messages.{epoch_of}
use Rattle.xrf_history.specs.Events.{Event, MessageOpened, ActFailed, ControlWritten, DecisionMade, Released, Ticked}
use Rattle.xrf_history.specs.Notices.{drop_is_made, epoch}
use Rattle.xrf_history.specs.Holding.{is_owner, number}
use Rattle.xrf_history.proofs.Holding.{owner-granted}
use Rattle.xrf_history.specs.declared.settings.Settings.{Settings}
use Rattle.xrf_history.specs.Restarting.{has_read_block}
use Rattle.xrf_history.specs.Next.{next}
use Rattle.xrf_history.specs.declared.want.Want.{Want}
use Rattle.xrf_history.specs.declared.want.Want.TheVariants as want
use Rattle.xrf_trace.specs.declared.entry.Act.{Act}
use Rattle.xrf_trace.specs.declared.entry.Land.{Land}
use Rattle.xrf_trace.specs.Tracking.{messages_after, messages}
use Rattle.xrf_trace.specs.Landing.{opens}
use Rattle.xrf_trace.specs.declared.entry.Entry.{Entry}
use Rattle.xrf_trace.specs.Scenario.{Scen, item_at, other, settings}
use Rattle.xrf_trace.specs.Jobs.{block_event, handed, item_event, hist}
use Rattle.xrf_trace.specs.Words.{now}
use Rattle.xrf_trace.proofs.Short.{IsShort, over_run}
use Rattle.xrf_trace.proofs.Steps.{IsStart, CanLand, Step}
use Rattle.xrf_trace.proofs.JobSteps.{started, GoesOn, JobCases, OfJobs, at-job, is-own, job-steps, no-jobs}
use Rattle.xrf_trace.proofs.TraceActs.{Tells, by_other, tells}
use Rattle.xrf_trace.specs.Entries.{inc_at}
use Rattle.xrf_trace.specs.Acts.{is_act}
use Rattle.xrf_trace.specs.declared.entry.Act.TheVariants as act
use Rattle.xrf_trace.specs.declared.entry.Land.TheVariants as land
use Rattle.xrf_message_law.specs.Openers.{Keeps, Kept, opener_after, HasSent, opener}
use Rattle.xrf_message_law.proofs.Listing.{IsNoOpen, listed-opened, are_listed, inert-no_open, reach-no_open}
use Rattle.xrf_message_law.proofs.DueMessage.{IsDueOf, due-is}
use Rattle.xrf_message_law.specs.Listing.{Listed, is_unbroken, Lists}
use Rattle.xrf_message_law.specs.Due.{Sending, DueAt, IsDue, writes}
use Rattle.xrf_message_law.proofs.Owner.{distinct}
use Rattle.xrf_message_law.specs.Names.{ItemsNamed}
use Rattle.xrf_message_law.proofs.Alternates.{epoch-none}
use Rattle.xrf_message_law.proofs.Unbroken.{sends-unbroken}
use Rattle.xrf_message_law.proofs.Due.{are_due}

-- an event that opens no message
abbrev IsNoOpened : Event → Type 0
IsNoOpened (MessageOpened k m) = ⊥
IsNoOpened _ = Unit {0}

-- an event that opens no message
kept-on : (f : ℕ → List Message) (w : ℕ → ℕ) (h : List Event) (e : Event) → IsNoOpened e → (is_owner h ≡ false → epoch h ≡ None) → Kept f w h → Kept f w (e ∷ h)
kept-on f w h (MessageOpened k m) off none before n sent = absurd off
kept-on f w h (DecisionMade known at (Owner (acting.CatchUp m))) off none before n sent = absurd (sent.some refl)
kept-on f w h (DecisionMade known at (Owner acting.Forget)) off none before n sent = absurd (let gone : None ≡ Some n = sent.epoch_is in cc)
kept-on f w h (DecisionMade known at (Owner d)) off none before n sent =
    let k = before n
    (record { owner = sent.owner; unbroken = sent.unbroken; some = sent.some; epoch_is = sent.epoch_is }) in record { same = k.same; own = k.own }
kept-on f w h (DecisionMade known at d) off none before n sent =
    let k = before n
    (record { owner = sent.owner; unbroken = sent.unbroken; some = sent.some; epoch_is = sent.epoch_is }) in record { same = k.same; own = k.own }
kept-on f w h Released off none before n sent =
    let k = before n
    (record { owner = sent.owner; unbroken = sent.unbroken; some = sent.some; epoch_is = by (drop_is_made h) sent.epoch_is }) in record
    { same = k.same; own = k.own }
  where
    by : (b : Bool) → (if b then None else epoch h) ≡ Some n → epoch h ≡ Some n
    by true gone = absurd (cc)
    by false is = is
kept-on f w h (ControlWritten written) off none before n sent = by (is_owner h) refl
  where
    by : (b : Bool) → is_owner h ≡ b → Keeps (f n) (w n) (ControlWritten written ∷ h)
    by true owner =
        let k = before n (record { owner = owner; unbroken = sent.unbroken; some = sent.some; epoch_is = sent.epoch_is }) in
        let same : number (ControlWritten written ∷ h) ≡ number h = ap (λ (b : Bool). if b then number h else written.last) (owner-granted h owner) in
        record { same = k.same; own = k.own ∙ sym same }
    by false alternate = absurd (let gone : Some n ≡ None = sym sent.epoch_is ∙ none alternate in cc)
kept-on f w h (ActFailed (want.MsgOpen k m) at) off none before n sent = absurd (let no_it : false ≡ true = sent.unbroken in cc)
kept-on f w h (ActFailed v at) off none before n sent =
    let k = before n
    (record { owner = sent.owner; unbroken = sent.unbroken; some = sent.some; epoch_is = sent.epoch_is }) in record { same = k.same; own = k.own }
kept-on f w h _ off none before n sent =
    let k = before n
    (record { owner = sent.owner; unbroken = sent.unbroken; some = sent.some; epoch_is = sent.epoch_is }) in record { same = k.same; own = k.own }

-- an act that opens no message of the epoch
kept-none : (f : ℕ → List Message) (w : ℕ → ℕ) (h : List Event) (inc : ℕ) (a : Act) (l : Land) → IsNoOpen a → Kept f w h
    → Kept (λ n. messages_after n a l (f n)) (λ n. opener_after n inc a l (w n)) h
kept-none f w h inc (act.MsgOpen k m) l off before = absurd off
kept-none f w h inc _ l off before = before

-- an OPEN of an epoch that is not the job's
kept-unless : (f : ℕ → List Message) (w : ℕ → ℕ) (h : List Event) (inc k : ℕ) (m : Message) (l : Land) → ((n : ℕ) → HasSent h n → epoch_of m ≡ n → ⊥)
    → Kept f w h
    → Kept (λ n. messages_after n (act.MsgOpen k m) l (f n)) (λ n. opener_after n inc (act.MsgOpen k m) l (w n)) h
kept-unless f w h inc k m l never before n sent = by (opens l && epoch_of m == n) refl
  where
    both : Keeps (f n) (w n) h
    both = before n sent

    by : (b : Bool) → (opens l && epoch_of m == n) ≡ b → Keeps (if b then m ∷ f n else f n) (if b then inc else w n) h
    by true is = absurd (never n sent (eqb-true (epoch_of m) n (and_parts (opens l) (epoch_of m == n) is).1))
    by false is = record { same = both.same; own = both.own }

-- the owner's own message
opener-one : (n inc : ℕ) (m : Message) (k before : ℕ) → epoch_of m ≡ n → opener_after n inc (act.MsgOpen k m) land.Full before ≡ inc
opener-one n inc m k before is = by (epoch_of m == n) (eq-eqb (epoch_of m) n is)
  where
    by : (b : Bool) → b ≡ true → (if b then inc else before) ≡ inc
    by true is = refl
    by false is = absurd (cc)

-- its own OPEN
kept-opened : (f : ℕ → List Message) (w : ℕ → ℕ) (p : Settings) (h : List Event) (inc k : ℕ) (m : Message) → Sending p h k m → is_unbroken h ≡ true
    → Listed f h → inc ≡ number h
    → Kept (λ n. messages_after n (act.MsgOpen k m) land.Full (f n)) (λ n. opener_after n inc (act.MsgOpen k m) land.Full (w n)) (MessageOpened k m ∷ h)
kept-opened f w p h inc k m sending unbroken listed own n sent =
    let is : IsDueOf h m = due-is p h m sending.due in
    let one : epoch_of m ≡ n = (let both : Some (epoch_of m) ≡ Some n = sym is.epoch_is ∙ sent.epoch_is in cc) in
    record {
      same =
          (listed-opened f p h k m sending unbroken listed (record { owner = sending.stays.owner; stays = sending.stays.stays }) unbroken n sent.epoch_is).same;
      own = opener-one n inc m k (w n) one ∙ own;
    }

-- what an act hands opens a message only where the act does
handed-kept : (s : Scen) (t : List Entry) (x : Site) (h : List Event) (a : Act) (f : ℕ → List Message) (w : ℕ → ℕ) → IsNoOpen a
    → (is_owner h ≡ false → epoch h ≡ None) → Kept f w h
    → Kept f w (handed s t x (now t) h a ∷ h)
handed-kept s t x h (act.MsgOpen k m) f w off none before = absurd off
handed-kept s t x h (act.LogRead b) f w off none before = by (has_read_block h)
  where
    by : (has : Bool) → Kept f w (block_event s t b has ∷ h)
    by true = kept-on f w h (block_event s t b true) tt none before
    by false = kept-on f w h (block_event s t b false) tt none before
handed-kept s t x h (act.Item k) f w off none before = by (item_at s x k)
  where
    by : (o : Option Item) → Kept f w (item_event o ∷ h)
    by None = kept-on f w h (item_event None) tt none before
    by (Some item) = kept-on f w h (item_event (Some item)) tt none before
handed-kept s t x h a f w off none before = kept-on f w h (handed s t x (now t) h a) tt none before

-- nobody else sends to an epoch that an owner has sent messages to
pub nobody-else : (s : Scen) → (t : List Entry) → IsShort s t → (z : Site) (g h : List Event) (p : Settings) (k : ℕ) (m : Message) (n : ℕ)
    → hist s t z ≡ Some g → hist s t (other z) ≡ Some h
    → HasSent g n → Kept (messages t) (opener t) g → Sending p h k m → is_unbroken h ≡ true → Listed (messages t) h → Kept (messages t) (opener t) h
    → epoch_of m ≡ n → ⊥
nobody-else s t is z g h p k m n there beside sent kept sending unbroken listed also one =
    let due : IsDueOf h m = due-is p h m sending.due in
    let ep : epoch h ≡ Some n = due.epoch_is ∙ ap (λ (i : ℕ). Some i) one in
    let mine : Keeps (messages t n) (opener t n) g = kept n sent in
    let list : Lists (messages t) h n = listed sending.stays unbroken n ep in
    let its : Keeps (messages t n) (opener t n) h = also n
    (record { owner = sending.stays.owner; unbroken = unbroken; some = λ none. sent.some (mine.same ∙ sym list.same ∙ none); epoch_is = ep }) in
    distinct s t is z g h there beside (owner-granted g sent.owner) (owner-granted h sending.stays.owner) (sym its.own ∙ mine.own)

-- a START
start-kept : (f : ℕ → List Message) (w : ℕ → ℕ) (a : Act) → IsStart a → Kept f w (started a)
start-kept f w act.StartActive is n sent = absurd (let no_it : false ≡ true = sent.owner in cc)
start-kept f w act.StartStandby is n sent = absurd (let no_it : false ≡ true = sent.owner in cc)
start-kept f w _ is n sent = absurd is

-- the job's own act
made-kept : (s : Scen) → ItemsNamed s → (t : List Entry) → IsShort s t → (x : Site) (h : List Event) (a : Act) (l : Land) (inc : ℕ)
    → hist s t x ≡ Some h → is_act a ≡ true → CanLand t a l → GoesOn l
    → Tells a (next (settings s x) h) → IsDue (settings s x) h → Listed (messages t) h → inc ≡ inc_at a (Some h) → Kept (messages t) (opener t) h
    → Kept (λ n. messages_after n a l (messages t n)) (λ n. opener_after n inc a l (opener t n)) (handed s t x (now t) h a ∷ h)
made-kept s names t is x h (act.MsgOpen k m) land.Full inc there own can on told due listed same before =
    kept-opened (messages t) (opener t) (settings s x) h inc k m (subst (DueAt (settings s x) h) told due.due)
    (sends-unbroken s t is x h there (ap writes told)) listed same
made-kept s names t is x h (act.MsgOpen k m) land.Lost inc there own can on told due listed same before = absurd (cc)
made-kept s names t is x h (act.MsgOpen k m) _ inc there own can on told due listed same before = absurd on
made-kept s names t is x h a l inc there own can on told due listed same before =
    kept-none (messages t) (opener t) (handed s t x (now t) h a ∷ h) inc a l tt
    (handed-kept s t x h a (messages t) (opener t) tt (epoch-none s t is x h there) before)

-- a failed act of its own
fails-kept : (f : ℕ → List Message) (v : ℕ → ℕ) (h : List Event) (w : Want) (at inc : ℕ) (a : Act) (l : Land) → Tells a w
    → (is_owner h ≡ false → epoch h ≡ None) → Kept f v h
    → Kept (λ n. messages_after n a l (f n)) (λ n. opener_after n inc a l (v n)) (ActFailed w at ∷ h)
fails-kept f v h w at inc (act.MsgOpen k m) l told none before n sent =
    absurd (subst (λ (one : Want). is_unbroken (ActFailed one at ∷ h) ≡ true → ⊥) (sym told) (λ no_it. cc) sent.unbroken)
fails-kept f v h w at inc a l told none before n sent = kept-none f v (ActFailed w at ∷ h) inc a l tt (kept-on f v h (ActFailed w at) tt none before) n sent

-- an act of the other site
beside-kept : (s : Scen) → ItemsNamed s → (t : List Entry) → IsShort s t → (z : Site) (h g : List Event) (a : Act) (l : Land) (inc : ℕ)
    → hist s t (other z) ≡ Some h → hist s t z ≡ Some g
    → Tells a (next (settings s (other z)) h) → IsDue (settings s (other z)) h → Listed (messages t) h → Kept (messages t) (opener t) h
    → Kept (messages t) (opener t) g
    → Kept (λ n. messages_after n a l (messages t n)) (λ n. opener_after n inc a l (opener t n)) g
beside-kept s names t is z h g (act.MsgOpen k m) l inc there also told due listed its before =
    let sending : Sending (settings s (other z)) h k m = subst (DueAt (settings s (other z)) h) told due.due in
    kept-unless (messages t) (opener t) g inc k m l
    (λ n sent one. nobody-else s t is z g h (settings s (other z)) k m n also there sent before sending (sends-unbroken s t is (other z) h there
    (ap writes told)) listed its one) before
beside-kept s names t is z h g a l inc there also told due listed its before = kept-none (messages t) (opener t) g inc a l tt before

-- an entry keeps it
kept-moves : (s : Scen) → ItemsNamed s → (t : List Entry) → IsShort s t → (e : Entry) → Step s t e → OfJobs s t (λ x h. Kept (messages t) (opener t) h)
    → JobCases s t e (λ x h. Kept (messages (e ∷ t)) (opener (e ∷ t)) h)
kept-moves s names t is e step each =
    let at : (x : Site) (h : List Event) → hist s t x ≡ Some h → Kept (messages t) (opener t) h = λ x h there. at-job s
    (λ y g. Kept (messages t) (opener t) g) t x h each there in
    let due : (x : Site) (h : List Event) → hist s t x ≡ Some h → IsDue (settings s x) h = λ x h there. at-job s
    (λ y g. IsDue (settings s y) g) t x h (are_due s t is) there in
    let list : (x : Site) (h : List Event) → hist s t x ≡ Some h → Listed (messages t) h = λ x h there. at-job s (λ y g. Listed (messages t) g) t x h
    (are_listed s names t is) there in
    record {
      starts = λ x a start same. start-kept (messages (e ∷ t)) (opener (e ∷ t)) a start;
      ticks = λ x h there same. subst (λ (one : Entry). Kept (messages (one ∷ t)) (opener (one ∷ t)) (Ticked ∷ h)) same
          (kept-on (messages t) (opener t) h Ticked tt (epoch-none s t is x h there) (at x h there));
      reaches = λ x h a there reach same. subst (λ (one : Entry). Kept (messages (one ∷ t)) (opener (one ∷ t)) (handed s t x (now t) h a ∷ h)) same
          (kept-none (messages t) (opener t) (handed s t x (now t) h a ∷ h) (inc_at a (hist s t x)) a land.Full (reach-no_open s x h a reach)
          (handed-kept s t x h a (messages t) (opener t) (reach-no_open s x h a reach) (epoch-none s t is x h there) (at x h there)));
      makes = λ x h a l there wants can on same. subst (λ (one : Entry). Kept (messages (one ∷ t)) (opener (one ∷ t)) (handed s t x (now t) h a ∷ h)) same
          (made-kept s names t is x h a l (inc_at a (hist s t x)) there (is-own s t x h (next (settings s x) h) a wants) can on
          (tells s t x h (next (settings s x) h) a wants)
          (due x h there) (list x h there) (ap (inc_at a) there) (at x h there));
      fails =
          λ x h a cut there wants can same. subst
          (λ (one : Entry). Kept (messages (one ∷ t)) (opener (one ∷ t)) (ActFailed (next (settings s x) h) (now t) ∷ h)) same
          (fails-kept (messages t) (opener t) h (next (settings s x) h) (now t) (inc_at a (hist s t x)) a (land.Fail cut)
          (tells s t x h (next (settings s x) h) a wants) (epoch-none s t is x h there) (at x h there));
      others = λ z g there away. by_other s t e z (λ one. Kept (messages (one ∷ t)) (opener (one ∷ t)) g) step away (record {
        inert = λ one inert. kept-none (messages t) (opener t) g one.inc one.act one.land (inert-no_open one.act inert) (at z g there);
        made =
            λ h a l also wants can. beside-kept s names t is z h g a l (inc_at a (hist s t (other z))) also there
            (tells s t (other z) h (next (settings s (other z)) h) a wants)
            (due (other z) h also) (list (other z) h also) (at (other z) h also) (at z g there);
      });
    }

-- in every run
pub are_kept : (s : Scen) → ItemsNamed s → (t : List Entry) → IsShort s t → OfJobs s t (λ x h. Kept (messages t) (opener t) h)
are_kept s names t is = over_run s (λ one. OfJobs s one (λ x h. Kept (messages one) (opener one) h)) (no-jobs s (λ x h. Kept (messages []) (opener []) h))
    (λ t is each e step. job-steps s t e (λ x h. Kept (messages (e ∷ t)) (opener (e ∷ t)) h) step (kept-moves s names t is e step each)) t is
