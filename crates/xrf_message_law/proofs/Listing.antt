-- What the sender of an epoch has opened are the messages of the epoch.
use Rattle.std.proofs.Common.{List, ℕ, ◌∷◌, Bool, None, Some, false, true, ◌≡◌, if◌then◌else◌, refl, subst, sym, [], eq-eqb, ◌==◌, ap, ◌∙◌, Option}
use Rattle.xrf_base.specs.declared.items.Item.{Item}
use Rattle.xrf_base.specs.declared.site.Site.{Site}
use Rattle.xrf_ctl.specs.Control.{ControlRecord}
use Rattle.xrf_cavm.specs.declared.decisions.Decided.{Decided}
use Rattle.xrf_cavm.specs.declared.known.Known.{Known}
use Rattle.xrf_cavm.specs.declared.decisions.Decided.TheVariants.{Owner}
use Rattle.xrf_cavm.specs.declared.decisions.Acting.TheVariants as acting
use Rattle.xrf_msg.specs.declared.messages.Message.{Message}
use Rattle.xrf_msg.specs.Messages.{epoch_of}
use Rattle.xrf_history.specs.Events.{ActFailed, ControlWritten, DecisionMade, Event, MessageOpened, Released, Reserved, StartedActive, StartedStandby, Ticked}
use Rattle.xrf_history.proofs.SigningOff.{has_reserved_off, Stays}
use Rattle.xrf_history.proofs.Purposes.{is_sign_off}
use Rattle.xrf_history.specs.Reserving.{purpose_now}
use Rattle.xrf_history.specs.Notices.{drop_is_made, epoch}
use Rattle.xrf_history.specs.Holding.{is_owner}
use Rattle.xrf_history.specs.declared.want.Want.{Want}
use Rattle.xrf_history.specs.declared.settings.Settings.{Settings}
use Rattle.xrf_history.specs.Restarting.{has_read_block}
use Rattle.xrf_history.specs.Next.{next}
use Rattle.xrf_history.specs.Looking.{record_seen}
use Rattle.xrf_history.specs.declared.want.Want.TheVariants as want
use Rattle.xrf_trace.specs.Tracking.{messages_after, messages}
use Rattle.xrf_trace.specs.declared.entry.Act.{Act}
use Rattle.xrf_trace.specs.declared.entry.Land.{Land}
use Rattle.xrf_trace.specs.Acts.{is_act}
use Rattle.xrf_trace.proofs.TraceActs.{Decides, Tells, by_other, decides, tells}
use Rattle.xrf_trace.specs.declared.entry.Entry.{Entry}
use Rattle.xrf_trace.proofs.Short.{IsShort, over_run}
use Rattle.xrf_trace.specs.Scenario.{Scen, item_at, settings, other}
use Rattle.xrf_trace.specs.Jobs.{block_event, handed, hist, item_event, known_of}
use Rattle.xrf_trace.specs.Words.{now}
use Rattle.xrf_trace.proofs.Steps.{Reaches, IsStart, CanLand, Step}
use Rattle.xrf_trace.proofs.JobSteps.{started, GoesOn, JobCases, OfJobs, at-job, is-own, job-steps, no-jobs}
use Rattle.xrf_trace.specs.declared.entry.Act.TheVariants as act
use Rattle.xrf_trace.specs.declared.entry.Land.TheVariants as land
use Rattle.xrf_message_law.specs.Listing.{Listed, Lists, is_unbroken, opened}
use Rattle.xrf_message_law.proofs.Tests.{neither-left}
use Rattle.xrf_message_law.proofs.DueMessage.{IsDueOf, due-is}
use Rattle.xrf_message_law.specs.Due.{Sending, DueAt, IsDue, writes}
use Rattle.xrf_message_law.specs.Names.{ItemsNamed}
use Rattle.xrf_message_law.proofs.Alternates.{epoch-none}
use Rattle.xrf_message_law.proofs.Epochs.{fresh-catch_up}
use Rattle.xrf_message_law.proofs.Unbroken.{sends-unbroken}
use Rattle.xrf_message_law.proofs.Owner.{one-stays}
use Rattle.xrf_message_law.proofs.Due.{are_due}

-- an event that the words of the count do not see
abbrev IsUnlisted : Event → Type 0
IsUnlisted StartedActive = ⊥
IsUnlisted StartedStandby = ⊥
IsUnlisted Reserved = ⊥
IsUnlisted Released = ⊥
IsUnlisted (ControlWritten written) = ⊥
IsUnlisted (DecisionMade known at decision) = ⊥
IsUnlisted (MessageOpened k m) = ⊥
IsUnlisted (ActFailed w at) = ⊥
IsUnlisted _ = Unit {0}

-- such an event leaves the list
listed-on : (f : ℕ → List Message) (h : List Event) (e : Event) → IsUnlisted e → Listed f h → Listed f (e ∷ h)
listed-on f h StartedActive is before stays unbroken n ep = absurd is
listed-on f h StartedStandby is before stays unbroken n ep = absurd is
listed-on f h Reserved is before stays unbroken n ep = absurd is
listed-on f h Released is before stays unbroken n ep = absurd is
listed-on f h (ControlWritten written) is before stays unbroken n ep = absurd is
listed-on f h (DecisionMade known at decision) is before stays unbroken n ep = absurd is
listed-on f h (MessageOpened k m) is before stays unbroken n ep = absurd is
listed-on f h (ActFailed w at) is before stays unbroken n ep = absurd is
listed-on f h _ is before stays unbroken n ep = record { same = (before (record { owner = stays.owner; stays = stays.stays }) unbroken n ep).same }

-- a RESERVE that is not for a sign-off
listed-reserved : (f : ℕ → List Message) (h : List Event) → Listed f h → Listed f (Reserved ∷ h)
listed-reserved f h before stays unbroken n ep =
    record {
      same = (before (record {
        owner = stays.owner;
        stays = neither-left (has_reserved_off h)
            (is_sign_off (purpose_now h)) stays.stays;
      }) unbroken n ep).same;
    }

-- a RELEASE
listed-released : (f : ℕ → List Message) (h : List Event) → Listed f h → Listed f (Released ∷ h)
listed-released f h before stays unbroken n ep =
    record { same = (before (record { owner = stays.owner; stays = stays.stays }) unbroken n (kept (drop_is_made h) ep)).same }
  where
    kept : (b : Bool) → (if b then None else epoch h) ≡ Some n → epoch h ≡ Some n
    kept true is = absurd (cc)
    kept false is = is

-- a CTLWRITE
listed-written : (f : ℕ → List Message) (h : List Event) (written : ControlRecord) → (is_owner h ≡ false → epoch h ≡ None) → Listed f h
    → Listed f (ControlWritten written ∷ h)
listed-written f h written none before stays unbroken n ep = by (is_owner h) refl
  where
    by : (b : Bool) → is_owner h ≡ b → Lists f (ControlWritten written ∷ h) n
    by true is = record { same = (before (record { owner = is; stays = stays.stays }) unbroken n ep).same }
    by false is = let gone : epoch h ≡ None = none is in absurd (cc)

-- a decision: a CATCHUP is of an epoch that was sent nothing
listed-decided : (f : ℕ → List Message) (h : List Event) (known : Known) (at : ℕ) (decision : Decided)
    → ((n : ℕ) → Stays h → decision ≡ Owner (acting.CatchUp n) → f n ≡ []) → Listed f h → Listed f (DecisionMade known at decision ∷ h)
listed-decided f h known at (Owner (acting.CatchUp m)) fresh before stays unbroken n ep =
    let one : m ≡ n = cc in
    record { same = subst (λ (k : ℕ). [] ≡ f k) one (sym (fresh m (record { owner = stays.owner; stays = stays.stays }) refl)) }
listed-decided f h known at (Owner acting.Forget) fresh before stays unbroken n ep = absurd (cc)
listed-decided f h known at (Owner _) fresh before stays unbroken n ep =
    record { same = (before (record { owner = stays.owner; stays = stays.stays }) unbroken n ep).same }
listed-decided f h known at _ fresh before stays unbroken n ep =
    record { same = (before (record { owner = stays.owner; stays = stays.stays }) unbroken n ep).same }

-- a failed act
listed-failed : (f : ℕ → List Message) (h : List Event) (w : Want) (at : ℕ) → Listed f h → Listed f (ActFailed w at ∷ h)
listed-failed f h (want.MsgOpen k m) at before stays unbroken n ep = absurd (cc)
listed-failed f h _ at before stays unbroken n ep = record { same = (before (record { owner = stays.owner; stays = stays.stays }) unbroken n ep).same }

-- a failed OPEN leaves nothing said
listed-not_opened : (f : ℕ → List Message) (h : List Event) (w : Want) (k : ℕ) (m : Message) (at : ℕ) → w ≡ want.MsgOpen k m → Listed f (ActFailed w at ∷ h)
listed-not_opened f h w k m at is = subst (λ (one : Want). Listed f (ActFailed one at ∷ h)) (sym is) (λ stays unbroken n ep. absurd (cc))

-- the messages of an epoch once one of it is opened
pub opened-one : (n : ℕ) (m : Message) (k : ℕ) (before : List Message) → epoch_of m ≡ n → messages_after n (act.MsgOpen k m) land.Full before ≡ m ∷ before
opened-one n m k before is = by (epoch_of m == n) (eq-eqb (epoch_of m) n is)
  where
    by : (b : Bool) → b ≡ true → (if b then m ∷ before else before) ≡ m ∷ before
    by true is = refl
    by false is = absurd (cc)

-- its own OPEN adds its message to both
pub listed-opened : (f : ℕ → List Message) (p : Settings) (h : List Event) (k : ℕ) (m : Message) → Sending p h k m → is_unbroken h ≡ true → Listed f h
    → Listed (λ n. messages_after n (act.MsgOpen k m) land.Full (f n)) (MessageOpened k m ∷ h)
listed-opened f p h k m sending unbroken_before before stays unbroken n ep =
    let is : IsDueOf h m = due-is p h m sending.due in
    let one : epoch_of m ≡ n = (let both : Some (epoch_of m) ≡ Some n = sym is.epoch_is ∙ ep in cc) in
    let was : opened h ≡ f n = (before sending.stays unbroken_before n ep).same in
    let grown : messages_after n (act.MsgOpen k m) land.Full (f n) ≡ m ∷ f n = opened-one n m k (f n) one in
    record { same = ap (λ (l : List Message). m ∷ l) was ∙ sym grown }

-- an act that is no OPEN leaves the messages
abbrev pub IsNoOpen : Act → Type 0
IsNoOpen (act.MsgOpen k m) = ⊥
IsNoOpen _ = Unit {0}

-- so what is said of the messages stays
no_open-keeps : (f : ℕ → List Message) (g : List Event) (a : Act) (l : Land) → IsNoOpen a → Listed f g → Listed (λ n. messages_after n a l (f n)) g
no_open-keeps f g (act.MsgOpen k m) l is before = absurd is
no_open-keeps f g _ l is before = before

-- an entry of no job opens none
pub inert-no_open : (a : Act) → is_act a ≡ false → IsNoOpen a
inert-no_open (act.MsgOpen k m) inert = absurd (cc)
inert-no_open _ inert = tt

-- the event of the job's own act, where that is no OPEN
own-listed : (s : Scen) → ItemsNamed s → (t : List Entry) → IsShort s t → (x : Site) (h : List Event) (a : Act) → hist s t x ≡ Some h → IsNoOpen a
    → is_act a ≡ true
    → Tells a (next (settings s x) h) → Decides s t x h a → Listed (messages t) h → Listed (messages t) (handed s t x (now t) h a ∷ h)
own-listed s names t is x h (act.MsgOpen k m) there shut own told decided before = absurd shut
own-listed s names t is x h act.Reserve there shut own told decided before = listed-reserved (messages t) h before
own-listed s names t is x h act.Release there shut own told decided before = listed-released (messages t) h before
own-listed s names t is x h (act.CtlWrite written) there shut own told decided before =
    listed-written (messages t) h written (epoch-none s t is x h there) before
own-listed s names t is x h (act.Decide decision) there shut own told decided before =
    listed-decided (messages t) h (known_of t (record_seen h)) (now t) decision
    (λ n stays same. fresh-catch_up s t is x h n there stays told (decided ∙ same)) before
own-listed s names t is x h (act.LogRead b) there shut own told decided before = by (has_read_block h)
  where
    by : (has : Bool) → Listed (messages t) (block_event s t b has ∷ h)
    by true = listed-on (messages t) h (block_event s t b true) tt before
    by false = listed-on (messages t) h (block_event s t b false) tt before
own-listed s names t is x h (act.Item k) there shut own told decided before = by (item_at s x k)
  where
    by : (item : Option Item) → Listed (messages t) (item_event item ∷ h)
    by None = listed-on (messages t) h (item_event None) tt before
    by (Some item) = listed-on (messages t) h (item_event (Some item)) tt before
own-listed s names t is x h a there shut own told decided before = listed-on (messages t) h (handed s t x (now t) h a) tt before

-- a choice that reaches the job
reach-listed : (s : Scen) (t : List Entry) (x : Site) (h : List Event) (a : Act) (f : ℕ → List Message) → Reaches s x h a → Listed f h
    → Listed f (handed s t x (now t) h a ∷ h)
reach-listed s t x h act.Abend f reach before = listed-on f h (handed s t x (now t) h act.Abend) tt before
reach-listed s t x h (act.Reply go) f reach before = listed-on f h (handed s t x (now t) h (act.Reply go)) tt before
reach-listed s t x h (act.Cebt command reply) f reach before = listed-on f h (handed s t x (now t) h (act.Cebt command reply)) tt before
reach-listed s t x h (act.Exit said) f reach before = listed-on f h (handed s t x (now t) h (act.Exit said)) tt before
reach-listed s t x h _ f reach before = absurd reach

-- such a choice opens none
pub reach-no_open : (s : Scen) (x : Site) (h : List Event) (a : Act) → Reaches s x h a → IsNoOpen a
reach-no_open s x h (act.MsgOpen k m) reach = absurd reach
reach-no_open s x h _ reach = tt

-- a START
start-listed : (f : ℕ → List Message) (a : Act) → IsStart a → Listed f (started a)
start-listed f act.StartActive is stays unbroken n ep = absurd (cc)
start-listed f act.StartStandby is stays unbroken n ep = absurd (cc)
start-listed f _ is stays unbroken n ep = absurd is

-- the job's own act
made-listed : (s : Scen) → ItemsNamed s → (t : List Entry) → IsShort s t → (x : Site) (h : List Event) (a : Act) (l : Land) → hist s t x ≡ Some h
    → is_act a ≡ true → CanLand t a l → GoesOn l
    → Tells a (next (settings s x) h) → Decides s t x h a → IsDue (settings s x) h → Listed (messages t) h
    → Listed (λ n. messages_after n a l (messages t n)) (handed s t x (now t) h a ∷ h)
made-listed s names t is x h (act.MsgOpen k m) land.Full there own can on told decided due before =
    listed-opened (messages t) (settings s x) h k m (subst (DueAt (settings s x) h) told due.due) (sends-unbroken s t is x h there (ap writes told)) before
made-listed s names t is x h (act.MsgOpen k m) land.Lost there own can on told decided due before = absurd (cc)
made-listed s names t is x h (act.MsgOpen k m) _ there own can on told decided due before = absurd on
made-listed s names t is x h a l there own can on told decided due before =
    no_open-keeps (messages t) (handed s t x (now t) h a ∷ h) a l tt (own-listed s names t is x h a there tt own told decided before)

-- a failed act of its own
fails-listed : (s : Scen) (t : List Entry) (x : Site) (h : List Event) (a : Act) (l : Land) → Tells a (next (settings s x) h) → Listed (messages t) h
    → Listed (λ n. messages_after n a l (messages t n)) (ActFailed (next (settings s x) h) (now t) ∷ h)
fails-listed s t x h (act.MsgOpen k m) l told before =
    listed-not_opened (λ n. messages_after n (act.MsgOpen k m) l (messages t n)) h (next (settings s x) h) k m (now t) told
fails-listed s t x h a l told before =
    no_open-keeps (messages t) (ActFailed (next (settings s x) h) (now t) ∷ h) a l tt (listed-failed (messages t) h (next (settings s x) h) (now t) before)

-- an act of the other site: it opens no message, or this job is no owner that stays
beside-listed : (s : Scen) → (t : List Entry) → IsShort s t → (z : Site) (h g : List Event) (a : Act) (l : Land)
    → hist s t (other z) ≡ Some h → hist s t z ≡ Some g
    → Tells a (next (settings s (other z)) h) → IsDue (settings s (other z)) h → Listed (messages t) g → Listed (λ n. messages_after n a l (messages t n)) g
beside-listed s t is z h g (act.MsgOpen k m) l there also told due before =
    let sending : Sending (settings s (other z)) h k m = subst (DueAt (settings s (other z)) h) told due.due in
    λ stays unbroken n ep. absurd (one-stays s t is z g h also there stays sending.stays)
beside-listed s t is z h g a l there also told due before = no_open-keeps (messages t) g a l tt before

-- an entry keeps it
listed-moves : (s : Scen) → ItemsNamed s → (t : List Entry) → IsShort s t → (e : Entry) → Step s t e → OfJobs s t (λ x h. Listed (messages t) h)
    → JobCases s t e (λ x h. Listed (messages (e ∷ t)) h)
listed-moves s names t is e step each =
    let at : (x : Site) (h : List Event) → hist s t x ≡ Some h → Listed (messages t) h = λ x h there. at-job s
    (λ y g. Listed (messages t) g) t x h each there in
    let due : (x : Site) (h : List Event) → hist s t x ≡ Some h → IsDue (settings s x) h = λ x h there. at-job s
    (λ y g. IsDue (settings s y) g) t x h (are_due s t is) there in
    record {
      starts = λ x a start same. start-listed (messages (e ∷ t)) a start;
      ticks = λ x h there same. subst (λ (one : Entry). Listed (messages (one ∷ t)) (Ticked ∷ h)) same (listed-on (messages t) h Ticked tt (at x h there));
      reaches = λ x h a there reach same. subst (λ (one : Entry). Listed (messages (one ∷ t)) (handed s t x (now t) h a ∷ h)) same
          (no_open-keeps (messages t) (handed s t x (now t) h a ∷ h) a land.Full (reach-no_open s x h a reach) (reach-listed s t x h a (messages t) reach
          (at x h there)));
      makes = λ x h a l there wants can on same. subst (λ (one : Entry). Listed (messages (one ∷ t)) (handed s t x (now t) h a ∷ h)) same
          (made-listed s names t is x h a l there (is-own s t x h (next (settings s x) h) a wants) can on (tells s t x h (next (settings s x) h) a wants)
          (decides s t x h (next (settings s x) h) a wants) (due x h there) (at x h there));
      fails = λ x h a cut there wants can same. subst (λ (one : Entry). Listed (messages (one ∷ t)) (ActFailed (next (settings s x) h) (now t) ∷ h)) same
          (fails-listed s t x h a (land.Fail cut) (tells s t x h (next (settings s x) h) a wants) (at x h there));
      others = λ z g there away. by_other s t e z (λ one. Listed (messages (one ∷ t)) g) step away (record {
        inert = λ one inert. no_open-keeps (messages t) g one.act one.land (inert-no_open one.act inert) (at z g there);
        made =
            λ h a l also wants can. beside-listed s t is z h g a l also there (tells s t (other z) h (next (settings s (other z)) h) a wants)
            (due (other z) h also) (at z g there);
      });
    }

-- in every run
pub are_listed : (s : Scen) → ItemsNamed s → (t : List Entry) → IsShort s t → OfJobs s t (λ x h. Listed (messages t) h)
are_listed s names t is = over_run s (λ one. OfJobs s one (λ x h. Listed (messages one) h)) (no-jobs s (λ x h. Listed (messages []) h))
    (λ t is each e step. job-steps s t e (λ x h. Listed (messages (e ∷ t)) h) step (listed-moves s names t is e step each)) t is
