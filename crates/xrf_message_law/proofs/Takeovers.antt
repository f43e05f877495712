-- A takeover keeps the terminals: what was sent to an incarnation tells those of its sender.
use Rattle.std.proofs.Common.{None, Option, Some, ap, eqb-true, true, ◌≡◌, ℕ, eq-eqb, Bool, IfSome, List, false, refl, if◌then◌else◌, ◌∙◌, sym, ◌∷◌, subst, [], ◌==◌, ◌&&◌, arith, is_none}
use Rattle.std.proofs.lemmas.Bool.{and_parts}
use Rattle.xrf_base.specs.declared.site.Site.{Site}
use Rattle.xrf_base.specs.declared.site.Site.TheVariants as site
use Rattle.xrf_msg.specs.declared.messages.Message.{Message}
use Rattle.xrf_msg.specs.Messages.{epoch_of}
use Rattle.xrf_terms.specs.declared.rows.Row.{Row}
use Rattle.xrf_terms.specs.Tracking.{tracked as tracked_by, settled}
use Rattle.xrf_history.specs.Events.{Event, RestartDeclared}
use Rattle.xrf_history.specs.Notices.{epoch}
use Rattle.xrf_history.specs.Sending.{is_caught_up, message_due}
use Rattle.xrf_history.specs.Next.{next}
use Rattle.xrf_history.specs.Terminals.{after_message, table}
use Rattle.xrf_history.specs.declared.want.Want.TheVariants as want
use Rattle.xrf_trace.specs.TerminalsAreTold.{has_epoch, Sender, sender_at, told_of_job, with_due, sender, KeepsTable, LacksDue, TakesOver, is_all_sent}
use Rattle.xrf_trace.specs.Scenario.{Scen, settings, other}
use Rattle.xrf_trace.specs.declared.entry.Entry.{Entry}
use Rattle.xrf_trace.proofs.Short.{IsShort}
use Rattle.xrf_trace.proofs.JobSteps.{at-job}
use Rattle.xrf_trace.specs.Jobs.{hist}
use Rattle.xrf_trace.specs.Tracking.{messages, tracked, messages_after}
use Rattle.xrf_trace.specs.declared.entry.Act.{Act}
use Rattle.xrf_trace.specs.declared.entry.Land.{Land}
use Rattle.xrf_trace.proofs.TraceActs.{Tells, by_act, tells}
use Rattle.xrf_trace.specs.Landing.{opens}
use Rattle.xrf_trace.proofs.Steps.{Step, outcome-step}
use Rattle.xrf_trace.specs.FileIsBook.{is_restart}
use Rattle.xrf_trace.specs.Each.{Where, OfJob, AtSite, Each}
use Rattle.xrf_trace.specs.declared.entry.Who.{Who}
use Rattle.xrf_trace.specs.TableIsTracked.{IsTracked, TableIsTracked}
use Rattle.xrf_trace.proofs.AtSites.{where-so}
use Rattle.xrf_trace.specs.declared.entry.Act.TheVariants as act
use Rattle.xrf_trace.specs.declared.entry.Who.TheVariants as who
use Rattle.xrf_message_law.specs.Names.{ItemsNamed}
use Rattle.xrf_message_law.specs.Openers.{Kept, opener}
use Rattle.xrf_message_law.specs.Telling.{Telling}
use Rattle.xrf_message_law.proofs.Openers.{are_kept, nobody-else}
use Rattle.xrf_message_law.proofs.Telling.{are_telling}
use Rattle.xrf_message_law.proofs.Terminals.{tellable, tells-now, has-sent}
use Rattle.xrf_message_law.specs.Due.{Sending, writes, DueAt, IsDue}
use Rattle.xrf_message_law.proofs.DueMessage.{IsDueOf, due-is}
use Rattle.xrf_message_law.proofs.TrackedTwice.{once-more}
use Rattle.xrf_message_law.specs.Listing.{Listed}
use Rattle.xrf_message_law.proofs.Listing.{are_listed, IsNoOpen, inert-no_open}
use Rattle.xrf_message_law.proofs.Unbroken.{sends-unbroken}
use Rattle.xrf_message_law.proofs.Due.{are_due}

-- an epoch that is a number, as a test and as an equation
epoch-is : (n : ℕ) (o : Option ℕ) → has_epoch n o ≡ true → o ≡ Some n
epoch-is n None is = absurd (cc)
epoch-is n (Some m) is = ap (λ (i : ℕ). Some i) (eqb-true m n is)

-- and back
is-epoch : (n : ℕ) (o : Option ℕ) → o ≡ Some n → has_epoch n o ≡ true
is-epoch n None is = absurd (cc)
is-epoch n (Some m) is = let same : m ≡ n = cc in eq-eqb m n same

-- what is said of the sender: of a job with that epoch, and of the one before
sender-by : (K : Sender → Type 0) (x : Site) (n : ℕ) (job : Option (List Event)) (before : Option Sender)
    → ((h : List Event) → job ≡ Some h → epoch h ≡ Some n → K (record { site = x; history = h })) → IfSome before K → IfSome (sender_at x n job before) K
sender-by K x n None before here rest = rest
sender-by K x n (Some h) before here rest = by (has_epoch n (epoch h)) refl
  where
    by : (b : Bool) → has_epoch n (epoch h) ≡ b → IfSome (if b then Some (record { site = x; history = h }) else before) K
    by true is = here h refl (epoch-is n (epoch h) is)
    by false is = rest

-- rows tell a sender that was caught up: with the message that was due they are what was to be told of its table
abbrev Tracks : Scen → List Row → Sender → Type 0
Tracks s rows from = is_caught_up from.history ≡ true → with_due s from.site from.history rows ≡ told_of_job s from.site from.history

-- so it is of a job that has the epoch now
now-tracks : (s : Scen) → ItemsNamed s → (t : List Entry) → IsShort s t → (n : ℕ) (x : Site) (h : List Event) → hist s t x ≡ Some h → epoch h ≡ Some n
    → Tracks s (tracked t n) (record { site = x; history = h })
now-tracks s names t is n x h there ep caught =
    tells-now (settings s x) h (messages t) (opener t) n (tellable h caught) ep (at-job s (λ y g. Telling (settings s y) g) t x h (are_telling s t is) there)
    (at-job s (λ y g. Kept (messages t) (opener t) g) t x h (are_kept s names t is) there)

-- a job that opens a message
record Sends (s : Scen) (t : List Entry) (x : Site) (g : List Event) (k : ℕ) (m : Message) : Type 0 where
  there : hist s t x ≡ Some g
  sending : Sending (settings s x) g k m
  wants : next (settings s x) g ≡ want.MsgOpen k m

-- the message that a job opens is of its epoch
sends-epoch : (s : Scen) (t : List Entry) (x : Site) (g : List Event) (k : ℕ) (m : Message) (n : ℕ) → Sends s t x g k m → epoch_of m ≡ n → epoch g ≡ Some n
sends-epoch s t x g k m n sends one = let due : IsDueOf g m = due-is (settings s x) g m sends.sending.due in due.epoch_is ∙ ap (λ (i : ℕ). Some i) one

-- the message that a job opens was due, and once more it changes nothing
own-tracks : (s : Scen) → ItemsNamed s → (t : List Entry) → IsShort s t → (x : Site) (g : List Event) (k : ℕ) (m : Message) (n : ℕ)
    → Sends s t x g k m → epoch g ≡ Some n → Tracks s (tracked_by (m ∷ messages t n)) (record { site = x; history = g })
own-tracks s names t is x g k m n sends ep caught =
    ap (λ (o : Option Message). after_message o (tracked_by (m ∷ messages t n))) sends.sending.due
    ∙ once-more m (messages t n)
    ∙ ap (λ (o : Option Message). after_message o (tracked t n)) (sym sends.sending.due) ∙ now-tracks s names t is n x g sends.there ep caught

-- no other job opens a message of the epoch of one that is caught up
beside-tracks : (s : Scen) → ItemsNamed s → (t : List Entry) → IsShort s t → (z : Site) (h g : List Event) (k : ℕ) (m : Message) (n : ℕ)
    → hist s t z ≡ Some h → epoch h ≡ Some n → Sends s t (other z) g k m → epoch_of m ≡ n → is_caught_up h ≡ true → ⊥
beside-tracks s names t is z h g k m n there ep sends one caught =
    nobody-else s t is z h g (settings s (other z)) k m n there sends.there (has-sent h n (tellable h caught) ep)
    (at-job s (λ y g. Kept (messages t) (opener t) g) t z h (are_kept s names t is) there) sends.sending
    (sends-unbroken s t is (other z) g sends.there (ap writes sends.wants))
    (at-job s (λ y g. Listed (messages t) g) t (other z) g (are_listed s names t is) sends.there)
    (at-job s (λ y g. Kept (messages t) (opener t) g) t (other z) g (are_kept s names t is) sends.there) one

-- so a message that is opened leaves what the sender told
tracks-at : (s : Scen) → ItemsNamed s → (t : List Entry) → IsShort s t → (x : Site) (g : List Event) (k : ℕ) (m : Message) (n : ℕ)
    → Sends s t x g k m → epoch_of m ≡ n → (older : Option Sender)
    → IfSome (sender_at site.A n (hist s t site.A) (sender_at site.B n (hist s t site.B) older)) (Tracks s (tracked_by (m ∷ messages t n)))
tracks-at s names t is site.A g k m n sends one older =
    let ep : epoch g ≡ Some n = sends-epoch s t site.A g k m n sends one in
    let rows : List Row = tracked_by (m ∷ messages t n) in
    let rest : Option Sender = sender_at site.B n (hist s t site.B) older in
    subst (λ (o : Option (List Event)). IfSome (sender_at site.A n o rest) (Tracks s rows)) (sym sends.there)
    (subst (λ (b : Bool). IfSome (if b then Some (record { site = site.A; history = g }) else rest) (Tracks s rows)) (sym (is-epoch n (epoch g) ep))
    (own-tracks s names t is site.A g k m n sends ep))
tracks-at s names t is site.B g k m n sends one older =
    let ep : epoch g ≡ Some n = sends-epoch s t site.B g k m n sends one in
    let rows : List Row = tracked_by (m ∷ messages t n) in
    sender-by (Tracks s rows) site.A n (hist s t site.A) (sender_at site.B n (hist s t site.B) older)
    (λ h there its caught. absurd (beside-tracks s names t is site.A h g k m n there its sends one caught))
    (subst (λ (o : Option (List Event)). IfSome (sender_at site.B n o older) (Tracks s rows)) (sym sends.there)
    (subst (λ (b : Bool). IfSome (if b then Some (record { site = site.B; history = g }) else older) (Tracks s rows)) (sym (is-epoch n (epoch g) ep))
    (own-tracks s names t is site.B g k m n sends ep)))

-- in every run
tracks : (s : Scen) → ItemsNamed s → (t : List Entry) → IsShort s t → (x : Site) (g : List Event) (k : ℕ) (m : Message) (n : ℕ)
    → Sends s t x g k m → epoch_of m ≡ n → IfSome (sender s t n) (Tracks s (tracked_by (m ∷ messages t n)))
tracks s names [] is x g k m n sends one = tt
tracks s names (e ∷ t) is x g k m n sends one = tracks-at s names (e ∷ t) is x g k m n sends one (sender s t n)

-- what the messages of an epoch tell of its sender
abbrev SenderTold : Scen → List Entry → ℕ → List Message → Type 0
SenderTold s t n sent_then = IfSome (sender s t n) (Tracks s (tracked_by sent_then))

-- an entry that opens no message of an epoch
opens-none : (n : ℕ) (a : Act) (l : Land) (before : List Message) → IsNoOpen a → messages_after n a l before ≡ before
opens-none n (act.MsgOpen k m) l before off = absurd off
opens-none n _ l before off = refl

-- an entry that opens none leaves what was told
same-told : (s : Scen) (t : List Entry) (n : ℕ) (before after : List Message) → after ≡ before → SenderTold s t n before → SenderTold s t n after
same-told s t n before after same was = subst (SenderTold s t n) (sym same) was

-- an act of a job
made-told : (s : Scen) → ItemsNamed s → (t : List Entry) → IsShort s t → (n : ℕ) (x : Site) (h : List Event) (a : Act) (l : Land)
    → hist s t x ≡ Some h → Tells a (next (settings s x) h) → SenderTold s t n (messages t n) → SenderTold s t n (messages_after n a l (messages t n))
made-told s names t is n x h (act.MsgOpen k m) l there told_is was = by (opens l && epoch_of m == n) refl
  where
    sends : Sends s t x h k m
    sends = record {
      there = there;
      sending = subst (DueAt (settings s x) h) told_is (at-job s (λ y g. IsDue (settings s y) g) t x h (are_due s t is) there).due;
      wants = told_is;
    }

    by : (b : Bool) → (opens l && epoch_of m == n) ≡ b → SenderTold s t n (if b then m ∷ messages t n else messages t n)
    by false no_it = was
    by true yes_it = tracks s names t is x h k m n sends (eqb-true (epoch_of m) n (and_parts (opens l) (epoch_of m == n) yes_it).1)
made-told s names t is n x h a l there told_is was =
    same-told s t n (messages t n) (messages_after n a l (messages t n)) (opens-none n a l (messages t n) tt) was

-- an entry
entry-told : (s : Scen) → ItemsNamed s → (t : List Entry) → IsShort s t → (n : ℕ) (e : Entry) → Step s t e → SenderTold s t n (messages t n)
    → SenderTold s t n (messages (e ∷ t) n)
entry-told s names t is n e step was = by_act s t e (λ one. SenderTold s t n (messages (one ∷ t) n)) step (record {
  inert = λ one inert. same-told s t n (messages t n) (messages (one ∷ t) n) (opens-none n one.act one.land (messages t n) (inert-no_open one.act inert)) was;
  made = λ x h a l there wants can. made-told s names t is n x h a l there (tells s t x h (next (settings s x) h) a wants) was;
})

-- **what was sent to an incarnation tells its sender's terminals, in every run**
pub senders-told : (s : Scen) → ItemsNamed s → (t : List Entry) → IsShort s t → (n : ℕ) → SenderTold s t n (messages t n)
senders-told s names [] is n = tt
senders-told s names (e ∷ t) is n =
    let before : IsShort s t = record { run = is.run.0; few = omega (arith, is.few) } in
    let K : Sender → Type 0 = Tracks s (tracked (e ∷ t) n) in
    sender-by K site.A n (hist s (e ∷ t) site.A) (sender_at site.B n (hist s (e ∷ t) site.B) (sender s t n))
    (λ h there ep. now-tracks s names (e ∷ t) is n site.A h there ep)
    (sender-by K site.B n (hist s (e ∷ t) site.B) (sender s t n)
    (λ h there ep. now-tracks s names (e ∷ t) is n site.B h there ep)
    (entry-told s names t before n e (outcome-step s t is.run.1.0 e is.run.1.1) (senders-told s names t before n)))

-- at a RESTARTED, which opens no message
restart-opens-none : (n : ℕ) (a : Act) (l : Land) (before : List Message) → is_restart a ≡ true → messages_after n a l before ≡ before
restart-opens-none n (act.MsgOpen k m) l before is = absurd (cc)
restart-opens-none n _ l before is = refl

-- a fact where a test is met, from another
where-map : (b : Bool) (P Q : Type 0) → (b ≡ true → P → Q) → Where b P → Where b Q
where-map true P Q make p = make refl p
where-map false P Q make p = tt

-- a fact of a job where there is one, from another
job-map : (o : Option (List Event)) (P Q : List Event → Type 0) → ((h : List Event) → P h → Q h) → OfJob o P → OfJob o Q
job-map None P Q make p = tt
job-map (Some h) P Q make p = make h p

-- a fact of the site of an entry, from another
site-map : (s : Scen) (t : List Entry) (w : Who) (P Q : Site → List Event → Type 0) → ((x : Site) (h : List Event) → P x h → Q x h)
    → AtSite s t w P → AtSite s t w Q
site-map s t who.A P Q make p = job-map (hist s t site.A) (P site.A) (Q site.A) (make site.A) p
site-map s t who.B P Q make p = job-map (hist s t site.B) (P site.B) (Q site.B) (make site.B) p
site-map s t who.Env P Q make p = tt

-- a test for none
none-is : {X : Type 0} (o : Option X) → is_none o ≡ true → o ≡ None
none-is None is = refl
none-is (Some x) is = absurd (cc)

-- the table is the sender's, settled, where all was sent; and what was sent lacks the message due at most
table-kept : (s : Scen) (t : List Entry) (e : Entry) → is_restart e.act ≡ true → SenderTold s t e.inc (messages t e.inc)
    → (x : Site) (h : List Event) → IsTracked s t e x h → TakesOver s t e x h
table-kept s t e restart was x h tracked_is = by (sender s t e.inc) was
  where
    same : tracked (e ∷ t) e.inc ≡ tracked t e.inc
    same = ap (λ (l : List Message). tracked_by l) (restart-opens-none e.inc e.act e.land (messages t e.inc) restart)

    all : (from : Sender) → Tracks s (tracked t e.inc) from → is_all_sent s from ≡ true → tracked (e ∷ t) e.inc ≡ told_of_job s from.site from.history
    all from told sent_all =
        let parts = and_parts (is_caught_up from.history) (is_none (message_due (settings s from.site) from.history)) sent_all in
        let none : message_due (settings s from.site) from.history ≡ None = none-is (message_due (settings s from.site) from.history) parts.1 in
        same ∙ ap (λ (o : Option Message). after_message o (tracked t e.inc)) (sym none) ∙ told parts.0

    by : (o : Option Sender) → IfSome o (Tracks s (tracked t e.inc)) → IfSome o (λ from. KeepsTable s x h from × LacksDue s (tracked (e ∷ t) e.inc) from)
    by None told = tt
    by (Some from) told = (
      where-so (is_all_sent s from) (table (settings s x) (RestartDeclared ∷ h) ≡ settled s.settings.force (told_of_job s from.site from.history))
          (λ sent_all. tracked_is.0 ∙ ap (settled s.settings.force) (all from told sent_all)),
      where-so (is_caught_up from.history) (with_due s from.site from.history (tracked (e ∷ t) e.inc) ≡ told_of_job s from.site from.history)
          (λ caught. ap (λ (rows : List Row). with_due s from.site from.history rows) same ∙ told caught),
    )

-- **a takeover keeps the terminals, in every run**
pub takeovers-keep : (s : Scen) → ItemsNamed s → (t : List Entry) → IsShort s t → TableIsTracked s t
    → Each (λ t e. Where (is_restart e.act) (AtSite s t e.who (TakesOver s t e))) t
takeovers-keep s names [] is tables_are = tt
takeovers-keep s names (e ∷ t) is tables_are =
    let before : IsShort s t = record { run = is.run.0; few = omega (arith, is.few) } in (
      takeovers-keep s names t before tables_are.0,
      where-map (is_restart e.act) (AtSite s t e.who (IsTracked s t e)) (AtSite s t e.who (TakesOver s t e))
          (λ restart here. site-map s t e.who (IsTracked s t e) (TakesOver s t e)
          (table-kept s t e restart (senders-told s names t before e.inc)) here) tables_are.1,
    )
