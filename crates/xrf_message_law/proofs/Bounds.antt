-- The numbers of a short run are below the bounds of their fields.
use Rattle.std.proofs.Common.{List, arith, length, ◌≤◌, [], ◌∷◌, suc, ℕ, Some, ◌≡◌, Bool, false, true, ◌+◌, if◌then◌else◌, refl, ap, subst, Option, None, sym, ◌∙◌, ◌^◌, ◌<◌}
use Rattle.xrf_base.specs.declared.site.Site.{Site}
use Rattle.xrf_ctl.specs.Control.{ControlRecord}
use Rattle.xrf_cavm.specs.declared.decisions.Decided.{Decided}
use Rattle.xrf_cavm.specs.declared.decisions.Decided.TheVariants.{Owner}
use Rattle.xrf_cavm.specs.Record.{is_alt}
use Rattle.xrf_cavm.specs.declared.decisions.Acting.{Acting}
use Rattle.xrf_cavm.specs.declared.known.Known.{Known}
use Rattle.xrf_cavm.specs.Decisions.{decide_active}
use Rattle.xrf_cavm.specs.declared.decisions.Acting.TheVariants as acting
use Rattle.xrf_msg.specs.Messages.{HasNames, HasRanges, epoch_of}
use Rattle.xrf_msg.specs.declared.messages.Message.{Message}
use Rattle.xrf_history.specs.Events.{ActFailed, DecisionMade, Event, MessageOpened, Released, Looked1, StartedActive, StartedStandby}
use Rattle.xrf_history.specs.Sending.{sent, sent_after}
use Rattle.xrf_history.proofs.Tests.{not-both}
use Rattle.xrf_history.specs.Next.{next}
use Rattle.xrf_history.specs.Notices.{epoch, epoch_in, drop_is_made}
use Rattle.xrf_history.specs.Looking.{record_seen, change}
use Rattle.xrf_history.specs.declared.settings.Settings.{Settings}
use Rattle.xrf_history.specs.Deciding.{cause}
use Rattle.xrf_history.specs.Holding.{is_owner}
use Rattle.xrf_history.proofs.Histories.{Comes, is_started}
use Rattle.xrf_history.specs.declared.want.Want.TheVariants as want
use Rattle.xrf_trace.specs.declared.entry.Act.{Act}
use Rattle.xrf_trace.proofs.Steps.{IsStart}
use Rattle.xrf_trace.proofs.JobSteps.{started, OfJobs, at-job, job-steps, no-jobs}
use Rattle.xrf_trace.specs.declared.entry.Entry.{Entry}
use Rattle.xrf_trace.proofs.Short.{IsShort, over_run}
use Rattle.xrf_trace.specs.Scenario.{Scen, settings}
use Rattle.xrf_trace.specs.Jobs.{hist}
use Rattle.xrf_trace.specs.Devices.{written_if, control_after, control}
use Rattle.xrf_trace.specs.declared.entry.Land.{Land}
use Rattle.xrf_trace.specs.Landing.{lands}
use Rattle.xrf_trace.proofs.TraceActs.{Tells, by_act, tells}
use Rattle.xrf_trace.specs.Acts.{is_act}
use Rattle.xrf_trace.proofs.Moves.{IsHanded}
use Rattle.xrf_trace.specs.Tracking.{messages}
use Rattle.xrf_trace.specs.declared.entry.Act.TheVariants as act
use Rattle.xrf_message_law.proofs.Owner.{last-by-one, alt-least}
use Rattle.xrf_message_law.proofs.CatchUps.{Catches, epoch_by, catches, decides-owner, epoch_in-by}
use Rattle.xrf_message_law.proofs.Alternates.{NoEpoch, decided-none, epoch-none}
use Rattle.xrf_message_law.proofs.Histories.{over_histories}
use Rattle.xrf_message_law.specs.Due.{DueAt, IsDue, Sending}
use Rattle.xrf_message_law.proofs.DueMessage.{IsDueOf, due-is}
use Rattle.xrf_message_law.specs.Epochs.{IsKnown}
use Rattle.xrf_message_law.proofs.TableNames.{IsNamed, are_named}
use Rattle.xrf_message_law.specs.Names.{ItemsNamed}
use Rattle.xrf_message_law.proofs.Due.{are_due}
use Rattle.xrf_message_law.proofs.Epochs.{are_known}
use Rattle.xrf_message_law.proofs.WholeMessages.{due-whole}

-- a history is no longer than its trace, and no more is sent than it is long
sent-few : (h : List Event) → sent h ≤ length h
sent-few [] = omega arith
sent-few (DecisionMade known at decision ∷ h) = by decision (sent-few h)
  where
    by : (d : Decided) → sent h ≤ length h → sent_after d (sent h) ≤ length (DecisionMade known at decision ∷ h)
    by (Owner (acting.CatchUp n)) few = omega arith
    by (Owner _) few = omega (arith, few)
    by _ few = omega (arith, few)
sent-few (MessageOpened place message ∷ h) = omega (arith, sent-few h)
sent-few (ActFailed (want.MsgOpen place message) at ∷ h) = omega (arith, sent-few h)
sent-few (_ ∷ h) = omega (arith, sent-few h)

-- a START is one event
start-few : (a : Act) (n : ℕ) → IsStart a → length (started a) ≤ suc n
start-few act.StartActive n is = omega arith
start-few act.StartStandby n is = omega arith
start-few _ n is = absurd is

-- a history is no longer than its trace
histories-few : (s : Scen) (t : List Entry) → IsShort s t → OfJobs s t (λ x h. length h ≤ length t)
histories-few s t is = over_run s (λ one. OfJobs s one (λ x h. length h ≤ length one)) (no-jobs s (λ x h. length h ≤ 0))
    (λ t is each e step.
    let at : (x : Site) (h : List Event) → hist s t x ≡ Some h → length h ≤ length t = λ x h there. at-job s (λ y g. length g ≤ length t) t x h each there in
    job-steps s t e (λ x h. length h ≤ length (e ∷ t)) step (record {
      starts = λ x a start same. start-few a (length t) start;
      ticks = λ x h there same. let few = at x h there in omega (arith, few);
      reaches = λ x h a there reach same. let few = at x h there in omega (arith, few);
      makes = λ x h a l there wants can on same. let few = at x h there in omega (arith, few);
      fails = λ x h a cut there wants can same. let few = at x h there in omega (arith, few);
      others = λ x h there away. let few = at x h there in omega (arith, few);
    })) t is

-- the last number is no greater than the trace is long
last-if : (r written : ControlRecord) (b : Bool) (n : ℕ) → written.last ≤ r.last + 1 → r.last ≤ n → (written_if b written r).last ≤ suc n
last-if r written true n rises few = omega (arith, rises, few)
last-if r written false n rises few = omega (arith, few)

-- an act raises the last number by one at most
last-after : (r : ControlRecord) (a : Act) (l : Land) (n : ℕ) → ((written : ControlRecord) → a ≡ act.CtlWrite written → written.last ≤ r.last + 1)
    → r.last ≤ n → (control_after a l r).last ≤ suc n
last-after r (act.CtlWrite written) l n rises few = last-if r written (lands l) n (rises written refl) few
last-after r _ l n rises few = omega (arith, few)

-- so the last number is no greater than the trace is long
last-few : (s : Scen) → (t : List Entry) → IsShort s t → (control t).last ≤ length t
last-few s t is = over_run s (λ one. (control one).last ≤ length one) (omega arith)
    (λ t is few e step. by_act s t e (λ one. (control (one ∷ t)).last ≤ length (one ∷ t)) step (record {
      inert =
          λ one inert. last-after (control t) one.act one.land (length t) (λ written same. absurd (not-both (is_act one.act) (ap is_act same) inert)) few;
      made = λ x h a l there wants can. last-after (control t) a l (length t)
          (λ written same. last-by-one s t is x h written there
          (subst (λ (one : Act). Tells one (next (settings s x) h)) same (tells s t x h (next (settings s x) h) a wants))) few;
    })) t is

-- the numbers that an owner knows of alternates are at least 1
record Least (h : List Event) : Type 0 where
  seen : (n : ℕ) → is_alt (record_seen h) n ≡ true → 1 ≤ n
  epoch_is : (n : ℕ) → epoch h ≡ Some n → 1 ≤ n

-- an epoch after a decision is at least 1
least-by : (seen : ControlRecord) (of : Option ℕ) (d : Acting) → Catches seen of d → ((n : ℕ) → is_alt seen n ≡ true → 1 ≤ n)
    → ((n : ℕ) → of ≡ Some n → 1 ≤ n) → (n : ℕ)
    → epoch_by d of ≡ Some n → 1 ≤ n
least-by seen of (acting.CatchUp m) caught few least n is = let same : m ≡ n = cc in subst (λ (k : ℕ). 1 ≤ k) same (few m caught.0)
least-by seen of acting.Forget caught few least n is = absurd (cc)
least-by seen of _ caught few least n is = least n is

-- a decision
least-decided : (p : Settings) (h : List Event) (known : Known) (at : ℕ) (d : Decided) → cause p h known at ≡ d → NoEpoch h → Least h
    → Least (DecisionMade known at d ∷ h)
least-decided p h known at d is none b = record { seen = b.seen; epoch_is = λ n ep. by n ep (is_owner h) refl }
  where
    by : (n : ℕ) → epoch_in d (epoch h) ≡ Some n → (o : Bool) → is_owner h ≡ o → 1 ≤ n
    by n ep true owner =
        let one : epoch_in d (epoch h) ≡ epoch_by (decide_active (change h) (record_seen h) (epoch h) p.pdi at) (epoch h) =
        ap (λ (c : Decided). epoch_in c (epoch h)) (sym is ∙ decides-owner p h known at owner) ∙ epoch_in-by
        (decide_active (change h) (record_seen h) (epoch h) p.pdi at) (epoch h) in
        least-by (record_seen h) (epoch h) (decide_active (change h) (record_seen h) (epoch h) p.pdi at)
        (catches (change h) (record_seen h) (epoch h) p.pdi at) b.seen b.epoch_is n (sym one ∙ ep)
    by n ep false alternate =
        let gone : epoch_in d (epoch h) ≡ None = subst (λ (c : Decided). epoch_in c (epoch h) ≡ None) is
        (decided-none p h known at alternate (none alternate)) in
        absurd (let same : Some n ≡ None = sym ep ∙ gone in cc)

-- a RELEASE
least-released : (h : List Event) → Least h → Least (Released ∷ h)
least-released h b = record { seen = b.seen; epoch_is = λ n ep. by n (drop_is_made h) ep }
  where
    by : (n : ℕ) (d : Bool) → (if d then None else epoch h) ≡ Some n → 1 ≤ n
    by n true is = absurd (cc)
    by n false is = b.epoch_is n is

-- an event that comes: a LOOK1 sees the record of the trace
least-step : (s : Scen) (t : List Entry) → IsShort s t → (x : Site) (h : List Event) (e : Event) → hist s t x ≡ Some h → Comes (settings s x) h e
    → IsHanded s t x h e → Least h → Least (e ∷ h)
least-step s t is x h StartedActive there comes given b = absurd comes
least-step s t is x h StartedStandby there comes given b = absurd comes
least-step s t is x h Released there comes given b = least-released h b
least-step s t is x h (Looked1 held signal) there comes given b =
    record { seen = subst (λ (r : ControlRecord). (n : ℕ) → is_alt r n ≡ true → 1 ≤ n) (sym given.0) (alt-least s t is); epoch_is = b.epoch_is }
least-step s t is x h (DecisionMade known at d) there comes given b =
    least-decided (settings s x) h known at d (sym comes.1) (epoch-none s t is x h there) b
least-step s t is x h e there comes given b = record { seen = b.seen; epoch_is = b.epoch_is }

-- a START
start-least : (e : Event) → is_started e ≡ true → Least (e ∷ [])
start-least StartedActive is = record { seen = λ n named. absurd (cc); epoch_is = λ n ep. absurd (cc) }
start-least StartedStandby is = record { seen = λ n named. absurd (cc); epoch_is = λ n ep. absurd (cc) }
start-least _ is = absurd (cc)

-- in every run
are_least : (s : Scen) → (t : List Entry) → IsShort s t → OfJobs s t (λ x h. Least h)
are_least s t is = over_histories s (λ x h. Least h)
    (record { starts = λ x e start. start-least e start; comes = λ t is x h e there comes given b. least-step s t is x h e there comes given b }) t is

-- so what is sent is a message
pub sending-whole : (s : Scen) → ItemsNamed s → (t : List Entry) → IsShort s t → (x : Site) (h : List Event) (k : ℕ) (m : Message) → hist s t x ≡ Some h
    → Sending (settings s x) h k m → HasRanges m × HasNames m
sending-whole s names t is x h k m there sending =
    let is_due : IsDueOf h m = due-is (settings s x) h m sending.due in
    let last : (control t).last ≤ length t = last-few s t is in
    let few : epoch_of m ≤ (control t).last =
    (at-job s (λ y g. IsKnown (control t) (messages t) (settings s y) g) t x h (are_known s t is).known there sending.stays).knows.given
    (epoch_of m) is_due.epoch_is in
    let least : 1 ≤ epoch_of m = (at-job s (λ y g. Least g) t x h (are_least s t is) there).epoch_is (epoch_of m) is_due.epoch_is in
    let long : length h ≤ length t = at-job s (λ y g. length g ≤ length t) t x h (histories-few s t is) there in
    let short : length t < 2 ^ 32 = is.few in
    let sent_is : sent h ≤ length h = sent-few h in
    due-whole (settings s x) h m (epoch_of m) is_due.epoch_is (record { least = least; most = omega (arith, few, last, short) })
    (omega (arith, sent_is, long, short))
    (at-job s (λ y g. IsNamed (settings s y) g) t x h (are_named s names t is) there) sending.due

-- also where its MSGOPEN is next
pub sends-whole : (s : Scen) → ItemsNamed s → (t : List Entry) → IsShort s t → (x : Site) (h : List Event) (k : ℕ) (m : Message) → hist s t x ≡ Some h
    → next (settings s x) h ≡ want.MsgOpen k m → HasRanges m × HasNames m
sends-whole s names t is x h k m there told =
    sending-whole s names t is x h k m there (subst (DueAt (settings s x) h) told (at-job s (λ y g. IsDue (settings s y) g) t x h (are_due s t is) there).due)
