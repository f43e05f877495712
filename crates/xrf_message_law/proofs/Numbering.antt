-- The opened messages of each epoch have the numbers 0, 1, 2, ..
use Rattle.std.proofs.Common.{Bool, List, false, length, refl, true, ◌≡◌, ℕ, ◌∷◌, if◌then◌else◌, Some, eqb-true, subst, ◌==◌, ◌&&◌}
use Rattle.std.proofs.lemmas.Bool.{and_parts}
use Rattle.xrf_base.specs.declared.site.Site.{Site}
use Rattle.xrf_msg.specs.declared.messages.Message.{Message}
use Rattle.xrf_msg.specs.Messages.{epoch_of, number_of}
use Rattle.xrf_history.specs.Events.{Event}
use Rattle.xrf_history.specs.Next.{next}
use Rattle.xrf_trace.specs.declared.entry.Act.{Act}
use Rattle.xrf_trace.specs.declared.entry.Land.{Land}
use Rattle.xrf_trace.specs.Tracking.{messages_after, messages}
use Rattle.xrf_trace.specs.declared.entry.Entry.{Entry}
use Rattle.xrf_trace.proofs.Short.{IsShort, over_run}
use Rattle.xrf_trace.specs.Scenario.{Scen, settings}
use Rattle.xrf_trace.proofs.TraceActs.{Tells, by_act, tells}
use Rattle.xrf_trace.specs.Jobs.{hist}
use Rattle.xrf_trace.specs.Landing.{opens}
use Rattle.xrf_trace.proofs.JobSteps.{at-job}
use Rattle.xrf_trace.specs.declared.entry.Act.TheVariants as act
use Rattle.xrf_message_law.specs.Numbering.{AreNumbered, IsOf}
use Rattle.xrf_message_law.proofs.Listing.{IsNoOpen, inert-no_open}
use Rattle.xrf_message_law.specs.Listing.{Counted}
use Rattle.xrf_message_law.specs.Due.{DueAt, IsDue, Sending}
use Rattle.xrf_message_law.specs.Names.{ItemsNamed}
use Rattle.xrf_message_law.proofs.Counting.{sends-next, are_counted}
use Rattle.xrf_message_law.proofs.Due.{are_due}

-- a message that has the next number keeps the order
numbered-opened : (n : ℕ) (m : Message) (b : Bool) (f : List Message) → (b ≡ true → IsOf n (length f) m) → AreNumbered n f
    → AreNumbered n (if b then m ∷ f else f)
numbered-opened n m true f is before = (is refl, before)
numbered-opened n m false f is before = before

-- an act that opens none keeps it
numbered-act : (f : ℕ → List Message) (a : Act) (l : Land) → IsNoOpen a → ((n : ℕ) → AreNumbered n (f n)) → (n : ℕ) → AreNumbered n (messages_after n a l (f n))
numbered-act f (act.MsgOpen k m) l off before = absurd off
numbered-act f _ l off before = before

-- an act of a job
numbered-made : (s : Scen) → ItemsNamed s → (t : List Entry) → IsShort s t → (x : Site) (h : List Event) (a : Act) (l : Land) → hist s t x ≡ Some h
    → Tells a (next (settings s x) h)
    → IsDue (settings s x) h → Counted (messages t) h → ((n : ℕ) → AreNumbered n (messages t n)) → (n : ℕ) → AreNumbered n (messages_after n a l (messages t n))
numbered-made s names t is x h (act.MsgOpen k m) l there told due counted before n =
    let sending : Sending (settings s x) h k m = subst (DueAt (settings s x) h) told due.due in
    let number : number_of m ≡ length (messages t (epoch_of m)) = sends-next s names t is x h k m there told sending counted in
    numbered-opened n m (opens l && epoch_of m == n) (messages t n)
    (λ lands. let one : epoch_of m ≡ n = eqb-true (epoch_of m) n (and_parts (opens l) (epoch_of m == n) lands).1 in
    record { epoch = one; number = subst (λ (k : ℕ). number_of m ≡ length (messages t k)) one number })
    (before n)
numbered-made s names t is x h a l there told due counted before n = numbered-act (messages t) a l tt before n

-- in every run
pub are_numbered : (s : Scen) → ItemsNamed s → (t : List Entry) → IsShort s t → (n : ℕ) → AreNumbered n (messages t n)
are_numbered s names t is = over_run s (λ one. (n : ℕ) → AreNumbered n (messages one n)) (λ n. tt)
    (λ t is before e step. by_act s t e (λ one. (n : ℕ) → AreNumbered n (messages (one ∷ t) n)) step (record {
      inert = λ one inert. numbered-act (messages t) one.act one.land (inert-no_open one.act inert) before;
      made = λ x h a l there wants can. numbered-made s names t is x h a l there (tells s t x h (next (settings s x) h) a wants)
          (at-job s (λ y g. IsDue (settings s y) g) t x h (are_due s t is) there)
          (at-job s (λ y g. Counted (messages t) g) t x h (are_counted s names t is) there) before;
    })) t is
