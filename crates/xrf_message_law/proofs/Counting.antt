-- What the sender of an epoch counts is the count of its opened messages.
use Rattle.std.proofs.Common.{List, arith, length, refl, true, ◌≡◌, ◌∷◌, [], ap, ◌∙◌, Some, ℕ}
use Rattle.xrf_base.specs.declared.site.Site.{Site}
use Rattle.xrf_cavm.specs.declared.decisions.Decided.TheVariants.{Owner}
use Rattle.xrf_cavm.specs.declared.decisions.Acting.TheVariants as acting
use Rattle.xrf_msg.specs.declared.messages.Message.{Message}
use Rattle.xrf_msg.specs.Messages.{epoch_of, number_of}
use Rattle.xrf_history.specs.Events.{ActFailed, DecisionMade, Event, MessageOpened}
use Rattle.xrf_history.specs.Sending.{sent}
use Rattle.xrf_history.specs.Next.{next}
use Rattle.xrf_history.specs.declared.want.Want.TheVariants as want
use Rattle.xrf_trace.specs.declared.entry.Entry.{Entry}
use Rattle.xrf_trace.proofs.Short.{IsShort}
use Rattle.xrf_trace.proofs.JobSteps.{OfJobs, at-job, of_job}
use Rattle.xrf_trace.specs.Scenario.{Scen, settings}
use Rattle.xrf_trace.specs.Jobs.{hist}
use Rattle.xrf_trace.specs.Tracking.{messages}
use Rattle.xrf_message_law.specs.Listing.{is_unbroken, opened, Counted, Listed}
use Rattle.xrf_message_law.specs.Names.{ItemsNamed}
use Rattle.xrf_message_law.proofs.Listing.{are_listed}
use Rattle.xrf_message_law.proofs.DueMessage.{IsDueOf, due-is}
use Rattle.xrf_message_law.specs.Due.{Sending, writes}
use Rattle.xrf_message_law.proofs.Unbroken.{sends-unbroken}

-- while no MSGOPEN has failed, what was sent was opened
pub sent-opened : (h : List Event) → is_unbroken h ≡ true → sent h ≡ length (opened h)
sent-opened [] unbroken = refl
sent-opened (DecisionMade known at (Owner (acting.CatchUp n)) ∷ h) unbroken = refl
sent-opened (DecisionMade known at (Owner d) ∷ h) unbroken = sent-opened h unbroken
sent-opened (DecisionMade known at d ∷ h) unbroken = sent-opened h unbroken
sent-opened (MessageOpened k m ∷ h) unbroken = let more = sent-opened h unbroken in omega (arith, more)
sent-opened (ActFailed (want.MsgOpen k m) at ∷ h) unbroken = absurd (cc)
sent-opened (ActFailed w at ∷ h) unbroken = sent-opened h unbroken
sent-opened (_ ∷ h) unbroken = sent-opened h unbroken

-- so its count is the count of the messages of the epoch, in every run
pub are_counted : (s : Scen) → ItemsNamed s → (t : List Entry) → IsShort s t → OfJobs s t (λ x h. Counted (messages t) h)
are_counted s names t is x = of_job (λ y h. Counted (messages t) h) x (hist s t x) (λ h there stays unbroken n ep.
    record {
      same = sent-opened h unbroken ∙ ap length (at-job s (λ y g. Listed (messages t) g) t x h
          (are_listed s names t is) there stays unbroken n ep).same;
    })

-- the message that is opened next has the count of its epoch as its number
pub sends-next : (s : Scen) → ItemsNamed s → (t : List Entry) → IsShort s t → (x : Site) (h : List Event) (k : ℕ) (m : Message) → hist s t x ≡ Some h
    → next (settings s x) h ≡ want.MsgOpen k m
    → Sending (settings s x) h k m → Counted (messages t) h → number_of m ≡ length (messages t (epoch_of m))
sends-next s names t is x h k m there told sending counted =
    let is_due : IsDueOf h m = due-is (settings s x) h m sending.due in
    is_due.number_is ∙ (counted sending.stays (sends-unbroken s t is x h there (ap writes told)) (epoch_of m) is_due.epoch_is).same
