-- The promise on terminals: what was sent tells the owner's terminals.
use Rattle.std.proofs.Common.{List, false, refl, true, ◌≡◌, [], ◌∷◌, not, ◌&&◌, Some, ℕ, Option, ap, subst, sym, ◌∙◌, None, nat_lt, length}
use Rattle.std.proofs.lemmas.Bool.{and_parts}
use Rattle.xrf_cavm.specs.declared.decisions.Decided.TheVariants.{Owner}
use Rattle.xrf_cavm.specs.declared.decisions.Acting.TheVariants as acting
use Rattle.xrf_msg.specs.declared.messages.Message.{Message}
use Rattle.xrf_terms.specs.Tracking.{tracked as tracked_by}
use Rattle.xrf_history.specs.Events.{ActFailed, DecisionMade, Event, MessageOpened}
use Rattle.xrf_history.specs.Sending.{is_cut, is_end_sent, message_due, message_due_in, message_of_change, sent, told_rows}
use Rattle.xrf_history.specs.Reserving.{is_on_message}
use Rattle.xrf_history.specs.Holding.{is_owner, is_restarted}
use Rattle.xrf_history.specs.Notices.{epoch}
use Rattle.xrf_history.specs.declared.settings.Settings.{Settings}
use Rattle.xrf_history.specs.Terminals.{after_message, table}
use Rattle.xrf_history.specs.declared.want.Want.TheVariants as want
use Rattle.xrf_trace.specs.declared.entry.Entry.{Entry}
use Rattle.xrf_trace.proofs.Short.{IsShort}
use Rattle.xrf_trace.proofs.JobSteps.{OfJobs, at-job, of_job}
use Rattle.xrf_trace.specs.Scenario.{Scen, settings}
use Rattle.xrf_trace.specs.TerminalsAreTold.{Tells, TellsAll, TellsFirst, TellsSome}
use Rattle.xrf_trace.specs.Jobs.{hist}
use Rattle.xrf_trace.specs.Tracking.{messages}
use Rattle.xrf_trace.proofs.AtSites.{where-so}
use Rattle.xrf_message_law.specs.Listing.{is_unbroken, opened}
use Rattle.xrf_message_law.proofs.Tests.{neither-left, neither-right, no-so}
use Rattle.xrf_message_law.specs.Openers.{HasSent, Keeps, Kept, opener}
use Rattle.xrf_message_law.specs.Telling.{Telling, TellsBy, TellsIn}
use Rattle.xrf_message_law.proofs.Telling.{due_by, are_telling}
use Rattle.xrf_message_law.specs.Names.{ItemsNamed}
use Rattle.xrf_message_law.proofs.Openers.{are_kept}
use Rattle.xrf_message_law.proofs.Counting.{sent-opened}

-- where no message failed, no MSGOPEN did
cut-unbroken : (h : List Event) → is_cut h ≡ false → is_unbroken h ≡ true
cut-unbroken [] is = refl
cut-unbroken (DecisionMade known at (Owner (acting.CatchUp n)) ∷ h) is = refl
cut-unbroken (DecisionMade known at (Owner d) ∷ h) is = cut-unbroken h is
cut-unbroken (DecisionMade known at d ∷ h) is = cut-unbroken h is
cut-unbroken (ActFailed (want.MsgOpen k m) at ∷ h) is = absurd (neither-right (is_cut h) true is refl)
cut-unbroken (ActFailed (want.MsgRead k) at ∷ h) is = absurd (neither-right (is_cut h) true is refl)
cut-unbroken (ActFailed (want.MsgClose k) at ∷ h) is = absurd (neither-right (is_cut h) true is refl)
cut-unbroken (ActFailed (want.MsgBody k m) at ∷ h) is = absurd (neither-right (is_cut h) true is refl)
cut-unbroken (ActFailed w at ∷ h) is = cut-unbroken h (neither-left (is_cut h) false is)
cut-unbroken (_ ∷ h) is = cut-unbroken h is

-- once End is sent, something was
end-opened : (h : List Event) → is_cut h ≡ false → is_end_sent h ≡ true → opened h ≡ [] → ⊥
end-opened [] is ended none = absurd (cc)
end-opened (DecisionMade known at (Owner (acting.CatchUp n)) ∷ h) is ended none = absurd (cc)
end-opened (DecisionMade known at (Owner d) ∷ h) is ended none = end-opened h is ended none
end-opened (DecisionMade known at d ∷ h) is ended none = end-opened h is ended none
end-opened (MessageOpened k m ∷ h) is ended none = cc
end-opened (ActFailed (want.MsgOpen k m) at ∷ h) is ended none = neither-right (is_cut h) true is refl
end-opened (ActFailed w at ∷ h) is ended none = end-opened h (neither-left (is_cut h) (is_on_message w) is) ended none
end-opened (_ ∷ h) is ended none = end-opened h is ended none

-- what the words of a job give
pub record Tellable (h : List Event) : Type 0 where
  pub owner : is_owner h ≡ true
  pub restarted : is_restarted h ≡ true
  pub ended : is_end_sent h ≡ true
  pub uncut : is_cut h ≡ false

-- a job that is caught up
pub tellable : (h : List Event) → (is_owner h && is_restarted h && is_end_sent h && not (is_cut h)) ≡ true → Tellable h
tellable h is =
    let three = and_parts (is_owner h && is_restarted h && is_end_sent h) (not (is_cut h)) is in
    let two = and_parts (is_owner h && is_restarted h) (is_end_sent h) three.0 in
    let one = and_parts (is_owner h) (is_restarted h) two.0 in
    record { owner = one.0; restarted = one.1; ended = two.1; uncut = no-so (is_cut h) three.1 }

-- has sent messages
pub has-sent : (h : List Event) (n : ℕ) → Tellable h → epoch h ≡ Some n → HasSent h n
has-sent h n can ep = record { owner = can.owner; unbroken = cut-unbroken h can.uncut; some = end-opened h can.uncut can.ended; epoch_is = ep }

-- so what it opened, with the message due, tells its table
pub tells-now : (p : Settings) (h : List Event) (f : ℕ → List Message) (w : ℕ → ℕ) (n : ℕ) → Tellable h → epoch h ≡ Some n → Telling p h → Kept f w h
    → after_message (message_due p h) (tracked_by (f n)) ≡ told_rows p.level (table p h)
tells-now p h f w n can ep telling kept =
    let keeps : Keeps (f n) (w n) h = kept n (has-sent h n can ep) in
    let due : message_due p h ≡ message_of_change p n (sent h) h = ap (λ (o : Option ℕ). message_due_in p o h) ep ∙ ap (due_by p n h) can.ended in
    let all : TellsBy p n h (table p h) true = subst (TellsBy p n h (table p h)) can.ended (subst (TellsIn p n h) can.restarted (telling can.uncut n ep)) in
    ap (λ (o : Option Message). after_message o (tracked_by (f n))) due ∙ ap
    (λ (l : List Message). after_message (message_of_change p n (sent h) h) (tracked_by l))
    (sym keeps.same) ∙ all

-- **what an owner that is caught up has sent tells its terminals, in every run**
pub are_told : (s : Scen) → ItemsNamed s → (t : List Entry) → IsShort s t → OfJobs s t (TellsAll s t)
are_told s names t is x = of_job (TellsAll s t) x (hist s t x) (λ h there.
    where-so (is_owner h && is_restarted h && is_end_sent h && not (is_cut h)) (Tells s t x h (epoch h))
    (λ yes_it. by h there (tellable h yes_it) (epoch h) refl))
  where
    by : (h : List Event) → hist s t x ≡ Some h → Tellable h → (o : Option ℕ) → epoch h ≡ o → Tells s t x h o
    by h there can None ep = tt
    by h there can (Some n) ep =
        tells-now (settings s x) h (messages t) (opener t) n can ep (at-job s (λ y g. Telling (settings s y) g) t x h (are_telling s t is) there)
        (at-job s (λ y g. Kept (messages t) (opener t) g) t x h (are_kept s names t is) there)

-- before End
record Begun (h : List Event) : Type 0 where
  owner : is_owner h ≡ true
  restarted : is_restarted h ≡ true
  no_end : is_end_sent h ≡ false
  some : nat_lt 0 (sent h) ≡ true
  uncut : is_cut h ≡ false

-- a job that has sent Begin, and not End
begun : (h : List Event) → (is_owner h && is_restarted h && not (is_end_sent h) && nat_lt 0 (sent h) && not (is_cut h)) ≡ true → Begun h
begun h is =
    let four = and_parts (is_owner h && is_restarted h && not (is_end_sent h) && nat_lt 0 (sent h)) (not (is_cut h)) is in
    let three = and_parts (is_owner h && is_restarted h && not (is_end_sent h)) (nat_lt 0 (sent h)) four.0 in
    let two = and_parts (is_owner h && is_restarted h) (not (is_end_sent h)) three.0 in
    let one = and_parts (is_owner h) (is_restarted h) two.0 in
    record { owner = one.0; restarted = one.1; no_end = no-so (is_end_sent h) two.1; some = three.1; uncut = no-so (is_cut h) four.1 }

-- has sent something
sent-some : (h : List Event) → is_cut h ≡ false → nat_lt 0 (sent h) ≡ true → opened h ≡ [] → ⊥
sent-some h uncut some none =
    let zero_is : sent h ≡ 0 = sent-opened h (cut-unbroken h uncut) ∙ ap length none in let no_it : nat_lt 0 0 ≡ true = subst
    (λ (q : ℕ). nat_lt 0 q ≡ true) zero_is some in cc

-- **before End it tells the first of them, in every run**
pub first_are_told : (s : Scen) → ItemsNamed s → (t : List Entry) → IsShort s t → OfJobs s t (TellsFirst s t)
first_are_told s names t is x = of_job (TellsFirst s t) x (hist s t x) (λ h there.
    where-so (is_owner h && is_restarted h && not (is_end_sent h) && nat_lt 0 (sent h) && not (is_cut h)) (TellsSome s t x h (epoch h))
    (λ yes_it. by h there (begun h yes_it) (epoch h) refl))
  where
    by : (h : List Event) → hist s t x ≡ Some h → Begun h → (o : Option ℕ) → epoch h ≡ o → TellsSome s t x h o
    by h there can None ep = tt
    by h there can (Some n) ep =
        let telling = at-job s (λ y g. Telling (settings s y) g) t x h (are_telling s t is) there in
        let kept = at-job s (λ y g. Kept (messages t) (opener t) g) t x h (are_kept s names t is) there in
        let keeps = kept n (record { owner = can.owner; unbroken = cut-unbroken h can.uncut; some = sent-some h can.uncut can.some; epoch_is = ep }) in
        let first : TellsBy (settings s x) n h (table (settings s x) h) false =
        subst (TellsBy (settings s x) n h (table (settings s x) h)) can.no_end (subst (TellsIn (settings s x) n h) can.restarted (telling can.uncut n ep)) in
        ap tracked_by (sym keeps.same) ∙ first
