-- Works as due, of every run.
use Rattle.std.proofs.Common.{◌≡◌, ℕ, ◌+◌, ◌%◌, ◌≤◌, Bool, true, false, List, [], ◌∷◌, length, nat_lt, Option, Some, None, IfSome, eqb-true, refl, ap, ◌∙◌, subst, arith, if◌then◌else◌}
use Rattle.xrf_base.specs.declared.site.Site.{Site}
use Rattle.xrf_gated.specs.declared.gated.TheConstants.{OPEN}
use Rattle.xrf_gated.specs.declared.gated.Slot.{Slot}
use Rattle.xrf_gated.specs.Slots.{is_open}
use Rattle.xrf_msg.specs.declared.messages.Message.{Message}
use Rattle.xrf_history.specs.declared.settings.Settings.{Settings}
use Rattle.xrf_history.specs.declared.want.Want.{Want}
use Rattle.xrf_history.specs.declared.want.Want.TheVariants as want
use Rattle.xrf_history.specs.Events.{Event}
use Rattle.xrf_history.specs.Holding.{is_restarted}
use Rattle.xrf_history.specs.Next.{next}
use Rattle.xrf_history.proofs.Histories.{IsHistory}
use Rattle.xrf_history.proofs.Boundary.{IsPlain, calm-plain, idle-plain, Cases, boundary-by}
use Rattle.xrf_history.proofs.Rounds.{at-boundary}
use Rattle.xrf_setup.specs.declared.ranges.TheConstants.{CHOICES_MOST}
use Rattle.xrf_trace.specs.declared.entry.Entry.{Entry}
use Rattle.xrf_trace.specs.declared.entry.Act.{Act}
use Rattle.xrf_trace.specs.declared.entry.Act.TheVariants as act
use Rattle.xrf_trace.specs.Scenario.{Scen, IsScen, settings, work}
use Rattle.xrf_trace.specs.Words.{who_at, items_taken}
use Rattle.xrf_trace.specs.Jobs.{hist}
use Rattle.xrf_trace.specs.Acts.{is_act, act_of, next_item}
use Rattle.xrf_trace.specs.Devices.{message_slot, log_slot, key_slot}
use Rattle.xrf_trace.specs.Runs.{IsRun}
use Rattle.xrf_trace.specs.Each.{AtSite, Each}
use Rattle.xrf_trace.proofs.Paths.{history-at}
use Rattle.xrf_trace.proofs.AtSites.{at-site, each-of, made-at}
use Rattle.xrf_trace.proofs.JobSteps.{at-job}
use Rattle.xrf_trace.proofs.TraceActs.{act-next, tells}
use Rattle.xrf_owner_law.specs.Laws.{OfRuns}
use Rattle.xrf_log_law.specs.Conditions.{MayBeWritten}
use Rattle.xrf_log_law.proofs.LogLaw.{conditions-are-met}
use Rattle.xrf_message_law.specs.MayLand.{MayLand, SlotsMayLand}
use Rattle.xrf_message_law.proofs.MessageLaw.{lands}
use Rattle.xrf_conduct_law.specs.WorksAsDue.{IsAsDue, IsClosedFirst, WorksAsDue}
use Rattle.xrf_conduct_law.proofs.KeypointsDue.{keypoints-due}

-- RESTARTED is made where it was not made before
abbrev Once : List Event → Want → Type 0
Once h want.Restarted = is_restarted h ≡ false
Once h _ = Unit {0}

-- of an act that is plain nothing is said
plain-once : (h : List Event) (w : Want) → IsPlain w → Once h w
plain-once h want.Restarted plain = absurd plain
plain-once h _ plain = tt

-- at a boundary
once-cases : (p : Settings) (h : List Event) → Cases p h (Once h)
once-cases p h = record {
  idle = λ w idle. plain-once h w (idle-plain w idle);
  calm = λ w calm works. plain-once h w (calm-plain w calm);
  signals = λ granted works. tt;
  reads = λ alternate due. tt;
  drains = λ works draining. tt;
  restarts = λ works drained fresh. fresh;
  sends = λ works drained restarted message due may. tt;
  works = λ works drained restarted none. tt;
}

-- **a job makes RESTARTED once**
restarts-once : (p : Settings) (h : List Event) → IsHistory p h → next p h ≡ want.Restarted → is_restarted h ≡ false
restarts-once p h is told = subst (Once h) (at-boundary p h want.Restarted is told refl refl) (boundary-by (Once h) p h (once-cases p h))

-- an item that is next
item-due : (s : Scen) (t : List Entry) (x : Site) (h : List Event) → IfSome (next_item s t x) (IsAsDue (settings s x) h)
item-due s t x h = by (nat_lt (items_taken t x) (length (work s x)))
  where
    by : (b : Bool) → IfSome (if b then Some (act.Item (items_taken t x + 1)) else None) (IsAsDue (settings s x) h)
    by true = tt
    by false = tt

-- the act that is next
next-as-due : (s : Scen) (t : List Entry) (x : Site) (h : List Event) (w : Want) → IsHistory (settings s x) h → next (settings s x) h ≡ w
    → IfSome (act_of s t x h w) (IsAsDue (settings s x) h)
next-as-due s t x h want.Nothing is told = tt
next-as-due s t x h (want.Exit notice) is told = tt
next-as-due s t x h want.Restarted is told = restarts-once (settings s x) h is told
next-as-due s t x h (want.KpRead k) is told = keypoints-due (settings s x) h (want.KpRead k) is told
next-as-due s t x h (want.KpClose k) is told = keypoints-due (settings s x) h (want.KpClose k) is told
next-as-due s t x h (want.KpBody k keypoint) is told = keypoints-due (settings s x) h (want.KpBody k keypoint) is told
next-as-due s t x h (want.KpOpen k keypoint) is told = keypoints-due (settings s x) h (want.KpOpen k keypoint) is told
next-as-due s t x h want.Item is told = item-due s t x h
next-as-due s t x h _ is told = tt

-- of what is no act of a job nothing is said
inert-due : (p : Settings) (h : List Event) (a : Act) → is_act a ≡ false → IsAsDue p h a
inert-due p h act.Restarted inert = absurd (cc)
inert-due p h (act.KpRead k) inert = absurd (cc)
inert-due p h (act.KpClose k) inert = absurd (cc)
inert-due p h (act.KpBody k keypoint) inert = absurd (cc)
inert-due p h (act.KpOpen k keypoint) inert = absurd (cc)
inert-due p h _ inert = tt

-- each entry of a run
due-at : (s : Scen) (t : List Entry) (e : Entry) (x : Site) (h : List Event) → IsRun s (e ∷ t) → e.who ≡ who_at x → hist s t x ≡ Some h
    → IsAsDue (settings s x) h e.act
due-at s t e x h is who here = by (is_act e.act) refl
  where
    by : (b : Bool) → is_act e.act ≡ b → IsAsDue (settings s x) h e.act
    by false inert = inert-due (settings s x) h e.act inert
    by true acts =
        subst (λ (o : Option Act). IfSome o (IsAsDue (settings s x) h)) (made-at s t e x h is acts who here).made
        (next-as-due s t x h (next (settings s x) h) (history-at s t x h is.0 here) refl)

-- a slot whose gate is not that of an open one is closed
closed-slot : (slot : Slot) → (slot.gate ≡ OPEN → ⊥) → is_open slot ≡ false
closed-slot slot apart = by (is_open slot) refl
  where
    by : (b : Bool) → is_open slot ≡ b → b ≡ false
    by false is = refl
    by true is = absurd (apart (eqb-true slot.gate OPEN is))

-- the body of a message is written into a slot that is closed
message-closed : (s : Scen) (t : List Entry) (e : Entry) (k : ℕ) (m : Message) → IsRun s (e ∷ t) → SlotsMayLand s t → e.act ≡ act.MsgBody k m
    → is_open (message_slot t k) ≡ false
message-closed s t e k m is may acts =
    let made = act-next s t e is (ap is_act acts) in
    let x = made.0 in
    let h = made.1 in
    let w = next (settings s x) h in
    let wanted : w ≡ want.MsgBody k m = tells s t x h w (act.MsgBody k m) (made.2.made ∙ ap (λ (a : Act). Some a) acts) in
    let land : MayLand (message_slot t) s.settings.ring w =
    at-job s (λ y g. MayLand (message_slot t) s.settings.ring (next (settings s y) g)) t x h may.may made.2.there in
    closed-slot (message_slot t k) (subst (MayLand (message_slot t) s.settings.ring) wanted land).1

-- so is each body
body-closed : (s : Scen) (t : List Entry) (e : Entry) → IsRun s (e ∷ t) → SlotsMayLand s t → MayBeWritten s t e.act → IsClosedFirst s t e.act
body-closed s t e is may written = by e.act refl written
  where
    by : (a : Act) → e.act ≡ a → MayBeWritten s t a → IsClosedFirst s t a
    by (act.MsgBody k m) acts written = message-closed s t e k m is may acts
    by (act.LogBody p rec) acts written = closed-slot (log_slot s t (p % s.settings.log)) written.0
    by (act.KpBody k keypoint) acts written = closed-slot (key_slot t k) written.1
    by _ acts written = tt

-- of each entry of a run
bodies-closed : (s : Scen) (t : List Entry) → IsScen s → IsRun s t → length t ≤ CHOICES_MOST → Each (λ t e. MayBeWritten s t e.act) t
    → Each (λ t e. IsClosedFirst s t e.act) t
bodies-closed s [] scen is few written = tt
bodies-closed s (e ∷ t) scen is few written =
    let fewer : length t ≤ CHOICES_MOST = omega (arith, few) in
    (bodies-closed s t scen is.0 fewer written.0, body-closed s t e is (lands s t scen is.0 fewer) written.1)

-- **works as due, of every run**
pub works-as-due : OfRuns WorksAsDue
works-as-due s t scen is few = record {
  due = each-of s (λ t e. AtSite s t e.who (λ x h. IsAsDue (settings s x) h e.act))
      (λ t e is. at-site s t e.who (λ x h. IsAsDue (settings s x) h e.act) (λ x h who here. due-at s t e x h is who here)) t is;
  closed = bodies-closed s t scen is few (conditions-are-met s t scen is few).written;
}
