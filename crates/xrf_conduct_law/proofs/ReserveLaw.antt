-- In every run the reserve is given while nobody holds it, and the record is read and written by its holder alone.
use Rattle.std.proofs.Common.{◌≡◌, Bool, true, false, List, [], ◌∷◌, Option, Some, None, IfSome, refl, sym, ap, ◌∙◌, subst}
use Rattle.xrf_base.specs.declared.site.Site.{Site}
use Rattle.xrf_ctl.specs.Control.{ControlRecord}
use Rattle.xrf_history.specs.declared.settings.Settings.{Settings}
use Rattle.xrf_history.specs.declared.want.EndWhy.{EndWhy}
use Rattle.xrf_history.specs.declared.want.Want.{Want}
use Rattle.xrf_history.specs.declared.want.Want.TheVariants as want
use Rattle.xrf_history.specs.Events.{Event, StartedActive, StartedStandby, Reserved, ControlRead, ControlWritten, Released}
use Rattle.xrf_history.specs.Progress.{has_read}
use Rattle.xrf_history.specs.Next.{inside, next, or_boundary, after_control_read, after_release, record_for, write_next}
use Rattle.xrf_history.proofs.Histories.{IsHistory, Comes, induct}
use Rattle.xrf_history.proofs.Phases.{Phase, Fresh, Outside, Held, HasRead, HasWritten, Over, NextIn, phase, released, has_reserve, may_release, is_work}
use Rattle.xrf_history.proofs.PhaseLaws.{phase-next, next-inside, work-phase, read-phase, write-phase, releases-phase}
use Rattle.xrf_trace.specs.declared.entry.Entry.{Entry}
use Rattle.xrf_trace.specs.declared.entry.Act.{Act}
use Rattle.xrf_trace.specs.declared.entry.Act.TheVariants as act
use Rattle.xrf_trace.specs.declared.entry.Land.{Land}
use Rattle.xrf_trace.specs.declared.entry.Land.TheVariants as land
use Rattle.xrf_trace.specs.Scenario.{Scen, settings}
use Rattle.xrf_trace.specs.Words.{who_at, holds_reserve, reserve_is_free}
use Rattle.xrf_trace.specs.Devices.{control}
use Rattle.xrf_trace.specs.Jobs.{hist}
use Rattle.xrf_trace.specs.Acts.{is_act, act_of}
use Rattle.xrf_trace.specs.Runs.{IsRun}
use Rattle.xrf_trace.specs.Each.{AtSite, Where}
use Rattle.xrf_trace.specs.ReserveIsHeld.{IsUnderReserve, ReserveIsHeld}
use Rattle.xrf_trace.proofs.Steps.{Step, OfTick, OfConfirm, OfStart, OfChoice, OfAct, OfStop, IsStart, Reaches, CanLand, run-step}
use Rattle.xrf_trace.proofs.Paths.{history-at}
use Rattle.xrf_trace.proofs.AtSites.{at-site, each-of, made-at}
use Rattle.xrf_owner_law.proofs.Invariant.{job-at, reserve-at}
use Rattle.xrf_log_law.proofs.JobActs.{of-item}

-- where a RESERVE is made nobody holds the reserve
abbrev IsFreeFor : List Entry → Act → Type 0
IsFreeFor t act.Reserve = reserve_is_free t ≡ true
IsFreeFor t _ = Unit {0}

start-free : (t : List Entry) (a : Act) → IsStart a → IsFreeFor t a
start-free t act.Reserve start = absurd start
start-free t _ start = tt

reach-free : (s : Scen) (t : List Entry) (x : Site) (h : List Event) (a : Act) → Reaches s x h a → IsFreeFor t a
reach-free s t x h act.Reserve reach = absurd reach
reach-free s t x h _ reach = tt

land-free : (t : List Entry) (a : Act) (l : Land) → CanLand t a l → IsFreeFor t a
land-free t act.Reserve land.Full can = can
land-free t act.Reserve land.Lost can = absurd (cc)
land-free t act.Reserve (land.Stop cut) can = absurd (cc (can.0))
land-free t act.Reserve (land.Fail cut) can = absurd (cc (can.0))
land-free t _ l can = tt

free-step : (s : Scen) (t : List Entry) (e : Entry) → Step s t e → IsFreeFor t e.act
free-step s t e (OfTick made) = subst (λ (e : Entry). IsFreeFor t e.act) made tt
free-step s t e (OfConfirm n may made) = subst (λ (e : Entry). IsFreeFor t e.act) made tt
free-step s t e (OfStart x a start none made) = subst (λ (e : Entry). IsFreeFor t e.act) made (start-free t a start)
free-step s t e (OfChoice x h a is reach made) = subst (λ (e : Entry). IsFreeFor t e.act) made (reach-free s t x h a reach)
free-step s t e (OfAct x h a l is next_is can made) = subst (λ (e : Entry). IsFreeFor t e.act) made (land-free t a l can)
free-step s t e (OfStop x h cut is made) = subst (λ (e : Entry). IsFreeFor t e.act) made tt

-- from its CTLREAD to its CTLWRITE a job has read
abbrev HasReadIn : Settings → List Event → Type 0
HasReadIn p h = phase p h ≡ HasRead → has_read h ≡ true

not-read : (o : Option Want) → released o ≡ HasRead → ⊥
not-read None at = absurd (cc)
not-read (Some w) at = absurd (cc)

read-step : (p : Settings) (h : List Event) (e : Event) → IsHistory p h → Comes p h e → HasReadIn p h → HasReadIn p (e ∷ h)
read-step p h StartedActive is comes before = absurd comes
read-step p h StartedStandby is comes before = absurd comes
read-step p h Reserved is comes before = λ at. absurd (cc)
read-step p h (ControlRead held known) is comes before = λ at. refl
read-step p h (ControlWritten written) is comes before = λ at. absurd (cc)
read-step p h Released is comes before = λ at. absurd (not-read (after_release p h) at)
read-step p h _ is comes before = before

has-read : (p : Settings) (h : List Event) → IsHistory p h → HasReadIn p h
has-read p h is = induct HasReadIn (λ p. λ at. absurd (cc)) (λ p. λ at. absurd (cc)) read-step p h is

-- ENDED comes outside the reserve
read-ends : (o : Option ControlRecord) (reason : EndWhy) → write_next o ≡ want.Ended reason → ⊥
read-ends None reason is = absurd (cc)
read-ends (Some written) reason is = absurd (cc)

ends-outside : (p : Settings) (h : List Event) (f : Phase) (reason : EndWhy) → NextIn p h f → next p h ≡ want.Ended reason → has_reserve f ≡ false
ends-outside p h Fresh reason at is = refl
ends-outside p h Outside reason at is = refl
ends-outside p h Held reason at is = absurd (cc (sym (next-inside p h want.CtlRead at) ∙ is))
ends-outside p h HasRead reason at is = absurd (read-ends (record_for p h) reason (sym (next-inside p h (after_control_read p h) at) ∙ is))
ends-outside p h HasWritten reason at is = absurd (cc (sym (next-inside p h want.Release at) ∙ is))
ends-outside p h Over reason at is = refl

-- and RELEASE comes under it
releases-held : (f : Phase) → may_release f ≡ true → has_reserve f ≡ true
releases-held HasRead may = refl
releases-held HasWritten may = refl
releases-held _ may = absurd (cc)

-- the act that is next keeps to the reserve
next-held : (s : Scen) (t : List Entry) (x : Site) (h : List Event) (w : Want) → IsRun s t → hist s t x ≡ Some h → next (settings s x) h ≡ w
    → (w ≡ want.Reserve → reserve_is_free t ≡ true) → IfSome (act_of s t x h w) (IsUnderReserve t x h)
next-held s t x h want.Nothing is here comes free = tt
next-held s t x h (want.Exit told) is here comes free = tt
next-held s t x h want.Reserve is here comes free = free refl
next-held s t x h want.CtlRead is here comes free =
    reserve-at s t x h is here ∙ ap has_reserve (read-phase (settings s x) h (history-at s t x h is here) comes)
next-held s t x h (want.CtlWrite written) is here comes free =
    let past = history-at s t x h is here in
    let at = (write-phase (settings s x) h written past comes).0 in
    (reserve-at s t x h is here ∙ ap has_reserve at, has-read (settings s x) h past at, ((job-at s t x h is here).read at).0)
next-held s t x h want.Release is here comes free =
    reserve-at s t x h is here
    ∙ releases-held (phase (settings s x) h) (releases-phase (settings s x) h (history-at s t x h is here) comes)
next-held s t x h (want.Ended reason) is here comes free =
    let past = history-at s t x h is here in
    reserve-at s t x h is here ∙ ends-outside (settings s x) h (phase (settings s x) h) reason (phase-next (settings s x) h past) comes
next-held s t x h want.Item is here comes free =
    of-item s t x (IsUnderReserve t x h)
    (reserve-at s t x h is here ∙ ap has_reserve (work-phase (settings s x) h (history-at s t x h is here) (ap is_work comes)))
next-held s t x h w is here comes free =
    reserve-at s t x h is here ∙ ap has_reserve (work-phase (settings s x) h (history-at s t x h is here) (ap is_work comes))

-- nothing is said of what is no act
where-not : (b : Bool) (F : Type 0) → b ≡ false → Where b F
where-not true F no_act = absurd (cc)
where-not false F no_act = tt

inert-held : (t : List Entry) (x : Site) (h : List Event) (a : Act) → is_act a ≡ false → IsUnderReserve t x h a
inert-held t x h act.Reserve inert = absurd (cc)
inert-held t x h act.CtlRead inert = absurd (cc)
inert-held t x h (act.CtlWrite written) inert = absurd (cc)
inert-held t x h act.Release inert = absurd (cc)
inert-held t x h a inert = where-not (is_act a) (holds_reserve t x ≡ false) inert

-- a want that is made as an act is free for it
free-for : (s : Scen) (t : List Entry) (x : Site) (h : List Event) (w : Want) (a : Act) → act_of s t x h w ≡ Some a → IsFreeFor t a → w ≡ want.Reserve
    → reserve_is_free t ≡ true
free-for s t x h w a made free is =
    subst (λ (o : Option Act). IfSome o (IsFreeFor t) → reserve_is_free t ≡ true) (ap (act_of s t x h) (sym is) ∙ made) (λ free. free) free

held-at : (s : Scen) (t : List Entry) (e : Entry) (x : Site) (h : List Event) → IsRun s (e ∷ t) → e.who ≡ who_at x → hist s t x ≡ Some h
    → IsUnderReserve t x h e.act
held-at s t e x h is who here = by (is_act e.act) refl
  where
    by : (b : Bool) → is_act e.act ≡ b → IsUnderReserve t x h e.act
    by false inert = inert-held t x h e.act inert
    by true acts =
        let made = (made-at s t e x h is acts who here).made in
        subst (λ (o : Option Act). IfSome o (IsUnderReserve t x h)) made
        (next-held s t x h (next (settings s x) h) is.0 here refl
        (free-for s t x h (next (settings s x) h) e.act made (free-step s t e (run-step s t e is))))

-- **the reserve is held, in every run**
pub reserve-is-held : (s : Scen) (t : List Entry) → IsRun s t → ReserveIsHeld s t
reserve-is-held s t is =
    each-of s (λ t e. AtSite s t e.who (λ x h. IsUnderReserve t x h e.act))
    (λ t e is. at-site s t e.who (λ x h. IsUnderReserve t x h e.act) (λ x h who here. held-at s t e x h is who here)) t is
