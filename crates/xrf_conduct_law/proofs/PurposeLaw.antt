-- By purpose, of every run.
use Rattle.std.proofs.Common.{◌≡◌, ℕ, ◌+◌, ◌==◌, Bool, true, false, List, ◌∷◌, length, nat_lt, Option, Some, None, IfSome, refl, sym, ◌∙◌, subst, arith, if◌then◌else◌}
use Rattle.std.proofs.lemmas.Grind.{common_steps}
use Rattle.xrf_base.specs.declared.site.Site.{Site}
use Rattle.xrf_history.specs.declared.settings.Settings.{Settings}
use Rattle.xrf_history.specs.declared.want.EndWhy.{EndWhy}
use Rattle.xrf_history.specs.declared.want.EndWhy.TheVariants as end
use Rattle.xrf_history.specs.declared.want.Want.{Want}
use Rattle.xrf_history.specs.declared.want.Want.TheVariants as want
use Rattle.xrf_history.specs.Events.{Event, StartedActive, StartedStandby, Ticked, Abended, Replied, Commanded, Exited, ControlRead}
use Rattle.xrf_history.specs.Holding.{is_granted}
use Rattle.xrf_history.specs.Progress.{made_since_read}
use Rattle.xrf_history.specs.Reserving.{leaves}
use Rattle.xrf_history.specs.Next.{next, record_for, end_for, after_control_read}
use Rattle.xrf_history.proofs.Histories.{IsHistory, Comes, induct}
use Rattle.xrf_history.proofs.Phases.{Phase, HasRead, HasWritten, NextIn, phase, may_release}
use Rattle.xrf_history.proofs.PhaseLaws.{phase-next, next-inside, write-phase, releases-phase, releases-none}
use Rattle.xrf_trace.specs.declared.entry.Entry.{Entry}
use Rattle.xrf_trace.specs.declared.entry.Act.{Act}
use Rattle.xrf_trace.specs.declared.entry.Act.TheVariants as act
use Rattle.xrf_trace.specs.Scenario.{Scen, settings, work}
use Rattle.xrf_trace.specs.Words.{who_at, items_taken}
use Rattle.xrf_trace.specs.Jobs.{hist}
use Rattle.xrf_trace.specs.Acts.{is_act, act_of, next_item}
use Rattle.xrf_trace.specs.Runs.{IsRun}
use Rattle.xrf_trace.specs.Each.{AtSite}
use Rattle.xrf_trace.proofs.Paths.{history-at}
use Rattle.xrf_trace.proofs.AtSites.{at-site, each-of, made-at, where-so}
use Rattle.xrf_trace.specs.ByPurpose.{has_cause, IsByPurpose, ByPurpose}
use Rattle.xrf_conduct_law.proofs.Causes.{reserves-cause}
use Rattle.xrf_conduct_law.proofs.Endings.{Ends, AsSaid, AsDropped, ends-so, never-dropped}

-- who has written has made an act since its CTLREAD
abbrev HasMade : Settings → List Event → Type 0
HasMade p h = phase p h ≡ HasWritten → (made_since_read h == 0) ≡ false

-- a number and one are not 0
one-more : (n : ℕ) → (n + 1 == 0) ≡ false
one-more n = grind (arith, common_steps)

-- each event keeps it
made-step : (p : Settings) (h : List Event) (e : Event) → IsHistory p h → Comes p h e → HasMade p h → HasMade p (e ∷ h)
made-step p h StartedActive is comes made = absurd comes
made-step p h StartedStandby is comes made = absurd comes
made-step p h Ticked is comes made = made
made-step p h Abended is comes made = made
made-step p h (Replied go n) is comes made = made
made-step p h (Commanded command n) is comes made = made
made-step p h (Exited answer n) is comes made = made
made-step p h (ControlRead held known) is comes made = λ at. absurd (cc)
made-step p h _ is comes made = λ at. one-more (made_since_read h)

-- a RELEASE right behind a CTLREAD is made where there is nothing to write
release-by : (p : Settings) (h : List Event) (f : Phase) → IsHistory p h → phase p h ≡ f → may_release f ≡ true → next p h ≡ want.Release
    → (made_since_read h == 0) ≡ true
    → record_for p h ≡ None
release-by p h HasRead is at may comes none =
    releases-none (record_for p h) (sym (next-inside p h (after_control_read p h) (subst (NextIn p h) at (phase-next p h is))) ∙ comes)
release-by p h HasWritten is at may comes none =
    absurd (cc (sym (induct HasMade (λ p. λ at. absurd (cc)) (λ p. λ at. absurd (cc)) made-step p h is at) ∙ none))
release-by p h _ is at may comes none = absurd (cc)

-- the same of a history
release-none : (p : Settings) (h : List Event) → IsHistory p h → next p h ≡ want.Release → (made_since_read h == 0) ≡ true → record_for p h ≡ None
release-none p h is comes none = release-by p h (phase p h) is refl (releases-phase p h is comes) comes none

-- an end as the purpose says
said-by : (p : Settings) (h : List Event) (reason : EndWhy) → IsHistory p h → end_for p h ≡ Some reason → IsByPurpose p h (act.Ended reason)
said-by p h end.Dropped is ends = absurd (never-dropped p h is ends)
said-by p h _ is ends = ends

-- an end
ends-by : (p : Settings) (h : List Event) (reason : EndWhy) → IsHistory p h → next p h ≡ want.Ended reason → IsByPurpose p h (act.Ended reason)
ends-by p h reason is told = by (ends-so p h reason told)
  where
    by : Ends (end_for p h) (leaves h) reason → IsByPurpose p h (act.Ended reason)
    by (AsSaid ends) = said-by p h reason is ends
    by (AsDropped same leaving) = subst (λ (r : EndWhy). IsByPurpose p h (act.Ended r)) (sym same) leaving

-- an item that is next
item-by : (s : Scen) (t : List Entry) (x : Site) (h : List Event) → IfSome (next_item s t x) (IsByPurpose (settings s x) h)
item-by s t x h = by (nat_lt (items_taken t x) (length (work s x)))
  where
    by : (b : Bool) → IfSome (if b then Some (act.Item (items_taken t x + 1)) else None) (IsByPurpose (settings s x) h)
    by true = tt
    by false = tt

-- the act that is next
next-by : (s : Scen) (t : List Entry) (x : Site) (h : List Event) (w : Want) → IsHistory (settings s x) h → next (settings s x) h ≡ w
    → IfSome (act_of s t x h w) (IsByPurpose (settings s x) h)
next-by s t x h want.Nothing is told = tt
next-by s t x h (want.Exit notice) is told = tt
next-by s t x h want.Reserve is told = where-so (is_granted h) (has_cause h ≡ true) (λ granted. reserves-cause (settings s x) h is granted told)
next-by s t x h (want.CtlWrite written) is told = (write-phase (settings s x) h written is told).1
next-by s t x h want.Release is told =
    where-so (made_since_read h == 0) (record_for (settings s x) h ≡ None) (λ none. release-none (settings s x) h is told none)
next-by s t x h (want.Ended reason) is told = ends-by (settings s x) h reason is told
next-by s t x h want.Item is told = item-by s t x h
next-by s t x h _ is told = tt

-- of what is no act of a job nothing is said
inert-by : (p : Settings) (h : List Event) (a : Act) → is_act a ≡ false → IsByPurpose p h a
inert-by p h act.Reserve inert = absurd (cc)
inert-by p h (act.CtlWrite written) inert = absurd (cc)
inert-by p h act.Release inert = absurd (cc)
inert-by p h (act.Ended reason) inert = absurd (cc)
inert-by p h _ inert = tt

-- each entry of a run
purpose-at : (s : Scen) (t : List Entry) (e : Entry) (x : Site) (h : List Event) → IsRun s (e ∷ t) → e.who ≡ who_at x → hist s t x ≡ Some h
    → IsByPurpose (settings s x) h e.act
purpose-at s t e x h is who here = by (is_act e.act) refl
  where
    by : (b : Bool) → is_act e.act ≡ b → IsByPurpose (settings s x) h e.act
    by false inert = inert-by (settings s x) h e.act inert
    by true acts =
        subst (λ (o : Option Act). IfSome o (IsByPurpose (settings s x) h)) (made-at s t e x h is acts who here).made
        (next-by s t x h (next (settings s x) h) (history-at s t x h is.0 here) refl)

-- **by purpose, of every run**
pub by-purpose : (s : Scen) (t : List Entry) → IsRun s t → ByPurpose s t
by-purpose s t is =
    each-of s (λ t e. AtSite s t e.who (λ x h. IsByPurpose (settings s x) h e.act))
    (λ t e is. at-site s t e.who (λ x h. IsByPurpose (settings s x) h e.act) (λ x h who here. purpose-at s t e x h is who here)) t is
