-- Stops when due, of every run.
use Rattle.std.proofs.Common.{◌≡◌, ◌+◌, Bool, true, false, ◌&&◌, ◌||◌, not, is_some, List, ◌∷◌, length, nat_lt, Option, Some, None, IfSome, refl, ap, ◌∙◌, subst, arith, if◌then◌else◌}
use Rattle.std.proofs.lemmas.Grind.{common_steps}
use Rattle.xrf_base.specs.declared.site.Site.{Site}
use Rattle.xrf_history.specs.declared.settings.Settings.{Settings}
use Rattle.xrf_history.specs.declared.want.Want.{Want}
use Rattle.xrf_history.specs.declared.want.Want.TheVariants as want
use Rattle.xrf_history.specs.Events.{Event}
use Rattle.xrf_history.specs.Holding.{is_owner, is_granted}
use Rattle.xrf_history.specs.Reserving.{leaves, has_abandoned, start_due, through_due}
use Rattle.xrf_history.specs.Next.{next}
use Rattle.xrf_history.proofs.Histories.{IsHistory}
use Rattle.xrf_history.proofs.Phases.{is_work}
use Rattle.xrf_history.proofs.PhaseLaws.{work-phase}
use Rattle.xrf_trace.specs.declared.entry.Entry.{Entry}
use Rattle.xrf_trace.specs.declared.entry.Act.{Act}
use Rattle.xrf_trace.specs.declared.entry.Act.TheVariants as act
use Rattle.xrf_trace.specs.Scenario.{Scen, settings, work}
use Rattle.xrf_trace.specs.Words.{who_at, items_taken}
use Rattle.xrf_trace.specs.Jobs.{hist}
use Rattle.xrf_trace.specs.Acts.{is_act, act_of, next_item}
use Rattle.xrf_trace.specs.Runs.{IsRun}
use Rattle.xrf_trace.specs.Each.{AtSite, Where}
use Rattle.xrf_trace.proofs.Paths.{history-at}
use Rattle.xrf_trace.proofs.AtSites.{at-site, each-of, made-at, where-so}
use Rattle.xrf_trace.specs.StopsWhenDue.{begins, is_due, StopsWhenDue}
use Rattle.xrf_conduct_law.proofs.NothingDue.{starts_work, owner_due, nothing-due}
use Rattle.xrf_conduct_law.proofs.Abandoned.{outside-stays}

-- what is begun so is work
work-begun : (w : Want) → starts_work w ≡ true → is_work w ≡ true
work-begun w begun = grind (arith, common_steps)

-- where nothing is abandoned, what is due is due of an owner or of an alternate
none-due : (owner granted off leaves abandoned starts goes : Bool) → abandoned ≡ false
    → elim owner [ true ↦ off | false ↦ leaves || starts || goes ] ≡ false
    → ((owner && off) || ((granted && not owner) && ((leaves || abandoned) || starts || goes))) ≡ false
none-due owner granted off leaves abandoned starts goes stays none = grind (arith, common_steps)

-- where a round or other work is begun, nothing is due
begins-none : (p : Settings) (h : List Event) (w : Want) → IsHistory p h → next p h ≡ w → starts_work w ≡ true → is_due h ≡ false
begins-none p h w is told begun =
    none-due (is_owner h) (is_granted h) (owner_due h) (is_some (leaves h)) (has_abandoned h) (is_some (start_due h)) (through_due h)
    (outside-stays p h is (work-phase p h is (ap is_work told ∙ work-begun w begun))) (nothing-due p h w told begun)

-- an act that begins nothing where something is due
abbrev Stops : List Event → Act → Type 0
Stops h a = Where (is_due h) (begins a ≡ false)

-- nothing is said where nothing is due
none-stops : (b : Bool) (F : Type 0) → b ≡ false → Where b F
none-stops false F none = tt
none-stops true F none = absurd (cc)

-- an act that begins nothing
plain-stops : (h : List Event) (a : Act) → begins a ≡ false → Stops h a
plain-stops h a plain = where-so (is_due h) (begins a ≡ false) (λ due. plain)

-- an item that is next
item-stops : (s : Scen) (t : List Entry) (x : Site) (h : List Event) → is_due h ≡ false → IfSome (next_item s t x) (Stops h)
item-stops s t x h none = by (nat_lt (items_taken t x) (length (work s x)))
  where
    by : (b : Bool) → IfSome (if b then Some (act.Item (items_taken t x + 1)) else None) (Stops h)
    by true = none-stops (is_due h) (begins (act.Item (items_taken t x + 1)) ≡ false) none
    by false = tt

-- the act that is next
next-stops : (s : Scen) (t : List Entry) (x : Site) (h : List Event) (w : Want) → IsHistory (settings s x) h → next (settings s x) h ≡ w
    → IfSome (act_of s t x h w) (Stops h)
next-stops s t x h want.Nothing is told = tt
next-stops s t x h (want.Exit notice) is told = tt
next-stops s t x h (want.Signal1 signal) is told =
    none-stops (is_due h) (begins (act.Signal1 signal) ≡ false) (begins-none (settings s x) h (want.Signal1 signal) is told refl)
next-stops s t x h (want.MsgRead k) is told =
    none-stops (is_due h) (begins (act.MsgRead k) ≡ false) (begins-none (settings s x) h (want.MsgRead k) is told refl)
next-stops s t x h (want.LogRead b) is told =
    none-stops (is_due h) (begins (act.LogRead b) ≡ false) (begins-none (settings s x) h (want.LogRead b) is told refl)
next-stops s t x h (want.KpRead k) is told =
    none-stops (is_due h) (begins (act.KpRead k) ≡ false) (begins-none (settings s x) h (want.KpRead k) is told refl)
next-stops s t x h want.Restarted is told =
    none-stops (is_due h) (begins act.Restarted ≡ false) (begins-none (settings s x) h want.Restarted is told refl)
next-stops s t x h want.Item is told = item-stops s t x h (begins-none (settings s x) h want.Item is told refl)
next-stops s t x h _ is told = where-so (is_due h) (false ≡ false) (λ due. refl)

-- what is no act of a job begins nothing
inert-begins : (a : Act) → is_act a ≡ false → begins a ≡ false
inert-begins (act.Signal1 signal) inert = absurd (cc)
inert-begins (act.MsgRead k) inert = absurd (cc)
inert-begins (act.LogRead b) inert = absurd (cc)
inert-begins (act.KpRead k) inert = absurd (cc)
inert-begins (act.Item k) inert = absurd (cc)
inert-begins act.Restarted inert = absurd (cc)
inert-begins _ inert = refl

-- each entry of a run
stops-at : (s : Scen) (t : List Entry) (e : Entry) (x : Site) (h : List Event) → IsRun s (e ∷ t) → e.who ≡ who_at x → hist s t x ≡ Some h → Stops h e.act
stops-at s t e x h is who here = by (is_act e.act) refl
  where
    by : (b : Bool) → is_act e.act ≡ b → Stops h e.act
    by false inert = plain-stops h e.act (inert-begins e.act inert)
    by true acts =
        subst (λ (o : Option Act). IfSome o (Stops h)) (made-at s t e x h is acts who here).made
        (next-stops s t x h (next (settings s x) h) (history-at s t x h is.0 here) refl)

-- **stops when due, of every run**
pub stops-when-due : (s : Scen) (t : List Entry) → IsRun s t → StopsWhenDue s t
stops-when-due s t is =
    each-of s (λ t e. AtSite s t e.who (λ x h. Stops h e.act))
    (λ t e is. at-site s t e.who (λ x h. Stops h e.act) (λ x h who here. stops-at s t e x h is who here)) t is
