-- What is said of the site of an entry, and of each entry.
use Rattle.std.proofs.Common.{List, None, Option, Some, refl, ◌≡◌, arith, subst, sym, true, ◌∷◌, ◌∙◌, ap, Bool, false, []}
use Rattle.std.proofs.lemmas.Grind.{common_steps}
use Rattle.xrf_base.specs.declared.site.Site.{Site}
use Rattle.xrf_base.specs.declared.site.Site.TheVariants as site
use Rattle.xrf_cavm.specs.declared.decisions.Decided.{Decided}
use Rattle.xrf_history.specs.Events.{Event}
use Rattle.xrf_history.specs.Deciding.{cause}
use Rattle.xrf_history.specs.Next.{next}
use Rattle.xrf_history.specs.Looking.{record_seen}
use Rattle.xrf_trace.specs.Each.{AtSite, OfJob, Where, Each}
use Rattle.xrf_trace.specs.declared.entry.Entry.{Entry}
use Rattle.xrf_trace.specs.Scenario.{Scen, settings}
use Rattle.xrf_trace.specs.declared.entry.Who.{Who}
use Rattle.xrf_trace.specs.Jobs.{hist, known_of}
use Rattle.xrf_trace.specs.Words.{who_at}
use Rattle.xrf_trace.proofs.TraceActs.{IsMade, act-next, decides-want}
use Rattle.xrf_trace.specs.Runs.{IsRun}
use Rattle.xrf_trace.specs.Acts.{is_act}
use Rattle.xrf_trace.proofs.Sites.{same-site}
use Rattle.xrf_trace.specs.declared.entry.Who.TheVariants as who
use Rattle.xrf_trace.specs.declared.entry.Act.TheVariants as act

-- a fact of the site of an entry and of the job that is there
pub at-site : (s : Scen) (t : List Entry) (w : Who) (fact : Site → List Event → Type 0)
    → ((x : Site) (h : List Event) → w ≡ who_at x → hist s t x ≡ Some h → fact x h)
    → AtSite s t w fact
at-site s t who.A fact holds = by (hist s t site.A) refl
  where
    by : (job : Option (List Event)) → hist s t site.A ≡ job → OfJob job (fact site.A)
    by None there = tt
    by (Some h) there = holds site.A h refl there
at-site s t who.B fact holds = by (hist s t site.B) refl
  where
    by : (job : Option (List Event)) → hist s t site.B ≡ job → OfJob job (fact site.B)
    by None there = tt
    by (Some h) there = holds site.B h refl there
at-site s t who.Env fact holds = tt

-- the same job has the same history
pub same-some : (g h : List Event) → ◌≡◌ {A = Option (List Event)} (Some g) (Some h) → g ≡ h
same-some g h is = grind (arith, common_steps)

-- an act of a run is the next one of the job that is at its site
pub made-at : (s : Scen) (t : List Entry) (e : Entry) (x : Site) (h : List Event) → IsRun s (e ∷ t) → is_act e.act ≡ true → e.who ≡ who_at x
    → hist s t x ≡ Some h
    → IsMade s t e x h
made-at s t e x h is acts there here =
    let made = act-next s t e is acts in
    let site = same-site made.0 x (sym made.2.who ∙ there) in
    let moved : IsMade s t e x made.1 = subst (λ y. IsMade s t e y made.1) site made.2 in
    subst (IsMade s t e x) (same-some made.1 h (sym moved.there ∙ here)) moved

-- the decision of a DECIDE of a run is that of its cause
pub decision-of : (s : Scen) (t : List Entry) (e : Entry) (x : Site) (h : List Event) (d : Decided) → IsRun s (e ∷ t) → e.who ≡ who_at x → hist s t x ≡ Some h
    → e.act ≡ act.Decide d → d ≡ cause (settings s x) h (known_of t (record_seen h)) e.tick
decision-of s t e x h d is who here acts =
    let made = made-at s t e x h is (ap is_act acts) who here in
    (decides-want s t x h (next (settings s x) h) d (made.made ∙ ap (λ a. Some a) acts)).1
    ∙ sym (ap (cause (settings s x) h (known_of t (record_seen h))) made.tick)

-- a fact where a test is met
pub where-so : (b : Bool) (F : Type 0) → (b ≡ true → F) → Where b F
where-so true F holds = holds refl
where-so false F holds = tt

-- a fact of each entry of a run
pub each-of : (s : Scen) (fact : List Entry → Entry → Type 0) → ((t : List Entry) (e : Entry) → IsRun s (e ∷ t) → fact t e) → (t : List Entry)
    → IsRun s t → Each fact t
each-of s fact holds [] is = tt
each-of s fact holds (e ∷ t) is = (each-of s fact holds t is.0, holds t e is)

-- a fact of a job where one is there
pub of-job : (job : Option (List Event)) (fact : List Event → Type 0) → ((h : List Event) → job ≡ Some h → fact h) → OfJob job fact
of-job None fact holds = tt
of-job (Some h) fact holds = holds h refl

-- a fact of the site of an entry where a test is met
pub where-at : (s : Scen) (t : List Entry) (e : Entry) (b : Bool) (F : Site → List Event → Type 0)
    → (b ≡ true → (x : Site) (h : List Event) → e.who ≡ who_at x → hist s t x ≡ Some h → F x h) → Where b (AtSite s t e.who F)
where-at s t e b F holds = where-so b (AtSite s t e.who F) (λ is. at-site s t e.who F (holds is))
