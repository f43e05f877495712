-- How a fact of a trace is shown by a test: where the test is met the fact holds, and whether it is met is computed.
use Rattle.std.proofs.Common.{◌≡◌, Bool, true, false, ◌&&◌, ◌||◌, not, List, [], ◌∷◌, Option, Some, None, refl, sym}
use Rattle.std.proofs.lemmas.Bool.{and_parts}
use Rattle.xrf_base.specs.declared.site.Site.{Site}
use Rattle.xrf_base.specs.declared.site.Site.TheVariants as site
use Rattle.xrf_base.specs.declared.items.Item.{Item}
use Rattle.xrf_history.specs.Events.{Event}
use Rattle.xrf_trace.specs.declared.entry.Entry.{Entry}
use Rattle.xrf_trace.specs.declared.entry.Who.{Who}
use Rattle.xrf_trace.specs.declared.entry.Who.TheVariants as who
use Rattle.xrf_trace.specs.Scenario.{Scen}
use Rattle.xrf_trace.specs.Jobs.{hist}
use Rattle.xrf_trace.specs.AtHand.{OfItem}
use Rattle.xrf_trace.specs.Each.{Each, After, Where, OfJob, AtSite, EverySite}

-- no test is met and not met
pub clash : {X : Type 0} → true ≡ false → X
clash differs = absurd (cc)

pub not_met : (b : Bool) → not b ≡ true → b ≡ false
not_met true met = clash (sym met)
not_met false met = refl

-- a fact where a test is met
pub where_by : (guard test : Bool) (fact : Type 0) → (test ≡ true → fact) → (not guard || test) ≡ true → Where guard fact
where_by true test fact means met = means met
where_by false test fact means met = tt

-- of each entry, against the trace before it
abbrev pub each_meets : (List Entry → Entry → Bool) → List Entry → Bool
each_meets test [] = true
each_meets test (e ∷ t) = each_meets test t && test t e

pub each_by : (test : List Entry → Entry → Bool) (fact : List Entry → Entry → Type 0) → ((t : List Entry) (e : Entry) → test t e ≡ true → fact t e)
    → (t : List Entry) → each_meets test t ≡ true → Each fact t
each_by test fact means [] met = tt
each_by test fact means (e ∷ t) met =
    let both = and_parts (each_meets test t) (test t e) met in (each_by test fact means t both.0, means t e both.1)

-- of the job that is there
abbrev pub job_meets : Option (List Event) → (List Event → Bool) → Bool
job_meets None test = true
job_meets (Some h) test = test h

pub job_by : (job : Option (List Event)) (test : List Event → Bool) (fact : List Event → Type 0) → ((h : List Event) → test h ≡ true → fact h)
    → job_meets job test ≡ true → OfJob job fact
job_by None test fact means met = tt
job_by (Some h) test fact means met = means h met

-- of the site of each entry, and of the job that is there right before it
abbrev pub site_meets : Scen → List Entry → Who → (Site → List Event → Bool) → Bool
site_meets s t who.A test = job_meets (hist s t site.A) (test site.A)
site_meets s t who.B test = job_meets (hist s t site.B) (test site.B)
site_meets s t who.Env test = true

pub site_by : (s : Scen) (t : List Entry) (w : Who) (test : Site → List Event → Bool) (fact : Site → List Event → Type 0)
    → ((x : Site) (h : List Event) → test x h ≡ true → fact x h) → site_meets s t w test ≡ true → AtSite s t w fact
site_by s t who.A test fact means met = job_by (hist s t site.A) (test site.A) (fact site.A) (means site.A) met
site_by s t who.B test fact means met = job_by (hist s t site.B) (test site.B) (fact site.B) (means site.B) met
site_by s t who.Env test fact means met = tt

abbrev pub each_site_meets : Scen → (List Entry → Entry → Site → List Event → Bool) → List Entry → Bool
each_site_meets s test t = each_meets (λ t e. site_meets s t e.who (test t e)) t

pub each_site_by : (s : Scen) (test : List Entry → Entry → Site → List Event → Bool) (fact : List Entry → Entry → Site → List Event → Type 0)
    → ((t : List Entry) (e : Entry) (x : Site) (h : List Event) → test t e x h ≡ true → fact t e x h)
    → (t : List Entry) → each_site_meets s test t ≡ true → Each (λ t e. AtSite s t e.who (fact t e)) t
each_site_by s test fact means =
    each_by (λ t e. site_meets s t e.who (test t e)) (λ t e. AtSite s t e.who (fact t e)) (λ t e. site_by s t e.who (test t e) (fact t e) (means t e))

-- of the job at each site, after each entry
abbrev jobs_meet : Scen → List Entry → (Site → List Event → Bool) → Bool
jobs_meet s t test = job_meets (hist s t site.A) (test site.A) && job_meets (hist s t site.B) (test site.B)

jobs_by : (s : Scen) (t : List Entry) (test : Site → List Event → Bool) (fact : Site → List Event → Type 0)
    → ((x : Site) (h : List Event) → test x h ≡ true → fact x h) → jobs_meet s t test ≡ true → EverySite s t fact
jobs_by s t test fact means met =
    let both = and_parts (job_meets (hist s t site.A) (test site.A)) (job_meets (hist s t site.B) (test site.B)) met in (
      job_by (hist s t site.A) (test site.A) (fact site.A) (means site.A) both.0,
      job_by (hist s t site.B) (test site.B) (fact site.B) (means site.B) both.1,
    )

abbrev pub jobs_meet_after : Scen → (List Entry → Site → List Event → Bool) → List Entry → Bool
jobs_meet_after s test t = each_meets (λ t e. jobs_meet s (e ∷ t) (test (e ∷ t))) t

pub jobs_after_by : (s : Scen) (test : List Entry → Site → List Event → Bool) (fact : List Entry → Site → List Event → Type 0)
    → ((t : List Entry) (x : Site) (h : List Event) → test t x h ≡ true → fact t x h) → (t : List Entry) → jobs_meet_after s test t ≡ true
    → After (λ t. EverySite s t (fact t)) t
jobs_after_by s test fact means =
    each_by (λ t e. jobs_meet s (e ∷ t) (test (e ∷ t))) (λ t e. EverySite s (e ∷ t) (fact (e ∷ t)))
    (λ t e. jobs_by s (e ∷ t) (test (e ∷ t)) (fact (e ∷ t)) (means (e ∷ t)))

-- of the item that is there
abbrev pub item_meets : Option Item → (Item → Bool) → Bool
item_meets None test = false
item_meets (Some item) test = test item

pub item_by : (item : Option Item) (test : Item → Bool) (fact : Item → Type 0) → ((item : Item) → test item ≡ true → fact item)
    → item_meets item test ≡ true → OfItem item fact
item_by None test fact means met = clash (sym met)
item_by (Some item) test fact means met = means item met
