-- The starts of an overseer: what an advice that may be followed tells of the pair.
use Rattle.std.proofs.Common.{Bool, false, true, ℕ, List, [], ◌∷◌, None, Some, ◌≡◌, ap, refl, ◌&&◌, ◌||◌, not, ◌==◌, is_some, is_none, if◌then◌else◌, sym, ◌∙◌, arith, Option, Ok}
use Rattle.std.proofs.lemmas.Grind.{common_steps}
use Rattle.xrf_base.specs.declared.site.Site.{Site}
use Rattle.xrf_base.specs.declared.site.Site.TheVariants as site
use Rattle.xrf_ctl.specs.Control.{ControlRecord}
use Rattle.xrf_ctl.specs.declared.parts.OwnerState.TheVariants.{Running}
use Rattle.xrf_cavm.specs.Grants.{is_at}
use Rattle.xrf_cavm.specs.Record.{owner_is, owner_may_run, alt_may_run, inc_of_owner, inc_of_alt}
use Rattle.xrf_cavm.specs.declared.grants.Grant.TheVariants.{Granted, Present, NoActive, Format}
use Rattle.xrf_history.specs.Events.{Event}
use Rattle.xrf_history.specs.Holding.{is_granted, number}
use Rattle.xrf_setup.specs.declared.choice.Choice.TheVariants as choice
use Rattle.xrf_trace.specs.Devices.{control}
use Rattle.xrf_trace.specs.Each.{EverySite, OfJob, Where}
use Rattle.xrf_trace.specs.Entries.{start_at}
use Rattle.xrf_trace.specs.Jobs.{hist, holds, known_of, live}
use Rattle.xrf_trace.specs.OneOwner.{IsNotConfirmed}
use Rattle.xrf_trace.specs.Refusals.{refusal, unless}
use Rattle.xrf_trace.specs.Runs.{IsRun, outcome, outcome_of}
use Rattle.xrf_trace.specs.Scenario.{Scen}
use Rattle.xrf_trace.specs.Words.{confirmed}
use Rattle.xrf_trace.specs.declared.entry.Act.TheVariants as act
use Rattle.xrf_trace.specs.declared.entry.Entry.{Entry}
use Rattle.xrf_trace.specs.declared.entry.Refused.TheVariants.{NotEnabled}
use Rattle.xrf_owner_law.proofs.KnownLaw.{one-owner}
use Rattle.xrf_overseer.specs.Theorem.{StartsFree, StandsBy, IsDoneWell}
use Rattle.xrf_overseer.specs.Views.{advised, has_job, has_number, active_grant, standby_grant, grants}
use Rattle.xrf_overseer.specs.Watching.{view_of}
use Rattle.xrf_overseer.specs.declared.view.Advice.{Advice}
use Rattle.xrf_overseer.specs.declared.view.Advice.TheVariants.{Leave, StartActive, StartStandby}

not-true : (b : Bool) → not b ≡ true → b ≡ false
not-true true is = absurd (cc)
not-true false is = refl

-- whether a job is at a site, in the view and in the trace
view-job : (s : Scen) (t : List Entry) (x : Site) → has_job (view_of s t) x ≡ is_some (hist s t x)
view-job s t site.A = refl
view-job s t site.B = refl

none-there : (job : Option (List Event)) → is_some job ≡ false → job ≡ None
none-there None is = refl
none-there (Some h) is = absurd (cc)

-- where no job is a START is accepted
active-accepted : (s : Scen) (t : List Entry) (x : Site) → hist s t x ≡ None → refusal s t (choice.StartActive x) ≡ None
active-accepted s t x none = ap (λ (job : Option (List Event)). unless (is_none job) NotEnabled) none

standby-accepted : (s : Scen) (t : List Entry) (x : Site) → hist s t x ≡ None → refusal s t (choice.StartStandby x) ≡ None
standby-accepted s t x none = ap (λ (job : Option (List Event)). unless (is_none job) NotEnabled) none

-- what a grant tells
pub record Grants (foreign owner alt : Bool) : Type 0 where
  pub not_foreign : foreign ≡ false
  pub no_owner : owner ≡ false
  pub no_alt : alt ≡ false

active-grants : (foreign owner alt : Bool) (n m : ℕ) (w : ControlRecord)
    → grants (if foreign then Format else (if owner then Present n else (if alt then Present m else Granted w))) ≡ true → Grants foreign owner alt
active-grants true owner alt n m w is = absurd (cc)
active-grants false true alt n m w is = absurd (cc)
active-grants false false true n m w is = absurd (cc)
active-grants false false false n m w is = record { not_foreign = refl; no_owner = refl; no_alt = refl }

pub record StandbyGrants (foreign runs at alt : Bool) : Type 0 where
  pub not_foreign : foreign ≡ false
  pub is_running : runs ≡ true
  pub elsewhere : at ≡ false
  pub no_alt : alt ≡ false

standby-grants : (foreign runs at alt : Bool) (n m : ℕ) (w : ControlRecord)
    → grants (if foreign then Format else (if not runs then NoActive else (if at then Present n else (if alt then Present m else Granted w)))) ≡ true
    → StandbyGrants foreign runs at alt
standby-grants true runs at alt n m w is = absurd (cc)
standby-grants false false at alt n m w is = absurd (cc)
standby-grants false true true alt n m w is = absurd (cc)
standby-grants false true false true n m w is = absurd (cc)
standby-grants false true false false n m w is = record { not_foreign = refl; is_running = refl; elsewhere = refl; no_alt = refl }

-- NO LIVE JOB holds a number that is confirmed
holds-none : (n : ℕ) (t : List Entry) (job : Option (List Event)) → OfJob job (λ h. IsNotConfirmed t h) → confirmed t n ≡ true → holds n job ≡ false
holds-none n t None alive is = refl
holds-none n t (Some h) alive is = by (is_granted h) (number h == n) refl alive
  where
    by : (granted same : Bool) → (number h == n) ≡ same → Where granted (confirmed t (number h) ≡ false) → (granted && same) ≡ false
    by false same number_is not_yet = refl
    by true false number_is not_yet = refl
    by true true number_is not_yet = let here : number h ≡ n = grind (arith, common_steps) in absurd (cc (sym (ap (confirmed t) here ∙ is) ∙ not_yet))

dead-by : (s : Scen) (t : List Entry) (n : ℕ) → EverySite s t (λ x h. IsNotConfirmed t h) → confirmed t n ≡ true → live s t n ≡ false
dead-by s t n alive is =
    ap (λ (b : Bool). b || holds n (hist s t site.B)) (holds-none n t (hist s t site.A) alive.0 is) ∙ holds-none n t (hist s t site.B) alive.1 is

pub confirmed-dead : (s : Scen) (t : List Entry) (n : ℕ) → IsRun s t → confirmed t n ≡ true → live s t n ≡ false
confirmed-dead s [] n is at = refl
confirmed-dead s (e ∷ t) n is at = dead-by s (e ∷ t) n (one-owner s (e ∷ t) is).alive.1 at

-- a Running owner that may not run is confirmed, and so is an alternate
owner-confirmed : (t : List Entry) (r : ControlRecord) → owner_may_run r (known_of t r) ≡ false → owner_is r Running ≡ true → confirmed t (inc_of_owner r.owner) ≡ true
owner-confirmed t r not_run runs = by (owner_is r Running) (is_some r.owner) (confirmed t (inc_of_owner r.owner)) not_run runs
  where
    by : (running there sure : Bool) → (running && not (there && sure)) ≡ false → running ≡ true → sure ≡ true
    by true true true is run = refl
    by true true false is run = absurd (cc)
    by true false sure is run = absurd (cc)
    by false there sure is run = absurd (cc)

alt-confirmed : (t : List Entry) (r : ControlRecord) → alt_may_run r (known_of t r) ≡ false → is_some r.alt ≡ true → confirmed t (inc_of_alt r.alt) ≡ true
alt-confirmed t r not_run there = by (is_some r.alt) (confirmed t (inc_of_alt r.alt)) not_run there
  where
    by : (there sure : Bool) → (there && not (there && sure)) ≡ false → there ≡ true → sure ≡ true
    by true true is some = refl
    by true false is some = absurd (cc)
    by false sure is some = absurd (cc)

-- AN ADVICE THAT MAY BE FOLLOWED is done well
parts-of : (job number granted : Bool) → (not job && number && granted) ≡ true → (job ≡ false) × (granted ≡ true)
parts-of true number granted is = absurd (cc)
parts-of false true true is = (refl, refl)
parts-of false true false is = absurd (cc)
parts-of false false granted is = absurd (cc)

job-gone : (s : Scen) (t : List Entry) (x : Site) → has_job (view_of s t) x ≡ false → hist s t x ≡ None
job-gone s t x is = none-there (hist s t x) (sym (view-job s t x) ∙ is)

pub starts-free : (s : Scen) (t : List Entry) (x : Site) → IsRun s t → advised (view_of s t) (StartActive x) ≡ true → StartsFree s t x
starts-free s t x is fits =
    let v = view_of s t in
    let parts = parts-of (has_job v x) (has_number v) (grants (active_grant v x)) fits in
    let none = job-gone s t x parts.0 in
    let told = active-grants _ (owner_may_run (control t) (known_of t (control t))) (alt_may_run (control t) (known_of t (control t))) _ _ _ parts.1 in
    record {
      accepted = active-accepted s t x none;
      no_job = none;
      no_owner = told.no_owner;
      no_alternate = told.no_alt;
      owner_dead = λ runs. confirmed-dead s t (inc_of_owner (control t).owner) is (owner-confirmed t (control t) told.no_owner runs);
      alternate_dead = λ there. confirmed-dead s t (inc_of_alt (control t).alt) is (alt-confirmed t (control t) told.no_alt there);
    }

pub stands-by : (s : Scen) (t : List Entry) (x : Site) → IsRun s t → advised (view_of s t) (StartStandby x) ≡ true → StandsBy s t x
stands-by s t x is fits =
    let v = view_of s t in
    let parts = parts-of (has_job v x) (has_number v) (grants (standby_grant v x)) fits in
    let none = job-gone s t x parts.0 in
    let told = standby-grants _ (owner_is (control t) Running) (is_at (control t).owner x) (alt_may_run (control t) (known_of t (control t))) _ _ _ parts.1 in
    record {
      accepted = standby-accepted s t x none;
      no_job = none;
      owner_runs = told.is_running;
      owner_elsewhere = told.elsewhere;
      no_alternate = told.no_alt;
      alternate_dead = λ there. confirmed-dead s t (inc_of_alt (control t).alt) is (alt-confirmed t (control t) told.no_alt there);
    }

pub done-well : (s : Scen) (t : List Entry) (done : Advice) → IsRun s t → advised (view_of s t) done ≡ true → IsDoneWell s t done
done-well s t Leave is fits = tt
done-well s t (StartActive x) is fits = starts-free s t x is fits
done-well s t (StartStandby x) is fits = stands-by s t x is fits

-- the outcome of a START where no job is
pub active-outcome : (s : Scen) (t : List Entry) (x : Site) → hist s t x ≡ None → outcome s t (choice.StartActive x) ≡ Ok (start_at t x act.StartActive)
active-outcome s t x none = ap (outcome_of s t (choice.StartActive x)) (active-accepted s t x none)

pub standby-outcome : (s : Scen) (t : List Entry) (x : Site) → hist s t x ≡ None → outcome s t (choice.StartStandby x) ≡ Ok (start_at t x act.StartStandby)
standby-outcome s t x none = ap (outcome_of s t (choice.StartStandby x)) (standby-accepted s t x none)
