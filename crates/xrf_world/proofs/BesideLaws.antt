-- What an entry leaves of the sites that are not its own, and of the pair.
use Rattle.std.proofs.Common.{◌≡◌, ◌+◌, ◌&&◌, not, ◌==◌, ℕ, Bool, true, false, ◌∙◌, sym, ap, subst, refl, arith, if◌then◌else◌, List, ◌∷◌, Option, Result, Ok, Err}
use Rattle.xrf_base.specs.declared.items.ItemAnswer.{ItemAnswer}
use Rattle.xrf_base.specs.declared.site.Site.{Site}
use Rattle.xrf_base.specs.declared.site.Site.TheVariants as site
use Rattle.xrf_setup.specs.declared.choice.Choice.{Choice}
use Rattle.xrf_history.specs.Events.{Event}
use Rattle.xrf_history.specs.Next.{next}
use Rattle.xrf_history.specs.Reserving.{or_else}
use Rattle.xrf_trace.specs.declared.entry.Act.{Act}
use Rattle.xrf_trace.specs.declared.entry.Act.TheVariants as act
use Rattle.xrf_trace.specs.declared.entry.Entry.{Entry}
use Rattle.xrf_trace.specs.declared.entry.Refused.{Refused}
use Rattle.xrf_trace.specs.declared.entry.Who.{Who}
use Rattle.xrf_trace.specs.declared.entry.Who.TheVariants as who
use Rattle.xrf_trace.specs.Acts.{is_act}
use Rattle.xrf_trace.specs.Items.{answer, answer_by}
use Rattle.xrf_trace.specs.Jobs.{hist, after_own, after_other}
use Rattle.xrf_trace.specs.Landing.{is_in_full, is_stop}
use Rattle.xrf_trace.specs.Runs.{IsRun}
use Rattle.xrf_trace.specs.Scenario.{Scen, other, settings}
use Rattle.xrf_trace.specs.Words.{is_of, is_item, items_taken, holds_after, holds_reserve, who_at}
use Rattle.xrf_trace.proofs.JobSteps.{is-own}
use Rattle.xrf_trace.proofs.Steps.{IsStart, Reaches, Step, OfTick, OfConfirm, OfStart, OfChoice, OfAct, OfStop, run-step}
use Rattle.xrf_world.specs.declared.middle.Middle.{Middle}
use Rattle.xrf_world.specs.declared.pair.Pair.{Pair}
use Rattle.xrf_world.specs.declared.place.Kept.{Kept}
use Rattle.xrf_world.specs.declared.place.Place.{Place}
use Rattle.xrf_world.specs.Making.{Makes, MakesAt}
use Rattle.xrf_world.specs.Places.{KeptByNumber, KeptIs, PlaceIs, is_start, taken_before_start}
use Rattle.xrf_world.specs.Seats.{SeatIs}
use Rattle.xrf_world.specs.Standing.{Goes, Stands}

-- WHAT IS KEPT of a site, beside its seat, stays at an entry of another site, and of none.
kept-answers : (xs : List (Option ItemAnswer)) (f g : ℕ → Option ItemAnswer) → ((k : ℕ) → f k ≡ g k) → KeptByNumber xs f → KeptByNumber xs g
kept-answers xs f g same kept = λ k less. kept k less ∙ same (k + 1)

pub beside-kept : (kept : Kept) (s : Scen) (t : List Entry) (e : Entry) (y : Site) → is_of e.who y ≡ false → KeptIs kept s t y → KeptIs kept s (e ∷ t) y
beside-kept kept s t e y away is =
    let taken : items_taken (e ∷ t) y ≡ items_taken t y =
    ap (λ (b : Bool). if b && is_item e.act then items_taken t y + 1 else items_taken t y) away in
    record {
      reserves = is.reserves ∙ sym (ap (λ (b : Bool). if b then not (is_stop e.land) && holds_after e.act (holds_reserve t y) else holds_reserve t y) away);
      items = record {
        taken = is.items.taken ∙ sym taken;
        answers = kept-answers kept.items.answers.items (answer s t y) (answer s (e ∷ t) y)
            (λ k. sym (ap (λ (b : Bool). elim (b && is_in_full e.land && items_taken (e ∷ t) y == k) [
              | true ↦ or_else (answer_by s t y e.act) (answer s t y k)
              | false ↦ answer s t y k
            ]) away)) is.items.answers;
        before_start = is.items.before_start
            ∙ sym (ap (λ (b : Bool). if b && is_start e.act then items_taken t y else taken_before_start t y) away);
        few = omega (arith, taken, is.items.few);
        room = is.items.room;
      };
    }

-- THE JOB of another site stays.
start-other : (a : Act) (job : Option (List Event)) → IsStart a → after_other a job ≡ job
start-other act.StartActive job is = refl
start-other act.StartStandby job is = refl
start-other _ job is = absurd is

reach-other : (s : Scen) (x : Site) (h : List Event) (a : Act) (job : Option (List Event)) → Reaches s x h a → after_other a job ≡ job
reach-other s x h act.Abend job reach = refl
reach-other s x h (act.Reply go) job reach = refl
reach-other s x h (act.Cebt command reply) job reach = refl
reach-other s x h (act.Exit said) job reach = refl
reach-other s x h _ job reach = absurd reach

act-other : (a : Act) (job : Option (List Event)) → is_act a ≡ true → after_other a job ≡ job
act-other act.Tick job own = absurd (cc)
act-other _ job own = refl

env-apart : (x : Site) (w : Who) → w ≡ who.Env → w ≡ who_at x → ⊥
env-apart site.A w none own = absurd (cc)
env-apart site.B w none own = absurd (cc)

other-job : (s : Scen) (t : List Entry) (e : Entry) (x : Site) (job : Option (List Event)) → Step s t e → e.who ≡ who_at x → after_other e.act job ≡ job
other-job s t e x job (OfTick same) own = absurd (env-apart x e.who (sym (ap (λ (one : Entry). one.who) same)) own)
other-job s t e x job (OfConfirm n ok same) own = absurd (env-apart x e.who (sym (ap (λ (one : Entry). one.who) same)) own)
other-job s t e x job (OfStart y a start none same) own = subst (λ (one : Entry). after_other one.act job ≡ job) same (start-other a job start)
other-job s t e x job (OfChoice y h a there reach same) own = subst (λ (one : Entry). after_other one.act job ≡ job) same (reach-other s y h a job reach)
other-job s t e x job (OfAct y h a l there wants can same) own =
    subst (λ (one : Entry). after_other one.act job ≡ job) same (act-other a job (is-own s t y h (next (settings s y) h) a wants))
other-job s t e x job (OfStop y h cut there same) own = subst (λ (one : Entry). after_other one.act job ≡ job) same refl

away-from : (x : Site) → is_of (who_at x) (other x) ≡ false
away-from site.A = refl
away-from site.B = refl

beside-place : (place : Place) (s : Scen) (t : List Entry) (e : Entry) (x : Site) → IsRun s (e ∷ t) → e.who ≡ who_at x → PlaceIs place s t (other x)
    → PlaceIs place s (e ∷ t) (other x)
beside-place place s t e x is own stands =
    let away : is_of e.who (other x) ≡ false = ap (λ (w : Who). is_of w (other x)) own ∙ away-from x in
    let same : hist s (e ∷ t) (other x) ≡ hist s t (other x) =
    ap (λ (b : Bool). elim b [
      | true ↦ after_own s t (other x) e.tick e.act e.land (hist s t (other x))
      | false ↦ after_other e.act (hist s t (other x))
    ]) away
    ∙ other-job s t e x (hist s t (other x)) (run-step s t e is) own in
    record {
      seat = subst (SeatIs place.seat (settings s (other x))) (sym same) stands.seat;
      kept = beside-kept place.kept s t e (other x) away stands.kept;
    }

-- WHAT A CHOICE OF A SITE makes of the pair.
pub of-a : (old : Pair) (t : List Entry) (c : Choice) (r : Result (Unit {0}) Refused) (middle : Middle) (place : Place) → Stands old t → Goes old.middle.scenario t
    → MakesAt old.middle old.a t site.A c r middle place → Makes old t c r (record { middle = middle; a = place; b = old.b })
of-a old t c (Ok done) middle place stands g made =
    let e : Entry = made.0 in
    let is : IsRun old.middle.scenario (e ∷ t) = (g.run, (c, made.1)) in (
      e,
      made.1,
      made.3,
      record {
        middle = made.4.middle;
        a = made.4.place;
        b = subst (λ (s : Scen). PlaceIs old.b s (e ∷ t) site.B) (sym made.3) (beside-place old.b old.middle.scenario t e site.A is made.2 stands.b);
      },
    )
of-a old t c (Err why) middle place stands g made =
    (made.0, ap (λ (m : Middle). record { middle = m; a = place; b = old.b }) made.1 ∙ ap (λ (p : Place). record { middle = old.middle; a = p; b = old.b }) made.2)

pub of-b : (old : Pair) (t : List Entry) (c : Choice) (r : Result (Unit {0}) Refused) (middle : Middle) (place : Place) → Stands old t → Goes old.middle.scenario t
    → MakesAt old.middle old.b t site.B c r middle place → Makes old t c r (record { middle = middle; a = old.a; b = place })
of-b old t c (Ok done) middle place stands g made =
    let e : Entry = made.0 in
    let is : IsRun old.middle.scenario (e ∷ t) = (g.run, (c, made.1)) in (
      e,
      made.1,
      made.3,
      record {
        middle = made.4.middle;
        a = subst (λ (s : Scen). PlaceIs old.a s (e ∷ t) site.A) (sym made.3) (beside-place old.a old.middle.scenario t e site.B is made.2 stands.a);
        b = made.4.place;
      },
    )
of-b old t c (Err why) middle place stands g made =
    (made.0, ap (λ (m : Middle). record { middle = m; a = old.a; b = place }) made.1 ∙ ap (λ (p : Place). record { middle = old.middle; a = old.a; b = p }) made.2)
