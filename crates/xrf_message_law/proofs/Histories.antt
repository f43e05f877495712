-- An induction over the histories of the jobs of a run, beside the trace.
use Rattle.std.proofs.Common.{List, Some, true, [], ◌∷◌, ◌≡◌, None, Option, refl, subst, sym, arith}
use Rattle.std.specs.Option.{option_map}
use Rattle.xrf_base.specs.declared.site.Site.{Site}
use Rattle.xrf_history.proofs.Histories.{Comes, is_started}
use Rattle.xrf_history.specs.Events.{Event, Ticked}
use Rattle.xrf_trace.specs.declared.entry.Entry.{Entry}
use Rattle.xrf_trace.proofs.Moves.{IsHanded, Confirmed, Gone, Made, Move, Started, Tick}
use Rattle.xrf_trace.proofs.Short.{IsShort}
use Rattle.xrf_trace.specs.Scenario.{Scen, settings, other}
use Rattle.xrf_trace.specs.Jobs.{hist}
use Rattle.xrf_trace.specs.Each.{OfJob}
use Rattle.xrf_trace.proofs.JobSteps.{OfJobs, no-jobs}
use Rattle.xrf_trace.proofs.Sites.{each}
use Rattle.xrf_trace.proofs.MoveLaws.{moves}

-- a fact that each START has, and that each event that comes keeps
pub record Grows (s : Scen) (J : Site → List Event → Type 0) : Type 0 where
  pub starts : (x : Site) (e : Event) → is_started e ≡ true → J x (e ∷ [])
  pub comes : (t : List Entry) → IsShort s t → (x : Site) (h : List Event) (e : Event) → hist s t x ≡ Some h → Comes (settings s x) h e
      → IsHanded s t x h e → J x h → J x (e ∷ h)

-- a tick comes to both jobs
ticked : (s : Scen) (J : Site → List Event → Type 0) → Grows s J → (t : List Entry) → IsShort s t → (x : Site) (job : Option (List Event))
    → hist s t x ≡ job → OfJob job (J x) → OfJob (option_map (λ h. Ticked ∷ h) job) (J x)
ticked s J grows t is x None there before = tt
ticked s J grows t is x (Some h) there before = grows.comes t is x h Ticked there tt tt before

-- each move keeps the fact
moved : (s : Scen) (J : Site → List Event → Type 0) → Grows s J → (t : List Entry) → IsShort s t → (e : Entry) → Move s t e → OfJobs s t J
    → OfJobs s (e ∷ t) J
moved s J grows t is e (Made x h made move) before =
    each (λ y. OfJob (hist s (e ∷ t) y) (J y)) x
    (subst (λ (job : Option (List Event)). OfJob job (J x)) (sym move.after)
    (grows.comes t is x h made move.before move.comes move.handed (subst (λ (job : Option (List Event)). OfJob job (J x)) move.before (before x))))
    (subst (λ (job : Option (List Event)). OfJob job (J (other x))) (sym move.beside) (before (other x)))
moved s J grows t is e (Gone x move) before =
    each (λ y. OfJob (hist s (e ∷ t) y) (J y)) x (subst (λ (job : Option (List Event)). OfJob job (J x)) (sym move.after) tt)
    (subst (λ (job : Option (List Event)). OfJob job (J (other x))) (sym move.beside) (before (other x)))
moved s J grows t is e (Started x made move) before =
    each (λ y. OfJob (hist s (e ∷ t) y) (J y)) x
    (subst (λ (job : Option (List Event)). OfJob job (J x)) (sym move.after) (grows.starts x made move.started))
    (subst (λ (job : Option (List Event)). OfJob job (J (other x))) (sym move.beside) (before (other x)))
moved s J grows t is e (Tick move) before =
    λ y. subst (λ (job : Option (List Event)). OfJob job (J y)) (sym (move.after y)) (ticked s J grows t is y (hist s t y) refl (before y))
moved s J grows t is e (Confirmed n move) before = λ y. subst (λ (job : Option (List Event)). OfJob job (J y)) (sym (move.after y)) (before y)

-- **a fact of the jobs of every run**
pub over_histories : (s : Scen) (J : Site → List Event → Type 0) → Grows s J → (t : List Entry) → IsShort s t → OfJobs s t J
over_histories s J grows [] is = no-jobs s J
over_histories s J grows (e ∷ t) is =
    let before : IsShort s t = record { run = is.run.0; few = omega (arith, is.few) } in
    moved s J grows t before e (moves s t e is.run) (over_histories s J grows t before)
