-- What stands in a run's trace is a history.
use Rattle.std.proofs.Common.{IfSome, List, Option, None, Some, ◌∷◌, subst, sym, [], ◌≡◌}
use Rattle.std.specs.Option.{option_map}
use Rattle.xrf_base.specs.declared.site.Site.{Site}
use Rattle.xrf_history.proofs.Histories.{IsHistory, grows}
use Rattle.xrf_history.specs.Events.{Event, Ticked}
use Rattle.xrf_trace.specs.declared.entry.Entry.{Entry}
use Rattle.xrf_trace.specs.Scenario.{Scen, settings, other}
use Rattle.xrf_trace.specs.Jobs.{hist}
use Rattle.xrf_trace.proofs.Moves.{Confirmed, Gone, Made, Move, Started, Tick}
use Rattle.xrf_trace.proofs.Sites.{each}
use Rattle.xrf_trace.specs.Runs.{IsRun}
use Rattle.xrf_trace.proofs.MoveLaws.{moves}

-- the job at each site has a history
abbrev pub ArePaths : Scen → List Entry → Type 0
ArePaths s t = (x : Site) → IfSome (hist s t x) (IsHistory (settings s x))

-- the same of a site
abbrev IsPath : Scen → Site → Option (List Event) → Type 0
IsPath s x job = IfSome job (IsHistory (settings s x))

-- a tick more
ticked-path : (s : Scen) (x : Site) (job : Option (List Event)) → IsPath s x job → IsPath s x (option_map (λ h. Ticked ∷ h) job)
ticked-path s x None is = tt
ticked-path s x (Some h) is = grows (settings s x) h Ticked is tt

-- each move keeps it
move-paths : (s : Scen) (t : List Entry) (e : Entry) → ArePaths s t → Move s t e → ArePaths s (e ∷ t)
move-paths s t e are (Made x h made move) =
    each (λ y. IsPath s y (hist s (e ∷ t) y)) x
    (subst (IsPath s x) (sym move.after) (grows (settings s x) h made (subst (IsPath s x) move.before (are x)) move.comes))
    (subst (IsPath s (other x)) (sym move.beside) (are (other x)))
move-paths s t e are (Gone x move) =
    each (λ y. IsPath s y (hist s (e ∷ t) y)) x (subst (IsPath s x) (sym move.after) tt) (subst (IsPath s (other x)) (sym move.beside) (are (other x)))
move-paths s t e are (Started x made move) =
    each (λ y. IsPath s y (hist s (e ∷ t) y)) x
    (subst (IsPath s x) (sym move.after) move.started)
    (subst (IsPath s (other x)) (sym move.beside) (are (other x)))
move-paths s t e are (Tick move) = λ y. subst (IsPath s y) (sym (move.after y)) (ticked-path s y (hist s t y) (are y))
move-paths s t e are (Confirmed n move) = λ y. subst (IsPath s y) (sym (move.after y)) (are y)

-- what stands in a run's trace is a history
pub paths : (s : Scen) (t : List Entry) → IsRun s t → ArePaths s t
paths s [] is = λ x. tt
paths s (e ∷ t) is = move-paths s t e (paths s t is.0) (moves s t e is)

-- the same of a job that is there
pub history-at : (s : Scen) (t : List Entry) (x : Site) (h : List Event) → IsRun s t → hist s t x ≡ Some h → IsHistory (settings s x) h
history-at s t x h is there = subst (λ (job : Option (List Event)). IfSome job (IsHistory (settings s x))) there (paths s t is x)
