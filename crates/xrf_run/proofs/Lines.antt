-- Each choice of a threaded run has a line.
use Rattle.std.proofs.Common.{◌≡◌, ◌≤◌, ◌<◌, ℕ, zero, suc, List, [], ◌∷◌, ◌++◌, length, reverse, slice_get, get_or, Option, Some, None, Result, Ok, IfOk, refl, arith, sym, subst}
use Rattle.std.proofs.lemmas.Grind.{reverse_onto}
use Rattle.std.proofs.lemmas.List.{reverse-reverse}
use Rattle.std.proofs.lemmas.Option.{slice_get_within, get_or_from_slice_get}
use Rattle.std.specs.List.{AllByRecursion}
use Rattle.xrf_exit.specs.declared.ExitAnswer.{ExitAnswer}
use Rattle.xrf_scenario.specs.Canonical.{AreChoices}
use Rattle.xrf_setup.specs.Choices.{HasLine}
use Rattle.xrf_setup.specs.Scenario.{ArePlanned}
use Rattle.xrf_setup.specs.declared.choice.Choice.{Choice}
use Rattle.xrf_setup.specs.declared.ranges.TheConstants.{CHOICES_MOST}
use Rattle.xrf_trace.proofs.RunLaws.{runs_are_runs}
use Rattle.xrf_trace.specs.Runs.{Refusal, IsRun, run}
use Rattle.xrf_trace.specs.Scenario.{Scen}
use Rattle.xrf_trace.specs.Words.{now}
use Rattle.xrf_trace.specs.declared.entry.Entry.{Entry}
use Rattle.xrf_world.specs.Runs.{Run}
use Rattle.xrf_run.specs.Offering.{due_of, AreOffered}
use Rattle.xrf_run.specs.Offering.AreOffered.{none_yet, by_step, by_exit, by_tick, taken, refused}
use Rattle.xrf_run.specs.Turns.{IsLive}
use Rattle.xrf_run.proofs.Runs.{live_run}
use Rattle.xrf_run.proofs.Turns.{line_is}

-- a line of the plan
has_line-or : (plan : List (ℕ × Choice)) (least k : ℕ) (d : ℕ × Choice) → ArePlanned least plan → k < length plan → HasLine (get_or plan k d).1
has_line-or [] least k d are less = absurd (omega (arith, less))
has_line-or (p ∷ ps) least zero d are less = are.2
has_line-or (p ∷ ps) least (suc k) d are less = has_line-or ps p.0 k d are.3 (omega (arith, less))

due-line : (plan : List (ℕ × Choice)) (tick k : ℕ) (c : Choice) → ArePlanned 0 plan → due_of tick (slice_get plan k) ≡ Some c → HasLine c
due-line plan tick k c are is = by (slice_get plan k) refl is
  where
    by : (o : Option (ℕ × Choice)) → slice_get plan k ≡ o → due_of tick o ≡ Some c → HasLine c
    by None got is = absurd (cc)
    by (Some line) got is =
        subst HasLine (line_is tick line c is)
        (subst (λ (x : ℕ × Choice). HasLine x.1) (get_or_from_slice_get plan k line line got) (has_line-or plan 0 k line are (slice_get_within plan k line got)))

offered-lines : (s : Scen) (cs : List Choice) (k : ℕ) → ArePlanned 0 s.plan → AreOffered s cs k → AllByRecursion HasLine cs
offered-lines s cs k plan none_yet = tt
offered-lines s cs k plan (by_step before n x are) = (tt, offered-lines s before n plan are)
offered-lines s cs k plan (by_exit before n x said are) = (tt, offered-lines s before n plan are)
offered-lines s cs k plan (by_tick before n t are ran none) = (tt, offered-lines s before n plan are)
offered-lines s cs k plan (taken before n t c are ran is) = (due-line s.plan (now t) n c plan is, offered-lines s before n plan are)
offered-lines s cs k plan (refused before n t c are ran is off) = offered-lines s before n plan are

-- in the other order
all-both : {X : Type 0} (P : X → Type 0) (xs ys : List X) → AllByRecursion P xs → AllByRecursion P ys → AllByRecursion P (xs ++ ys)
all-both P [] ys all more = more
all-both P (x ∷ xs) ys all more = (all.0, all-both P xs ys all.1 more)

all-reverse : {X : Type 0} (P : X → Type 0) (xs : List X) → AllByRecursion P xs → AllByRecursion P (reverse xs)
all-reverse P [] all = tt
all-reverse P (x ∷ xs) all = subst (AllByRecursion P) (sym (reverse_onto xs x [])) (all-both P (reverse xs) (x ∷ []) (all-reverse P xs all.1) (all.0, tt))

-- a run has as many choices as entries
as-many : (s : Scen) (cs : List Choice) (t : List Entry) → run s cs ≡ Ok t → length t ≡ length cs
as-many s cs t ran =
    let is : IfOk {E = Refusal} (Ok t) (λ t. IsRun s t × (length t ≡ length cs)) =
    subst (λ (result : Result (List Entry) Refusal). IfOk result (λ t. IsRun s t × (length t ≡ length cs))) ran (runs_are_runs s cs) in
    is.1

pub live_choices : (s : Scen) (may : ExitAnswer → Type 0) (world : Run) (cs : List Choice) → IsLive s may world cs → AreChoices cs
live_choices s may world cs is = record {
  each = subst (AllByRecursion HasLine) (reverse-reverse cs) (all-reverse HasLine (reverse cs) (offered-lines s (reverse cs) is.threaded.0 is.scen.plan is.threaded.1.offered));
  few = subst (λ (n : ℕ). n ≤ CHOICES_MOST) (as-many s cs world.trace (live_run s may world cs is)) is.few;
}
