-- One choice more of a run.
use Rattle.std.proofs.Common.{◌≡◌, ℕ, ◌+◌, List, [], ◌∷◌, ◌++◌, reverse, Result, Ok, Err, IfOk, refl, sym, subst}
use Rattle.std.proofs.lemmas.List.{reverse-append, reverse-reverse}
use Rattle.xrf_setup.specs.declared.choice.Choice.{Choice}
use Rattle.xrf_trace.specs.declared.entry.Entry.{Entry}
use Rattle.xrf_trace.specs.declared.entry.Refused.{Refused}
use Rattle.xrf_trace.specs.Runs.{Refusal, outcome, run_from, run}
use Rattle.xrf_trace.specs.Scenario.{Scen}
use Rattle.xrf_trace.specs.Safe.{Safe}
use Rattle.xrf_trace.specs.Promises.{Promises}
use Rattle.xrf_laws.proofs.EveryRun.{of_choices}
use Rattle.xrf_exit.specs.declared.ExitAnswer.{ExitAnswer}
use Rattle.xrf_world.specs.Runs.{Run}
use Rattle.xrf_run.specs.Offering.{IsRunOf}
use Rattle.xrf_run.specs.Turns.{IsLive}

abbrev from_entry : Scen → List Entry → ℕ → List Choice → Result Entry Refused → Result (List Entry) Refusal
from_entry s t place cs r = elim r [ Ok e ↦ run_from s (e ∷ t) (place + 1) cs | Err reason ↦ Err (record { place = place; reason = reason }) ]

-- of no choice, and of one
same_trace : (t u : List Entry) → Path (Result (List Entry) Refusal) (Ok t) (Ok u) → t ≡ u
same_trace t u is = cc

run_one : (s : Scen) (t : List Entry) (e : Entry) (place : ℕ) (r : Result Entry Refused) → r ≡ Ok e → from_entry s t place [] r ≡ Ok (e ∷ t)
run_one s t e place r is = subst (λ x. from_entry s t place [] x ≡ Ok (e ∷ t)) (sym is) refl

run_from-more : (s : Scen) (t u : List Entry) (e : Entry) (place : ℕ) (cs : List Choice) (c : Choice) → run_from s t place cs ≡ Ok u → outcome s u c ≡ Ok e → run_from s t place (cs ++ c ∷ []) ≡ Ok (e ∷ u)
run_from-more s t u e place [] c is next = subst (λ x. run_from s t place (c ∷ []) ≡ Ok (e ∷ x)) (same_trace t u is) (run_one s t e place (outcome s t c) (subst (λ x. outcome s x c ≡ Ok e) (sym (same_trace t u is)) next))
run_from-more s t u e place (d ∷ cs) c is next = by (outcome s t d) (λ o h. run_from-more s (o ∷ t) u e (place + 1) cs c h next) is
  where
    by : (r : Result Entry Refused) → ((o : Entry) → run_from s (o ∷ t) (place + 1) cs ≡ Ok u → run_from s (o ∷ t) (place + 1) (cs ++ c ∷ []) ≡ Ok (e ∷ u)) → from_entry s t place cs r ≡ Ok u → from_entry s t place (cs ++ c ∷ []) r ≡ Ok (e ∷ u)
    by (Ok o) h is = h o is
    by (Err why) h is = absurd (cc)

pub run_more : (s : Scen) (t : List Entry) (e : Entry) (cs : List Choice) (c : Choice) → IsRunOf s cs t → outcome s t c ≡ Ok e → IsRunOf s (c ∷ cs) (e ∷ t)
run_more s t e cs c is next = subst (λ xs. run s xs ≡ Ok (e ∷ t)) (sym (reverse-append (c ∷ []) cs)) (run_from-more s [] t e 0 (reverse cs) c is next)

-- what has come of a run by threads is the run of its choices, and safe
pub live_run : (s : Scen) (may : ExitAnswer → Type 0) (world : Run) (cs : List Choice) → IsLive s may world cs → run s cs ≡ Ok world.trace
live_run s may world cs is = subst (λ xs. run s xs ≡ Ok world.trace) (reverse-reverse cs) is.threaded.1.run

pub live_safe : (s : Scen) (may : ExitAnswer → Type 0) (world : Run) (cs : List Choice) → IsLive s may world cs → Safe s world.trace × Promises s world.trace
live_safe s may world cs is = of_choices s cs world.trace is.scen (live_run s may world cs is) is.few

pub if_ok : {T E : Type 0} → (r : Result T E) (P Q : T → Type 0) → ((x : T) → P x → Q x) → IfOk r P → IfOk r Q
if_ok (Ok x) P Q f p = f x p
if_ok (Err why) P Q f p = tt
