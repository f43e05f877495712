-- What one choice makes of a run, and what a document is as an input.
use Rattle.std.proofs.Common.{◌≡◌, ◌<◌, ◌≤◌, ◌+◌, ℕ, zero, suc, List, [], ◌∷◌, length, drop, slice_index_or, Result, Ok, Err, IfOk, refl, sym, ap, ◌∙◌, subst, arith}
use Rattle.xrf_setup.specs.declared.choice.Choice.{Choice}
use Rattle.xrf_scenario.specs.Canonical.{numbered_from, at_lines, scenario_lines}
use Rattle.xrf_setup.specs.Scenario.{Scen}
use Rattle.xrf_setup.specs.declared.ranges.TheConstants.{CHOICES_MOST}
use Rattle.xrf_trace.specs.Runs.{run, run_from, IsRun, Refusal}
use Rattle.xrf_trace.proofs.RunLaws.{runs_are_runs}
use Rattle.xrf_trace.specs.declared.entry.Entry.{Entry}
use Rattle.xrf_trace.specs.declared.entry.Refused.{Refused}
use Rattle.xrf_trace.specs.Safe.{Safe}
use Rattle.xrf_trace.specs.Promises.{Promises}
use Rattle.xrf_world.specs.Runs.{Run, Made}
use Rattle.xrf_report.specs.Document.{doc, ReadsAgain}
use Rattle.xrf.specs.Made.{IsDocument}
use Rattle.xrf.specs.Refusals.{plain}

-- a list from a place on is the element there, and the list behind it
pub drop-next : {X : Type 0} (xs : List X) (k : ℕ) (x : X) → k < length xs → x ≡ slice_index_or xs k x → drop k xs ≡ x ∷ drop (k + 1) xs
drop-next [] k x inside at = absurd (omega arith)
drop-next (y ∷ ys) zero x inside at = ap (λ z. z ∷ ys) (sym at)
drop-next (y ∷ ys) (suc k) x inside at = let one-more : suc k + 1 ≡ suc (k + 1) = omega arith in rw one-more (drop-next ys k x (omega arith) at)

-- what a choice that is made leaves of the choices to run
pub record IsStep (old new : Run) (choices : List Choice) (place : ℕ) (whole : Result (List Entry) Refusal) : Type 0 where
  pub run : run_from new.scenario new.trace (place + 1) choices ≡ whole
  pub scenario : new.scenario ≡ old.scenario
  pub count : length new.trace ≡ length old.trace + 1

-- the run goes on with the choices behind the one that is made
pub made-on : (old new : Run) (choices : List Choice) (place : ℕ) (whole : Result (List Entry) Refusal) (made : Result Entry Refused) → Made old made (Ok tt) new
    → elim made [ Ok e ↦ run_from old.scenario (e ∷ old.trace) (place + 1) choices | Err reason ↦ Err (record { place = place; reason = reason }) ] ≡ whole
    → IsStep old new choices place whole
made-on old new choices place whole (Ok e) made runs =
    subst (λ (world : Run). IsStep old world choices place whole) (sym made.1) (record { run = runs; scenario = refl; count = omega arith })
made-on old new choices place whole (Err why) made runs = absurd (cc)

-- a run has as many entries as choices
pub few-entries : (s : Scen) (choices : List Choice) (t : List Entry) → run s choices ≡ Ok t → length choices ≤ CHOICES_MOST → length t ≤ CHOICES_MOST
few-entries s choices t ran few =
    let is : IfOk {E = Refusal} (Ok t) (λ t. IsRun s t × (length t ≡ length choices)) =
    subst (λ (result : Result (List Entry) Refusal). IfOk result (λ t. IsRun s t × (length t ≡ length choices))) ran (runs_are_runs s choices) in
    subst (λ (n : ℕ). n ≤ CHOICES_MOST) (sym is.1) few

-- numbering choices leaves them
plain-again : (number : ℕ) (choices : List Choice) → plain (numbered_from number choices) ≡ choices
plain-again number [] = refl
plain-again number (c ∷ cs) = ap (λ (more : List Choice). c ∷ more) (plain-again (number + 1) cs)

-- what is read again as the scenario and the choices that it is written of has the same document
pub document-of-itself : (s : Scen) (choices : List Choice) (t : List Entry) (text : List ℕ) → run s choices ≡ Ok t → Safe s t × Promises s t
    → text ≡ doc s choices → ReadsAgain s choices text → length text < 4194304 → IsDocument text text
document-of-itself s choices t text ran keeps same again short =
    let back : plain (at_lines s choices) ≡ choices = plain-again (length (scenario_lines s) + 2) choices in
    record {
      scenario = s;
      choices = at_lines s choices;
      size = omega arith;
      reads = again;
      trace = t;
      is_run = ap (run s) back ∙ ran;
      safe = keeps.0;
      keeps = keeps.1;
      document = same ∙ ap (doc s) (sym back);
    }
