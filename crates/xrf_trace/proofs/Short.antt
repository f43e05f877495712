-- Runs that are not so long that a number outgrows its 4 bytes, and an induction over them.
use Rattle.std.proofs.Common.{List, arith, [], ◌∷◌, length, ◌^◌, ◌<◌}
use Rattle.xrf_trace.specs.declared.entry.Entry.{Entry}
use Rattle.xrf_trace.specs.Runs.{IsRun}
use Rattle.xrf_trace.specs.Scenario.{Scen}
use Rattle.xrf_trace.proofs.Steps.{Step, outcome-step}

-- a run with fewer than 2 ^ 32 entries
pub record IsShort (s : Scen) (t : List Entry) : Type 0 where
  pub run : IsRun s t
  pub few : length t < 2 ^ 32

-- an induction over them, an entry at a time
pub over_run : (s : Scen) (P : List Entry → Type 0) → P [] → ((t : List Entry) → IsShort s t → P t → (e : Entry) → Step s t e → P (e ∷ t))
    → (t : List Entry) → IsShort s t → P t
over_run s P first step [] is = first
over_run s P first step (e ∷ t) is =
    let before : IsShort s t = record { run = is.run.0; few = omega (arith, is.few) } in
    step t before (over_run s P first step t before) e (outcome-step s t is.run.1.0 e is.run.1.1)
