-- The turns of a seed are the generated run, which is safe and keeps the promises.
use Rattle.std.proofs.Common.{◌≡◌, ◌≤◌, ℕ, sym, subst, arith, ap}
use Rattle.xrf_laws.proofs.EveryRun.{of_choices}
use Rattle.xrf_setup.specs.declared.ranges.TheConstants.{CHOICES_MOST}
use Rattle.xrf_trace.specs.Scenario.{Scen}
use Rattle.xrf_world.specs.Runs.{Run}
use Rattle.xrf_drive.specs.Scenario.{generated}
use Rattle.xrf_drive.specs.Drawn.{IsGenerated, first_generator, turns_of}
use Rattle.xrf_drive.specs.Tries.{Drives}
use Rattle.xrf_drive.proofs.UnitLaws.{generated-is}

of_generated : (seed turns : ℕ) (r : Run) → turns ≤ CHOICES_MOST → Drives generated seed turns r → IsGenerated seed turns r.trace
of_generated seed turns r few drives =
    let d = drives.1 in
    let keeps =
    of_choices generated (turns_of generated (first_generator seed) turns).choices (turns_of generated (first_generator seed) turns).trace generated-is d.is_run
    (omega (arith, d.count, few)) in
    subst (IsGenerated seed turns) (sym (ap (λ (a : Run). a.trace) d.is)) (record { is_run = d.is_run; count = d.count; safe = keeps.0; keeps = keeps.1 })

pub generated_run : (seed turns : ℕ) (s : Scen) (r : Run) → s ≡ generated → turns ≤ CHOICES_MOST → Drives s seed turns r → IsGenerated seed turns r.trace
generated_run seed turns s r is few drives = of_generated seed turns r few (subst (λ (a : Scen). Drives a seed turns r) is drives)

-- and the scenario stays
pub same_scenario : (seed turns : ℕ) (s : Scen) (r : Run) → Drives s seed turns r → r.scenario ≡ s
same_scenario seed turns s r drives = ap (λ (a : Run). a.scenario) drives.1.is
