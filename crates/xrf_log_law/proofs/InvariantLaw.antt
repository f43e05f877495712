-- The invariant holds of every run, and so what follows from it of each entry.
use Rattle.std.proofs.Common.{List, arith, length, ◌≤◌, ◌∷◌, []}
use Rattle.xrf_trace.specs.declared.entry.Entry.{Entry}
use Rattle.xrf_trace.specs.Each.{AtSite, Each}
use Rattle.xrf_trace.specs.Runs.{IsRun}
use Rattle.xrf_trace.specs.Scenario.{Scen}
use Rattle.xrf_trace.proofs.ByKind.{by_kind}
use Rattle.xrf_trace.proofs.Steps.{Step, run-step}
use Rattle.xrf_owner_law.proofs.KnownLaw.{known, writes-known}
use Rattle.xrf_log_law.specs.Invariant.{Invariant}
use Rattle.xrf_log_law.specs.Ranges.{InRanges}
use Rattle.xrf_log_law.specs.Serving.{SitesServe}
use Rattle.xrf_log_law.proofs.EndsLaw.{EndedBy, ends-here, ends-still}
use Rattle.xrf_log_law.proofs.KeyNumbers.{few-step}
use Rattle.xrf_log_law.proofs.RangeEntries.{first-ranges, range-kinds}
use Rattle.xrf_log_law.proofs.InvariantEntries.{first-holds, kept-kinds}
use Rattle.xrf_log_law.proofs.ServingEntries.{serve-kinds}
use Rattle.xrf_log_law.proofs.InvariantActs.{Kept}
use Rattle.xrf_log_law.proofs.ConditionEntries.{EntryConditions, go-kinds}
use Rattle.xrf_trace.proofs.ScenarioLaws.{IsInRanges}

-- each entry keeps it
kept : (s : Scen) (t : List Entry) (e : Entry) → IsRun s (e ∷ t) → length (e ∷ t) ≤ 8192 → Invariant s t → Step s t e → Invariant s (e ∷ t)
kept s t e is few k step = record {
  scen = k.scen;
  few = few;
  known = known s (e ∷ t) is few;
  writes = writes-known s (e ∷ t) is;
  stands = (by_kind s t e (λ e. Kept s t e) step (kept-kinds s t k)).stands;
  serves = by_kind s t e (λ e. SitesServe s (e ∷ t)) step (serve-kinds s t k);
  ranges = by_kind s t e (λ e. InRanges s (e ∷ t)) step (range-kinds s t k);
  scans = (by_kind s t e (λ e. EntryConditions s t e) step (go-kinds s t k)).scans;
  keys = few-step s t e k step;
}

-- so it holds of every run
pub always : (s : Scen) (t : List Entry) → IsInRanges s → IsRun s t → length t ≤ 8192 → Invariant s t
always s [] scen is few = record {
  scen = scen;
  few = few;
  known = known s [] is few;
  writes = writes-known s [] is;
  stands = first-holds s;
  serves = λ x. tt;
  ranges = first-ranges s;
  scans = λ x. tt;
  keys = λ i. tt;
}
always s (e ∷ t) scen is few = kept s t e is few (always s t scen is.0 (omega (arith, few))) (run-step s t e is)

-- what follows for each entry
pub each-entry : (s : Scen) (fact : List Entry → Entry → Type 0) → ((t : List Entry) (e : Entry) → Invariant s t → Step s t e → fact t e)
    → (t : List Entry) → IsInRanges s → IsRun s t → length t ≤ 8192 → Each fact t
each-entry s fact holds [] scen is few = tt
each-entry s fact holds (e ∷ t) scen is few =
    (each-entry s fact holds t scen is.0 (omega (arith, few)), holds t e (always s t scen is.0 (omega (arith, few))) (run-step s t e is))

-- a fact of each entry, made of another
pub each-part : (fact part : List Entry → Entry → Type 0) (t : List Entry) → ((t : List Entry) (e : Entry) → fact t e → part t e) → Each fact t → Each part t
each-part fact part [] on all = tt
each-part fact part (e ∷ t) on all = (each-part fact part t on all.0, on t e all.1)

-- each end of a unit, as it is in the last log
pub all-ended : (s : Scen) (t : List Entry) → IsInRanges s → IsRun s t → length t ≤ 8192
    → Each (λ before e. AtSite s before e.who (λ x h. EndedBy s t before e x)) t
all-ended s [] scen is few = tt
all-ended s (e ∷ t) scen is few =
    let k = always s t scen is.0 (omega (arith, few)) in
    let step = run-step s t e is in (
      each-part (λ before old. AtSite s before old.who (λ x h. EndedBy s t before old x))
          (λ before old. AtSite s before old.who (λ x h. EndedBy s (e ∷ t) before old x)) t
          (ends-still s t e k step) (all-ended s t scen is.0 (omega (arith, few))),
      ends-here s t e k step,
    )
