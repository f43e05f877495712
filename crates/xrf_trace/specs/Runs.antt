-- The run of a list of choices.
use Rattle.std.specs.Prelude.{◌≡◌, ℕ, ◌+◌, List, [], ◌∷◌, Option, Some, None, Result, Ok, Err}
use Rattle.xrf_setup.specs.declared.choice.Choice.{Choice}
use Rattle.xrf_trace.specs.declared.entry.Entry.{Entry}
use Rattle.xrf_trace.specs.declared.entry.Refused.{Refused}
use Rattle.xrf_trace.specs.Scenario.{Scen}
use Rattle.xrf_trace.specs.Refusals.{refusal}
use Rattle.xrf_trace.specs.Entries.{entry}

-- the refusal of a choice, or the entry that it adds
abbrev pub outcome_of : Scen → List Entry → Choice → Option Refused → Result Entry Refused
outcome_of s t c (Some reason) = Err reason
outcome_of s t c None = Ok (entry s t c)

abbrev pub outcome : Scen → List Entry → Choice → Result Entry Refused
outcome s t c = outcome_of s t c (refusal s t c)

-- the first choice that is refused, by its place from 0, and the reason
pub record Refusal : Type 0 where
  pub place : ℕ
  pub reason : Refused

-- the run of some choices, in the order in which they are made, from a trace on
abbrev pub run_from : Scen → List Entry → ℕ → List Choice → Result (List Entry) Refusal
run_from s t place [] = Ok t
run_from s t place (c ∷ cs) =
    elim (outcome s t c) [ Ok e ↦ run_from s (e ∷ t) (place + 1) cs | Err reason ↦ Err (record { place = place; reason = reason }) ]

abbrev pub run : Scen → List Choice → Result (List Entry) Refusal
run s cs = run_from s [] 0 cs

-- each entry is one that a choice adds to the trace before it
abbrev pub IsRun : Scen → List Entry → Type 0
IsRun s [] = Unit {0}
IsRun s (e ∷ t) = IsRun s t × ((c : Choice) × (outcome s t c ≡ Ok e))
