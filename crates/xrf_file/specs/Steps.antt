-- What was planned, logged, ended and keyed since a job began, the newest first, and the ledger after it.
use Rattle.std.specs.Prelude.{◌≡◌, ℕ, List, [], ◌∷◌}
use Rattle.xrf_base.specs.declared.items.UnitId.{UnitId}
use Rattle.xrf_base.specs.declared.items.Item.{Item}
use Rattle.xrf_file.specs.Ledger.{Ledger, planned, logged, ended, keyed}

pub data Step : Type 0 where
  Planned : (item : Item) → Step
  Logged : (unit : UnitId) → (rrn : ℕ) → (before : List ℕ) → Step
  Ended : (unit : UnitId) → Step
  Keyed : (start : ℕ) → Step

abbrev pub after_step : Ledger → Step → Ledger
after_step l (Planned item) = planned l item
after_step l (Logged unit rrn before) = logged l unit rrn before
after_step l (Ended unit) = ended l unit
after_step l (Keyed start) = keyed l start

-- the ledger after these steps, from one with no unit on
abbrev pub ledger : Ledger → List Step → Ledger
ledger first [] = first
ledger first (step ∷ steps) = after_step (ledger first steps) step

-- a ledger that is what some steps left is now what they and one more leave
abbrev pub AddsStep : Ledger → Ledger → Step → Type 0
AddsStep old new step = (first : Ledger) (steps : List Step) → old ≡ ledger first steps → new ≡ ledger first (step ∷ steps)
