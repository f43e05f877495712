-- What a line that was read adds to what is said.
use Rattle.std.proofs.Common.{◌≡◌, ◌≤◌, ◌-◌, ℕ, List, [], ◌∷◌, length, get_or, refl, sym, ◌∙◌, ap, arith}
use Rattle.xrf_setup.specs.declared.choice.Choice.{Choice}
use Rattle.xrf_scenario.specs.Taking.{last_tick}

last_planned : (first : ℕ × Choice) (plan : List (ℕ × Choice)) (d : ℕ × Choice) → last_tick (first ∷ plan) ≡ (get_or (first ∷ plan) (length plan) d).0
last_planned first [] d = refl
last_planned first (next ∷ plan) d = last_planned next plan d

-- the last tick is that of the last planned choice
pub last_by_length : (plan : List (ℕ × Choice)) (d : ℕ × Choice) → 1 ≤ length plan → last_tick plan ≡ (get_or plan (length plan - 1) d).0
last_by_length [] d some = absurd (omega arith)
last_by_length (first ∷ plan) d some =
    let place : length (first ∷ plan) - 1 ≡ length plan = omega arith in
    last_planned first plan d ∙ ap (λ (n : ℕ). (get_or (first ∷ plan) n d).0) (sym place)
