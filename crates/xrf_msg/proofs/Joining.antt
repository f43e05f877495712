-- Lists joined one after another, grouped otherwise.
use Rattle.std.proofs.Common.{◌≡◌, ℕ, List, ◌++◌, append_assoc}

pub regrouped : (front term state user rest : List ℕ) → front ++ (term ++ (state ++ (user ++ rest))) ≡ ((front ++ (term ++ state)) ++ user) ++ rest
regrouped front term state user rest = simp append_assoc
