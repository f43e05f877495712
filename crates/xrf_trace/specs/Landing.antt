-- What of an act landed.
use Rattle.xrf_gated.specs.declared.gated.TheConstants.{OPEN}
use Rattle.std.specs.Prelude.{ℕ, ◌==◌, Bool, true, false, List, [], ◌∷◌, Option, Some, None}
use Rattle.xrf_setup.specs.declared.choice.Landing.{Landing}
use Rattle.xrf_setup.specs.declared.choice.Landing.TheVariants.{Nothing, All, Torn}
use Rattle.xrf_trace.specs.declared.entry.Land.{Land}
use Rattle.xrf_trace.specs.declared.entry.Land.TheVariants.{Full, Lost, Stop, Fail}

-- The act's own bytes for Full and for a stop or a failure with All, the given bytes with Torn, and nothing
-- for Lost and with Nothing.
abbrev pub landed_of : Landing → List ℕ → Option (List ℕ)
landed_of Nothing own = None
landed_of All own = Some own
landed_of (Torn bytes) own = Some bytes

abbrev pub landed : Land → List ℕ → Option (List ℕ)
landed Full own = Some own
landed Lost own = None
landed (Stop landing) own = landed_of landing own
landed (Fail landing) own = landed_of landing own

-- its own bytes landed, as a control record or a signal lands
abbrev pub is_all : Landing → Bool
is_all All = true
is_all _ = false

abbrev pub lands : Land → Bool
lands Full = true
lands Lost = false
lands (Stop landing) = is_all landing
lands (Fail landing) = is_all landing

-- the act was made in full: neither lost, nor stopped, nor failed
abbrev pub is_in_full : Land → Bool
is_in_full Full = true
is_in_full _ = false

-- its region stopped there
abbrev pub is_stop : Land → Bool
is_stop (Stop landing) = true
is_stop _ = false

-- the gate byte that landed is that of an open slot
abbrev pub is_gate : Option (List ℕ) → Bool
is_gate None = false
is_gate (Some []) = false
is_gate (Some (gate ∷ rest)) = gate == OPEN

abbrev pub opens : Land → Bool
opens land = is_gate (landed land (OPEN ∷ []))
