-- The words that the program is called with.
use Rattle.std.specs.Prelude.{ℕ, Bool, false, List, [], ◌∷◌, codes, nat_eq, String, string_bytes}
use Rattle.std.specs.Global.{Global}
use Rattle.std.specs.Cmp.Lexicographic.{pointwise}
use Rattle.xrf_scenario.specs.Canonical.{fed}

-- exactly the word `replay`
abbrev pub is_replay : List (String Global) → Bool
is_replay [] = false
is_replay (word ∷ []) = pointwise nat_eq (string_bytes word) (codes "replay")
is_replay (word ∷ next ∷ words) = false

-- what is written for other words
abbrev pub usage_line : List ℕ
usage_line = fed (codes "XRF USAGE replay | run | drive SEED N")
