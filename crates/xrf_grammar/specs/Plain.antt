-- Plain lines.
use Rattle.std.specs.Prelude.{◌≡◌, ◌≤◌, ℕ, List, ◌∷◌, length}
use Rattle.std.specs.List.{AllByRecursion}
use Rattle.xrf_setup.specs.Ranges.{IsIn}
use Rattle.xrf_setup.specs.declared.ranges.TheConstants.{LINE_MOST}

-- At most 300 bytes from blank to `~`, of which the first is a capital letter.
pub record IsPlain (line : List ℕ) : Type 0 where
  pub first : ℕ
  pub rest : List ℕ
  pub starts : line ≡ first ∷ rest
  pub letter : IsIn 65 90 first
  pub bytes : AllByRecursion (IsIn 32 126) line
  pub short : length line ≤ LINE_MOST
