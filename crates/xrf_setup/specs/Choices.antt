-- Choices within their ranges, and those that are planned.
use Rattle.std.specs.Prelude.{ℕ, Bool, true, false, ◌≤◌, ◌<◌, List, length}
use Rattle.std.specs.List.{AllByRecursion}
use Rattle.xrf_setup.specs.declared.choice.Choice.{Choice}
use Rattle.xrf_setup.specs.declared.choice.Choice.TheVariants as choice
use Rattle.xrf_setup.specs.declared.choice.Landing.TheVariants.{Torn}
use Rattle.xrf_setup.specs.declared.ranges.TheConstants.{NUMBER_MOST, TORN_MOST}

-- 1 to 63 bytes
pub record IsTorn (bytes : List ℕ) : Type 0 where
  pub least : 1 ≤ length bytes
  pub most : length bytes ≤ TORN_MOST
  pub each : AllByRecursion (λ b. b < 256) bytes

-- a choice whose number and torn bytes a line can spell
abbrev pub HasLine : Choice → Type 0
HasLine (choice.Confirm number) = number ≤ NUMBER_MOST
HasLine (choice.Stop site (Torn torn)) = IsTorn torn
HasLine (choice.Fail site (Torn torn)) = IsTorn torn
HasLine _ = Unit {0}

-- a choice that may stand in a plan
abbrev pub is_planned : Choice → Bool
is_planned (choice.StartActive site) = true
is_planned (choice.StartStandby site) = true
is_planned (choice.Stop site landing) = true
is_planned (choice.Abend site) = true
is_planned (choice.Confirm number) = true
is_planned (choice.Reply site go) = true
is_planned (choice.Cebt site command) = true
is_planned _ = false
