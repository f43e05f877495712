-- Small facts on tests and on what comes first.
use Rattle.std.proofs.Common.{Bool, false, true, ◌≡◌, refl, ◌||◌, None, Option, Some, is_some}
use Rattle.xrf_ctl.specs.declared.parts.OwnerState.{OwnerState}
use Rattle.xrf_history.specs.Reserving.{or_else}

-- a test is not both met and not met
pub not-both : (b : Bool) → b ≡ true → b ≡ false → ⊥
not-both b yes_it no_it = cc

-- a disjunction whose left side is met
pub or-left : (a b : Bool) → a ≡ true → (a || b) ≡ true
or-left true b is = refl
or-left false b is = absurd (cc)

-- a disjunction whose right side is met
pub or-right : (a b : Bool) → b ≡ true → (a || b) ≡ true
or-right true b is = refl
or-right false b is = is

-- what comes first is there where the first is
pub or_else-some : (first later : Option OwnerState) → is_some first ≡ true → is_some (or_else first later) ≡ true
or_else-some None later is = absurd (cc)
or_else-some (Some state) later is = refl
