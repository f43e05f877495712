-- Small facts on tests.
use Rattle.std.proofs.Common.{Bool, false, refl, true, ◌≡◌, ◌||◌, not}

-- where neither of two tests is met, the left one is not
pub neither-left : (a b : Bool) → (a || b) ≡ false → a ≡ false
neither-left true b is = absurd (cc)
neither-left false b is = refl

-- nor the right one
pub neither-right : (a b : Bool) → (a || b) ≡ false → b ≡ true → ⊥
neither-right true b is yes_it = cc
neither-right false b is yes_it = cc

-- a test whose opposite is met is not met
pub no-so : (b : Bool) → not b ≡ true → b ≡ false
no-so true is = absurd (cc)
no-so false is = refl

-- a test that can't be met is not met
pub so-not : (b : Bool) → (b ≡ true → ⊥) → b ≡ false
so-not false never = refl
so-not true never = absurd (never refl)
