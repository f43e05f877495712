-- What a slot that is read makes of what is to be read.
use Rattle.std.proofs.Common.{◌≡◌, ℕ, Bool, true, false, ◌&&◌, List, refl}
use Rattle.xrf_history.specs.Events.{Event}
use Rattle.xrf_history.specs.Rows.{reading_due}
use Rattle.xrf_history.specs.Taking.{gives}

-- it reads on exactly where the slot gives a message
and-false : (b g : Bool) → g ≡ false → (b && g) ≡ false
and-false true g none = none
and-false false g none = refl

and-true : (b g : Bool) → g ≡ true → (b && g) ≡ b
and-true true g some = some
and-true false g some = refl

pub reads-none : (h : List Event) (slot : List ℕ) → gives slot h ≡ false → (reading_due h && gives slot h) ≡ false
reads-none h slot none = and-false (reading_due h) (gives slot h) none

pub reads-some : (h : List Event) (slot : List ℕ) → gives slot h ≡ true → (reading_due h && gives slot h) ≡ reading_due h
reads-some h slot some = and-true (reading_due h) (gives slot h) some
