-- What a job holds: its number.
use Rattle.std.proofs.Common.{List, false, refl, ◌≡◌, [], ◌∷◌, true}
use Rattle.xrf_history.specs.Events.{ControlWritten, Event}
use Rattle.xrf_history.specs.Holding.{is_granted, number, is_owner, has_started_takeover}

-- who holds no number has number 0
pub number-none : (h : List Event) → is_granted h ≡ false → number h ≡ 0
number-none [] is = refl
number-none (ControlWritten w ∷ h) is = absurd (cc)
number-none (_ ∷ h) is = number-none h is

-- an owner holds a number
pub owner-granted : (h : List Event) → is_owner h ≡ true → is_granted h ≡ true
owner-granted [] is = absurd (cc)
owner-granted (ControlWritten w ∷ h) is = refl
owner-granted (_ ∷ h) is = owner-granted h is

-- who started a takeover holds a number
pub started-granted : (h : List Event) → has_started_takeover h ≡ true → is_granted h ≡ true
started-granted [] is = absurd (cc)
started-granted (ControlWritten w ∷ h) is = refl
started-granted (_ ∷ h) is = started-granted h is
