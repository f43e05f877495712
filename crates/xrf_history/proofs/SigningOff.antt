-- Signing off: what makes a job an owner that writes, and that a sign-off that is due stays due.
use Rattle.std.proofs.Common.{List, Some, is_some, true, ◌≡◌, ℕ, ◌∷◌, None, if◌then◌else◌, arith, [], Bool, false, Option, refl, ◌||◌}
use Rattle.std.proofs.lemmas.Grind.{common_steps}
use Rattle.xrf_base.specs.declared.items.Item.{Item}
use Rattle.xrf_ctl.specs.declared.parts.OwnerState.TheVariants.{OffAbend, Running}
use Rattle.xrf_ctl.specs.declared.parts.OwnerState.{OwnerState}
use Rattle.xrf_exit.specs.declared.ExitAnswer.{ExitAnswer}
use Rattle.xrf_exit.specs.declared.ExitAnswer.TheVariants as exit
use Rattle.xrf_history.specs.Events.{Event, Reserved, Exited, Abended, ActFailed, Given}
use Rattle.xrf_history.proofs.Purposes.{is_sign_off}
use Rattle.xrf_history.specs.Reserving.{purpose_now, sign_off_due, fails_owner, is_on_message, state_by_item, purpose, Purpose, SignOff, or_else}
use Rattle.xrf_history.specs.Holding.{is_owner}
use Rattle.xrf_history.proofs.Tests.{or_else-some}

-- it has reserved for its sign-off
abbrev pub has_reserved_off : List Event → Bool
has_reserved_off [] = false
has_reserved_off (Reserved ∷ h) = has_reserved_off h || is_sign_off (purpose_now h)
has_reserved_off (_ ∷ h) = has_reserved_off h

-- an owner that has not reserved for its sign-off
pub record Stays (h : List Event) : Type 0 where
  pub owner : is_owner h ≡ true
  pub stays : has_reserved_off h ≡ false

-- an EXIT leaves a sign-off due
exit-some : (h : List Event) (answer : ExitAnswer) (at : ℕ) → is_some (sign_off_due h) ≡ true → is_some (sign_off_due (Exited answer at ∷ h)) ≡ true
exit-some h exit.Abend at is = or_else-some (sign_off_due h) (Some OffAbend) is
exit-some h _ at is = is

-- a sign-off that is due stays due
pub due-stays : (h : List Event) (e : Event) → is_some (sign_off_due h) ≡ true → is_some (sign_off_due (e ∷ h)) ≡ true
due-stays h Abended is = or_else-some (sign_off_due h) (Some OffAbend) is
due-stays h (Exited answer at) is = exit-some h answer at is
due-stays h (Given item) is = or_else-some (sign_off_due h) (state_by_item item) is
due-stays h (ActFailed tried at) is = or_else-some (sign_off_due h) (if fails_owner (is_on_message tried) h then Some OffAbend else None) is
due-stays h _ is = is

-- who reserves to sign off has a sign-off due
pub due-now : (h : List Event) → is_sign_off (purpose_now h) ≡ true → is_some (sign_off_due h) ≡ true
due-now h is = grind (arith, common_steps)

-- who has reserved to sign off has a sign-off due
pub purpose-due : (h : List Event) → is_sign_off (purpose h) ≡ true → is_some (sign_off_due h) ≡ true
purpose-due [] is = absurd (cc)
purpose-due (Reserved ∷ h) is = due-now h is
purpose-due (e ∷ h) is = due-stays h e (purpose-due h is)

-- a state other than Running
abbrev pub is_off_state : OwnerState → Bool
is_off_state Running = false
is_off_state _ = true

-- the state of a sign-off that is due is not Running
abbrev IsOff : Option OwnerState → Type 0
IsOff None = Unit {0}
IsOff (Some state) = is_off_state state ≡ true

-- nor that of a purpose
abbrev pub IsOffFor : Purpose → Type 0
IsOffFor (SignOff state) = is_off_state state ≡ true
IsOffFor _ = Unit {0}

-- what comes first is such a state
else-off : (first later : Option OwnerState) → IsOff first → IsOff later → IsOff (or_else first later)
else-off None later is after = after
else-off (Some state) later is after = is

-- that of an item
item-off : (item : Item) → IsOff (state_by_item item)
item-off item = grind (arith, common_steps)

-- that of a failed act
fails-off : (b : Bool) → IsOff (if b then Some OffAbend else None)
fails-off true = refl
fails-off false = tt

-- that after an EXIT
exit-off : (h : List Event) (answer : ExitAnswer) (at : ℕ) → IsOff (sign_off_due h) → IsOff (sign_off_due (Exited answer at ∷ h))
exit-off h exit.Abend at is = else-off (sign_off_due h) (Some OffAbend) is refl
exit-off h _ at is = is

-- that of a sign-off that is due
due-off : (h : List Event) → IsOff (sign_off_due h)
due-off [] = tt
due-off (Abended ∷ h) = else-off (sign_off_due h) (Some OffAbend) (due-off h) refl
due-off (Exited answer at ∷ h) = exit-off h answer at (due-off h)
due-off (Given item ∷ h) = else-off (sign_off_due h) (state_by_item item) (due-off h) (item-off item)
due-off (ActFailed tried at ∷ h) =
    else-off (sign_off_due h) (if fails_owner (is_on_message tried) h then Some OffAbend else None) (due-off h)
    (fails-off (fails_owner (is_on_message tried) h))
due-off (_ ∷ h) = due-off h

-- that of what a RESERVE is made for
off-now : (h : List Event) → IsOff (sign_off_due h) → IsOffFor (purpose_now h)
off-now h is = grind (arith, common_steps)

-- who signs off writes a state that is not Running
pub purpose-off : (h : List Event) → IsOffFor (purpose h)
purpose-off [] = tt
purpose-off (Reserved ∷ h) = off-now h (due-off h)
purpose-off (_ ∷ h) = purpose-off h
