-- Tests: small facts on Bools, numbers and choices.
use Rattle.std.proofs.Common.{Bool, false, refl, true, ◌≡◌, arith, ℕ, ◌==◌, subst, sym, None, Option, Some, is_some, if◌then◌else◌, not, ◌&&◌, ◌||◌, List, [], ◌∷◌, nat_le, nat_lt, ◌<◌, ◌≤◌}
use Rattle.std.proofs.lemmas.Grind.{common_steps}
use Rattle.xrf_ctl.specs.declared.parts.OwnerState.{OwnerState}
use Rattle.xrf_history.specs.Reserving.{or_else, is_on_message, sign_off_due}
use Rattle.xrf_history.proofs.Tests.{or_else-some}
use Rattle.xrf_history.specs.Events.{Event, Exited, Given, ActFailed, Abended}
use Rattle.xrf_history.specs.Holding.{is_owner}
use Rattle.xrf_log_law.specs.Soundness.{is_sound}
use Rattle.xrf_trace.specs.Each.{Where}
use Rattle.xrf_exit.specs.declared.ExitAnswer.TheVariants as exit

-- a fact of a choice between two
pub choose : {X : Type 0} (P : X → Type 0) (b : Bool) (x y : X) → (b ≡ true → P x) → (b ≡ false → P y) → P (elim b [ true ↦ x | false ↦ y ])
choose P true x y if_so if_not = if_so refl
choose P false x y if_so if_not = if_not refl

-- the same of an if
pub choose_if : {X : Type 0} (P : X → Type 0) (b : Bool) (x y : X) → (b ≡ true → P x) → (b ≡ false → P y) → P (if b then x else y)
choose_if P true x y if_so if_not = if_so refl
choose_if P false x y if_so if_not = if_not refl

-- tests of numbers
pub less-of-true : (a b : ℕ) → nat_lt a b ≡ true → a < b
less-of-true a b is = grind (arith, common_steps)

-- and of no less
pub most-of-true : (a b : ℕ) → nat_le a b ≡ true → a ≤ b
most-of-true a b is = grind (arith, common_steps)

-- a number is found equal to itself
pub same-true : (k : ℕ) → (k == k) ≡ true
same-true k = grind (arith, common_steps)

-- a choice between two by a number that is itself
pub at_own : {X : Type 0} (P : X → Type 0) (k : ℕ) (x y : X) → P x → P (elim (k == k) [ true ↦ x | false ↦ y ])
at_own P k x y p = subst (λ (b : Bool). P (elim b [ true ↦ x | false ↦ y ])) (sym (same-true k)) p

-- what comes last is there where it is
or_else-last : (a : Option OwnerState) (b : Bool) (state : OwnerState) → b ≡ true → is_some (or_else a (if b then Some state else None)) ≡ true
or_else-last (Some s) b state is = refl
or_else-last None true state is = refl
or_else-last None false state is = absurd (cc)

-- a failure that makes an owner unsound makes its sign-off due
failed-off : (off : Option OwnerState) (sound on_message owner draining : Bool) (state : OwnerState) → (sound ≡ false → is_some off ≡ true)
    → (sound && (not owner || on_message)) ≡ false
    → is_some (or_else off (if (owner && not (owner && on_message && not draining)) then Some state else None)) ≡ true
failed-off off false m o d state before unsound = or_else-some off _ (before refl)
failed-off off true false true d state before unsound = or_else-last off true state refl
failed-off off true true o d state before unsound = absurd (grind (arith, common_steps))
failed-off off true false false d state before unsound = absurd (cc)

-- so an unsound owner has its sign-off due
pub unsound-off : (h : List Event) → is_sound h ≡ false → is_some (sign_off_due h) ≡ true
unsound-off [] unsound = absurd (cc)
unsound-off (Abended ∷ h) unsound = or_else-some (sign_off_due h) _ (unsound-off h unsound)
unsound-off (Exited exit.Abend at ∷ h) unsound = or_else-some (sign_off_due h) _ (unsound-off h unsound)
unsound-off (Exited answer at ∷ h) unsound = unsound-off h unsound
unsound-off (Given item ∷ h) unsound = or_else-some (sign_off_due h) _ (unsound-off h unsound)
unsound-off (ActFailed tried at ∷ h) unsound = failed-off (sign_off_due h) (is_sound h) (is_on_message tried) (is_owner h) _ _ (unsound-off h) unsound
unsound-off (_ ∷ h) unsound = unsound-off h unsound

-- what is none is not there
pub none-not_some : (a : Option OwnerState) → a ≡ None → is_some a ≡ true → ⊥
none-not_some None none some = absurd (cc)
none-not_some (Some state) none some = absurd (cc)

-- an owner with no sign-off due is sound
pub sound-by : (h : List Event) → sign_off_due h ≡ None → is_sound h ≡ true
sound-by h none = by (is_sound h) refl
  where
    by : (b : Bool) → is_sound h ≡ b → b ≡ true
    by true e = refl
    by false e = absurd (none-not_some (sign_off_due h) none (unsound-off h e))

-- of what is never met anything follows
pub false-true : {P : Type 0} → false ≡ true → P
false-true e = absurd (cc)

-- a test is not both met and not met
pub no-clash : {P : Type 0} (b : Bool) → b ≡ true → b ≡ false → P
no-clash true e f = absurd (cc)
no-clash false e f = absurd (cc)

-- a test that can't be met is not
pub false-if : (b : Bool) → (b ≡ true → ⊥) → b ≡ false
false-if true f = absurd (f refl)
false-if false f = refl

-- a test that is not met is met turned round
pub not-of-false : (b : Bool) → b ≡ false → not b ≡ true
not-of-false true e = absurd (cc)
not-of-false false e = refl

-- a test that is met turned round is not met
pub of-not : (b : Bool) → not b ≡ true → b ≡ false
of-not true e = absurd (cc)
of-not false e = refl

-- and one that is not met turned round is
pub of-not-false : (b : Bool) → not b ≡ false → b ≡ true
of-not-false true e = refl
of-not-false false e = absurd (cc)

-- the first of two tests that are met
pub and-left : (a b : Bool) → (a && b) ≡ true → a ≡ true
and-left true b e = refl
and-left false b e = absurd (cc)

-- the second of two tests that are met
pub and-right : (a b : Bool) → (a && b) ≡ true → b ≡ true
and-right true b e = e
and-right false b e = absurd (cc)

-- neither of two tests is met
pub or-none : (a b : Bool) → a ≡ false → b ≡ false → (a || b) ≡ false
or-none true b e f = absurd (cc)
or-none false b e f = f

-- where neither is met each is not
pub or-parts : (a b : Bool) → (a || b) ≡ false → (a ≡ false) × (b ≡ false)
or-parts true b e = absurd (cc)
or-parts false b e = (refl, e)

-- where one of two is met, by cases
pub or-cases : {P : Type 0} (a b : Bool) → (a || b) ≡ true → (a ≡ true → P) → (b ≡ true → P) → P
or-cases true b e f g = f refl
or-cases false b e f g = g e

-- a second test that is not met adds nothing
pub or-of-false : (a b : Bool) → b ≡ false → (a || b) ≡ a
or-of-false true b e = refl
or-of-false false b e = e

-- numbers that are found equal are
pub eq-of-true : (i j : ℕ) → (i == j) ≡ true → i ≡ j
eq-of-true i j e = grind (arith, common_steps)

-- numbers that are not found equal are not
pub eq-of-false : (i j : ℕ) → (i == j) ≡ false → i ≡ j → ⊥
eq-of-false i j e same = grind (arith, common_steps)

-- equal numbers are found so
pub eq-true : (i j : ℕ) → i ≡ j → (i == j) ≡ true
eq-true i j e = grind (arith, common_steps)

-- other numbers are not found equal
pub eq-false : (i j : ℕ) → (i ≡ j → ⊥) → (i == j) ≡ false
eq-false i j differ = by (i == j) refl
  where
    by : (b : Bool) → (i == j) ≡ b → b ≡ false
    by true e = absurd (differ (eq-of-true i j e))
    by false e = refl

-- a fact that holds holds where a test is met
pub where-is : (b : Bool) (P : Type 0) → P → Where b P
where-is true P p = p
where-is false P p = tt

-- nothing is said where a test is not met
pub where-not : (b : Bool) (P : Type 0) → b ≡ false → Where b P
where-not true P e = absurd (cc)
where-not false P e = tt

-- nor where the second of two is not met
pub where-none : (b c : Bool) (fact : Type 0) → c ≡ false → Where (b && c) fact
where-none true true fact none = absurd (cc)
where-none true false fact none = tt
where-none false c fact none = tt

-- a fact that follows from another where a test is met
pub where-later : (b : Bool) (fact later : Type 0) → (fact → later) → Where b fact → Where b later
where-later true fact later on holds = on holds
where-later false fact later on holds = tt
