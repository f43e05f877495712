-- What a slot that is drained changes.
use Rattle.std.proofs.Common.{◌≡◌, ℕ, Bool, true, false, ◌&&◌, ◌||◌, not, List, ◌∷◌, refl, ◌∙◌, ap}
use Rattle.xrf_terms.specs.declared.rows.Row.{Row}
use Rattle.xrf_msg.specs.Numbers.{given}
use Rattle.xrf_history.specs.declared.settings.Settings.{Settings}
use Rattle.xrf_history.specs.Events.{Event, MessageRead}
use Rattle.xrf_history.specs.Holding.{number, is_let_through, is_restarted}
use Rattle.xrf_history.specs.Taking.{expected, gives, is_drained, is_draining}
use Rattle.xrf_history.specs.Terminals.{after_message, table}

drained-bools : (t d g : Bool) → (t && not d) ≡ true → (t && not (d || (t && not g))) ≡ g
drained-bools true true g e = absurd (cc)
drained-bools true false true e = refl
drained-bools true false false e = refl
drained-bools false d g e = absurd (cc)

-- it drains on exactly where the slot gives a message
pub draining-read : (h : List Event) (place : ℕ) (slot : List ℕ) → is_draining h ≡ true → is_draining (MessageRead place slot ∷ h) ≡ gives slot h
draining-read h place slot e = drained-bools (is_let_through h) (is_drained h) (gives slot h) e

-- the message that the slot gives is applied to the table
pub table-read : (p : Settings) (h : List Event) (place : ℕ) (slot : List ℕ) (inc next : ℕ) (rows new : List Row) → is_restarted h ≡ false → inc ≡ number h → next ≡ expected h → rows ≡ table p h
    → new ≡ after_message (given slot inc next) rows → new ≡ table p (MessageRead place slot ∷ h)
table-read p h place slot inc next rows new running inc_is next_is rows_are e =
    e ∙ ap (λ (n : ℕ). after_message (given slot n next) rows) inc_is ∙ ap (λ (n : ℕ). after_message (given slot (number h) n) rows) next_is
    ∙ ap (after_message (given slot (number h) (expected h))) rows_are ∙ rw running refl
