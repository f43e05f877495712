-- How far a job has come: the acts since its last CTLREAD and its last DECIDE, its sign-off, and what it has seen.
use Rattle.std.specs.Prelude.{ℕ, ◌+◌, Bool, true, false, ◌&&◌, ◌||◌, not, is_some, List, [], ◌∷◌}
use Rattle.xrf_ctl.specs.declared.parts.OwnerState.TheVariants.{Running}
use Rattle.xrf_cavm.specs.Record.{owner_is}
use Rattle.xrf_history.specs.Events.{Event, Ticked, Abended, Replied, Commanded, Exited, Reserved, ControlRead, ControlWritten, Looked1, DecisionMade}
use Rattle.xrf_history.specs.Holding.{is_owner}

-- The acts of the job since its last CTLREAD, and since its last DECIDE; ticks and choices that reach it are no
-- acts of it.
abbrev pub made_since_read : List Event → ℕ
made_since_read [] = 0
made_since_read (ControlRead held known ∷ h) = 0
made_since_read (Ticked ∷ h) = made_since_read h
made_since_read (Abended ∷ h) = made_since_read h
made_since_read (Replied go at ∷ h) = made_since_read h
made_since_read (Commanded command at ∷ h) = made_since_read h
made_since_read (Exited answer at ∷ h) = made_since_read h
made_since_read (_ ∷ h) = made_since_read h + 1

abbrev pub made_since_decision : List Event → ℕ
made_since_decision [] = 0
made_since_decision (DecisionMade known at decision ∷ h) = 0
made_since_decision (Ticked ∷ h) = made_since_decision h
made_since_decision (Abended ∷ h) = made_since_decision h
made_since_decision (Replied go at ∷ h) = made_since_decision h
made_since_decision (Commanded command at ∷ h) = made_since_decision h
made_since_decision (Exited answer at ∷ h) = made_since_decision h
made_since_decision (_ ∷ h) = made_since_decision h + 1

-- it has made a CTLREAD since its last RESERVE, and since its last DECIDE
abbrev pub has_read : List Event → Bool
has_read [] = false
has_read (Reserved ∷ h) = false
has_read (ControlRead held known ∷ h) = true
has_read (_ ∷ h) = has_read h

abbrev pub has_read_since_decision : List Event → Bool
has_read_since_decision [] = false
has_read_since_decision (DecisionMade known at decision ∷ h) = false
has_read_since_decision (ControlRead held known ∷ h) = true
has_read_since_decision (_ ∷ h) = has_read_since_decision h

-- it has signed off: as an owner it made a CTLWRITE whose owner is not Running
abbrev pub has_signed_off : List Event → Bool
has_signed_off [] = false
has_signed_off (ControlWritten written ∷ h) = has_signed_off h || (is_owner h && not (owner_is written Running))
has_signed_off (_ ∷ h) = has_signed_off h

-- an active: an owner that has not signed off, which alone may write the data sets
abbrev pub is_active : List Event → Bool
is_active h = is_owner h && not (has_signed_off h)

-- it read a record with a taking while it is an owner, at a LOOK1 or a CTLREAD
abbrev pub has_seen_taking : List Event → Bool
has_seen_taking [] = false
has_seen_taking (Looked1 held signal ∷ h) = has_seen_taking h || (is_owner h && is_some held.taking)
has_seen_taking (ControlRead held known ∷ h) = has_seen_taking h || (is_owner h && is_some held.taking)
has_seen_taking (_ ∷ h) = has_seen_taking h
