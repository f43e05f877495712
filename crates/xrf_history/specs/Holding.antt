-- What a job is: an active or an alternate, its incarnation, and how far it has come.
use Rattle.std.specs.Prelude.{ℕ, Bool, true, false, ◌&&◌, ◌||◌, not, is_some, if◌then◌else◌, List, [], ◌∷◌}
use Rattle.xrf_cavm.specs.Record.{is_owner as names_owner}
use Rattle.xrf_history.specs.Events.{Event, StartedActive, ControlWritten, RestartDeclared}

-- its START was as active
abbrev pub starts_active : List Event → Bool
starts_active [] = false
starts_active (StartedActive ∷ h) = true
starts_active (_ ∷ h) = starts_active h

-- it has made a CTLWRITE; the first is the one by which it is granted
abbrev pub is_granted : List Event → Bool
is_granted [] = false
is_granted (ControlWritten written ∷ h) = true
is_granted (_ ∷ h) = is_granted h

-- the incarnation that it holds: that of its first CTLWRITE, and 0 before it
abbrev pub number : List Event → ℕ
number [] = 0
number (ControlWritten written ∷ h) = if is_granted h then number h else written.last
number (_ ∷ h) = number h

-- it is an owner once a CTLWRITE of its own names its incarnation as owner
abbrev pub is_owner : List Event → Bool
is_owner [] = false
is_owner (ControlWritten written ∷ h) = is_owner h || names_owner written (number (ControlWritten written ∷ h))
is_owner (_ ∷ h) = is_owner h

-- it is an owner that was an alternate, and was let through
abbrev pub is_let_through : List Event → Bool
is_let_through h = is_owner h && not (starts_active h)

-- it is an alternate: it holds an incarnation and is no owner
abbrev pub is_alternate : List Event → Bool
is_alternate h = is_granted h && not (is_owner h)

-- it has made a CTLWRITE with a taking of its own
abbrev pub has_started_takeover : List Event → Bool
has_started_takeover [] = false
has_started_takeover (ControlWritten written ∷ h) = has_started_takeover h || (is_alternate (ControlWritten written ∷ h) && is_some written.taking)
has_started_takeover (_ ∷ h) = has_started_takeover h

-- waiting: an alternate that has made a CTLWRITE with a taking of its own
abbrev pub is_waiting : List Event → Bool
is_waiting h = is_alternate h && has_started_takeover h

-- tracking: an alternate that is not waiting
abbrev pub is_tracking : List Event → Bool
is_tracking h = is_alternate h && not (has_started_takeover h)

-- RESTARTED was made
abbrev pub is_restarted : List Event → Bool
is_restarted [] = false
is_restarted (RestartDeclared ∷ h) = true
is_restarted (_ ∷ h) = is_restarted h
