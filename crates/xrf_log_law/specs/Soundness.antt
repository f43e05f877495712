-- Soundness: whether an act of an owner failed.
use Rattle.std.specs.Prelude.{Bool, List, not, true, ◌&&◌, ◌||◌, [], ◌∷◌}
use Rattle.xrf_history.specs.Events.{Event, ActFailed}
use Rattle.xrf_history.specs.Reserving.{is_on_message}
use Rattle.xrf_history.specs.Holding.{is_owner}

-- none of its acts failed, but of those on messages that it sends
abbrev pub is_sound : List Event → Bool
is_sound [] = true
is_sound (ActFailed tried at ∷ h) = is_sound h && (not (is_owner h) || is_on_message tried)
is_sound (_ ∷ h) = is_sound h
