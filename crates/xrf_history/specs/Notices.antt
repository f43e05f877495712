-- The notices of an owner, and the epoch of the alternate to which it sends messages.
use Rattle.std.specs.Prelude.{ℕ, Bool, true, false, ◌&&◌, is_some, is_none, if◌then◌else◌, List, [], ◌∷◌, Option, Some, None}
use Rattle.xrf_cavm.specs.declared.decisions.Acting.TheVariants as acting
use Rattle.xrf_cavm.specs.declared.decisions.Decided.{Decided}
use Rattle.xrf_cavm.specs.declared.decisions.Decided.TheVariants.{Owner}
use Rattle.xrf_exit.specs.declared.Notice.{Notice}
use Rattle.xrf_exit.specs.declared.Notice.TheVariants.{TakeoverSeen, AlternateLost}
use Rattle.xrf_history.specs.Events.{Event, Exited, Released, DecisionMade}
use Rattle.xrf_history.specs.Reserving.{Purpose, DropAlternate, purpose, record_read}

abbrev pub is_drop : Purpose → Bool
is_drop DropAlternate = true
is_drop _ = false

-- the last RESERVE was made for a drop, and that read a record with a taking, or without one
abbrev pub drop_read_taking : List Event → Bool
drop_read_taking h = is_drop (purpose h) && is_some (record_read h).taking

abbrev pub drop_is_made : List Event → Bool
drop_is_made h = is_drop (purpose h) && is_none (record_read h).taking

-- The notice that is pending. Of DECIDE SEEN, DECIDE LOST, EXIT, and the RELEASE of a drop that read a
-- taking, there is a last one and it is no EXIT.
abbrev pub notice_in : Decided → Option Notice → Option Notice
notice_in (Owner acting.Seen) before = Some TakeoverSeen
notice_in (Owner acting.Lost) before = Some AlternateLost
notice_in _ before = before

abbrev pub notice : List Event → Option Notice
notice [] = None
notice (DecisionMade known at decision ∷ h) = notice_in decision (notice h)
notice (Exited answer at ∷ h) = None
notice (Released ∷ h) = if drop_read_taking h then Some TakeoverSeen else notice h
notice (_ ∷ h) = notice h

-- The epoch: the n of the last DECIDE CATCHUP n that no DECIDE FORGET and no RELEASE of a drop without a
-- taking follows.
abbrev pub epoch_in : Decided → Option ℕ → Option ℕ
epoch_in (Owner (acting.CatchUp n)) before = Some n
epoch_in (Owner acting.Forget) before = None
epoch_in _ before = before

abbrev pub epoch : List Event → Option ℕ
epoch [] = None
epoch (DecisionMade known at decision ∷ h) = epoch_in decision (epoch h)
epoch (Released ∷ h) = if drop_is_made h then None else epoch h
epoch (_ ∷ h) = epoch h

-- the epoch, or 0, which none is
abbrev pub number_or_none : Option ℕ → ℕ
number_or_none None = 0
number_or_none (Some n) = n

abbrev pub epoch_number : List Event → ℕ
epoch_number h = number_or_none (epoch h)
