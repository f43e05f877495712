-- What is known of an owner after a failed MSGOPEN: a drop comes, or a sign-off.
use Rattle.std.specs.Prelude.{Bool, Option, Some, false, true, List, is_none, ◌||◌, is_some, ◌≡◌}
use Rattle.xrf_exit.specs.declared.Notice.{Notice}
use Rattle.xrf_exit.specs.declared.Notice.TheVariants.{TakeoverSeen}
use Rattle.xrf_history.specs.Events.{Event}
use Rattle.xrf_history.specs.Notices.{epoch, notice, is_drop}
use Rattle.xrf_history.specs.Reserving.{sign_off_due, drop_due, purpose}
use Rattle.xrf_history.specs.declared.want.Want.{Want}
use Rattle.xrf_history.specs.declared.want.Want.TheVariants as want
use Rattle.xrf_message_law.specs.Listing.{is_unbroken}

-- a notice that a taking is seen
abbrev pub is_seen : Option Notice → Bool
is_seen (Some TakeoverSeen) = true
is_seen _ = false

-- no MSGOPEN of the epoch failed, or there is no epoch
abbrev pub is_level : List Event → Bool
is_level h = is_unbroken h || is_none (epoch h)

-- or a sign-off is due
abbrev pub is_calm : List Event → Bool
is_calm h = is_level h || is_some (sign_off_due h)

-- or a drop is due, or the taking is seen
abbrev pub is_okay : List Event → Bool
is_okay h = is_calm h || (drop_due h || is_seen (notice h))

-- what is known where an act comes next: a MSGREAD, MSGCLOSE, MSGBODY or MSGOPEN only while no MSGOPEN of the epoch
-- failed
abbrev pub UnbrokenAt : List Event → Want → Type 0
UnbrokenAt h want.Nothing = is_okay h ≡ true
UnbrokenAt h (want.Exit told) = is_okay h ≡ true
UnbrokenAt h want.Reserve = is_okay h ≡ true
UnbrokenAt h (want.Clt k) = is_okay h ≡ true
UnbrokenAt h (want.Ended why) = is_okay h ≡ true
UnbrokenAt h want.CtlRead = (is_okay h || is_drop (purpose h)) ≡ true
UnbrokenAt h (want.CtlWrite written) = (is_okay h || is_drop (purpose h)) ≡ true
UnbrokenAt h want.Release = (is_okay h || is_drop (purpose h)) ≡ true
UnbrokenAt h (want.MsgRead k) = is_level h ≡ true
UnbrokenAt h (want.MsgClose k) = is_unbroken h ≡ true
UnbrokenAt h (want.MsgBody k message) = is_unbroken h ≡ true
UnbrokenAt h (want.MsgOpen k message) = is_unbroken h ≡ true
UnbrokenAt h _ = is_calm h ≡ true
