-- What the availability manager asks of a control record.
use Rattle.std.specs.Prelude.{ℕ, ◌==◌, ◌&&◌, Bool, true, false, not, Option, Some, None, is_some}
use Rattle.xrf_ctl.specs.declared.parts.OwnerState.{OwnerState}
use Rattle.xrf_ctl.specs.declared.parts.OwnerState.TheVariants.{Running, OffNormal, OffAbend, OffTakeover}
use Rattle.xrf_ctl.specs.declared.parts.Owner.{Owner}
use Rattle.xrf_ctl.specs.declared.parts.Alt.{Alt}
use Rattle.xrf_ctl.specs.Control.{ControlRecord}
use Rattle.xrf_cavm.specs.declared.known.Known.{Known}

-- the incarnation of the owner, and of the alternate: 0, which none has, where none is there
abbrev pub inc_of_owner : Option Owner → ℕ
inc_of_owner None = 0
inc_of_owner (Some o) = o.inc

abbrev pub inc_of_alt : Option Alt → ℕ
inc_of_alt None = 0
inc_of_alt (Some a) = a.inc

-- the owner, or the alternate, is there and is this incarnation
abbrev pub is_owner : ControlRecord → ℕ → Bool
is_owner r n = is_some r.owner && inc_of_owner r.owner == n

abbrev pub is_alt : ControlRecord → ℕ → Bool
is_alt r n = is_some r.alt && inc_of_alt r.alt == n

abbrev pub is_state : OwnerState → OwnerState → Bool
is_state Running Running = true
is_state OffNormal OffNormal = true
is_state OffAbend OffAbend = true
is_state OffTakeover OffTakeover = true
is_state _ _ = false

abbrev pub stands : OwnerState → Option Owner → Bool
stands s None = false
stands s (Some o) = is_state o.state s

-- the owner is there and stands so
abbrev pub owner_is : ControlRecord → OwnerState → Bool
owner_is r s = stands s r.owner

-- the owner, or the alternate, may still be at work: the owner Running, and nobody has confirmed that it ended
abbrev pub owner_may_run : ControlRecord → Known → Bool
owner_may_run r known = owner_is r Running && not known.owner

abbrev pub alt_may_run : ControlRecord → Known → Bool
alt_may_run r known = is_some r.alt && not known.alt
