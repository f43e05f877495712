-- The new records of the other control writes.
use Rattle.std.specs.Prelude.{ℕ, ◌&&◌, not, if◌then◌else◌, Option, Some, None, is_some}
use Rattle.xrf_ctl.specs.declared.parts.OwnerState.{OwnerState}
use Rattle.xrf_ctl.specs.declared.parts.OwnerState.TheVariants.{Running, OffNormal}
use Rattle.xrf_ctl.specs.declared.parts.Cause.{Cause}
use Rattle.xrf_ctl.specs.declared.parts.Level.{Level}
use Rattle.xrf_ctl.specs.declared.parts.Owner.{Owner}
use Rattle.xrf_ctl.specs.declared.parts.Alt.{Alt}
use Rattle.xrf_ctl.specs.Control.{ControlRecord, IsControl, of_parts}
use Rattle.xrf_cavm.specs.declared.known.Known.{Known}
use Rattle.xrf_cavm.specs.declared.writes.Dropping.{Dropping}
use Rattle.xrf_cavm.specs.declared.writes.Dropping.TheVariants.{Write, Gone, Taken}
use Rattle.xrf_cavm.specs.Record.{is_owner, is_alt, owner_is, owner_may_run}
use Rattle.xrf_cavm.specs.Grants.{owner_format}

-- the owner with another state
abbrev pub with_state : OwnerState → Option Owner → Option Owner
with_state s None = None
with_state s (Some o) = Some (record o { state = s })

-- the alternate as a running owner
abbrev pub as_owner : Option Alt → Option Owner
as_owner None = None
as_owner (Some a) = Some (record { inc = a.inc; site = a.site; state = Running })

abbrev pub sign_off : ControlRecord → ℕ → OwnerState → Option ControlRecord
sign_off r me state =
    if is_owner r me then Some (record r { owner = with_state state r.owner }) else None

abbrev pub start_takeover : ControlRecord → ℕ → Cause → Option ControlRecord
start_takeover r me cause =
    if is_alt r me && not (owner_is r OffNormal) then Some (record r { taking = Some (record { inc = me; cause = cause }) }) else None

abbrev pub let_through : ControlRecord → ℕ → Known → Level → Option ControlRecord
let_through r me known level =
    if is_alt r me && is_some r.taking && not (owner_may_run r known) then Some (of_parts (owner_format level r.format) r.last (as_owner r.alt) None None) else None

abbrev pub leave : ControlRecord → ℕ → Option ControlRecord
leave r me =
    if is_alt r me then Some (record r { alt = None; taking = None }) else None

abbrev pub drop_alternate : ControlRecord → ℕ → Dropping
drop_alternate r n =
    if is_some r.taking then Taken
    else (if is_alt r n then Write (record r { alt = None }) else Gone)

-- what is written is a control record
abbrev pub WritesControl : Dropping → Type 0
WritesControl (Write r) = IsControl r
WritesControl _ = Unit {0}
