-- Each new record is a control record, where the one before it is.
use Rattle.std.proofs.Common.{ℕ, ◌<◌, arith}
use Rattle.std.proofs.lemmas.Grind.{common_steps}
use Rattle.std.specs.Prelude.{IfSome}
use Rattle.xrf_base.specs.declared.site.Site.{Site}
use Rattle.xrf_ctl.specs.declared.parts.OwnerState.{OwnerState}
use Rattle.xrf_ctl.specs.declared.parts.Cause.{Cause}
use Rattle.xrf_ctl.specs.declared.parts.Level.{Level}
use Rattle.xrf_ctl.specs.Control.{ControlRecord, IsControl}
use Rattle.xrf_cavm.specs.declared.known.Known.{Known}
use Rattle.xrf_cavm.specs.Grants.{grant_active, grant_standby, GivesControl}
use Rattle.xrf_cavm.specs.Writes.{sign_off, start_takeover, let_through, leave, drop_alternate, WritesControl}

pub keeps_active : (r : ControlRecord) (site : Site) (known : Known) (level : Level) → IsControl r → r.last < 4294967295 → GivesControl (grant_active r site known level)
keeps_active r site known level control room = grind (arith, common_steps)

pub keeps_standby : (r : ControlRecord) (site : Site) (known : Known) (level : Level) → IsControl r → r.last < 4294967295 → GivesControl (grant_standby r site known level)
keeps_standby r site known level control room = grind (arith, common_steps)

pub keeps_sign_off : (r : ControlRecord) (me : ℕ) (state : OwnerState) → IsControl r → IfSome (sign_off r me state) IsControl
keeps_sign_off r me state control = grind (arith, common_steps)

pub keeps_start_takeover : (r : ControlRecord) (me : ℕ) (cause : Cause) → IsControl r → IfSome (start_takeover r me cause) IsControl
keeps_start_takeover r me cause control = grind (arith, common_steps)

pub keeps_let_through : (r : ControlRecord) (me : ℕ) (known : Known) (level : Level) → IsControl r → IfSome (let_through r me known level) IsControl
keeps_let_through r me known level control = grind (arith, common_steps)

pub keeps_leave : (r : ControlRecord) (me : ℕ) → IsControl r → IfSome (leave r me) IsControl
keeps_leave r me control = grind (arith, common_steps)

pub keeps_drop : (r : ControlRecord) (n : ℕ) → IsControl r → WritesControl (drop_alternate r n)
keeps_drop r n control = grind (arith, common_steps)
