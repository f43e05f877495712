-- The grants of sign-on: the first row that applies.
use Rattle.std.specs.Prelude.{ℕ, ◌+◌, ◌==◌, Bool, true, false, not, if◌then◌else◌, Option, Some, None}
use Rattle.xrf_base.specs.declared.site.Site.{Site}
use Rattle.xrf_base.specs.declared.site.Site.TheVariants.{A, B}
use Rattle.xrf_ctl.specs.declared.parts.OwnerState.TheVariants.{Running}
use Rattle.xrf_ctl.specs.declared.parts.Level.{Level}
use Rattle.xrf_ctl.specs.declared.parts.Level.TheVariants.{One, Two}
use Rattle.xrf_ctl.specs.declared.parts.Owner.{Owner}
use Rattle.xrf_ctl.specs.Control.{ControlRecord, IsControl, of_parts}
use Rattle.xrf_cavm.specs.declared.known.Known.{Known}
use Rattle.xrf_cavm.specs.declared.grants.Grant.{Grant}
use Rattle.xrf_cavm.specs.declared.grants.Grant.TheVariants.{Granted, Present, NoActive, Format}
use Rattle.xrf_cavm.specs.Record.{inc_of_owner, inc_of_alt, owner_is, owner_may_run, alt_may_run}

-- level One knows format 1 alone
abbrev pub is_foreign : Level → ℕ → Bool
is_foreign One format = format == 2
is_foreign Two format = false

-- a record by which a region of level Two becomes owner has format 2, and every other record keeps its format
abbrev pub owner_format : Level → ℕ → ℕ
owner_format One format = format
owner_format Two format = 2

abbrev pub is_site : Site → Site → Bool
is_site A A = true
is_site B B = true
is_site _ _ = false

-- the owner is there and is at this site
abbrev pub is_at : Option Owner → Site → Bool
is_at None site = false
is_at (Some o) site = is_site o.site site

abbrev pub grant_active : ControlRecord → Site → Known → Level → Grant
grant_active r site known level =
    if is_foreign level r.format then Format
    else (if owner_may_run r known then Present (inc_of_owner r.owner)
    else (if alt_may_run r known then Present (inc_of_alt r.alt)
    else Granted (of_parts (owner_format level r.format) (r.last + 1) (Some (record { inc = r.last + 1; site = site; state = Running })) None None)))

abbrev pub grant_standby : ControlRecord → Site → Known → Level → Grant
grant_standby r site known level =
    if is_foreign level r.format then Format
    else (if not (owner_is r Running) then NoActive
    else (if is_at r.owner site then Present (inc_of_owner r.owner)
    else (if alt_may_run r known then Present (inc_of_alt r.alt)
    else Granted (of_parts r.format (r.last + 1) r.owner (Some (record { inc = r.last + 1; site = site })) None))))

-- what is granted is a control record
abbrev pub GivesControl : Grant → Type 0
GivesControl (Granted r) = IsControl r
GivesControl _ = Unit {0}
