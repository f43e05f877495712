-- Where the parts of the data sets stand.
use Rattle.std.specs.Prelude.{ℕ, ◌-◌, ◌*◌}
use Rattle.xrf_base.specs.declared.site.Site.{Site}
use Rattle.xrf_base.specs.declared.site.Site.TheVariants.{A, B}

-- the signal sector of a site in DFHXRCTL, behind the control record, and in DFHXRMSG, before the slots
abbrev pub sector1_place : Site → ℕ
sector1_place A = 256
sector1_place B = 320

abbrev pub sector2_place : Site → ℕ
sector2_place A = 0
sector2_place B = 64

-- the slot of file record k, from 1 on
abbrev pub record_place : ℕ → ℕ
record_place k = 32 * (k - 1)
