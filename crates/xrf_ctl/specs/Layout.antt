-- The one spelling of a control record, 256 bytes. Numbers are unsigned, the highest byte first.
use Rattle.std.specs.Prelude.{◌≡◌, ℕ, List, ◌∷◌, ◌++◌, codes, Option, Some, None}
use Rattle.byteorder.specs.Endian.{big_bytes}
use Rattle.xrf_base.specs.declared.site.Site.{Site}
use Rattle.xrf_base.specs.declared.site.Site.TheVariants.{A, B}
use Rattle.xrf_ctl.specs.declared.parts.OwnerState.{OwnerState}
use Rattle.xrf_ctl.specs.declared.parts.OwnerState.TheVariants.{Running, OffNormal, OffAbend, OffTakeover}
use Rattle.xrf_ctl.specs.declared.parts.Cause.{Cause}
use Rattle.xrf_ctl.specs.declared.parts.Cause.TheVariants.{Lost, Abend, Shutdown, Command}
use Rattle.xrf_ctl.specs.declared.parts.Owner.{Owner}
use Rattle.xrf_ctl.specs.declared.parts.Alt.{Alt}
use Rattle.xrf_ctl.specs.declared.parts.Taking.{Taking}
use Rattle.xrf_ctl.specs.Places.{zeros}
use Rattle.xrf_ctl.specs.Control.{ControlRecord, IsControl}

-- "XCTL" stands at the head
abbrev pub eye : List ℕ
eye = codes "XCTL"

abbrev pub site_code : Site → ℕ
site_code A = 0
site_code B = 1

abbrev pub state_code : OwnerState → ℕ
state_code Running = 0
state_code OffNormal = 1
state_code OffAbend = 2
state_code OffTakeover = 3

abbrev pub cause_code : Cause → ℕ
cause_code Lost = 1
cause_code Abend = 2
cause_code Shutdown = 3
cause_code Command = 4

-- eight bytes for each part: a flag, one or two codes, and behind them the incarnation; all zero where it is not there
abbrev pub owner_bytes : Option Owner → List ℕ
owner_bytes None = zeros 8
owner_bytes (Some o) = 1 ∷ site_code o.site ∷ state_code o.state ∷ 0 ∷ big_bytes 4 o.inc

abbrev pub alt_bytes : Option Alt → List ℕ
alt_bytes None = zeros 8
alt_bytes (Some a) = 1 ∷ site_code a.site ∷ 0 ∷ 0 ∷ big_bytes 4 a.inc

abbrev pub taking_bytes : Option Taking → List ℕ
taking_bytes None = zeros 8
taking_bytes (Some t) = 1 ∷ cause_code t.cause ∷ 0 ∷ 0 ∷ big_bytes 4 t.inc

-- the places are 0, 4, 6, 8, 12, 20, 28 and 36
abbrev pub control_bytes : ControlRecord → List ℕ
control_bytes r =
    eye ++ big_bytes 2 r.format ++ zeros 2 ++ big_bytes 4 r.last ++ owner_bytes r.owner ++ alt_bytes r.alt ++ taking_bytes r.taking ++ zeros 220

-- the bytes are those of the control record
abbrev pub Spells : List ℕ → ControlRecord → Type 0
Spells bytes r = IsControl r × (bytes ≡ control_bytes r)
