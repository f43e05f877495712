-- The text of a control record.
use Rattle.std.specs.Prelude.{ℕ, List, [], ◌++◌, codes, Option, Some, None}
use Rattle.std.specs.Fmt.{decimal}
use Rattle.xrf_ctl.specs.Control.{ControlRecord}
use Rattle.xrf_ctl.specs.declared.parts.Owner.{Owner}
use Rattle.xrf_ctl.specs.declared.parts.OwnerState.{OwnerState}
use Rattle.xrf_ctl.specs.declared.parts.OwnerState.TheVariants.{Running, OffNormal, OffAbend, OffTakeover}
use Rattle.xrf_ctl.specs.declared.parts.Alt.{Alt}
use Rattle.xrf_ctl.specs.declared.parts.Taking.{Taking}
use Rattle.xrf_ctl.specs.declared.parts.Cause.{Cause}
use Rattle.xrf_ctl.specs.declared.parts.Cause.TheVariants.{Lost, Abend, Shutdown, Command}
use Rattle.xrf_grammar.specs.Spelling.{site_word}
use Rattle.xrf_setup.specs.declared.format.Format.{Format}
use Rattle.xrf_setup.specs.declared.format.Format.TheVariants.{One, Two}
use Rattle.xrf_report.specs.Words.{dot}

abbrev pub state_word : OwnerState → List ℕ
state_word Running = codes "RUNNING"
state_word OffNormal = codes "NORMAL"
state_word OffAbend = codes "ABEND"
state_word OffTakeover = codes "TAKEOVER"

abbrev pub cause_word : Cause → List ℕ
cause_word Lost = codes "LOST"
cause_word Abend = codes "ABEND"
cause_word Shutdown = codes "SHUTDOWN"
cause_word Command = codes "COMMAND"

-- incarnation, site and state
abbrev pub owner_text : Option Owner → List ℕ
owner_text None = codes "NONE"
owner_text (Some owner) = decimal owner.inc ++ dot (site_word owner.site) ++ dot (state_word owner.state)

-- incarnation and site
abbrev pub alt_text : Option Alt → List ℕ
alt_text None = codes "NONE"
alt_text (Some alt) = decimal alt.inc ++ dot (site_word alt.site)

-- incarnation and cause
abbrev pub taking_text : Option Taking → List ℕ
taking_text None = codes "NONE"
taking_text (Some taking) = decimal taking.inc ++ dot (cause_word taking.cause)

-- Documents of XRF 2 alone tell the format of the record.
abbrev pub format_text : Format → ℕ → List ℕ
format_text One format = []
format_text Two format = codes " FORMAT " ++ decimal format

-- the last incarnation that was given, the owner, the alternate and the taking
abbrev pub control_text : Format → ControlRecord → List ℕ
control_text xrf r =
    decimal r.last ++ codes " OWNER " ++ owner_text r.owner ++ codes " ALT " ++ alt_text r.alt ++ codes " TAKING " ++ taking_text r.taking
    ++ format_text xrf r.format
