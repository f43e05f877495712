-- The lines of what stands in the end: tick, control record and log.
use Rattle.std.specs.Prelude.{ℕ, List, ◌++◌, codes}
use Rattle.std.specs.Fmt.{decimal}
use Rattle.xrf_ctl.specs.Control.{ControlRecord}
use Rattle.xrf_setup.specs.declared.format.Format.{Format}
use Rattle.xrf_report.specs.Records.{control_text}
use Rattle.xrf_report.specs.Words.{line}

abbrev pub tick_line : ℕ → List ℕ
tick_line tick = line (codes "TICK " ++ decimal tick)

abbrev pub control_line : Format → ControlRecord → List ℕ
control_line xrf control = line (codes "CONTROL " ++ control_text xrf control)

-- how many records the log has, how many units are committed, and how many are in flight
abbrev pub log_line : (records committed flight : ℕ) → List ℕ
log_line records committed flight =
    line (codes "LOG " ++ decimal records ++ codes " COMMITTED " ++ decimal committed ++ codes " FLIGHT " ++ decimal flight)

-- the last line
abbrev pub done_line : List ℕ
done_line = line (codes "DONE")
