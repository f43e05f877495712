-- Throughs, takings, and updates.
use Rattle.std.specs.Prelude.{ℕ, ◌==◌, Bool, true, false, ◌&&◌, not, List, Option, Some, None}
use Rattle.xrf_ctl.specs.declared.parts.Taking.{Taking}
use Rattle.xrf_ctl.specs.Control.{ControlRecord}
use Rattle.xrf_cavm.specs.Record.{inc_of_owner}
use Rattle.xrf_trace.specs.declared.entry.Entry.{Entry}
use Rattle.xrf_trace.specs.declared.entry.Act.{Act}
use Rattle.xrf_trace.specs.declared.entry.Act.TheVariants as act
use Rattle.xrf_trace.specs.Landing.{lands}
use Rattle.xrf_trace.specs.Devices.{control}

-- a through: a landed CTLWRITE whose owner's incarnation is not the owner's incarnation before it
abbrev pub changes_owner : ControlRecord → Act → Bool
changes_owner before (act.CtlWrite written) = not (inc_of_owner written.owner == inc_of_owner before.owner)
changes_owner before _ = false

abbrev pub is_through : List Entry → Entry → Bool
is_through t e = lands e.land && changes_owner (control t) e.act

-- a taking is there, and is of this incarnation
abbrev pub has_taking : Option Taking → ℕ → Bool
has_taking None n = false
has_taking (Some taking) n = taking.inc == n

-- an update: a write of a message slot, the log, a keypoint or the file, whatever of it landed
abbrev pub is_update : Act → Bool
is_update (act.MsgClose k) = true
is_update (act.MsgBody k message) = true
is_update (act.MsgOpen k message) = true
is_update (act.LogClose p) = true
is_update (act.LogBody p rec) = true
is_update (act.LogOpen p rec) = true
is_update (act.KpClose k) = true
is_update (act.KpBody k keypoint) = true
is_update (act.KpOpen k keypoint) = true
is_update (act.FileWrite unit k value) = true
is_update (act.Undo k before) = true
is_update _ = false
