-- The messages of an epoch, and the terminal table that they track.
use Rattle.std.specs.Prelude.{ℕ, ◌==◌, ◌&&◌, if◌then◌else◌, List, [], ◌∷◌}
use Rattle.xrf_msg.specs.declared.messages.Message.{Message}
use Rattle.xrf_msg.specs.Messages.{epoch_of}
use Rattle.xrf_terms.specs.declared.rows.Row.{Row}
use Rattle.xrf_terms.specs.Tracking.{tracked as tracked_by}
use Rattle.xrf_trace.specs.declared.entry.Entry.{Entry}
use Rattle.xrf_trace.specs.declared.entry.Act.{Act}
use Rattle.xrf_trace.specs.declared.entry.Act.TheVariants as act
use Rattle.xrf_trace.specs.declared.entry.Land.{Land}
use Rattle.xrf_trace.specs.Landing.{opens}

-- the messages of an epoch whose MSGOPEN landed as 0xc1, the newest first
abbrev pub messages_after : ℕ → Act → Land → List Message → List Message
messages_after n (act.MsgOpen k message) land before = if opens land && epoch_of message == n then message ∷ before else before
messages_after n _ land before = before

abbrev pub messages : List Entry → ℕ → List Message
messages [] n = []
messages (e ∷ t) n = messages_after n e.act e.land (messages t n)

-- the table that they track
abbrev pub tracked : List Entry → ℕ → List Row
tracked t n = tracked_by (messages t n)
