-- The acts of what is due at a boundary, and what is known where they begin.
use Rattle.std.specs.Prelude.{◌≡◌, ◌+◌, true, List}
use Rattle.xrf_history.specs.declared.want.Want.{Want}
use Rattle.xrf_history.specs.declared.want.Want.TheVariants as want
use Rattle.xrf_history.specs.Events.{Event}
use Rattle.xrf_history.specs.Holding.{is_granted}
use Rattle.xrf_history.specs.Rows.{rounds, signal_of, lines_issued}
use Rattle.xrf_standby.specs.declared.due.Due.{Due}
use Rattle.xrf_standby.specs.declared.due.Due.TheVariants as due

-- the act of what is due
abbrev pub act_of : Due → Want
act_of due.Nothing = want.Nothing
act_of (due.Line line) = want.Clt line
act_of (due.End reason) = want.Ended reason
act_of due.Reserve = want.Reserve
act_of (due.Round signal) = want.Signal1 signal
act_of (due.Read place) = want.MsgRead place

-- what is known where it begins
abbrev pub Begins : Due → List Event → Type 0
Begins (due.Line line) h = line ≡ lines_issued h + 1
Begins (due.Round signal) h = (is_granted h ≡ true) × (signal ≡ signal_of h (rounds h + 1))
Begins _ h = Unit {0}
