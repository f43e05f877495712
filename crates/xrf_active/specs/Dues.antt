-- The acts of what is due at a boundary, and what is known where they begin.
use Rattle.std.specs.Prelude.{◌≡◌, ◌+◌, ◌%◌, true, false, List, Some}
use Rattle.xrf_history.specs.declared.settings.Settings.{Settings}
use Rattle.xrf_history.specs.declared.want.Want.{Want}
use Rattle.xrf_history.specs.declared.want.Want.TheVariants as want
use Rattle.xrf_history.specs.Events.{Event}
use Rattle.xrf_history.specs.Holding.{is_granted, is_restarted}
use Rattle.xrf_history.specs.Taking.{is_draining}
use Rattle.xrf_history.specs.Restarting.{scan}
use Rattle.xrf_history.specs.Working.{next_keypoint}
use Rattle.xrf_history.specs.Rows.{rounds, signal_of, log_write}
use Rattle.xrf_history.specs.Next.{message_at_hand}
use Rattle.xrf_job.specs.Stages.{AtHand}
use Rattle.xrf_active.specs.declared.due.Due.{Due}
use Rattle.xrf_active.specs.declared.due.Due.TheVariants as due

-- the act of what is due
abbrev pub act_of : Settings → Due → Want
act_of p due.Nothing = want.Nothing
act_of p due.Reserve = want.Reserve
act_of p (due.Exit told) = want.Exit told
act_of p (due.Round signal) = want.Signal1 signal
act_of p (due.Drain place) = want.MsgRead place
act_of p (due.Scan block) = want.LogRead block
act_of p (due.Undo undo) = want.Undo undo.rrn undo.before
act_of p (due.Backout place rec) = log_write p place rec
act_of p due.Restarted = want.Restarted
act_of p (due.Message place message) = want.MsgRead place
act_of p (due.Keypoint keypoint) = want.KpRead (keypoint.number % 2)
act_of p due.Item = want.Item

-- what is known where it begins
abbrev pub Begins : Due → Settings → List Event → Type 0
Begins (due.Round signal) p h = (is_granted h ≡ true) × (signal ≡ signal_of h (rounds h + 1))
Begins (due.Drain place) p h = (is_draining h ≡ true) × (is_restarted h ≡ false) × (is_granted h ≡ true)
Begins (due.Scan block) p h = ((scan p h).ended ≡ false) × (is_granted h ≡ true)
Begins (due.Undo undo) p h = (is_restarted h ≡ false) × (is_granted h ≡ true)
Begins (due.Backout place rec) p h = AtHand p h rec
Begins due.Restarted p h = (is_restarted h ≡ false) × ((scan p h).ended ≡ true) × (is_draining h ≡ false)
Begins (due.Message place message) p h = (is_restarted h ≡ true) × (message_at_hand p h ≡ Some message) × (is_granted h ≡ true)
Begins (due.Keypoint keypoint) p h = (is_restarted h ≡ true) × (keypoint ≡ next_keypoint p h) × (is_granted h ≡ true)
Begins due.Item p h = (is_restarted h ≡ true) × (is_granted h ≡ true)
Begins _ p h = Unit {0}
