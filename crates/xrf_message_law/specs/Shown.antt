-- The greatest cursor that was shown for an incarnation.
use Rattle.std.specs.Prelude.{Bool, false, max, true, ℕ, ◌==◌, if◌then◌else◌, List, [], ◌∷◌, None, Option, Some, ◌≡◌, ◌≤◌}
use Rattle.xrf_ctl.specs.Signal.{SignalRecord}
use Rattle.xrf_history.specs.declared.want.Want.{Want}
use Rattle.xrf_history.specs.Events.{Event}
use Rattle.xrf_history.specs.Taking.{expected}
use Rattle.xrf_history.specs.Holding.{is_granted, number}
use Rattle.xrf_history.specs.declared.want.Want.TheVariants as want
use Rattle.xrf_trace.specs.declared.entry.Act.{Act}
use Rattle.xrf_trace.specs.declared.entry.Entry.{Entry}
use Rattle.xrf_trace.specs.Landing.{lands}
use Rattle.xrf_trace.specs.declared.entry.Act.TheVariants as act

-- the greatest cursor of the signals of an incarnation that landed in either path
abbrev pub shown_if : Bool → SignalRecord → ℕ → ℕ → ℕ
shown_if true signal n before = if signal.inc == n then max before signal.cursor else before
shown_if false signal n before = before

-- the same after an act
abbrev pub shown_after : Act → Bool → ℕ → ℕ → ℕ
shown_after (act.Signal1 signal) is_landed n before = shown_if is_landed signal n before
shown_after (act.Signal2 signal) is_landed n before = shown_if is_landed signal n before
shown_after _ is_landed n before = before

-- the same of a trace
abbrev pub shown : List Entry → ℕ → ℕ
shown [] n = 0
shown (e ∷ t) n = shown_after e.act (lands e.land) n (shown t n)

-- the signal of an act
abbrev pub signal_in : Want → Option SignalRecord
signal_in (want.Signal1 signal) = Some signal
signal_in (want.Signal2 signal) = Some signal
signal_in _ = None

-- a signal of a job: its incarnation, and a cursor of at most what it has taken
pub record IsSignal (h : List Event) (signal : SignalRecord) : Type 0 where
  pub granted : is_granted h ≡ true
  pub inc : signal.inc ≡ number h
  pub cursor : signal.cursor ≤ expected h
