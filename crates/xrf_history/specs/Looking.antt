-- Loss of signal: the looks of a job, and the tick of the last change.
use Rattle.std.specs.Prelude.{ℕ, Bool, true, false, List, [], ◌∷◌, Option, None}
use Rattle.xrf_ctl.specs.Control.{ControlRecord, empty}
use Rattle.xrf_ctl.specs.Signal.{SignalRecord}
use Rattle.xrf_cavm.specs.Watch.{Told, Looked, Reset, changes, latest, is_lost}
use Rattle.xrf_cavm.specs.declared.decisions.Acting.TheVariants as acting
use Rattle.xrf_cavm.specs.declared.decisions.Decided.{Decided}
use Rattle.xrf_cavm.specs.declared.decisions.Decided.TheVariants.{Owner}
use Rattle.xrf_cebt.specs.declared.commands.Cebt.{Cebt}
use Rattle.xrf_cebt.specs.declared.commands.Cebt.TheVariants.{SetSurveillance}
use Rattle.xrf_exit.specs.declared.ExitAnswer.{ExitAnswer}
use Rattle.xrf_exit.specs.declared.ExitAnswer.TheVariants as exit
use Rattle.xrf_history.specs.declared.settings.Settings.{Settings}
use Rattle.xrf_history.specs.Events.{Event, Looked1, Looked2, Replied, Commanded, Exited, DecisionMade}

-- the record of the last LOOK1; before the first it is never asked
abbrev pub record_seen : List Event → ControlRecord
record_seen [] = empty
record_seen (Looked1 held signal ∷ h) = held
record_seen (_ ∷ h) = record_seen h

-- the other site's signal at the last LOOK1
abbrev pub signal_seen : List Event → Option SignalRecord
signal_seen [] = None
signal_seen (Looked1 held signal ∷ h) = signal
signal_seen (_ ∷ h) = signal_seen h

-- What its watch was told, the newest first. A look is the pair of signals of a LOOK1 and its LOOK2. In an
-- alternate each REPLY IGNORE and each CEBT SET SURVEILLANCE ON counts as a change, and in an owner each
-- DECIDE CATCHUP and each EXIT KEEP.
abbrev pub told_of_reply : Bool → ℕ → List Told → List Told
told_of_reply true at told = told
told_of_reply false at told = Reset at ∷ told

abbrev pub told_of_command : Cebt → ℕ → List Told → List Told
told_of_command (SetSurveillance true) at told = Reset at ∷ told
told_of_command _ at told = told

abbrev pub told_of_decision : Decided → ℕ → List Told → List Told
told_of_decision (Owner (acting.CatchUp n)) at told = Reset at ∷ told
told_of_decision _ at told = told

abbrev pub told_of_exit : ExitAnswer → ℕ → List Told → List Told
told_of_exit exit.Keep at told = Reset at ∷ told
told_of_exit _ at told = told

abbrev pub told_to_watch : List Event → List Told
told_to_watch [] = []
told_to_watch (Looked2 signal at ∷ h) = Looked (signal_seen h, signal) at ∷ told_to_watch h
told_to_watch (Replied go at ∷ h) = told_of_reply go at (told_to_watch h)
told_to_watch (Commanded command at ∷ h) = told_of_command command at (told_to_watch h)
told_to_watch (DecisionMade known at decision ∷ h) = told_of_decision decision at (told_to_watch h)
told_to_watch (Exited answer at ∷ h) = told_of_exit answer at (told_to_watch h)
told_to_watch (_ ∷ h) = told_to_watch h

-- The tick of the last change: the latest of the ticks of the first LOOK2, of each LOOK2 whose look differs
-- from the look before, and of what counts as a change.
abbrev pub change : List Event → ℕ
change h = latest 0 (changes (told_to_watch h))

-- lost: the tick of a DECIDE less that of the last change is at least ADI
abbrev pub lost_at : Settings → List Event → ℕ → Bool
lost_at p h at = is_lost (change h) p.adi at
