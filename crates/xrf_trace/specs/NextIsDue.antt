-- Next is due: after DECIDE START up to the write of the taking, and after DECIDE THROUGH up to the write of the
-- through, the next act is the next of the sequence, and the holder of the reserve has a next act. This is a law of
-- every run and no part of what is promised: it goes by the next act, and so by the whole step table.
use Rattle.std.specs.Prelude.{◌≡◌, ℕ, true, ◌&&◌, is_some, List, [], slice_get, Option, Some, None}
use Rattle.xrf_base.specs.declared.site.Site.{Site}
use Rattle.xrf_ctl.specs.declared.parts.Cause.{Cause}
use Rattle.xrf_ctl.specs.Control.{ControlRecord}
use Rattle.xrf_history.specs.Events.{Event}
use Rattle.xrf_history.specs.Holding.{number, is_waiting, is_tracking}
use Rattle.xrf_history.specs.Progress.{made_since_decision}
use Rattle.xrf_history.specs.Reserving.{last_decision, is_through_decision, start_in, record_read}
use Rattle.xrf_trace.specs.declared.entry.Entry.{Entry}
use Rattle.xrf_trace.specs.declared.entry.Act.{Act}
use Rattle.xrf_trace.specs.Scenario.{Scen, settings}
use Rattle.xrf_trace.specs.Words.{holds_reserve}
use Rattle.xrf_trace.specs.Acts.{next_act}
use Rattle.xrf_trace.specs.StartByCause.{start_sequence}
use Rattle.xrf_trace.specs.ThroughByProof.{through_sequence}
use Rattle.xrf_trace.specs.Each.{After, EverySite, Where}

-- the next act is the one that stands in a place of a sequence, where the sequence goes so far
abbrev pub IsNext : Option Act → Option Act → Type 0
IsNext None a = Unit {0}
IsNext (Some wanted) a = a ≡ Some wanted

abbrev pub sequence_of_start : ControlRecord → ℕ → Option Cause → List Act
sequence_of_start held n None = []
sequence_of_start held n (Some why) = start_sequence held n why

abbrev pub StartIsDue : Scen → List Entry → Site → List Event → Type 0
StartIsDue s t x h =
    Where (is_tracking h)
    (IsNext (slice_get (sequence_of_start (record_read h) (number h) (start_in (last_decision h))) (made_since_decision h)) (next_act s t x))

abbrev pub ThroughIsDue : Scen → List Entry → Site → List Event → Type 0
ThroughIsDue s t x h =
    Where (is_waiting h && is_through_decision (last_decision h))
    (IsNext (slice_get (through_sequence x (settings s x).level (number h) (record_read h)) (made_since_decision h)) (next_act s t x))

abbrev pub HolderGoesOn : Scen → List Entry → Site → Type 0
HolderGoesOn s t x = Where (holds_reserve t x) (is_some (next_act s t x) ≡ true)

pub record NextIsDue (s : Scen) (t : List Entry) : Type 0 where
  pub starts : After (λ t. EverySite s t (StartIsDue s t)) t
  pub throughs : After (λ t. EverySite s t (ThroughIsDue s t)) t
  pub holders : After (λ t. EverySite s t (λ x h. HolderGoesOn s t x)) t
