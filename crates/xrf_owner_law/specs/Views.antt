-- What the law reads of a job's history.
use Rattle.std.specs.Prelude.{Bool, ℕ, List, false, true}
use Rattle.xrf_ctl.specs.Control.{ControlRecord}
use Rattle.xrf_cavm.specs.declared.known.Known.{Known}
use Rattle.xrf_history.proofs.Phases.{Phase, phase, HasWritten, Over}
use Rattle.xrf_history.specs.Reserving.{Purpose, purpose, known_read, record_read}
use Rattle.xrf_history.specs.Holding.{number, is_granted, is_owner}
use Rattle.xrf_history.specs.Events.{Event}
use Rattle.xrf_history.specs.declared.settings.Settings.{Settings}
use Rattle.xrf_history.proofs.Purposes.{is_sign_off}

-- what the law reads of a job's history
pub record View : Type 0 where
  pub granted : Bool
  pub number : ℕ
  pub owner : Bool
  pub phase : Phase
  pub purpose : Purpose
  pub read : ControlRecord
  pub known : Known

-- of a history
abbrev pub view : Settings → List Event → View
view p h = record {
  granted = is_granted h;
  number = number h;
  owner = is_owner h;
  phase = phase p h;
  purpose = purpose h;
  read = record_read h;
  known = known_read h;
}

-- its sign-off is written, or it is over: it has only RELEASE and ENDED left
abbrev pub is_over : Phase → Purpose → Bool
is_over HasWritten q = is_sign_off q
is_over Over q = true
is_over _ q = false
