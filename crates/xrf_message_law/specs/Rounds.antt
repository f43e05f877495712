-- What is known of a job where an act of a round, or a MSGREAD, comes next.
use Rattle.std.specs.Prelude.{List, false, true, ◌≡◌, []}
use Rattle.xrf_history.specs.Events.{Event}
use Rattle.xrf_history.specs.Holding.{is_granted, is_restarted, starts_active}
use Rattle.xrf_history.specs.declared.want.Want.{Want}
use Rattle.xrf_history.specs.Rows.{reading_due}
use Rattle.xrf_history.specs.Taking.{taken}
use Rattle.xrf_history.specs.declared.settings.Settings.{Settings}
use Rattle.xrf_history.specs.Next.{next}
use Rattle.xrf_history.specs.declared.want.Want.TheVariants as want
use Rattle.xrf_message_law.specs.Shown.{IsSignal}

-- a job that reads holds a number, and before its restart is done it was started as standby
pub record IsReading (h : List Event) : Type 0 where
  pub granted : is_granted h ≡ true
  pub standby : is_restarted h ≡ false → starts_active h ≡ false

-- what is known where an act of a round, or a MSGREAD, comes next
abbrev pub RoundAt : List Event → Want → Type 0
RoundAt h (want.Signal1 signal) = IsSignal h signal
RoundAt h (want.Signal2 signal) = IsSignal h signal
RoundAt h want.Look1 = is_granted h ≡ true
RoundAt h want.Look2 = is_granted h ≡ true
RoundAt h want.Decide = is_granted h ≡ true
RoundAt h (want.MsgRead k) = IsReading h
RoundAt h _ = Unit {0}

-- before its grant a job reads nothing, and one that was started as active never takes a message
pub record Takes (h : List Event) : Type 0 where
  pub not_due : is_granted h ≡ false → reading_due h ≡ false
  pub untaken : is_granted h ≡ false → taken h ≡ []
  pub active : starts_active h ≡ true → taken h ≡ []

-- both, of a history
pub record IsRound (p : Settings) (h : List Event) : Type 0 where
  pub takes : Takes h
  pub round : RoundAt h (next p h)
