-- When a job that was let through stands for a history: its owner does, and what an alternate went by is kept.
use Rattle.std.specs.Prelude.{◌≡◌, ◌<◌, ◌&&◌, Bool, true, false, List, length}
use Rattle.xrf_cavm.specs.declared.decisions.Mode.{Mode}
use Rattle.xrf_history.specs.declared.answer.Answer.{Answer}
use Rattle.xrf_history.specs.declared.answer.Answer.TheVariants as answer
use Rattle.xrf_history.specs.declared.settings.Settings.{Settings}
use Rattle.xrf_history.specs.Deciding.{mode_of}
use Rattle.xrf_history.specs.Events.{Event}
use Rattle.xrf_history.specs.Holding.{is_owner, starts_active}
use Rattle.xrf_history.specs.Looking.{lost_at}
use Rattle.xrf_history.specs.Reserving.{is_leaving, is_starting}
use Rattle.xrf_active.specs.Standing as active
use Rattle.xrf_standby.specs.declared.let_through.LetThrough.{LetThrough}

-- what an owner goes by after an answer: each decision without loss of signal ends what was asked and said
abbrev pub mode_after : Settings → List Event → Answer → Mode → Mode
mode_after p h (answer.Decide known at) mode = record mode { asked = mode.asked && lost_at p h at; go = mode.go && lost_at p h at }
mode_after p h _ mode = mode

-- and whether it leaves
abbrev pub leaves_after : Answer → Bool → Bool
leaves_after (answer.Decide known at) leaves = false
leaves_after _ leaves = leaves

pub record Stands (job : LetThrough) (h : List Event) : Type 0 where
  pub owner : active.Stands job.owner h
  pub owns : is_owner h ≡ true
  pub started : starts_active h ≡ false
  pub few : length h < 16386
  pub mode : job.mode ≡ mode_of job.owner.settings h
  pub leaves : job.is_leaving ≡ is_leaving h
  pub starts : is_starting h ≡ false
