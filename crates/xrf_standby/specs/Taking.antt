-- When a job may be handed an answer.
use Rattle.std.specs.Prelude.{List}
use Rattle.xrf_history.specs.declared.answer.Answer.{Answer}
use Rattle.xrf_history.specs.Events.{Event}
use Rattle.xrf_active.specs.Taking.{MayBeHanded}
use Rattle.xrf_standby.specs.declared.standby.Standby.{Standby}
use Rattle.xrf_standby.specs.Standing.{Stands}

pub record CanTake (job : Standby) (h : List Event) (a : Answer) : Type 0 where
  pub stands : Stands job h
  pub handed : MayBeHanded job.settings h a
