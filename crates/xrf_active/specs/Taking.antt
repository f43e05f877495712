-- When a job may be handed an answer.
use Rattle.std.specs.Prelude.{◌≡◌, ◌<◌, true, List, length}
use Rattle.xrf_log.specs.Scan.{anchor_of}
use Rattle.xrf_history.specs.declared.answer.Answer.{Answer}
use Rattle.xrf_history.specs.declared.answer.Answer.TheVariants as answer
use Rattle.xrf_history.specs.declared.settings.Settings.{Settings}
use Rattle.xrf_history.specs.Events.{Event}
use Rattle.xrf_history.specs.Accepting.{may_take, IsInTime}
use Rattle.xrf_job.specs.declared.stage.Stage.{Stage}
use Rattle.xrf_job.specs.declared.stage.Stage.TheVariants as stages
use Rattle.xrf_active.specs.declared.active.Active.{Active}
use Rattle.xrf_active.specs.Standing.{Stands}

-- a control record that is handed leaves an incarnation to give
abbrev pub LeavesRoom : Answer → Type 0
LeavesRoom (answer.Ctl held known) = held.last < 4294967295
LeavesRoom _ = Unit {0}

-- the keypoints that are handed have small numbers
abbrev pub HasSmallKeys : Answer → Type 0
HasSmallKeys (answer.Anchored block keys) = ((anchor_of keys).number < 16384) × ((anchor_of keys).start < 16384)
HasSmallKeys _ = Unit {0}

-- an answer that ends no item
abbrev pub EndsNoItem : Answer → Type 0
EndsNoItem (answer.Done at) = ⊥
EndsNoItem (answer.FileSlot slot) = ⊥
EndsNoItem (answer.Item item) = ⊥
EndsNoItem _ = Unit {0}

-- a stage whose act ends no item
abbrev pub LeavesItemOpen : Stage → Type 0
LeavesItemOpen (stages.LogOpen place rec) = ⊥
LeavesItemOpen (stages.FileWrite unit rrn value) = ⊥
LeavesItemOpen _ = Unit {0}

-- when a job with a history may be handed an answer
pub record MayBeHanded (p : Settings) (h : List Event) (a : Answer) : Type 0 where
  -- the answer fits the act, or is of a tick or of a choice that reaches it
  pub fitting : may_take p h a ≡ true
  -- beside its START it has taken fewer than 16,384 answers
  pub few : length h < 16385
  pub in_time : IsInTime h a
  pub room : LeavesRoom a
  pub small_keys : HasSmallKeys a

pub record CanTake (job : Active) (h : List Event) (a : Answer) : Type 0 where
  pub stands : Stands job h
  pub handed : MayBeHanded job.settings h a
