-- All that is safe and promised but one promise: of a broken trace that has it, that promise alone is broken.
use Rattle.std.specs.Prelude.{◌==◌, ℕ, not, List}
use Rattle.xrf_trace.specs.declared.entry.Entry.{Entry}
use Rattle.xrf_trace.specs.Scenario.{Scen}
use Rattle.xrf_trace.specs.Each.{Where}
use Rattle.xrf_trace.specs.Safe.{Safe}
use Rattle.xrf_trace.specs.OneOwner.{OneOwner}
use Rattle.xrf_trace.specs.UnitsAreItems.{UnitsAreItems}
use Rattle.xrf_trace.specs.ItemsSeeBook.{ItemsSeeBook}
use Rattle.xrf_trace.specs.TerminalsAreTold.{TerminalsAreTold}
use Rattle.xrf_trace.specs.JobsAct.{JobsAct}
use Rattle.xrf_trace.specs.ReserveIsHeld.{ReserveIsHeld}
use Rattle.xrf_trace.specs.ByPurpose.{ByPurpose}
use Rattle.xrf_trace.specs.LinesAsListed.{LinesAsListed}
use Rattle.xrf_trace.specs.RoundsAreWhole.{RoundsAreWhole}
use Rattle.xrf_trace.specs.OwnersDecide.{OwnersDecide}
use Rattle.xrf_trace.specs.StopsWhenDue.{StopsWhenDue}
use Rattle.xrf_trace.specs.ItemsInOrder.{ItemsInOrder}
use Rattle.xrf_trace.specs.BookAtRest.{BookAtRest}
use Rattle.xrf_trace.specs.CutsAsMay.{CutsAsMay}

-- the promises on how jobs act
pub data Part : Type 0 where
  JobsAreThere : Part
  UnderReserve : Part
  Purposeful : Part
  Listed : Part
  Whole : Part
  Decided : Part
  Stopping : Part
  InOrder : Part
  AtRest : Part
  Cut : Part

abbrev place : Part → ℕ
place JobsAreThere = 0
place UnderReserve = 1
place Purposeful = 2
place Listed = 3
place Whole = 4
place Decided = 5
place Stopping = 6
place InOrder = 7
place AtRest = 8
place Cut = 9

-- a promise, where it is another than the broken one
abbrev Unless : (broken part : Part) → Type 0 → Type 0
Unless broken part promise = Where (not (place broken == place part)) promise

pub record AllBut (broken : Part) (s : Scen) (t : List Entry) : Type 0 where
  pub safe : Safe s t
  pub one_owner : OneOwner s t
  pub units_are_items : UnitsAreItems s t
  pub items_see_book : ItemsSeeBook s t
  pub terminals_are_told : TerminalsAreTold s t
  pub jobs_act : Unless broken JobsAreThere (JobsAct s t)
  pub reserve_is_held : Unless broken UnderReserve (ReserveIsHeld s t)
  pub by_purpose : Unless broken Purposeful (ByPurpose s t)
  pub lines_as_listed : Unless broken Listed (LinesAsListed s t)
  pub rounds_are_whole : Unless broken Whole (RoundsAreWhole s t)
  pub owners_decide : Unless broken Decided (OwnersDecide s t)
  pub stops_when_due : Unless broken Stopping (StopsWhenDue s t)
  pub items_in_order : Unless broken InOrder (ItemsInOrder s t)
  pub book_at_rest : Unless broken AtRest (BookAtRest s t)
  pub cuts_as_may : Unless broken Cut (CutsAsMay t)
