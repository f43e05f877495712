-- What those who run a pair rely on, beside what is safe.
use Rattle.std.specs.Prelude.{List}
use Rattle.xrf_trace.specs.declared.entry.Entry.{Entry}
use Rattle.xrf_trace.specs.Scenario.{Scen}
use Rattle.xrf_trace.specs.OneOwner.{OneOwner}
use Rattle.xrf_trace.specs.UnitsAreItems.{UnitsAreItems}
use Rattle.xrf_trace.specs.ItemsSeeBook.{ItemsSeeBook}
use Rattle.xrf_trace.specs.TerminalsAreTold.{TerminalsAreTold}
use Rattle.xrf_trace.specs.JobsAct.{JobsAct}
use Rattle.xrf_trace.specs.ReserveIsHeld.{ReserveIsHeld}
use Rattle.xrf_trace.specs.ByPurpose.{ByPurpose}
use Rattle.xrf_trace.specs.LinesAsListed.{LinesAsListed}
use Rattle.xrf_trace.specs.RoundsAreWhole.{RoundsAreWhole}
use Rattle.xrf_trace.specs.OwnersDecide.{OwnersDecide}
use Rattle.xrf_trace.specs.StopsWhenDue.{StopsWhenDue}
use Rattle.xrf_trace.specs.ItemsInOrder.{ItemsInOrder}
use Rattle.xrf_trace.specs.BookAtRest.{BookAtRest}
use Rattle.xrf_trace.specs.CutsAsMay.{CutsAsMay}

pub record Promises (s : Scen) (t : List Entry) : Type 0 where
  pub one_owner : OneOwner s t
  pub units_are_items : UnitsAreItems s t
  pub items_see_book : ItemsSeeBook s t
  pub terminals_are_told : TerminalsAreTold s t
  pub jobs_act : JobsAct s t
  pub reserve_is_held : ReserveIsHeld s t
  pub by_purpose : ByPurpose s t
  pub lines_as_listed : LinesAsListed s t
  pub rounds_are_whole : RoundsAreWhole s t
  pub owners_decide : OwnersDecide s t
  pub stops_when_due : StopsWhenDue s t
  pub items_in_order : ItemsInOrder s t
  pub book_at_rest : BookAtRest s t
  pub cuts_as_may : CutsAsMay t
