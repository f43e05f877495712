-- Each part computes to nothing, or to equations whose sides are the same.
use Rattle.xrf_trace.specs.OneOwner.{OneOwner}
use Rattle.xrf_trace.specs.UnitsAreItems.{UnitsAreItems}
use Rattle.xrf_trace.specs.ItemsSeeBook.{ItemsSeeBook}
use Rattle.xrf_trace.specs.TerminalsAreTold.{TerminalsAreTold}
use Rattle.xrf_trace.specs.JobsAct.{JobsAct}
use Rattle.xrf_trace.specs.ReserveIsHeld.{ReserveIsHeld}
use Rattle.xrf_trace.specs.ByPurpose.{ByPurpose}
use Rattle.xrf_trace.specs.LinesAsListed.{LinesAsListed}
use Rattle.xrf_trace.specs.RoundsAreWhole.{RoundsAreWhole}
use Rattle.xrf_trace.specs.OwnersDecide.{OwnersDecide}
use Rattle.xrf_trace.specs.StopsWhenDue.{StopsWhenDue}
use Rattle.xrf_trace.specs.ItemsInOrder.{ItemsInOrder}
use Rattle.xrf_trace.specs.BookAtRest.{BookAtRest}
use Rattle.xrf_trace.specs.CutsAsMay.{CutsAsMay}
use Rattle.xrf_examples.specs.UsersAtATakeoverStayWithNoforce.{scenario, trace}
use Rattle.xrf_examples.proofs.runs.users_at_a_takeover_stay_with_noforce.Goals as goal

one_owner : OneOwner scenario trace
one_owner = assumption

units_are_items : UnitsAreItems scenario trace
units_are_items = assumption

items_see_book : ItemsSeeBook scenario trace
items_see_book = assumption

terminals_are_told : TerminalsAreTold scenario trace
terminals_are_told = assumption

jobs_act : JobsAct scenario trace
jobs_act = assumption

reserve_is_held : ReserveIsHeld scenario trace
reserve_is_held = assumption

by_purpose : ByPurpose scenario trace
by_purpose = assumption

lines_as_listed : LinesAsListed scenario trace
lines_as_listed = assumption

rounds_are_whole : RoundsAreWhole scenario trace
rounds_are_whole = assumption

owners_decide : OwnersDecide scenario trace
owners_decide = assumption

stops_when_due : StopsWhenDue scenario trace
stops_when_due = assumption

items_in_order : ItemsInOrder scenario trace
items_in_order = assumption

book_at_rest : BookAtRest scenario trace
book_at_rest = assumption

cuts_as_may : CutsAsMay trace
cuts_as_may = assumption

pub returns-clause-safe : goal.returns-clause-safe
returns-clause-safe c = assumption

pub returns-clause-keeps : goal.returns-clause-keeps
returns-clause-keeps c = record {
  one_owner = one_owner;
  units_are_items = units_are_items;
  items_see_book = items_see_book;
  terminals_are_told = terminals_are_told;
  jobs_act = jobs_act;
  reserve_is_held = reserve_is_held;
  by_purpose = by_purpose;
  lines_as_listed = lines_as_listed;
  rounds_are_whole = rounds_are_whole;
  owners_decide = owners_decide;
  stops_when_due = stops_when_due;
  items_in_order = items_in_order;
  book_at_rest = book_at_rest;
  cuts_as_may = cuts_as_may;
}
