-- What is promised: by the tests of its parts, and of how jobs act by the law of all runs.
use Rattle.std.proofs.Common.{◌≡◌, ◌≤◌, true, List, length, Ok}
use Rattle.xrf_setup.specs.declared.choice.Choice.{Choice}
use Rattle.xrf_setup.specs.declared.ranges.TheConstants.{CHOICES_MOST}
use Rattle.xrf_trace.specs.declared.entry.Entry.{Entry}
use Rattle.xrf_trace.specs.Scenario.{Scen, IsScen}
use Rattle.xrf_trace.specs.Runs.{run}
use Rattle.xrf_trace.specs.Promises.{Promises}
use Rattle.xrf_laws.proofs.EveryRun.{of_choices}
use Rattle.xrf_long_runs.proofs.OneOwnerByTests.{all_stand, all_alive, one_owner}
use Rattle.xrf_long_runs.proofs.UnitsAreItemsByTests.{all_answered, all_of_open, all_asked, units_are_items}
use Rattle.xrf_long_runs.proofs.ItemsSeeBookByTests.{all_restarted, all_read, items_see_book}
use Rattle.xrf_long_runs.proofs.TerminalsAreToldByTests.{all_told, first_told, takeovers_told, terminals_are_told}

-- each test is met
pub record Met (s : Scen) (t : List Entry) : Type 0 where
  pub stand : all_stand s t ≡ true
  pub alive : all_alive s t ≡ true
  pub answered : all_answered s t ≡ true
  pub of_open : all_of_open t ≡ true
  pub asked : all_asked s t ≡ true
  pub restarted : all_restarted s t ≡ true
  pub read : all_read s t ≡ true
  pub told : all_told s t ≡ true
  pub told_first : first_told s t ≡ true
  pub told_over : takeovers_told s t ≡ true

pub promised : (s : Scen) (choices : List Choice) (t : List Entry) → IsScen s → run s choices ≡ Ok t → length t ≤ CHOICES_MOST → Met s t → Promises s t
promised s choices t scenario runs few met = let law = (of_choices s choices t scenario runs few).1 in record {
  one_owner = one_owner s t met.stand met.alive;
  units_are_items = units_are_items s t met.answered met.of_open met.asked;
  items_see_book = items_see_book s t met.restarted met.read;
  terminals_are_told = terminals_are_told s t met.told met.told_first met.told_over;
  jobs_act = law.jobs_act;
  reserve_is_held = law.reserve_is_held;
  by_purpose = law.by_purpose;
  lines_as_listed = law.lines_as_listed;
  rounds_are_whole = law.rounds_are_whole;
  owners_decide = law.owners_decide;
  stops_when_due = law.stops_when_due;
  items_in_order = law.items_in_order;
  book_at_rest = law.book_at_rest;
  cuts_as_may = law.cuts_as_may;
}
