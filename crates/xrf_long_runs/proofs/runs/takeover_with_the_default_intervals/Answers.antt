-- What is safe, part by part: each computes to nothing, or to equations whose sides are the same. What is promised, by tests.
use Rattle.std.proofs.Common.{refl, ◌≡◌, ◌≤◌, length, Ok, arith}
use Rattle.xrf_setup.specs.declared.ranges.TheConstants.{CHOICES_MOST, ITEMS_MOST}
use Rattle.xrf_trace.specs.Scenario.{IsScen}
use Rattle.xrf_trace.specs.Runs.{run}
use Rattle.xrf_trace.specs.OneUpdater.{OneUpdater}
use Rattle.xrf_trace.specs.OwnHand.{OwnHand}
use Rattle.xrf_trace.specs.FileIsBook.{FileIsBook}
use Rattle.xrf_trace.specs.TableIsTracked.{TableIsTracked}
use Rattle.xrf_trace.specs.StartByCause.{StartByCause}
use Rattle.xrf_trace.specs.ThroughByProof.{ThroughByProof}
use Rattle.xrf_trace.specs.SilentOnceSeen.{SilentOnceSeen}
use Rattle.xrf_trace.specs.FormatByLevel.{MeetsFormat}
use Rattle.xrf_trace.specs.Each.{Each}
use Rattle.xrf_long_runs.specs.TakeoverWithTheDefaultIntervals.{scenario, choices, trace}
use Rattle.xrf_long_runs.proofs.Formats.{AllWriteOne, formats_of_one}
use Rattle.xrf_long_runs.proofs.Promised.{Met, promised}
use Rattle.xrf_long_runs.proofs.InRanges.{within, are_in}
use Rattle.xrf_long_runs.proofs.runs.takeover_with_the_default_intervals.Goals as goal

one_updater : OneUpdater scenario trace
one_updater = assumption

own_hand : OwnHand scenario trace
own_hand = assumption

file_is_book : FileIsBook scenario trace
file_is_book = assumption

table_is_tracked : TableIsTracked scenario trace
table_is_tracked = assumption

start_by_cause : StartByCause scenario trace
start_by_cause = assumption

through_by_proof : ThroughByProof scenario trace
through_by_proof = assumption

silent_once_seen : SilentOnceSeen scenario trace
silent_once_seen = assumption

meets_format : Each (MeetsFormat scenario) trace
meets_format = assumption

one_written : AllWriteOne trace
one_written = assumption

pub returns-clause-safe : goal.returns-clause-safe
returns-clause-safe c = record {
  one_updater = one_updater;
  own_hand = own_hand;
  file_is_book = file_is_book;
  table_is_tracked = table_is_tracked;
  start_by_cause = start_by_cause;
  through_by_proof = through_by_proof;
  silent_once_seen = silent_once_seen;
  format_by_level = record { meets = meets_format; format = formats_of_one scenario refl refl trace one_written };
}

tests_met : Met scenario trace
tests_met = assumption

in_ranges : IsScen scenario
in_ranges = record {
  settings = record {
    applid_a = refl;
    applid_b = refl;
    adi = (omega arith, omega arith);
    pdi = (omega arith, omega arith);
    log = (omega arith, omega arith);
    log_units = refl;
    ring = (omega arith, omega arith);
    file = (omega arith, omega arith);
    pace = (omega arith, omega arith);
    ticks = (omega arith, omega arith);
    levels = (refl, refl, refl);
  };
  records = ((omega arith, omega arith), refl, tt);
  clt = (record { no_fault = refl; again = refl; bytes = assumption; short = omega arith }, (record { no_fault = refl; again = refl; bytes = assumption; short = omega arith }, tt));
  clt_few = omega arith;
  work_a = are_in scenario.work_a refl;
  work_a_few = within (length scenario.work_a) ITEMS_MOST refl;
  work_b = tt;
  work_b_few = omega arith;
  plan = tt;
  plan_few = omega arith;
}

runs : run scenario choices ≡ Ok trace
runs = assumption

few : length trace ≤ CHOICES_MOST
few = within (length trace) CHOICES_MOST refl

pub returns-clause-keeps : goal.returns-clause-keeps
returns-clause-keeps c = promised scenario choices trace in_ranges runs few tests_met
