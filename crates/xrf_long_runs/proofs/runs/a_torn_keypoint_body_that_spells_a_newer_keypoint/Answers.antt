-- What is safe, part by part: each computes to nothing, or to equations whose sides are the same. What is promised, by tests.
use Rattle.std.proofs.Common.{refl, take, drop, ◌≡◌, ◌≤◌, length, Ok, arith}
use Rattle.xrf_setup.specs.declared.ranges.TheConstants.{CHOICES_MOST, ITEMS_MOST}
use Rattle.xrf_base.specs.declared.site.Site.TheVariants as site
use Rattle.xrf_ctl.specs.declared.parts.OwnerState.TheVariants as state
use Rattle.xrf_trace.specs.Scenario.{IsScen}
use Rattle.xrf_trace.specs.Runs.{run}
use Rattle.xrf_trace.specs.OneUpdater.{UpdatesAsOwner, CountsByGrants, GrantsNext, GrantsPlace}
use Rattle.xrf_trace.specs.OwnHand.{OwnHand}
use Rattle.xrf_trace.specs.FileIsBook.{FileIsBook}
use Rattle.xrf_trace.specs.TableIsTracked.{TableIsTracked}
use Rattle.xrf_trace.specs.StartByCause.{StartByCause}
use Rattle.xrf_trace.specs.ThroughByProof.{ThroughByProof}
use Rattle.xrf_trace.specs.FormatByLevel.{MeetsFormat}
use Rattle.xrf_trace.specs.Each.{Each}
use Rattle.xrf_examples.specs.Making.{owner_of}
use Rattle.xrf_long_runs.specs.ATornKeypointBodyThatSpellsANewerKeypoint.{scenario, choices, trace}
use Rattle.xrf_long_runs.proofs.Formats.{AllWriteOne, formats_of_one}
use Rattle.xrf_long_runs.proofs.Updates.{AllBy, updates_over}
use Rattle.xrf_long_runs.proofs.Silent.{AllBringNone, silent_throughout}
use Rattle.xrf_long_runs.proofs.Promised.{Met, promised}
use Rattle.xrf_long_runs.proofs.InRanges.{within, are_in}
use Rattle.xrf_long_runs.proofs.runs.a_torn_keypoint_body_that_spells_a_newer_keypoint.Goals as goal

-- the first job from its sign-on to its stop, and the second from its sign-on on
signed_on : Each UpdatesAsOwner (drop 522 trace)
signed_on = assumption

working : AllBy (owner_of 1 site.A state.Running) (take 508 (drop 14 trace))
working = assumption

first_updates : Each UpdatesAsOwner (drop 14 trace)
first_updates = updates_over (owner_of 1 site.A state.Running) (take 508 (drop 14 trace)) (drop 522 trace) refl signed_on working

restarting : AllBy (owner_of 2 site.A state.Running) (take 13 trace)
restarting = assumption

updates : Each UpdatesAsOwner trace
updates = updates_over (owner_of 2 site.A state.Running) (take 13 trace) (drop 13 trace) refl (first_updates, tt) restarting

counts : Each (CountsByGrants scenario) trace
counts = assumption

grants : Each (GrantsNext scenario) trace
grants = assumption

places : Each (GrantsPlace scenario) trace
places = assumption

own_hand : OwnHand scenario trace
own_hand = assumption

file_is_book : FileIsBook scenario trace
file_is_book = assumption

table_is_tracked : TableIsTracked scenario trace
table_is_tracked = assumption

start_by_cause : StartByCause scenario trace
start_by_cause = assumption

through_by_proof : ThroughByProof scenario trace
through_by_proof = assumption

none_brought : AllBringNone trace
none_brought = assumption

one_written : AllWriteOne trace
one_written = assumption

meets_format : Each (MeetsFormat scenario) trace
meets_format = assumption

pub returns-clause-safe : goal.returns-clause-safe
returns-clause-safe c = record {
  one_updater = record { updates = updates; counts = counts; grants = grants; places = places };
  own_hand = own_hand;
  file_is_book = file_is_book;
  table_is_tracked = table_is_tracked;
  start_by_cause = start_by_cause;
  through_by_proof = through_by_proof;
  silent_once_seen = silent_throughout scenario trace none_brought;
  format_by_level = record { meets = meets_format; format = formats_of_one scenario refl refl trace one_written };
}

tests_met : Met scenario trace
tests_met = assumption

in_ranges : IsScen scenario
in_ranges = record {
  settings = record {
    applid_a = refl;
    applid_b = refl;
    adi = (omega arith, omega arith);
    pdi = (omega arith, omega arith);
    log = (omega arith, omega arith);
    log_units = refl;
    ring = (omega arith, omega arith);
    file = (omega arith, omega arith);
    pace = (omega arith, omega arith);
    ticks = (omega arith, omega arith);
    levels = (refl, refl, refl);
  };
  records = tt;
  clt = tt;
  clt_few = omega arith;
  work_a = are_in scenario.work_a refl;
  work_a_few = within (length scenario.work_a) ITEMS_MOST refl;
  work_b = tt;
  work_b_few = omega arith;
  plan = tt;
  plan_few = omega arith;
}

runs : run scenario choices ≡ Ok trace
runs = assumption

few : length trace ≤ CHOICES_MOST
few = within (length trace) CHOICES_MOST refl

pub returns-clause-keeps : goal.returns-clause-keeps
returns-clause-keeps c = promised scenario choices trace in_ranges runs few tests_met
