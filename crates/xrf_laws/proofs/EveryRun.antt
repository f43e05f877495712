-- Every run is safe and keeps the promises.
use Rattle.std.proofs.Common.{◌≡◌, ◌≤◌, List, length, Ok, IfOk, Result, subst}
use Rattle.xrf_setup.specs.declared.choice.Choice.{Choice}
use Rattle.xrf_setup.specs.declared.ranges.TheConstants.{CHOICES_MOST}
use Rattle.xrf_trace.specs.declared.entry.Entry.{Entry}
use Rattle.xrf_trace.specs.Scenario.{Scen, IsScen}
use Rattle.xrf_trace.specs.Runs.{Refusal, run, IsRun}
use Rattle.xrf_trace.specs.Safe.{Safe}
use Rattle.xrf_trace.specs.Promises.{Promises}
use Rattle.xrf_trace.specs.Laws.{RunsAreSafe}
use Rattle.xrf_trace.proofs.RunLaws.{runs_are_runs}
use Rattle.xrf_owner_law.proofs.OneUpdaterLaw as updater
use Rattle.xrf_owner_law.proofs.OwnHandLaw as hand
use Rattle.xrf_owner_law.proofs.StartLaw as start
use Rattle.xrf_owner_law.proofs.ThroughLaw as through
use Rattle.xrf_owner_law.proofs.SilenceLaw as silent
use Rattle.xrf_owner_law.proofs.FormatLaw as format
use Rattle.xrf_owner_law.proofs.KnownLaw as known
use Rattle.xrf_log_law.proofs.LogLaw as log
use Rattle.xrf_message_law.proofs.MessageLaw as message
use Rattle.xrf_conduct_law.proofs.JobsLaw as jobs
use Rattle.xrf_conduct_law.proofs.ReserveLaw as reserve
use Rattle.xrf_conduct_law.proofs.PurposeLaw as purpose
use Rattle.xrf_conduct_law.proofs.LinesLaw as lines
use Rattle.xrf_conduct_law.proofs.RoundsLaw as rounds
use Rattle.xrf_conduct_law.proofs.DecidesLaw as decides
use Rattle.xrf_conduct_law.proofs.StopsLaw as stops
use Rattle.xrf_conduct_law.proofs.ItemsLaw as items
use Rattle.xrf_conduct_law.proofs.RestLaw as rest
use Rattle.xrf_conduct_law.proofs.CutsLaw as cuts

-- each part is of the law of the owner, of the log, of the messages or of conduct
pub every-run : RunsAreSafe
every-run s t scenario is few = (
  record {
    one_updater = updater.one-updater s t is;
    own_hand = hand.own-hand s t is;
    file_is_book = log.file-is-book s t scenario is few;
    table_is_tracked = message.tables s t scenario is few;
    start_by_cause = start.start-by-cause s t is;
    through_by_proof = through.through-by-proof s t is;
    silent_once_seen = silent.silent-once-seen s t is;
    format_by_level = format.format-by-level s t is;
  },
  record {
    one_owner = known.one-owner s t is;
    units_are_items = log.units-are-items s t scenario is few;
    items_see_book = log.items-see-book s t scenario is few;
    terminals_are_told = message.terminals s t scenario is few;
    jobs_act = jobs.jobs-act s t is;
    reserve_is_held = reserve.reserve-is-held s t is;
    by_purpose = purpose.by-purpose s t is;
    lines_as_listed = lines.lines-as-listed s t is;
    rounds_are_whole = rounds.rounds-are-whole s t is;
    owners_decide = decides.owners-decide s t is;
    stops_when_due = stops.stops-when-due s t is;
    items_in_order = items.items-in-order s t scenario is few;
    book_at_rest = rest.book-at-rest s t scenario is few;
    cuts_as_may = cuts.cuts-as-may s t is;
  },
)

-- so the trace to which choices run is
pub of_choices : (s : Scen) (choices : List Choice) (t : List Entry) → IsScen s → run s choices ≡ Ok t → length t ≤ CHOICES_MOST → Safe s t × Promises s t
of_choices s choices t scenario runs few =
    let is : IfOk {E = Refusal} (Ok t) (λ t. IsRun s t × (length t ≡ length choices)) =
    subst (λ (result : Result (List Entry) Refusal). IfOk result (λ t. IsRun s t × (length t ≡ length choices))) runs (runs_are_runs s choices) in
    every-run s t scenario is.0 few
