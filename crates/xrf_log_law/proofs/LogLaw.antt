-- The law of the log, from the invariant of every run.
use Rattle.std.proofs.Common.{List, [], arith, length, map, subst, sym, ◌≡◌, ◌∙◌, ap, ℕ}
use Rattle.xrf_log.specs.Flight.{flight, open_puts}
use Rattle.xrf_log.specs.declared.taken.Row.{Row}
use Rattle.xrf_file.specs.declared.rows.LoggedPut.{LoggedPut}
use Rattle.xrf_trace.specs.declared.entry.Entry.{Entry}
use Rattle.xrf_trace.specs.Devices.{image, key_slot}
use Rattle.xrf_trace.specs.Each.{AtSite}
use Rattle.xrf_trace.specs.FileIsBook.{RestartsAtBook, FileIsBook}
use Rattle.xrf_trace.specs.UnitsAreItems.{AnswersMean, UnitsAreItems}
use Rattle.xrf_trace.specs.Log.{log, start}
use Rattle.xrf_trace.specs.Scenario.{Scen, first_value}
use Rattle.xrf_trace.proofs.ByKind.{by_kind}
use Rattle.xrf_trace.proofs.Steps.{Step}
use Rattle.xrf_trace.proofs.ScenarioLaws.{in_ranges}
use Rattle.xrf_log_law.specs.Invariant.{Invariant}
use Rattle.xrf_owner_law.specs.Laws.{OfRuns}
use Rattle.xrf_owner_law.proofs.DecisionLaw.{items-wait}
use Rattle.xrf_log_law.specs.DataSets.{DataSetsStand}
use Rattle.xrf_log_law.specs.Agreement.{LedgersAgree}
use Rattle.xrf_trace.specs.Laws.{AnswersAlike, JobsAnswerAlike}
use Rattle.xrf_log_law.specs.Jobs.{Stands}
use Rattle.xrf_log_law.specs.State.{State, booked, key_number, view}
use Rattle.xrf_log_law.specs.BeforeImages.{undo_at}
use Rattle.xrf_log_law.proofs.InvariantLaw.{all-ended, always, each-entry, each-part}
use Rattle.xrf_log_law.proofs.Counts.{log-count}
use Rattle.xrf_log_law.proofs.EndsLaw.{EndedBy, answer-means}
use Rattle.xrf_log_law.proofs.LedgerLaws.{open-rows}
use Rattle.xrf_log_law.proofs.PromiseEntries.{Facts, facts, ledgers-are}
use Rattle.xrf_log_law.proofs.InvariantEntries.{kept-kinds}
use Rattle.xrf_log_law.proofs.LedgerSteps.{no-rows}
use Rattle.xrf_log_law.proofs.InvariantActs.{Kept, book-at}
use Rattle.xrf_log_law.proofs.ConditionEntries.{EntryConditions, go-kinds}
use Rattle.xrf_trace.specs.ItemsSeeBook.{ItemsSeeBook}
use Rattle.xrf_log_law.specs.Conditions.{AnchorIsSmall, IsSmall, WorldConditions}
use Rattle.xrf_log_law.proofs.KeyWrites.{anchor}

-- at each RESTARTED the file is the book
restarts : (s : Scen) (t : List Entry) (e : Entry) → Invariant s t → Step s t e → RestartsAtBook s t e
restarts s t e k step = (by_kind s t e (λ e. Kept s t e) step (kept-kinds s t k)).book

-- of each run
pub file-is-book : OfRuns FileIsBook
file-is-book s t scen is few = each-entry s (RestartsAtBook s) (restarts s) t (in_ranges s scen) is few

-- units are items
pub units-are-items : OfRuns UnitsAreItems
units-are-items s t scen is few =
    let all = each-entry s (Facts s) (facts s) t (in_ranges s scen) is few in
    record {
      answers =
          each-part (λ before e. AtSite s before e.who (λ x h. EndedBy s t before e x))
          (λ before e. AtSite s before e.who (λ x h. AnswersMean s (log t) before e x)) t
          (answer-means s t) (all-ended s t (in_ranges s scen) is few);
      once = each-part (Facts s) _ t (λ t e facts. facts.once) all;
      asked = each-part (Facts s) _ t (λ t e facts. facts.asked) all;
    }

-- items see the book
pub items-see-book : OfRuns ItemsSeeBook
items-see-book s t scen is few =
    let all = each-entry s (Facts s) (facts s) t (in_ranges s scen) is few in
    record {
      restarted = items-wait s t is;
      reads = each-part (Facts s) _ t (λ t e facts. facts.reads) all;
    }

-- where no unit is in flight there is nothing to undo
none-undone : (s : Scen) (t : List Entry) → State s.settings.log (first_value s) (view s t) → flight (log t) ≡ [] → (r : ℕ)
    → image s t r ≡ booked (first_value s) (view s t) r
none-undone s t state none r =
    let rows : open_puts (log t) ≡ [] = sym (open-rows (log t))
    ∙ ap (map (λ (q : LoggedPut). record { unit = q.unit; undo = q.undo })) (no-rows (log t) none) in
    sym (undone-by rows) ∙ state.undone.back r
  where
    undone-by : open_puts (log t) ≡ [] → undo_at r (map (λ row. row.undo) (open_puts (log t))) (image s t r) ≡ image s t r
    undone-by rows = ap (λ (l : List Row). undo_at r (map (λ row. row.undo) l) (image s t r)) rows

-- what the data sets hold
pub data-sets-stand : OfRuns DataSetsStand
data-sets-stand s t scen is few =
    let state = (always s t (in_ranges s scen) is few).stands.state in
    record {
      book = λ none. book-at s t (none-undone s t state none);
      within = state.within;
      room = state.room;
      count = log-count t;
      slots = state.log.last;
      keys = state.keys;
    }

-- what the steps of a world ask
goes : (s : Scen) (t : List Entry) (e : Entry) → Invariant s t → Step s t e → EntryConditions s t e
goes s t e k step = by_kind s t e (λ e. EntryConditions s t e) step (go-kinds s t k)

-- the anchor is the keypoint in force
anchor-small : (s : Scen) (t : List Entry) → Stands s t → AnchorIsSmall t
anchor-small s t stands =
    subst (IsSmall (length t)) (sym (anchor (key_number t) (start t) (key_slot t) stands.state.keys_whole stands.state.keys))
    (stands.counted, omega (arith, stands.state.within, log-count t))

-- so of each run
pub conditions-are-met : OfRuns WorldConditions
conditions-are-met s t scen is few =
    let all = each-entry s (EntryConditions s) (goes s) t (in_ranges s scen) is few in
    record {
      within = each-part (EntryConditions s) _ t (λ t e goes. goes.within) all;
      torn = each-part (EntryConditions s) _ t (λ t e goes. goes.torn) all;
      written = each-part (EntryConditions s) _ t (λ t e goes. goes.written) all;
      reads = each-part (EntryConditions s) _ t (λ t e goes. goes.reads) all;
      scans = (always s t (in_ranges s scen) is few).scans;
      keys = (always s t (in_ranges s scen) is few).keys;
      anchor = anchor-small s t (always s t (in_ranges s scen) is few).stands;
    }

-- the trace answers as the jobs do
pub jobs-answer-alike : JobsAnswerAlike
jobs-answer-alike s t scen is few =
    each-part (Facts s) (AnswersAlike s) t (λ t e facts. facts.same) (each-entry s (Facts s) (facts s) t (in_ranges s scen) is few)

-- and has their ledgers
pub ledgers-agree : OfRuns LedgersAgree
ledgers-agree s t scen is few = let k = always s t (in_ranges s scen) is few in λ x. ledgers-are s t x k.stands k.serves
