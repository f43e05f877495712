-- What holds of every run.
use Rattle.std.specs.Prelude.{◌≡◌, ◌≤◌, ◌↔◌, IsTrue, ℕ, false, ◌&&◌, List, ◌∷◌, ◌++◌, length, take, slice_get, Some, None, IfSome, Ok, Err, IfOk}
use Rattle.xrf_setup.specs.declared.choice.Choice.{Choice}
use Rattle.xrf_setup.specs.declared.choice.Choice.TheVariants as choice
use Rattle.xrf_trace.specs.declared.entry.Entry.{Entry}
use Rattle.xrf_base.specs.declared.site.Site.{Site}
use Rattle.xrf_base.specs.declared.site.Site.TheVariants as site
use Rattle.xrf_base.specs.declared.items.UnitId.{UnitId}
use Rattle.xrf_history.specs.Events.{Event}
use Rattle.xrf_history.specs.Working.{item_answer}
use Rattle.xrf_history.specs.Next.{next}
use Rattle.xrf_history.specs.Answers.{fits, event}
use Rattle.xrf_trace.specs.Scenario.{Scen, IsScen, settings}
use Rattle.xrf_trace.specs.Landing.{is_in_full}
use Rattle.xrf_trace.specs.Jobs.{handed}
use Rattle.xrf_trace.specs.Acts.{act_of}
use Rattle.xrf_trace.specs.Handing.{answer_of}
use Rattle.xrf_trace.specs.Words.{now}
use Rattle.xrf_trace.specs.Refusals.{refusal}
use Rattle.xrf_trace.specs.Runs.{Refusal, run, IsRun}
use Rattle.xrf_trace.specs.Journal.{choices_of}
use Rattle.xrf_trace.specs.Log.{log, committed}
use Rattle.xrf_trace.specs.Items.{answer_by}
use Rattle.xrf_trace.specs.Book.{book, puts, value_of_units}
use Rattle.xrf_trace.specs.Each.{Each, After, Where, AtSite}
use Rattle.xrf_trace.specs.FileIsBook.{IsBook, IsBookAt}
use Rattle.xrf_trace.specs.OneOwner.{OneOwner, has_active}
use Rattle.xrf_trace.specs.UnitsAreItems.{UnitsAreItems}
use Rattle.xrf_trace.specs.StartByCause.{StartByCause}
use Rattle.xrf_trace.specs.StartsAsWritten.{StartsAsWritten}
use Rattle.xrf_trace.specs.Safe.{Safe}
use Rattle.xrf_trace.specs.Promises.{Promises}
use Rattle.xrf_setup.specs.declared.ranges.TheConstants.{CHOICES_MOST}

-- the trace of a run of choices is that of a run, with an entry for each choice
abbrev pub RunsAreRuns : Type 0
RunsAreRuns = (s : Scen) (cs : List Choice) → IfOk (run s cs) (λ t. IsRun s t × (length t ≡ length cs))

-- the tick of an entry is the number of TICKs up to and with it
abbrev pub TicksAreCounted : Type 0
TicksAreCounted = (s : Scen) (t : List Entry) → IsRun s t → Each (λ before e. e.tick ≡ now (e ∷ before)) t

-- TICK is always accepted
abbrev pub TickIsAccepted : Type 0
TickIsAccepted = (s : Scen) (t : List Entry) → refusal s t choice.Tick ≡ None

-- A refused choice adds nothing: where a run is refused at a place, the choices before it run to a trace, and
-- the choice at the place has that refusal there.
pub record IsFirstRefused (s : Scen) (cs : List Choice) (r : Refusal) : Type 0 where
  pub trace : List Entry
  pub refused : Choice
  pub before : run s (take r.place cs) ≡ Ok trace
  pub there : slice_get cs r.place ≡ Some refused
  pub reason : refusal s trace refused ≡ Some r.reason

abbrev pub RefusalsAreFirst : Type 0
RefusalsAreFirst = (s : Scen) (cs : List Choice) (r : Refusal) → run s cs ≡ Err r → IsFirstRefused s cs r

-- the journal of a run determines its choices
abbrev pub JournalsTell : Type 0
JournalsTell = (s : Scen) (cs : List Choice) → IfOk (run s cs) (λ t. choices_of t ≡ cs)

-- the file is the book as a list exactly where it is the book at each record
abbrev pub BooksAreAtEach : Type 0
BooksAreAtEach = (s : Scen) (t : List Entry) → IsBook s t ↔ IsBookAt s t

-- What an act hands a job is an answer that fits it, and the event in the job's history is that of the answer.
abbrev pub ActsAreAnswered : Type 0
ActsAreAnswered = (s : Scen) (t : List Entry) (x : Site) (h : List Event)
    → let w = next (settings s x) h in
    IfSome (act_of s t x h w) (λ a.
    (handed s t x (now t) h a ≡ event (settings s x) h (answer_of s t x h w))
    × IsTrue (fits (settings s x) h w (answer_of s t x h w)))

-- WHAT IS SAFE AND PROMISED COMES TO, for every trace of which it holds.
-- Of the jobs at the two sites at most one is an active.
abbrev pub ActivesAreOne : Type 0
ActivesAreOne = (s : Scen) (t : List Entry) → OneOwner s t → After (λ t. (has_active s t site.A && has_active s t site.B) ≡ false) t

-- The units that are committed stay so, in their order. A later book is the book with the puts of the units that were
-- committed since, and no others.
abbrev pub CommittedStay : Type 0
CommittedStay = (t later : List Entry) → (more : List UnitId) × (committed (log (later ++ t)) ≡ committed (log t) ++ more)

abbrev pub Grows : Scen → List Entry → Entry → Type 0
Grows s t e =
    (k : ℕ) → (more : List UnitId) × (committed (log (e ∷ t)) ≡ committed (log t) ++ more)
    × (book s (e ∷ t) k ≡ value_of_units (puts (e ∷ t)) k more (book s t k))

abbrev pub BooksGrow : Type 0
BooksGrow = (s : Scen) (t : List Entry) → UnitsAreItems s t → Each (Grows s) t

-- Where each DECIDE of a tracking alternate is by the record and its news, each START is by its cause, and where a cause
-- stands it is a START.
abbrev pub StartsAreWritten : Type 0
StartsAreWritten = (s : Scen) (t : List Entry) → StartByCause s t → StartsAsWritten s t

-- THE HEADLINE, stated here and proved above: every run of a scenario is safe and keeps the promises.
abbrev pub RunsAreSafe : Type 0
RunsAreSafe = (s : Scen) (t : List Entry) → IsScen s → IsRun s t → length t ≤ CHOICES_MOST → Safe s t × Promises s t

-- Stated here and proved above too: an act that is made in full answers the item at hand as its job has it.
abbrev pub AnswersAlike : Scen → List Entry → Entry → Type 0
AnswersAlike s t e =
    Where (is_in_full e.land)
    (AtSite s t e.who (λ x h. answer_by s t x e.act ≡ item_answer (settings s x) (handed s t x e.tick h e.act ∷ h)))

abbrev pub JobsAnswerAlike : Type 0
JobsAnswerAlike = (s : Scen) (t : List Entry) → IsScen s → IsRun s t → length t ≤ CHOICES_MOST → Each (AnswersAlike s) t
