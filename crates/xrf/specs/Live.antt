-- What is answered to `run`, and what is written then.
use Rattle.std.specs.Prelude.{◌≡◌, ◌⊎◌, ℕ, ◌≤◌, ◌<◌, Bool, false, List, [], ◌∷◌, codes, length, nat_eq, reverse, Some, IfSome, Ok, String, string_bytes}
use Rattle.std.specs.Cmp.Lexicographic.{pointwise}
use Rattle.std.specs.Global.{Global}
use Rattle.std.specs.Io.KnownBytes.{Appends}
use Rattle.xrf_edge.specs.Ends.{End, AppendsPrefix}
use Rattle.xrf_edge.specs.Faults.{HasRisen}
use Rattle.xrf_exit.specs.declared.ExitAnswer.{ExitAnswer}
use Rattle.xrf_grammar.specs.declared.reason.Reason.TheVariants.{TooLarge, ChoicesGiven}
use Rattle.xrf_setup.specs.Scenario.{Scen}
use Rattle.xrf_setup.specs.declared.choice.Choice.{Choice}
use Rattle.xrf_setup.specs.declared.ranges.TheConstants.{INPUT_MOST}
use Rattle.xrf_scenario.specs.Reading.{Reads, HasBad}
use Rattle.xrf_scenario.specs.declared.numbered.Numbered.{Numbered}
use Rattle.xrf_trace.specs.declared.entry.Entry.{Entry}
use Rattle.xrf_trace.specs.Runs.{run}
use Rattle.xrf_trace.specs.Safe.{Safe}
use Rattle.xrf_trace.specs.Promises.{Promises}
use Rattle.xrf_report.specs.Document.{doc}
use Rattle.xrf_run.specs.Threaded.{IsThreadedRun}
use Rattle.xrf.specs.Made.{IsDocument}
use Rattle.xrf.specs.Refusals.{refusal_line}
use Rattle.xrf.specs.declared.made.Made.{Made}
use Rattle.xrf.specs.declared.made.Made.TheVariants.{Document, Refusal, NoMemory as Nothing}
use Rattle.xrf.specs.declared.refusal.Reason.{Reason}
use Rattle.xrf.specs.declared.refusal.Reason.TheVariants.{Grammar, Choosing}
use Rattle.xrf.specs.declared.status.Status.{Status}
use Rattle.xrf.specs.declared.status.Status.TheVariants.{Done, Refused, Usage, ReadFault, WriteFault, NoMemory}

-- exactly the word `run`
abbrev pub is_run_word : List (String Global) → Bool
is_run_word [] = false
is_run_word (word ∷ []) = pointwise nat_eq (string_bytes word) (codes "run")
is_run_word (word ∷ next ∷ words) = false

-- THE THREADED RUN of an input: its bytes spell a scenario without a choice, some choices are a threaded run of it from its
-- beginning to its end, with answers that the exit may give, its trace is safe and keeps the promises, and the text is the
-- document of the scenario and these choices.
pub record IsThreadedDocument (may : ExitAnswer → Type 0) (bytes text : List ℕ) : Type 0 where
  pub scenario : Scen
  pub size : length bytes ≤ INPUT_MOST
  pub reads : Reads bytes scenario []
  pub choices : List Choice
  pub trace : List Entry
  pub is_run : run scenario choices ≡ Ok trace
  pub threaded : IsThreadedRun scenario may trace (reverse choices)
  pub safe : Safe scenario trace
  pub keeps : Promises scenario trace
  pub document : text ≡ doc scenario choices

-- The input spells a scenario with choices, the first of them at this line.
pub record HasChoice (bytes : List ℕ) (number : ℕ) : Type 0 where
  pub scenario : Scen
  pub first : Numbered
  pub others : List Numbered
  pub reads : Reads bytes scenario (first ∷ others)
  pub line : number ≡ first.line

-- The input is refused at a line for a reason: it is too large, which is answered at line 0; or else its grammar is bad first
-- there; or else its first choice stands there.
abbrev pub IsThreadedRefusal : List ℕ → ℕ → Reason → Type 0
IsThreadedRefusal bytes number (Grammar reason) =
    ((INPUT_MOST < length bytes) × (number ≡ 0) × (reason ≡ TooLarge))
    ⊎ ((length bytes ≤ INPUT_MOST) × (HasBad bytes number reason ⊎ ((reason ≡ ChoicesGiven) × HasChoice bytes number)))
IsThreadedRefusal bytes number (Choosing reason) = ⊥

-- What is made of an input is the document of a threaded run, which a replay writes again; or its refusal, unless memory
-- runs out.
abbrev pub IsThreadedMade : (may : ExitAnswer → Type 0) → List ℕ → Made → Type 0
IsThreadedMade may bytes (Document text) = IsThreadedDocument may bytes text.items × IsDocument text.items text.items
IsThreadedMade may bytes (Refusal number reason) = IsThreadedRefusal bytes number reason
IsThreadedMade may bytes Nothing = Unit {0}

-- The sink has grown by the document of a threaded run of the input, which was read to its end. As an input of `replay` it
-- has itself as its document.
pub record WritesThreaded (may : ExitAnswer → Type 0) (bytes : List ℕ) (source' : End) (sink sink' : End) : Type 0 where
  pub text : List ℕ
  pub is : IsThreadedDocument may bytes text
  pub again : IsDocument text text
  pub read : source'.bytes ≡ Some []
  pub grown : Appends sink.bytes sink'.bytes text

-- The sink has grown by the refusal of the input.
pub record RefusesThreaded (bytes : List ℕ) (sink sink' : End) : Type 0 where
  pub number : ℕ
  pub reason : Reason
  pub is : IsThreadedRefusal bytes number reason
  pub grown : Appends sink.bytes sink'.bytes (refusal_line number reason)

-- what is to be written of an input
abbrev pub IsThreadedText : (may : ExitAnswer → Type 0) → List ℕ → List ℕ → Type 0
IsThreadedText may bytes text = IsThreadedDocument may bytes text ⊎ ((number : ℕ) × (reason : Reason) × IsThreadedRefusal bytes number reason × (text ≡ refusal_line number reason))

-- The sink's count of faults has risen, and it has grown by a front of what was to be written of the input.
pub record FailsThreaded (may : ExitAnswer → Type 0) (source : End) (sink sink' : End) : Type 0 where
  pub cause : HasRisen sink.faults sink'.faults
  pub text : List ℕ
  pub is : IfSome source.bytes (λ bytes. IsThreadedText may bytes text)
  pub grown : AppendsPrefix sink.bytes sink'.bytes text

-- The answer to `run`, over the ends before and after the call. A source that tells no bytes leaves open which input it was.
abbrev pub Lived : (may : ExitAnswer → Type 0) → End → End → End → End → Status → Type 0
Lived may source source' sink sink' Done = IfSome source.bytes (λ bytes. WritesThreaded may bytes source' sink sink')
Lived may source source' sink sink' Refused = IfSome source.bytes (λ bytes. RefusesThreaded bytes sink sink')
Lived may source source' sink sink' Usage = ⊥
Lived may source source' sink sink' ReadFault = HasRisen source.faults source'.faults × (sink' ≡ sink)
Lived may source source' sink sink' WriteFault = FailsThreaded may source sink sink'
Lived may source source' sink sink' NoMemory = sink' ≡ sink

-- Without a fault of source and sink, an input that spells a scenario without a choice is answered Done, and one that has a
-- refusal Refused; or the answer is want of memory.
pub record LivesThrough (source source' sink sink' : End) (status : Status) : Type 0 where
  pub scenario : (bytes : List ℕ) (s : Scen) → source.bytes ≡ Some bytes → length bytes ≤ INPUT_MOST → Reads bytes s []
      → ¬ HasRisen source.faults source'.faults → ¬ HasRisen sink.faults sink'.faults → (status ≡ Done) ⊎ (status ≡ NoMemory)
  pub refusal : (bytes : List ℕ) (number : ℕ) (reason : Reason) → source.bytes ≡ Some bytes → IsThreadedRefusal bytes number reason
      → ¬ HasRisen source.faults source'.faults → ¬ HasRisen sink.faults sink'.faults → (status ≡ Refused) ⊎ (status ≡ NoMemory)
