-- What the top call answers, and what it has written then.
use Rattle.std.specs.Prelude.{◌≡◌, ◌⊎◌, ℕ, true, false, List, [], Option, Some, None, IfSome, MatchBool, String}
use Rattle.std.specs.Global.{Global}
use Rattle.std.specs.Io.KnownBytes.{Appends}
use Rattle.xrf_edge.specs.Ends.{End, AppendsPrefix}
use Rattle.xrf_edge.specs.Faults.{HasRisen}
use Rattle.xrf.specs.Words.{is_replay, usage_line}
use Rattle.xrf.specs.DriveWords.{drive_asked}
use Rattle.xrf.specs.Driven.{Driven}
use Rattle.xrf.specs.declared.drive_words.Asked.{Asked}
use Rattle.xrf.specs.Refusals.{IsRefusal, refusal_line}
use Rattle.xrf.specs.Made.{IsDocument}
use Rattle.xrf.specs.declared.made.Made.{Made}
use Rattle.xrf.specs.declared.made.Made.TheVariants.{Document, Refusal, NoMemory as Nothing}
use Rattle.xrf.specs.declared.refusal.Reason.{Reason}
use Rattle.xrf.specs.declared.status.Status.{Status}
use Rattle.xrf.specs.declared.status.Status.TheVariants.{Done, Refused, Usage, ReadFault, WriteFault, NoMemory}

-- A text is written whole, and a status answered; or the sink's count has risen, and a front of it is written.
abbrev pub WritesText : End → End → List ℕ → Status → Status → Type 0
WritesText sink sink' text status result = ((result ≡ status) × Appends sink.bytes sink'.bytes text) ⊎ ((result ≡ WriteFault) × HasRisen sink.faults sink'.faults × AppendsPrefix sink.bytes sink'.bytes text)

-- The sink has grown by the document of the input, which was read to its end. A document replays to
-- itself: as an input it has the same document.
pub record Writes (bytes : List ℕ) (source' : End) (sink sink' : End) : Type 0 where
  pub text : List ℕ
  pub is : IsDocument bytes text
  pub again : IsDocument text text
  pub read : source'.bytes ≡ Some []
  pub grown : Appends sink.bytes sink'.bytes text

-- The sink has grown by the refusal of the input.
pub record Refuses (bytes : List ℕ) (sink sink' : End) : Type 0 where
  pub number : ℕ
  pub reason : Reason
  pub is : IsRefusal bytes number reason
  pub grown : Appends sink.bytes sink'.bytes (refusal_line number reason)

-- what is to be written of an input
abbrev pub IsText : List ℕ → List ℕ → Type 0
IsText bytes text = IsDocument bytes text ⊎ ((number : ℕ) × (reason : Reason) × IsRefusal bytes number reason × (text ≡ refusal_line number reason))

-- The sink's count of faults has risen, and it has grown by a front of what was to be written of the input.
pub record FailsWriting (source : End) (sink sink' : End) : Type 0 where
  pub cause : HasRisen sink.faults sink'.faults
  pub text : List ℕ
  pub is : IfSome source.bytes (λ bytes. IsText bytes text)
  pub grown : AppendsPrefix sink.bytes sink'.bytes text

-- The answer to `replay`, over the ends before and after the call. A source that tells no bytes
-- leaves open which input it was.
abbrev pub Replayed : End → End → End → End → Status → Type 0
Replayed source source' sink sink' Done = IfSome source.bytes (λ bytes. Writes bytes source' sink sink')
Replayed source source' sink sink' Refused = IfSome source.bytes (λ bytes. Refuses bytes sink sink')
Replayed source source' sink sink' Usage = ⊥
Replayed source source' sink sink' ReadFault = HasRisen source.faults source'.faults × (sink' ≡ sink)
Replayed source source' sink sink' WriteFault = FailsWriting source sink sink'
Replayed source source' sink sink' NoMemory = sink' ≡ sink

-- The answer to words that are none of the stated forms: the source is left as it was.
abbrev pub GivesUsage : End → End → End → End → Status → Type 0
GivesUsage source source' sink sink' status = (source' ≡ source) × WritesText sink sink' usage_line Usage status

-- The answer to words other than `replay`: to `drive` the summary of the generated run, and the source is left as it was; to all
-- others the usage.
abbrev pub Unread : Option Asked → End → End → End → End → Status → Type 0
Unread (Some asked) source source' sink sink' status = (source' ≡ source) × Driven asked sink sink' status
Unread None source source' sink sink' status = GivesUsage source source' sink sink' status

abbrev pub Answered : List (String Global) → End → End → End → End → Status → Type 0
Answered words source source' sink sink' status =
    MatchBool (is_replay words) (Replayed source source' sink sink' status) (Unread (drive_asked words) source source' sink sink' status)

-- a refusal is written, unless there is no memory for its text
abbrev pub Refusing : End → End → ℕ → Reason → Status → Type 0
Refusing sink sink' number reason status = ((status ≡ NoMemory) × (sink' ≡ sink)) ⊎ WritesText sink sink' (refusal_line number reason) Refused status

-- what is made of an input is written
abbrev pub WritesMade : End → End → Made → Status → Type 0
WritesMade sink sink' (Document text) status = WritesText sink sink' text.items Done status
WritesMade sink sink' (Refusal number reason) status = Refusing sink sink' number reason status
WritesMade sink sink' Nothing status = (status ≡ NoMemory) × (sink' ≡ sink)

-- An input has at most one document, at most one refusal, and never both.
abbrev pub OneText : Type 0
OneText = (bytes text text' : List ℕ) → IsDocument bytes text → IsDocument bytes text' → text ≡ text'

abbrev pub OneRefusal : Type 0
OneRefusal = (bytes : List ℕ) (number number' : ℕ) (reason reason' : Reason) → IsRefusal bytes number reason → IsRefusal bytes number' reason' → (number ≡ number') × (reason ≡ reason')

abbrev pub NeverRefused : Type 0
NeverRefused = (bytes text : List ℕ) (number : ℕ) (reason : Reason) → IsDocument bytes text → IsRefusal bytes number reason → ⊥

-- Each input has one of them.
abbrev pub HasOne : List ℕ → Type 0
HasOne bytes = ((text : List ℕ) × IsDocument bytes text) ⊎ ((number : ℕ) × ((reason : Reason) × IsRefusal bytes number reason))

abbrev pub HasAnswer : Type 0
HasAnswer = (bytes : List ℕ) → HasOne bytes

-- Without a fault of source and sink, `replay` of an input that has a document is answered Done, and of one that has a refusal
-- Refused; `drive` is answered Done, and other words Usage; or the answer is want of memory.
abbrev pub IsOr : Status → Status → Type 0
IsOr wanted status = (status ≡ wanted) ⊎ (status ≡ NoMemory)

pub record Complete (words : List (String Global)) (source source' sink sink' : End) (status : Status) : Type 0 where
  pub document : (bytes text : List ℕ) → is_replay words ≡ true → source.bytes ≡ Some bytes → IsDocument bytes text
      → ¬ HasRisen source.faults source'.faults → ¬ HasRisen sink.faults sink'.faults → IsOr Done status
  pub refusal : (bytes : List ℕ) (number : ℕ) (reason : Reason) → is_replay words ≡ true → source.bytes ≡ Some bytes → IsRefusal bytes number reason
      → ¬ HasRisen source.faults source'.faults → ¬ HasRisen sink.faults sink'.faults → IsOr Refused status
  pub drive : (asked : Asked) → is_replay words ≡ false → drive_asked words ≡ Some asked → ¬ HasRisen sink.faults sink'.faults → IsOr Done status
  pub usage : is_replay words ≡ false → drive_asked words ≡ None → ¬ HasRisen sink.faults sink'.faults → status ≡ Usage
