-- What `drive` answers, and what it has written then.
use Rattle.std.specs.Prelude.{◌≡◌, ℕ, List}
use Rattle.std.specs.Io.KnownBytes.{Appends}
use Rattle.xrf_edge.specs.Ends.{End, AppendsPrefix}
use Rattle.xrf_edge.specs.Faults.{HasRisen}
use Rattle.xrf_trace.specs.declared.entry.Entry.{Entry}
use Rattle.xrf_drive.specs.Drawn.{IsGenerated}
use Rattle.xrf_report.specs.Summary.{summary_text}
use Rattle.xrf.specs.declared.drive_words.Asked.{Asked}
use Rattle.xrf.specs.declared.status.Status.{Status}
use Rattle.xrf.specs.declared.status.Status.TheVariants.{Done, Refused, Usage, ReadFault, WriteFault, NoMemory}

-- THE HEADLINE of a generated run: its choices are those that are drawn from the seed, one for each turn, they are a run of
-- the generated scenario, its trace is safe and keeps the promises, and the text is its summary.
pub record IsSummary (asked : Asked) (text : List ℕ) : Type 0 where
  pub trace : List Entry
  pub is : IsGenerated asked.seed asked.turns trace
  pub summary : text ≡ summary_text asked.seed asked.turns trace

-- The sink has grown by the summary.
pub record Sums (asked : Asked) (sink sink' : End) : Type 0 where
  pub text : List ℕ
  pub is : IsSummary asked text
  pub grown : Appends sink.bytes sink'.bytes text

-- The sink's count of faults has risen, and it has grown by a front of the summary.
pub record FailsSumming (asked : Asked) (sink sink' : End) : Type 0 where
  pub cause : HasRisen sink.faults sink'.faults
  pub text : List ℕ
  pub is : IsSummary asked text
  pub grown : AppendsPrefix sink.bytes sink'.bytes text

-- The answer to `drive`, over the sink before and after the call.
abbrev pub Driven : Asked → End → End → Status → Type 0
Driven asked sink sink' Done = Sums asked sink sink'
Driven asked sink sink' Refused = ⊥
Driven asked sink sink' Usage = ⊥
Driven asked sink sink' ReadFault = ⊥
Driven asked sink sink' WriteFault = FailsSumming asked sink sink'
Driven asked sink sink' NoMemory = sink' ≡ sink
