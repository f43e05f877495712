-- the ends over a reader and a writer
use Rattle.std.specs.Prelude.{ℕ}
use Rattle.xrf_edge.specs.declared.standard.StdSource.{StdSource}
use Rattle.xrf_edge.specs.declared.standard.StdSink.{StdSink}

-- the reader that a source stands over
abbrev pub reader_of : {R : Type 0} → StdSource R → R
reader_of s = s.reader

-- how often such a source has failed
abbrev pub reader_faults : {R : Type 0} → StdSource R → ℕ
reader_faults s = s.faults

-- the writer that a sink stands over
abbrev pub writer_of : {W : Type 0} → StdSink W → W
writer_of s = s.writer

-- how often such a sink has failed
abbrev pub writer_faults : {W : Type 0} → StdSink W → ℕ
writer_faults s = s.faults
