-- Cuts as may: only a signal is lost, only what may fail fails, and a stop cuts a write or comes between two acts.
use Rattle.std.specs.Prelude.{◌≡◌, Bool, true, List}
use Rattle.xrf_trace.specs.declared.entry.Entry.{Entry}
use Rattle.xrf_trace.specs.declared.entry.Act.{Act}
use Rattle.xrf_trace.specs.declared.entry.Act.TheVariants as act
use Rattle.xrf_trace.specs.declared.entry.Land.{Land}
use Rattle.xrf_trace.specs.declared.entry.Land.TheVariants as land
use Rattle.xrf_trace.specs.Acts.{is_signal, is_write, may_fail}
use Rattle.xrf_trace.specs.Each.{Each}

-- an act that a stop cuts, or none
abbrev pub may_stop : Act → Bool
may_stop act.NoAct = true
may_stop a = is_write a

abbrev pub MayBeCut : Land → Act → Type 0
MayBeCut land.Full a = Unit {0}
MayBeCut land.Lost a = is_signal a ≡ true
MayBeCut (land.Stop cut) a = may_stop a ≡ true
MayBeCut (land.Fail cut) a = may_fail a ≡ true

abbrev pub CutsAsMay : List Entry → Type 0
CutsAsMay t = Each (λ t e. MayBeCut e.land e.act) t
