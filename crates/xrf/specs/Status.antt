-- The numbers with which the process ends.
use Rattle.std.specs.Prelude.{ℕ}
use Rattle.xrf.specs.declared.status.Status.{Status}
use Rattle.xrf.specs.declared.status.Status.TheVariants.{Done, Refused, Usage, ReadFault, WriteFault, NoMemory}

abbrev pub code_of : Status → ℕ
code_of Done = 0
code_of Refused = 8
code_of Usage = 12
code_of ReadFault = 16
code_of WriteFault = 20
code_of NoMemory = 24
