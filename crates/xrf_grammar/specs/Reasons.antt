-- The order of the reasons.
use Rattle.std.specs.Prelude.{ℕ, nat_lt, Option, Some, None, if◌then◌else◌}
use Rattle.xrf_grammar.specs.declared.reason.Reason.{Reason}
use Rattle.xrf_grammar.specs.declared.reason.Reason.TheVariants.{TooLarge, BadByte, LongLine, NoHeader, BadFormat, ChoicesGiven, AfterEnd, UnknownWord, WordCount, BadSite, BadNumber, OutOfRange, BadName, BadValue, BadHex, BadOption, BadItem, BadCebt, BadPlan, PlanOrder, Twice, TooMany, RrnRange, NoEnd}

abbrev pub rank : Reason → ℕ
rank TooLarge = 0
rank BadByte = 1
rank LongLine = 2
rank NoHeader = 3
rank BadFormat = 4
rank ChoicesGiven = 5
rank AfterEnd = 6
rank UnknownWord = 7
rank WordCount = 8
rank BadSite = 9
rank BadNumber = 10
rank OutOfRange = 11
rank BadName = 12
rank BadValue = 13
rank BadHex = 14
rank BadOption = 15
rank BadItem = 16
rank BadCebt = 17
rank BadPlan = 18
rank PlanOrder = 19
rank Twice = 20
rank TooMany = 21
rank RrnRange = 22
rank NoEnd = 23

-- of two reasons that may be there, the one that comes first in the order
abbrev pub earlier : Option Reason → Option Reason → Option Reason
earlier None other = other
earlier (Some one) None = Some one
earlier (Some one) (Some other) = if nat_lt (rank other) (rank one) then Some other else Some one
