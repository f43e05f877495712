use Rattle.std.proofs.Common.{◌≡◌, ◌≤◌, drop}
use Rattle.xrf_grammar.specs.Numbers.{value_behind}
use Rattle.xrf.proofs.drive_words.value.Given as goal

-- what the digits left make of the number so far is the number
abbrev pub invariant-loop-digit : goal.invariant-loop-digit
invariant-loop-digit l = record {
  whole : value_behind l.number (drop l.digit-index l.digits) ≡ value_behind 0 l.digits;
  fits : l.number ≤ 18446744073709551615;
}
