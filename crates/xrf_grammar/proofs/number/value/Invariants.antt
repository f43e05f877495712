use Rattle.std.proofs.Common.{◌≡◌, ◌<◌, ◌^◌, drop}
use Rattle.xrf_grammar.specs.Numbers.{digits_behind}
use Rattle.xrf_grammar.proofs.number.value.Given as goal

-- what the text left makes of the number so far is what it makes of none, and the number has as many digits as were read
abbrev pub invariant-loop-digit : goal.invariant-loop-digit
invariant-loop-digit l = record {
  whole : digits_behind l.number (drop l.digit-index l.text) ≡ digits_behind 0 l.text;
  small : l.number < 10 ^ l.digit-index;
}
