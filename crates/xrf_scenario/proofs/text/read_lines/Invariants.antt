use Rattle.std.proofs.Common.{◌≡◌, ◌≤◌, ◌+◌, length}
use Rattle.xrf_scenario.specs.Lines.{text_lines}
use Rattle.xrf_scenario.specs.Machine.{read_whole, read_on}
use Rattle.xrf_scenario.proofs.text.read_lines.Given as goal

-- reading on with the lines that are left is reading the whole; each line has a byte at least
abbrev pub invariant-lines : goal.invariant-lines
invariant-lines l = record {
  whole : read_on l.reading l.count (text_lines l.rest) ≡ read_whole l.fn.text;
  few : l.count + length l.rest ≤ length l.fn.text;
}

abbrev pub decreases-lines : goal.decreases-lines
decreases-lines l = length l.rest
