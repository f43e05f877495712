use Rattle.std.proofs.Common.{◌≡◌, ◌++◌, take}
use Rattle.xrf_scenario.specs.Canonical.{text_of, record_lines}
use Rattle.xrf_scenario.proofs.canonical.put_records.Given as goal

-- the lines so far stand behind what was there
abbrev pub invariant-loop-number : goal.invariant-loop-number
invariant-loop-number l = l.out.items ≡ l.fn.out.items ++ text_of (record_lines (take l.number-index l.records))
