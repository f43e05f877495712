use Rattle.std.proofs.Common.{◌≡◌, ◌++◌, map, take}
use Rattle.xrf_scenario.specs.Canonical.{text_of}
use Rattle.xrf_set.specs.Canonical.{set_line_text}
use Rattle.xrf_set.proofs.canonical.put_lines.Given as goal

-- the lines so far stand behind what was there
abbrev pub invariant-loop-line : goal.invariant-loop-line
invariant-loop-line l = l.out.items ≡ l.fn.out.items ++ text_of (map set_line_text (take l.line-index l.lines))
