use Rattle.std.proofs.Common.{◌≡◌, ◌++◌, take}
use Rattle.xrf_scenario.specs.Canonical.{text_of, clt_lines}
use Rattle.xrf_scenario.proofs.canonical.put_clt.Given as goal

-- the lines so far stand behind what was there
abbrev pub invariant-loop-place : goal.invariant-loop-place
invariant-loop-place l = l.out.items ≡ l.fn.out.items ++ text_of (clt_lines (take l.place l.clt))
