use Rattle.std.proofs.Common.{◌≡◌, ◌++◌, take}
use Rattle.xrf_scenario.specs.Canonical.{text_of, plan_lines}
use Rattle.xrf_scenario.proofs.canonical.put_plan.Given as goal

-- the lines so far stand behind what was there
abbrev pub invariant-loop-tick : goal.invariant-loop-tick
invariant-loop-tick l = l.out.items ≡ l.fn.out.items ++ text_of (plan_lines (take l.tick-index l.plan))
