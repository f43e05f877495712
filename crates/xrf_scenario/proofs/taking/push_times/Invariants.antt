use Rattle.std.proofs.Common.{◌≡◌, ◌++◌, replicate}
use Rattle.xrf_scenario.proofs.taking.push_times.Given as goal

-- as many copies as were counted
abbrev pub invariant-loop-copies : goal.invariant-loop-copies
invariant-loop-copies g l = l.items.items ≡ l.fn.items.items ++ replicate l.copies l.item
