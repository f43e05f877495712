use Rattle.std.proofs.Common.{◌≡◌, ◌++◌, take}
use Rattle.xrf_scenario.specs.Canonical.{text_of}
use Rattle.xrf_set.specs.Canonical.{pairs_lines}
use Rattle.xrf_set.proofs.canonical.put_pairs.Given as goal

-- the pairs so far stand behind what was there
abbrev pub invariant-loop-scenario : goal.invariant-loop-scenario
invariant-loop-scenario l = record {
  written : l.out.items ≡ l.fn.out.items ++ text_of (pairs_lines 1 (take l.scenario-index l.scenarios));
  number : l.number ≡ l.scenario-index;
}
