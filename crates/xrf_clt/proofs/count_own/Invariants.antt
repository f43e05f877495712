use Rattle.std.proofs.Common.{◌≡◌, ◌+◌, ◌≤◌, length, drop}
use Rattle.xrf_clt.specs.Kept.{own_entries}
use Rattle.xrf_clt.proofs.count_own.Given as goal

abbrev pub invariant-loop-entry : goal.invariant-loop-entry
invariant-loop-entry l =
    (l.count + length (own_entries l.applid (drop l.entry-index l.entries)) ≡ length (own_entries l.applid l.entries))
    × (l.count ≤ l.entry-index)
