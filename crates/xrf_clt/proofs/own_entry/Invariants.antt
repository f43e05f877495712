use Rattle.std.proofs.Common.{◌≡◌, ◌<◌, length, drop, slice_get}
use Rattle.xrf_clt.specs.Kept.{own_entries}
use Rattle.xrf_clt.proofs.own_entry.Given as goal

abbrev pub invariant-loop-entry : goal.invariant-loop-entry
invariant-loop-entry l =
    (slice_get (own_entries l.applid (drop l.entry-index l.entries)) l.left ≡ slice_get (own_entries l.applid l.entries) l.k)
    × (l.left < length (own_entries l.applid (drop l.entry-index l.entries)))
