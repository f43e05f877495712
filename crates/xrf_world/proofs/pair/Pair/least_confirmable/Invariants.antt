-- No number that was passed may be confirmed any more.
use Rattle.std.proofs.Common.{◌≡◌, List, None}
use Rattle.xrf_trace.specs.declared.entry.Entry.{Entry}
use Rattle.xrf_world.specs.Report.{least_to, may_be_confirmed}
use Rattle.xrf_world.specs.Standing.{Stands}
use Rattle.xrf_world.proofs.pair.Pair.least_confirmable.Given as goal

abbrev pub invariant-loop-before : goal.invariant-loop-before
invariant-loop-before l = (t : List Entry) → Stands l.self t → least_to (may_be_confirmed l.self.middle.scenario t) l.before ≡ None
