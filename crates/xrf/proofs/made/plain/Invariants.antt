use Rattle.std.proofs.Common.{◌≡◌, take}
use Rattle.xrf.specs.Refusals.{plain}
use Rattle.xrf.proofs.made.plain.Given as goal

abbrev pub invariant-loop-one : goal.invariant-loop-one
invariant-loop-one l = l.choices.items ≡ plain (take l.one-index l.numbered)
