use Rattle.std.proofs.Common.{◌-◌, length, length-drop, drop, arith}
use Rattle.std.proofs.lemmas.List.{take_all}
use Rattle.xrf_base.proofs.zeros.from_place.Goals as goal

pub returns-clause-behind : goal.returns-clause-behind
returns-clause-behind c = take_all (length c.args.bytes.now - c.args.place) (drop c.args.place c.args.bytes.now) (omega (arith, length-drop c.args.place c.args.bytes.now))
