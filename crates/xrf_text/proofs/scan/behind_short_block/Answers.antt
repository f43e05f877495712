use Rattle.std.proofs.Common.{◌-◌, length, length-drop, drop, arith}
use Rattle.std.proofs.lemmas.List.{take_all}
use Rattle.xrf_text.proofs.scan.behind_short_block.Goals as goal

pub returns-clause-behind : goal.returns-clause-behind
returns-clause-behind c = take_all (length c.args.text.now - 8) (drop 8 c.args.text.now) (omega (arith, length-drop 8 c.args.text.now))
