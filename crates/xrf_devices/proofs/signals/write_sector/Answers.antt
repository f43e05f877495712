use Rattle.std.proofs.Common.{ap, ◌∙◌, arith}
use Rattle.xrf_gated.specs.Landing.{part}
use Rattle.xrf_devices.proofs.Parts.{part-before, part-behind}
use Rattle.xrf_devices.proofs.signals.write_sector.Goals as goal

pub returns-clause-before : goal.returns-clause-before
returns-clause-before c other n before =
    ap (λ b. part b other n) c.land.ensures ∙ part-before c.args.bytes.now c.write.result c.args.place other n (omega (arith, c.requires)) before

pub returns-clause-behind : goal.returns-clause-behind
returns-clause-behind c other n behind =
    ap (λ b. part b other n) c.land.ensures ∙ part-behind c.args.bytes.now c.write.result c.args.place other n (omega (arith, c.requires)) (omega arith)
