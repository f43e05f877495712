use Rattle.std.proofs.Common.{refl, eqb-true, arith}
use Rattle.std.proofs.lemmas.Simd.{zip2_splat}
use Rattle.xrf_text.proofs.Blocks.{printable_lanes}
use Rattle.xrf_text.proofs.scan.is_short_printable.Goals as goal

pub returns : goal.returns
returns c zero =
    printable_lanes _ refl 8 c.args.block _ (omega arith) c.fits-block.0 c.fits-block.1 (zip2_splat _ c.args.block 8 32 c.fits-block.0) (eqb-true _ 0 zero)
