-- The first bytes of DFHXRMSG are those of the trace.
use Rattle.std.proofs.Common.{◌++◌, ◌≡◌, ℕ, List, OnOk, codes, subst}
use Rattle.xrf_report.specs.Images.{all_pieces}
use Rattle.xrf_report.proofs.ImageLaws.{signals-are}
use Rattle.xrf_report.proofs.images.put_signal_images.Goals as goal

pub returns : goal.returns
returns c s t is =
    subst (λ (bytes : List ℕ). OnOk c.put_extent.result (c.put_extent.new.out.items ≡ c.args.out.now.items ++ all_pieces (codes "MSG") bytes))
    (signals-are c.args.sets.now s t is) c.put_extent.ensures
