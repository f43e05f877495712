-- The pieces of an extent are as many as it has 32 bytes.
use Rattle.std.proofs.Common.{◌++◌, ◌≡◌, ◌/◌, ◌*◌, ℕ, OnOk, length, subst, arith}
use Rattle.xrf_report.specs.Images.{pieces_text}
use Rattle.xrf_report.proofs.images.put_extent.Goals as goal

pub returns : goal.returns
returns c =
    let size : length c.args.extent.now ≡ 32 * c.args.count = c.requires.size in
    let count : c.args.count ≡ length c.args.extent.now / 32 = omega arith in
    subst (λ (n : ℕ). OnOk c.put_pieces.result (c.put_pieces.new.out.items ≡ c.args.out.now.items ++ pieces_text c.args.name.now c.args.extent.now n)) count
    c.put_pieces.ensures
