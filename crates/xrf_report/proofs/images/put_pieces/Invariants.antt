use Rattle.std.proofs.Common.{◌≡◌, ◌++◌, length}
use Rattle.xrf_report.specs.Images.{pieces_text}
use Rattle.xrf_report.proofs.images.put_pieces.Given as goal

-- as many pieces as were counted
abbrev pub invariant-loop-k : goal.invariant-loop-k
invariant-loop-k l = record {
  whole : l.out.items ≡ l.fn.out.items ++ pieces_text l.name l.extent l.k;
}
