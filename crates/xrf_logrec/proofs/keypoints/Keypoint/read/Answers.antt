use Rattle.std.proofs.Common.{rules, sym, ◌∙◌}
use Rattle.std.specs.Cmp.Lexicographic.{same_text}
use Rattle.xrf_logrec.proofs.keypoints.Keypoint.read.Goals as goal

pub returns-then-is_alone_in-clause-found : goal.returns-then-is_alone_in-clause-found
returns-then-is_alone_in-clause-found c =
    record { in_range = search rules; spelled = sym (same_text _ _ (sym c.if-is_alone_in.true ∙ c.is_alone_in.ensures)) }
