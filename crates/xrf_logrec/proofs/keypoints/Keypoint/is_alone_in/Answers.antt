use Rattle.std.proofs.Common.{◌&&◌, drop, nat_eq, sym, ◌∙◌, ap}
use Rattle.std.specs.Cmp.Lexicographic.{pointwise}
use Rattle.std.proofs.lemmas.Bool.{eq-eqb, ne_eqb}
use Rattle.xrf_base.specs.Zeros.{are_zeros}
use Rattle.xrf_logrec.specs.Keypoints.{key_spelling}
use Rattle.xrf_logrec.proofs.TailLaws.{key_tail}
use Rattle.xrf_logrec.proofs.keypoints.Keypoint.is_alone_in.Goals as goal

pub returns-then-body-eq4 : goal.returns-then-body-eq4
returns-then-body-eq4 c =
    c.is_zero_from.ensures ∙ sym (ap (λ b. b && are_zeros (drop 9 c.args.body.now)) (eq-eqb _ 4 c.if-body-eq4.true)) ∙ sym (key_tail c.args.body.now c.told-body c.fits-body)
    ∙ ap (λ k. pointwise nat_eq (key_spelling k) c.args.body.now) c.requires

pub returns-else-body-eq4 : goal.returns-else-body-eq4
returns-else-body-eq4 c =
    ne_eqb _ 4 c.if-body-eq4.false ∙ sym (ap (λ b. b && are_zeros (drop 9 c.args.body.now)) (ne_eqb _ 4 c.if-body-eq4.false)) ∙ sym (key_tail c.args.body.now c.told-body c.fits-body)
    ∙ ap (λ k. pointwise nat_eq (key_spelling k) c.args.body.now) c.requires
