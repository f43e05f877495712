use Rattle.std.proofs.Common.{ℕ, subst, sym, ◌∙◌}
use Rattle.xrf_ctl.specs.Control.{IsFormat}
use Rattle.xrf_ctl.proofs.Faults.{fault_taking}
use Rattle.xrf_ctl.proofs.control.parts_of.Goals as goal

pub returns-in_default-taking_of-clause-fault : goal.returns-in_default-taking_of-clause-fault
returns-in_default-taking_of-clause-fault c =
    fault_taking c.args.bytes.now c.in-Some.owner c.in-Some-alt_of.alt
    (c.has_eye.ensures.0 c.if-not-has_eye.false)
    (subst (λ (n : ℕ). IsFormat n) c.format_of-format.ensures (c.is_format.ensures.0 c.if-not-is_format.false))
    (c.has_last.ensures.0 c.if-not-has_last.false)
    c.in-Some.ensures.found
    c.in-Some-alt_of.ensures.found
    (λ p h. sym c.in-Some.is ∙ c.owner_of.ensures.only p h)
    (λ p h. sym c.in-Some-alt_of.is ∙ c.alt_of.ensures.only p h)
    (λ t h. sym c.in_default-taking_of.is ∙ c.taking_of.ensures.only t h)
