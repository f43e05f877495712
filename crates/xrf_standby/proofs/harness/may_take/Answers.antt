use Rattle.std.proofs.Common.{◌≡◌, Bool, true, false, ◌||◌, refl, subst}
use Rattle.xrf_history.specs.declared.want.Want.{Want}
use Rattle.xrf_history.specs.Accepting.{accepts}
use Rattle.xrf_history.specs.Answers.{fits}
use Rattle.xrf_history.specs.Next.{next}
use Rattle.xrf_standby.proofs.harness.may_take.Goals as goal

or-true : (a b : Bool) → b ≡ true → (a || b) ≡ true
or-true true b is = refl
or-true false b is = is

pub returns-in_default : goal.returns-in_default
returns-in_default c = λ h s is.
    let p = c.args.job.now.settings in
    let a = c.args.answer.now in
    or-true (accepts p h a) (fits p h (next p h) a) (subst (λ (w : Want). fits p h w a ≡ true) (c.want.ensures h s) (c.fits.ensures p h is))
