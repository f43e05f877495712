use Rattle.std.proofs.Common.{◌≡◌, ◌∙◌, Bool, ap, refl, sym, Some, is_some}
use Rattle.xrf_base.specs.declared.site.Site.{Site}
use Rattle.xrf_setup.specs.declared.choice.Choice.TheVariants as choice
use Rattle.xrf_trace.specs.declared.entry.Refused.TheVariants.{NotEnabled}
use Rattle.xrf_trace.specs.Refusals.{refusal, unless}
use Rattle.xrf_trace.specs.Jobs.{hist}
use Rattle.xrf_trace.specs.Scenario.{settings}
use Rattle.xrf_world.specs.Making.{site_of}
use Rattle.xrf_world.specs.Seats.{want_of}
use Rattle.xrf_world.specs.Wants as wants
use Rattle.xrf_world.proofs.WantLaws.{fail-alike, fail-same, may-wanted, of-wanted, signal-same, step-same, stop-alike, stop-same}
use Rattle.xrf_world.proofs.refusing.refused_at.Goals as goal

pub returns-in-Step : goal.returns-in-Step
returns-in-Step c = λ t stands free of.
    let s = c.args.middle.now.scenario in
    let x = c.args.site in
    let is : c.want-want.result ≡ want_of (settings s x) (hist s t x) = c.want-want.ensures (settings s x) (hist s t x) stands.place.seat.job in
    let at : c.in-Step.field-0 ≡ x = let is : site_of c.args.choice.now ≡ Some c.in-Step.field-0 = ap site_of c.in-Step.is in cc in
    c.unless.ensures
    ∙ ap (λ (b : Bool). unless b NotEnabled)
    (c.may_make.ensures ∙ may-wanted s t x c.want-want.result c.args.is_free c.has_left.result free (c.has_left.ensures t stands.place) is
    ∙ sym (step-same s t x))
    ∙ sym (ap (λ (y : Site). refusal s t (choice.Step y)) at) ∙ sym (ap (refusal s t) c.in-Step.is)

pub returns-in-Lose : goal.returns-in-Lose
returns-in-Lose c = λ t stands free of.
    let s = c.args.middle.now.scenario in
    let x = c.args.site in
    let is : c.want-want.result ≡ want_of (settings s x) (hist s t x) = c.want-want.ensures (settings s x) (hist s t x) stands.place.seat.job in
    let at : c.in-Lose.field-0 ≡ x = let is : site_of c.args.choice.now ≡ Some c.in-Lose.field-0 = ap site_of c.in-Lose.is in cc in
    c.unless-in-Lose.ensures
    ∙ ap (λ (b : Bool). unless b NotEnabled) (c.is_signal.ensures ∙ of-wanted wants.is_signal refl s t x c.want-want.result is ∙ sym (signal-same s t x))
    ∙ sym (ap (λ (y : Site). refusal s t (choice.Lose y)) at) ∙ sym (ap (refusal s t) c.in-Lose.is)

pub returns-in-Stop : goal.returns-in-Stop
returns-in-Stop c = λ t stands free of.
    let s = c.args.middle.now.scenario in
    let x = c.args.site in
    let is : c.want-want.result ≡ want_of (settings s x) (hist s t x) = c.want-want.ensures (settings s x) (hist s t x) stands.place.seat.job in
    let at : c.in-Stop.field-0 ≡ x = let is : site_of c.args.choice.now ≡ Some c.in-Stop.field-0 = ap site_of c.in-Stop.is in cc in
    c.stop_refused.ensures
    ∙ ap (λ (b : Bool). wants.stop_refusal c.in-Stop.cut b c.want-want.result) (c.has_job.ensures (settings s x) (hist s t x) stands.place.seat)
    ∙ of-wanted (wants.stop_refusal c.in-Stop.cut (is_some (hist s t x))) (stop-alike c.in-Stop.cut (is_some (hist s t x))) s t x c.want-want.result is
    ∙ sym (stop-same s t x c.in-Stop.cut (is_some (hist s t x)))
    ∙ sym (ap (λ (y : Site). refusal s t (choice.Stop y c.in-Stop.cut)) at) ∙ sym (ap (refusal s t) c.in-Stop.is)

pub returns-in-Fail : goal.returns-in-Fail
returns-in-Fail c = λ t stands free of.
    let s = c.args.middle.now.scenario in
    let x = c.args.site in
    let is : c.want-want.result ≡ want_of (settings s x) (hist s t x) = c.want-want.ensures (settings s x) (hist s t x) stands.place.seat.job in
    let at : c.in-Fail.field-0 ≡ x = let is : site_of c.args.choice.now ≡ Some c.in-Fail.field-0 = ap site_of c.in-Fail.is in cc in
    c.fail_refused.ensures
    ∙ of-wanted (wants.fail_refusal c.in-Fail.cut) (fail-alike c.in-Fail.cut) s t x c.want-want.result is
    ∙ sym (fail-same s t x c.in-Fail.cut)
    ∙ sym (ap (λ (y : Site). refusal s t (choice.Fail y c.in-Fail.cut)) at) ∙ sym (ap (refusal s t) c.in-Fail.is)
