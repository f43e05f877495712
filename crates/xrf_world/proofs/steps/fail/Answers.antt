use Rattle.std.proofs.Common.{◌≡◌, ◌∙◌, ℕ, None, Some, is_none, ap, refl, subst, sym}
use Rattle.xrf_history.specs.declared.answer.Answer.TheVariants as answer
use Rattle.xrf_history.specs.declared.want.Want.{Want}
use Rattle.xrf_setup.specs.declared.choice.Choice.TheVariants as choice
use Rattle.xrf_trace.specs.declared.entry.Land.TheVariants as land
use Rattle.xrf_trace.specs.Jobs.{hist}
use Rattle.xrf_trace.specs.Scenario.{settings}
use Rattle.xrf_trace.specs.Words.{now}
use Rattle.xrf_world.specs.Making.{IsFailed, MayMake}
use Rattle.xrf_world.specs.Seats.{want_of}
use Rattle.xrf_world.specs.Wants.{fail_refusal, wanted}
use Rattle.xrf_world.proofs.FailLaws.{fail-made, fail-refused}
use Rattle.xrf_world.proofs.MadeLaws.{MakesEntry, act-made}
use Rattle.xrf_world.proofs.TimeLaws.{few-events}
use Rattle.xrf_world.proofs.WantLaws.{fail-alike, fails-nothing, met-wanted, of-wanted}
use Rattle.xrf_world.proofs.steps.fail.Goals as goal

pub want-want-requires : goal.want-want-requires
want-want-requires c =
    let s = c.args.middle.now.scenario in
    let x = c.args.site in
    let t = c.requires.0 in
    (settings s x, hist s t x, c.requires.1.place.seat.job, few-events s t x c.requires.2)

pub make_act-requires : goal.make_act-requires
make_act-requires c =
    let s = c.args.middle.now.scenario in
    let x = c.args.site in
    let cut = c.args.cut.now in
    let t = c.requires.0 in
    let stands = c.requires.1 in
    let is : c.want-want.result ≡ want_of (settings s x) (hist s t x) = c.want-want.ensures (settings s x) (hist s t x) stands.place.seat.job in
    let met : fail_refusal cut (wanted s t x) ≡ None =
    sym (c.fail_refused.ensures ∙ of-wanted (fail_refusal cut) (fail-alike cut) s t x c.want-want.result is) ∙ c.in-None.is in
    let same : wanted s t x ≡ c.want-want.result =
    met-wanted (λ (w : Want). is_none (fail_refusal cut w)) (fails-nothing cut) s t x c.want-want.result is (ap is_none met) in (
      t,
      stands,
      subst (λ (n : ℕ). MayMake s t x c.want-want.result (land.Fail cut) (answer.Failed n)) (sym stands.middle.counts.tick)
          (subst (λ (one : Want). MayMake s t x one (land.Fail cut) (answer.Failed (now t))) same (fail-made s t x cut c.requires.2 met).may),
    )

pub returns-in-Some : goal.returns-in-Some
returns-in-Some c = λ t stands g.
    let s = c.args.middle.now.scenario in
    let x = c.args.site in
    let cut = c.args.cut.now in
    let is : c.want-want.result ≡ want_of (settings s x) (hist s t x) = c.want-want.ensures (settings s x) (hist s t x) stands.place.seat.job in
    let refused : fail_refusal cut (wanted s t x) ≡ Some c.in-Some.reason =
    sym (c.fail_refused.ensures ∙ of-wanted (fail_refusal cut) (fail-alike cut) s t x c.want-want.result is) ∙ c.in-Some.is in
    (fail-refused s t x cut c.in-Some.reason refused, refl, refl)

pub returns-in-None : goal.returns-in-None
returns-in-None c = λ t stands g.
    let old = c.args.middle.now in
    let place = c.args.place.now in
    let s = old.scenario in
    let x = c.args.site in
    let cut = c.args.cut.now in
    let new = c.make_act.new.middle in
    let after = c.make_act.new.place in
    let is : c.want-want.result ≡ want_of (settings s x) (hist s t x) = c.want-want.ensures (settings s x) (hist s t x) stands.place.seat.job in
    let met : fail_refusal cut (wanted s t x) ≡ None =
    sym (c.fail_refused.ensures ∙ of-wanted (fail_refusal cut) (fail-alike cut) s t x c.want-want.result is) ∙ c.in-None.is in
    let same : wanted s t x ≡ c.want-want.result =
    met-wanted (λ (w : Want). is_none (fail_refusal cut w)) (fails-nothing cut) s t x c.want-want.result is (ap is_none met) in
    let made : IsFailed s t x (wanted s t x) cut (choice.Fail x cut) = fail-made s t x cut g met in
    act-made old place t x (choice.Fail x cut) new after (wanted s t x) (land.Fail cut) (answer.Failed (now t))
    (subst (λ (one : Want). MakesEntry old place t x new after one (land.Fail cut) (answer.Failed (now t))) (sym same)
    (subst (λ (n : ℕ). MakesEntry old place t x new after c.want-want.result (land.Fail cut) (answer.Failed n)) stands.middle.counts.tick
    (c.make_act.ensures.made t))) c.make_act.ensures.scenario stands made.may made.is
