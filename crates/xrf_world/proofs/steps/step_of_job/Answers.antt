use Rattle.std.proofs.Common.{◌≡◌, ◌∙◌, true, false, refl, subst, sym}
use Rattle.xrf_history.specs.declared.want.Want.{Want}
use Rattle.xrf_setup.specs.declared.choice.Choice.TheVariants as choice
use Rattle.xrf_trace.specs.declared.entry.Land.TheVariants as land
use Rattle.xrf_trace.specs.Jobs.{hist}
use Rattle.xrf_trace.specs.Scenario.{settings}
use Rattle.xrf_trace.specs.Words.{reserve_is_free}
use Rattle.xrf_world.specs.Making.{IsMade}
use Rattle.xrf_world.specs.Seats.{want_of}
use Rattle.xrf_world.specs.Wants.{may_make, wanted}
use Rattle.xrf_world.proofs.ActLaws.{step-made, step-refused}
use Rattle.xrf_world.proofs.TimeLaws.{few-events}
use Rattle.xrf_world.proofs.WantLaws.{may-wanted, met-wanted}
use Rattle.xrf_world.proofs.steps.step_of_job.Goals as goal

pub want-want-requires : goal.want-want-requires
want-want-requires c =
    let s = c.args.middle.now.scenario in
    let x = c.args.site in
    let t = c.requires.0 in
    (settings s x, hist s t x, c.requires.1.place.seat.job, few-events s t x c.requires.2)

pub returns-then-not-may_make : goal.returns-then-not-may_make
returns-then-not-may_make c = λ t stands g free.
    let s = c.args.middle.now.scenario in
    let x = c.args.site in
    let is : c.want-want.result ≡ want_of (settings s x) (hist s t x) = c.want-want.ensures (settings s x) (hist s t x) stands.place.seat.job in
    let may : may_make (reserve_is_free t) (wanted s t x) ≡ false =
    sym (c.may_make.ensures ∙ may-wanted s t x c.want-want.result c.args.is_free c.has_left.result free (c.has_left.ensures t stands.place) is)
    ∙ c.if-not-may_make.true in
    (step-refused s t x may, refl, refl)

pub make_next-requires : goal.make_next-requires
make_next-requires c =
    let s = c.args.middle.now.scenario in
    let x = c.args.site in
    let t = c.requires.0 in
    let stands = c.requires.1 in
    let is : c.want-want.result ≡ want_of (settings s x) (hist s t x) = c.want-want.ensures (settings s x) (hist s t x) stands.place.seat.job in
    let may : may_make (reserve_is_free t) (wanted s t x) ≡ true =
    sym (c.may_make.ensures ∙ may-wanted s t x c.want-want.result c.args.is_free c.has_left.result c.requires.3 (c.has_left.ensures t stands.place) is)
    ∙ c.if-not-may_make.false in
    let same : wanted s t x ≡ c.want-want.result = met-wanted (may_make (reserve_is_free t)) refl s t x c.want-want.result is may in
    (t, choice.Step x, stands, subst (λ (one : Want). IsMade s t x one land.Full (choice.Step x)) same (step-made s t x c.requires.2 may))

pub returns : goal.returns
returns c = λ t stands g free.
    let s = c.args.middle.now.scenario in
    let x = c.args.site in
    let is : c.want-want.result ≡ want_of (settings s x) (hist s t x) = c.want-want.ensures (settings s x) (hist s t x) stands.place.seat.job in
    let may : may_make (reserve_is_free t) (wanted s t x) ≡ true =
    sym (c.may_make.ensures ∙ may-wanted s t x c.want-want.result c.args.is_free c.has_left.result free (c.has_left.ensures t stands.place) is)
    ∙ c.if-not-may_make.false in
    let same : wanted s t x ≡ c.want-want.result = met-wanted (may_make (reserve_is_free t)) refl s t x c.want-want.result is may in
    c.make_next.ensures t (choice.Step x) stands (subst (λ (one : Want). IsMade s t x one land.Full (choice.Step x)) same (step-made s t x g may))
