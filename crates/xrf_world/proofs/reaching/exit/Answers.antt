use Rattle.std.proofs.Common.{◌≡◌, ◌∙◌, Option, None, ap, sym}
use Rattle.std.specs.Option.{option_and_then}
use Rattle.xrf_exit.specs.declared.Notice.{Notice}
use Rattle.xrf_history.specs.Notices.{notice}
use Rattle.xrf_trace.specs.Jobs.{hist}
use Rattle.xrf_trace.specs.Refusals.{exit_refusal}
use Rattle.xrf_trace.specs.Scenario.{settings}
use Rattle.xrf_world.proofs.reaching.exit.Goals as goal

pub exit_said-requires : goal.exit_said-requires
exit_said-requires c =
    let s = c.args.middle.now.scenario in
    let x = c.args.site in
    let said = c.args.said in
    let t = c.requires.0 in
    let met : exit_refusal (option_and_then notice (hist s t x)) said ≡ None =
    sym (c.exit_refused.ensures
    ∙ ap (λ (told : Option Notice). exit_refusal told said) (c.notice.ensures (settings s x) (hist s t x) c.requires.1.place.seat))
    ∙ c.in-None.is in
    (t, c.requires.1, c.requires.2, met)

pub returns-in-None : goal.returns-in-None
returns-in-None c = λ t stands g.
    let s = c.args.middle.now.scenario in
    let x = c.args.site in
    let said = c.args.said in
    let met : exit_refusal (option_and_then notice (hist s t x)) said ≡ None =
    sym (c.exit_refused.ensures
    ∙ ap (λ (told : Option Notice). exit_refusal told said) (c.notice.ensures (settings s x) (hist s t x) stands.place.seat))
    ∙ c.in-None.is in
    c.exit_said.ensures t stands g met
