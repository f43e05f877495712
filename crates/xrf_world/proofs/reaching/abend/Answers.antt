use Rattle.std.proofs.Common.{◌≡◌, ◌∙◌, true, sym}
use Rattle.xrf_setup.specs.declared.choice.Choice.TheVariants as choice
use Rattle.xrf_history.specs.Accepting.{may_abend}
use Rattle.xrf_trace.specs.Jobs.{hist}
use Rattle.xrf_trace.specs.Refusals.{of_job}
use Rattle.xrf_trace.specs.Scenario.{settings}
use Rattle.xrf_world.proofs.ReachLaws.{abend-made}
use Rattle.xrf_world.proofs.reaching.abend.Goals as goal

pub reach-requires : goal.reach-requires
reach-requires c =
    let s = c.args.middle.now.scenario in
    let x = c.args.site in
    let t = c.requires.0 in
    let may : of_job may_abend (hist s t x) ≡ true =
    sym (c.may_abend.ensures (settings s x) (hist s t x) c.requires.1.place.seat) ∙ c.if-not-may_abend.false in
    (t, choice.Abend x, c.requires.1, abend-made s t x c.requires.2 may)

pub returns : goal.returns
returns c = λ t stands g.
    let s = c.args.middle.now.scenario in
    let x = c.args.site in
    let may : of_job may_abend (hist s t x) ≡ true =
    sym (c.may_abend.ensures (settings s x) (hist s t x) stands.place.seat) ∙ c.if-not-may_abend.false in
    c.reach.ensures t (choice.Abend x) stands (abend-made s t x g may)
