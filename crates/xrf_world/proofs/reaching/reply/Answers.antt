use Rattle.std.proofs.Common.{◌≡◌, ◌∙◌, ℕ, true, subst, sym}
use Rattle.xrf_setup.specs.declared.choice.Choice.TheVariants as choice
use Rattle.xrf_history.specs.declared.answer.Answer.TheVariants as answer
use Rattle.xrf_history.specs.Accepting.{may_reply}
use Rattle.xrf_trace.specs.declared.entry.Act.TheVariants as act
use Rattle.xrf_trace.specs.Jobs.{hist}
use Rattle.xrf_trace.specs.Refusals.{of_job}
use Rattle.xrf_trace.specs.Scenario.{settings}
use Rattle.xrf_world.specs.Making.{IsReached}
use Rattle.xrf_world.proofs.ReachLaws.{reply-made}
use Rattle.xrf_world.proofs.reaching.reply.Goals as goal

pub reach-requires : goal.reach-requires
reach-requires c =
    let s = c.args.middle.now.scenario in
    let x = c.args.site in
    let go = c.args.go in
    let t = c.requires.0 in
    let may : of_job (may_reply (settings s x)) (hist s t x) ≡ true =
    sym (c.may_reply.ensures (settings s x) (hist s t x) c.requires.1.place.seat) ∙ c.if-not-may_reply.false in (
      t,
      choice.Reply x go,
      c.requires.1,
      subst (λ (n : ℕ). IsReached s t x (act.Reply go) (answer.Reply go n) (choice.Reply x go))
          (sym c.requires.1.middle.counts.tick) (reply-made s t x go c.requires.2 may),
    )

pub returns : goal.returns
returns c = λ t stands g.
    let s = c.args.middle.now.scenario in
    let x = c.args.site in
    let go = c.args.go in
    let may : of_job (may_reply (settings s x)) (hist s t x) ≡ true =
    sym (c.may_reply.ensures (settings s x) (hist s t x) stands.place.seat) ∙ c.if-not-may_reply.false in
    c.reach.ensures t (choice.Reply x go) stands (subst (λ (n : ℕ). IsReached s t x (act.Reply go) (answer.Reply go n) (choice.Reply x go))
    (sym stands.middle.counts.tick) (reply-made s t x go g may))
