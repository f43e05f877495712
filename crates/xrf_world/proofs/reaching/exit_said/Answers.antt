use Rattle.std.proofs.Common.{ℕ, subst, sym}
use Rattle.xrf_setup.specs.declared.choice.Choice.TheVariants as choice
use Rattle.xrf_history.specs.declared.answer.Answer.TheVariants as answer
use Rattle.xrf_trace.specs.declared.entry.Act.TheVariants as act
use Rattle.xrf_world.specs.Making.{IsReached}
use Rattle.xrf_world.proofs.ReachLaws.{exit-made}
use Rattle.xrf_world.proofs.reaching.exit_said.Goals as goal

pub reach-requires : goal.reach-requires
reach-requires c =
    let s = c.args.middle.now.scenario in
    let x = c.args.site in
    let said = c.args.said in
    let t = c.requires.0 in (
      t,
      choice.Exit x said,
      c.requires.1,
      subst (λ (n : ℕ). IsReached s t x (act.Exit said) (answer.Exit said n) (choice.Exit x said))
          (sym c.requires.1.middle.counts.tick) (exit-made s t x said c.requires.2 c.requires.3),
    )

pub returns : goal.returns
returns c = λ t stands g met.
    let s = c.args.middle.now.scenario in
    let x = c.args.site in
    let said = c.args.said in
    c.reach.ensures t (choice.Exit x said) stands (subst (λ (n : ℕ). IsReached s t x (act.Exit said) (answer.Exit said n) (choice.Exit x said))
    (sym stands.middle.counts.tick) (exit-made s t x said g met))
