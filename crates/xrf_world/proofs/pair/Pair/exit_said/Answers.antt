use Rattle.std.proofs.Common.{sym, subst, Ok}
use Rattle.xrf_base.specs.declared.site.Site.{Site}
use Rattle.xrf_setup.specs.declared.choice.Choice.TheVariants as choice
use Rattle.xrf_world.specs.Making.{MakesAt}
use Rattle.xrf_world.specs.Standing.{StandsAt}
use Rattle.xrf_world.proofs.BesideLaws.{of-a, of-b}
use Rattle.xrf_world.proofs.pair.Pair.exit_said.Goals as goal

pub returns-in-A : goal.returns-in-A
returns-in-A c = λ t stands goes met.
    let old = c.args.self.now in
    let here : StandsAt old.middle old.a t c.args.site =
    subst (λ (x : Site). StandsAt old.middle old.a t x) (sym c.in-A.is) (record { middle = stands.middle; place = stands.a }) in
    let made : MakesAt old.middle old.a t c.args.site (choice.Exit c.args.site c.args.said) (Ok tt) c.exit_said.new.middle c.exit_said.new.place =
    c.exit_said.ensures t here goes met in
    of-a old t (choice.Exit c.args.site c.args.said) (Ok tt) c.exit_said.new.middle c.exit_said.new.place stands goes
    (subst (λ (x : Site). MakesAt old.middle old.a t x (choice.Exit c.args.site c.args.said) (Ok tt) c.exit_said.new.middle c.exit_said.new.place) c.in-A.is made)

pub returns-in-B : goal.returns-in-B
returns-in-B c = λ t stands goes met.
    let old = c.args.self.now in
    let here : StandsAt old.middle old.b t c.args.site =
    subst (λ (x : Site). StandsAt old.middle old.b t x) (sym c.in-B.is) (record { middle = stands.middle; place = stands.b }) in
    let made : MakesAt old.middle old.b t c.args.site (choice.Exit c.args.site c.args.said) (Ok tt) c.exit_said-in-B.new.middle c.exit_said-in-B.new.place =
    c.exit_said-in-B.ensures t here goes met in
    of-b old t (choice.Exit c.args.site c.args.said) (Ok tt) c.exit_said-in-B.new.middle c.exit_said-in-B.new.place stands goes
    (subst (λ (x : Site). MakesAt old.middle old.b t x (choice.Exit c.args.site c.args.said) (Ok tt) c.exit_said-in-B.new.middle c.exit_said-in-B.new.place) c.in-B.is made)
