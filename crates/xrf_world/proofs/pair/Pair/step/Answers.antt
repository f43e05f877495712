use Rattle.std.proofs.Common.{sym, subst}
use Rattle.xrf_base.specs.declared.site.Site.{Site}
use Rattle.xrf_setup.specs.declared.choice.Choice.TheVariants as choice
use Rattle.xrf_world.specs.Making.{MakesAt}
use Rattle.xrf_world.specs.Standing.{StandsAt}
use Rattle.xrf_world.proofs.BesideLaws.{of-a, of-b}
use Rattle.xrf_world.proofs.pair.Pair.step.Goals as goal

pub returns-in-A : goal.returns-in-A
returns-in-A c = λ t stands goes.
    let old = c.args.self.now in
    let here : StandsAt old.middle old.a t c.args.site =
    subst (λ (x : Site). StandsAt old.middle old.a t x) (sym c.in-A.is) (record { middle = stands.middle; place = stands.a }) in
    let made : MakesAt old.middle old.a t c.args.site (choice.Step c.args.site) c.step.result c.step.new.middle c.step.new.place =
    c.step.ensures t here goes (c.is_reserve_free-is_free.ensures t stands) in
    of-a old t (choice.Step c.args.site) c.step.result c.step.new.middle c.step.new.place stands goes
    (subst (λ (x : Site). MakesAt old.middle old.a t x (choice.Step c.args.site) c.step.result c.step.new.middle c.step.new.place) c.in-A.is made)

pub returns-in-B : goal.returns-in-B
returns-in-B c = λ t stands goes.
    let old = c.args.self.now in
    let here : StandsAt old.middle old.b t c.args.site =
    subst (λ (x : Site). StandsAt old.middle old.b t x) (sym c.in-B.is) (record { middle = stands.middle; place = stands.b }) in
    let made : MakesAt old.middle old.b t c.args.site (choice.Step c.args.site) c.step-in-B.result c.step-in-B.new.middle c.step-in-B.new.place =
    c.step-in-B.ensures t here goes (c.is_reserve_free-is_free.ensures t stands) in
    of-b old t (choice.Step c.args.site) c.step-in-B.result c.step-in-B.new.middle c.step-in-B.new.place stands goes
    (subst (λ (x : Site). MakesAt old.middle old.b t x (choice.Step c.args.site) c.step-in-B.result c.step-in-B.new.middle c.step-in-B.new.place) c.in-B.is made)
