use Rattle.std.proofs.Common.{◌≡◌, ◌+◌, ◌<◌, ℕ, ap, arith, refl}
use Rattle.xrf_base.specs.declared.site.Site.TheVariants as site
use Rattle.xrf_trace.specs.Jobs.{hist}
use Rattle.xrf_trace.specs.Scenario.{settings}
use Rattle.xrf_trace.specs.Words.{now}
use Rattle.xrf_world.proofs.ChoiceLaws.{tick-follows, tick-made}
use Rattle.xrf_world.proofs.TimeLaws.{few-events}
use Rattle.xrf_world.proofs.pair.Pair.tick.Goals as goal

pub overflow_add-tick : goal.overflow_add-tick
overflow_add-tick c =
    let s = c.args.self.now.middle.scenario in
    let t = c.requires.0 in
    let few : now t < 16384 = (tick-follows s t (now t + 1) c.requires.2 refl).counts.few in
    omega (arith, few, c.requires.1.middle.counts.tick)

pub ticked-requires : goal.ticked-requires
ticked-requires c =
    let s = c.args.self.now.middle.scenario in
    let t = c.requires.0 in
    (settings s site.A, hist s t site.A, c.requires.1.a.seat, few-events s t site.A c.requires.2)

pub ticked-requires-2 : goal.ticked-requires-2
ticked-requires-2 c =
    let s = c.args.self.now.middle.scenario in
    let t = c.requires.0 in
    (settings s site.B, hist s t site.B, c.requires.1.b.seat, few-events s t site.B c.requires.2)

pub follow-requires : goal.follow-requires
follow-requires c =
    let s = c.args.self.now.middle.scenario in
    let t = c.requires.0 in
    let same : c.args.self.now.middle.counts.tick + 1 ≡ now t + 1 = ap (λ (n : ℕ). n + 1) c.requires.1.middle.counts.tick in
    (t, c.requires.1.middle, tick-follows s t (c.args.self.now.middle.counts.tick + 1) c.requires.2 same)

pub returns : goal.returns
returns c = λ t stands goes.
    let s = c.args.self.now.middle.scenario in
    let same : c.args.self.now.middle.counts.tick + 1 ≡ now t + 1 = ap (λ (n : ℕ). n + 1) stands.middle.counts.tick in
    tick-made c.args.self.now t (c.args.self.now.middle.counts.tick + 1) c.follow.new.self c.ticked.new.self c.ticked-2.new.self stands same c.follow.ensures.scenario
    (c.follow.ensures.stands t stands.middle (tick-follows s t (c.args.self.now.middle.counts.tick + 1) goes same))
    (c.ticked.ensures (settings s site.A) (hist s t site.A) stands.a.seat (few-events s t site.A goes))
    (c.ticked-2.ensures (settings s site.B) (hist s t site.B) stands.b.seat (few-events s t site.B goes))
