use Rattle.std.proofs.Common.{◌≡◌, ◌∙◌, true, sym}
use Rattle.xrf_trace.specs.Refusals.{may_confirm}
use Rattle.xrf_world.proofs.ChoiceLaws.{confirm-follows, confirm-made}
use Rattle.xrf_world.proofs.pair.Pair.confirm.Goals as goal

pub follow-requires : goal.follow-requires
follow-requires c =
    let s = c.args.self.now.middle.scenario in
    let t = c.requires.0 in
    let may : may_confirm s t c.args.number ≡ true = sym (c.may_confirm.ensures t c.requires.1) ∙ c.if-not-may_confirm.false in
    (t, c.requires.1.middle, confirm-follows s t c.args.self.now.middle.counts.tick c.args.number c.requires.2 c.requires.1.middle.counts.tick may)

pub returns : goal.returns
returns c = λ t stands goes.
    let s = c.args.self.now.middle.scenario in
    let may : may_confirm s t c.args.number ≡ true = sym (c.may_confirm.ensures t stands) ∙ c.if-not-may_confirm.false in
    confirm-made c.args.self.now t c.args.self.now.middle.counts.tick c.args.number c.follow.new.self stands stands.middle.counts.tick may c.follow.ensures.scenario
    (c.follow.ensures.stands t stands.middle (confirm-follows s t c.args.self.now.middle.counts.tick c.args.number goes stands.middle.counts.tick may))
