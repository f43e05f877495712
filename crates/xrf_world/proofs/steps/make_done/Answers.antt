use Rattle.std.proofs.Common.{◌≡◌, ◌∙◌, ap, subst, sym}
use Rattle.xrf_history.specs.declared.answer.Answer.{Answer}
use Rattle.xrf_history.specs.declared.answer.Answer.TheVariants as answer
use Rattle.xrf_trace.specs.Handing.{answer_of}
use Rattle.xrf_world.specs.Making.{MayMake}
use Rattle.xrf_world.proofs.MadeLaws.{MakesEntry, act-made}
use Rattle.xrf_world.proofs.steps.make_done.Goals as goal

pub make_act-requires : goal.make_act-requires
make_act-requires c =
    let s = c.args.middle.now.scenario in
    let x = c.args.site in
    let w = c.args.want.now in
    let t = c.requires.0 in
    let stands = c.requires.2 in
    let made = c.requires.3 in
    let told : answer_of s t x made.job w ≡ answer.Done c.args.middle.now.counts.tick = c.requires.4 made.job ∙ sym (ap answer.Done stands.middle.counts.tick) in
    (t, stands, subst (λ (a : Answer). MayMake s t x w c.args.land.now a) told made.may)

pub returns : goal.returns
returns c = λ t chosen stands made tells.
    let old = c.args.middle.now in
    let place = c.args.place.now in
    let x = c.args.site in
    let w = c.args.want.now in
    let l = c.args.land.now in
    let new = c.make_act.new.middle in
    let after = c.make_act.new.place in
    let told : answer_of old.scenario t x made.job w ≡ answer.Done old.counts.tick = tells made.job ∙ sym (ap answer.Done stands.middle.counts.tick) in
    act-made old place t x chosen new after w l (answer_of old.scenario t x made.job w)
    (subst (λ (a : Answer). MakesEntry old place t x new after w l a) (sym told) (c.make_act.ensures.made t)) c.make_act.ensures.scenario stands made.may made.is
