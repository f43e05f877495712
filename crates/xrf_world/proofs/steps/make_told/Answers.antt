use Rattle.std.proofs.Common.{subst}
use Rattle.xrf_history.specs.declared.answer.Answer.{Answer}
use Rattle.xrf_trace.specs.Handing.{answer_of}
use Rattle.xrf_world.proofs.MadeLaws.{MakesEntry, act-made}
use Rattle.xrf_world.proofs.steps.make_told.Goals as goal

pub returns : goal.returns
returns c = λ t chosen stands made.
    let old = c.args.middle.now in
    let place = c.args.place.now in
    let x = c.args.site in
    let w = c.args.want.now in
    let l = c.args.land.now in
    let new = c.make_act.new.middle in
    let after = c.make_act.new.place in
    act-made old place t x chosen new after w l (answer_of old.scenario t x made.job w)
    (subst (λ (a : Answer). MakesEntry old place t x new after w l a) (c.answer.ensures t made.job stands made.there)
    (c.make_act.ensures.made t)) c.make_act.ensures.scenario stands made.may made.is
