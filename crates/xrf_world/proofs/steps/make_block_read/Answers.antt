use Rattle.std.proofs.Common.{◌≡◌, ◌∙◌, List, Option, Some, IfSome, ap, subst, sym}
use Rattle.xrf_history.specs.declared.answer.Answer.{Answer}
use Rattle.xrf_history.specs.declared.settings.Settings.{Settings}
use Rattle.xrf_history.specs.declared.want.Want.TheVariants as want
use Rattle.xrf_history.specs.Events.{Event}
use Rattle.xrf_history.specs.Holding.{number}
use Rattle.xrf_history.specs.Restarting.{has_read_block}
use Rattle.xrf_trace.specs.Handing.{answer_of, block_answer}
use Rattle.xrf_trace.specs.Scenario.{settings}
use Rattle.xrf_world.specs.Making.{MayMake}
use Rattle.xrf_world.specs.Seats.{SeatIs}
use Rattle.xrf_world.proofs.MadeLaws.{MakesEntry, act-made, is-handed, seat-of-job}
use Rattle.xrf_world.proofs.steps.make_block_read.Goals as goal

pub take-given-requires : goal.take-given-requires
take-given-requires c =
    let t = c.requires.0 in
    let stands = c.requires.2 in
    let made = c.requires.3 in
    let old = c.args.middle.now in
    let place = c.args.place.now in
    let s = old.scenario in
    let x = c.args.site in
    let w = want.LogRead c.args.block in
    let l = c.args.land.now in
    let read : place.seat.has_read ≡ has_read_block made.job =
    subst (λ (job : Option (List Event)). IfSome job (λ h. place.seat.has_read ≡ has_read_block h)) made.there stands.place.seat.has_read in
    let m : MayMake s t x w l c.block_answer-answer.result =
    subst (λ (a : Answer). MayMake s t x w l a)
    (sym (c.block_answer-answer.ensures s t stands.middle.data_sets ∙ ap (block_answer s t c.args.block) read)) made.may in
    (settings s x, m.job, seat-of-job old place t x w l c.block_answer-answer.result stands m, m.handed)

pub enter-requires : goal.enter-requires
enter-requires c =
    let t = c.requires.0 in
    let stands = c.requires.2 in
    let made = c.requires.3 in
    let old = c.args.middle.now in
    let place = c.args.place.now in
    let s = old.scenario in
    let x = c.args.site in
    let w = want.LogRead c.args.block in
    let l = c.args.land.now in
    let answer = c.block_answer-answer.result in
    let read : place.seat.has_read ≡ has_read_block made.job =
    subst (λ (job : Option (List Event)). IfSome job (λ h. place.seat.has_read ≡ has_read_block h)) made.there stands.place.seat.has_read in
    let m : MayMake s t x w l answer =
    subst (λ (a : Answer). MayMake s t x w l a)
    (sym (c.block_answer-answer.ensures s t stands.middle.data_sets ∙ ap (block_answer s t c.args.block) read)) made.may in
    let is_inc : (p : Settings) (h : List Event) → SeatIs place.seat p (Some h) → c.inc-inc.result ≡ number h = λ p h there. c.inc-inc.ensures p (Some h) there in (
      t,
      answer,
      m,
      is-handed old _ place c.take-given.new.self t x w l answer c.inc-inc.result c.take-given.result stands m is_inc
          c.take-given.ensures.seat c.take-given.ensures.answer,
    )

pub returns : goal.returns
returns c = λ t chosen stands made.
    let old = c.args.middle.now in
    let place = c.args.place.now in
    let s = old.scenario in
    let x = c.args.site in
    let b = c.args.block in
    let w = want.LogRead b in
    let l = c.args.land.now in
    let new = c.enter.new.middle in
    let after = c.enter.new.place in
    let answer = c.block_answer-answer.result in
    let read : place.seat.has_read ≡ has_read_block made.job =
    subst (λ (job : Option (List Event)). IfSome job (λ h. place.seat.has_read ≡ has_read_block h)) made.there stands.place.seat.has_read in
    let is_inc : (p : Settings) (h : List Event) → SeatIs place.seat p (Some h) → c.inc-inc.result ≡ number h = λ p h there. c.inc-inc.ensures p (Some h) there in
    let makes : MakesEntry old place t x new after w l answer =
    λ m here. c.enter.ensures.made t answer m
    (is-handed old _ place c.take-given.new.self t x w l answer c.inc-inc.result c.take-given.result here m is_inc
    c.take-given.ensures.seat c.take-given.ensures.answer) in
    act-made old place t x chosen new after w l (answer_of s t x made.job w)
    (subst (λ (a : Answer). MakesEntry old place t x new after w l a)
    (c.block_answer-answer.ensures s t stands.middle.data_sets ∙ ap (block_answer s t b) read) makes) c.enter.ensures.scenario stands made.may made.is
