use Rattle.std.proofs.Common.{◌≡◌, ◌∙◌, List, Some, ap}
use Rattle.xrf_history.specs.declared.settings.Settings.{Settings}
use Rattle.xrf_history.specs.Events.{Event}
use Rattle.xrf_history.specs.Holding.{number}
use Rattle.xrf_trace.specs.Scenario.{settings}
use Rattle.xrf_world.specs.Making.{inc_of_want}
use Rattle.xrf_world.specs.Seats.{SeatIs}
use Rattle.xrf_world.proofs.MadeLaws.{is-handed, seat-of-job}
use Rattle.xrf_world.proofs.making.make_act.Goals as goal

pub take-given-requires : goal.take-given-requires
take-given-requires c =
    let m = c.requires.2 in
    let old = c.args.middle.now in
    let x = c.args.site in (
      settings old.scenario x,
      m.job,
      seat-of-job old c.args.place.now c.requires.0 x c.args.want.now c.args.land.now c.args.answer.now c.requires.1 m,
      m.handed,
    )

pub enter-requires : goal.enter-requires
enter-requires c =
    let w = c.args.want.now in
    let old = c.args.middle.now in
    let place = c.args.place.now in
    let is_inc : (p : Settings) (h : List Event) → SeatIs place.seat p (Some h) → c.inc_of_want-inc.result ≡ inc_of_want w (number h) =
    λ p h there. c.inc_of_want-inc.ensures ∙ ap (inc_of_want w) (c.inc.ensures p (Some h) there) in (
      c.requires.0,
      c.args.answer.now,
      c.requires.2,
      is-handed old old.block place c.take-given.new.self c.requires.0 c.args.site w c.args.land.now c.args.answer.now c.inc_of_want-inc.result
          c.take-given.result c.requires.1 c.requires.2 is_inc c.take-given.ensures.seat c.take-given.ensures.answer,
    )

pub returns-clause-made : goal.returns-clause-made
returns-clause-made c = λ t m stands.
    let w = c.args.want.now in
    let old = c.args.middle.now in
    let place = c.args.place.now in
    let is_inc : (p : Settings) (h : List Event) → SeatIs place.seat p (Some h) → c.inc_of_want-inc.result ≡ inc_of_want w (number h) =
    λ p h there. c.inc_of_want-inc.ensures ∙ ap (inc_of_want w) (c.inc.ensures p (Some h) there) in
    c.enter.ensures.made t c.args.answer.now m
    (is-handed old old.block place c.take-given.new.self t c.args.site w c.args.land.now c.args.answer.now c.inc_of_want-inc.result
    c.take-given.result stands m is_inc c.take-given.ensures.seat c.take-given.ensures.answer)
