use Rattle.std.proofs.Common.{◌≡◌, ◌∙◌, ◌+◌, ◌∷◌, ℕ, List, Option, ap, subst, sym}
use Rattle.xrf_base.specs.declared.items.ItemAnswer.{ItemAnswer}
use Rattle.xrf_history.specs.Answers.{event}
use Rattle.xrf_history.specs.Events.{Event}
use Rattle.xrf_history.specs.Holding.{number}
use Rattle.xrf_history.specs.Reserving.{last_decision}
use Rattle.xrf_trace.specs.Scenario.{settings}
use Rattle.xrf_trace.specs.Words.{items_taken, now, who_at}
use Rattle.xrf_world.specs.Making.{CanRecord, inc_of_want}
use Rattle.xrf_world.specs.Seats.{after_want}
use Rattle.xrf_world.specs.Wants.{act_of_want}
use Rattle.xrf_world.proofs.MadeLaws.{entry_of, entry-same, followed, work-few}
use Rattle.xrf_world.proofs.making.enter.Goals as goal

pub next-number-requires : goal.next-number-requires
next-number-requires c =
    let s = c.args.middle.now.scenario in
    let x = c.args.site in
    (s, c.requires.0, x, c.requires.3.kept.items, work-few s x c.requires.2.scen)

pub returns-clause-made : goal.returns-clause-made
returns-clause-made c = λ t a m handed.
    let s = c.args.middle.now.scenario in
    let x = c.args.site in
    let w = c.args.want.now in
    let p = settings s x in
    let h : List Event = event p m.job a ∷ m.job in
    let acts : c.act_of.result ≡ act_of_want (items_taken t x + 1) (last_decision h) w =
    c.act_of.ensures p h handed.seat
    ∙ ap (λ (n : ℕ). act_of_want n (last_decision h) w) (c.next-number.ensures s t x handed.kept.items) in
    let same : entry_of c.args.middle.now.counts.tick c.who_at.result c.args.inc c.act_of.result c.args.land.now ≡ m.entry =
    entry-same c.args.middle.now.counts.tick (now t) c.who_at.result (who_at x) c.args.inc (inc_of_want w (number m.job))
    c.act_of.result (act_of_want (items_taken t x + 1) (last_decision h) w) c.args.land.now handed.middle_is.counts.tick c.who_at.ensures handed.inc acts
    ∙ m.is_entry in
    let records : CanRecord s t x m.entry c.args.given =
    subst (λ (given : Option ItemAnswer). CanRecord s t x m.entry given) (sym handed.given) m.records in
    followed c.args.middle.now c.follow.new.self c.vacate_if_ended.new.seat c.follow-2.new.self t x
    (entry_of c.args.middle.now.counts.tick c.who_at.result c.args.inc c.act_of.result c.args.land.now) m.entry c.args.given
    (after_want w h) same c.follow.ensures.scenario records m.after (c.vacate_if_ended.ensures p h handed.seat) (c.follow.ensures.stands t handed.middle_is)
    (c.follow-2.ensures s t x handed.kept)
