use Rattle.std.proofs.Common.{◌≡◌, ◌∙◌, List, Option, true, is_none, subst, sym}
use Rattle.xrf_setup.specs.declared.choice.Choice.TheVariants as choice
use Rattle.xrf_history.specs.Events.{Event, StartedActive}
use Rattle.xrf_trace.specs.declared.entry.Act.TheVariants as act
use Rattle.xrf_trace.specs.Jobs.{hist}
use Rattle.xrf_trace.specs.Scenario.{settings}
use Rattle.xrf_world.specs.Making.{IsStarted}
use Rattle.xrf_world.specs.Seats.{SeatIs}
use Rattle.xrf_world.proofs.ReachLaws.{active-made, not-there}
use Rattle.xrf_world.proofs.starting.start_active.Goals as goal

pub add_start-requires : goal.add_start-requires
add_start-requires c =
    let s = c.args.middle.now.scenario in
    let x = c.args.site in
    let t = c.requires.0 in
    let stands = c.requires.1 in
    let none : is_none (hist s t x) ≡ true =
    not-there (hist s t x) (sym (c.has_job.ensures (settings s x) (hist s t x) stands.place.seat) ∙ c.if-has_job.false) in
    (t, StartedActive, choice.StartActive x, active-made s t x c.requires.2 none, stands.middle, stands.place.kept)

pub returns : goal.returns
returns c = λ t stands g.
    let s = c.args.middle.now.scenario in
    let x = c.args.site in
    let none : is_none (hist s t x) ≡ true =
    not-there (hist s t x) (sym (c.has_job.ensures (settings s x) (hist s t x) stands.place.seat) ∙ c.if-has_job.false) in
    let made : IsStarted s t x act.StartActive StartedActive (choice.StartActive x) = active-made s t x g none in
    c.add_start.ensures t StartedActive (choice.StartActive x) made stands.middle stands.place.kept
    (c.start_active.ensures (settings s x) (subst (λ (job : Option (List Event)). SeatIs c.args.place.now.seat (settings s x) job) made.there stands.place.seat))
