use Rattle.std.proofs.Common.{◌≡◌, ◌∙◌, true, false, refl, subst, sym}
use Rattle.xrf_history.specs.declared.want.Want.{Want}
use Rattle.xrf_setup.specs.declared.choice.Choice.TheVariants as choice
use Rattle.xrf_trace.specs.declared.entry.Land.TheVariants as land
use Rattle.xrf_trace.specs.Jobs.{hist}
use Rattle.xrf_trace.specs.Scenario.{settings}
use Rattle.xrf_world.specs.Making.{IsMade}
use Rattle.xrf_world.specs.Seats.{want_of}
use Rattle.xrf_world.specs.Wants.{is_signal, wanted}
use Rattle.xrf_world.proofs.ActLaws.{lose-made, lose-refused}
use Rattle.xrf_world.proofs.TimeLaws.{few-events}
use Rattle.xrf_world.proofs.WantLaws.{met-wanted, of-wanted}
use Rattle.xrf_world.proofs.steps.lose.Goals as goal

pub want-want-requires : goal.want-want-requires
want-want-requires c =
    let s = c.args.middle.now.scenario in
    let x = c.args.site in
    let t = c.requires.0 in
    (settings s x, hist s t x, c.requires.1.place.seat.job, few-events s t x c.requires.2)

pub returns-then-not-is_signal : goal.returns-then-not-is_signal
returns-then-not-is_signal c = λ t stands g.
    let s = c.args.middle.now.scenario in
    let x = c.args.site in
    let is : c.want-want.result ≡ want_of (settings s x) (hist s t x) = c.want-want.ensures (settings s x) (hist s t x) stands.place.seat.job in
    let signal : is_signal (wanted s t x) ≡ false =
    sym (c.is_signal.ensures ∙ of-wanted is_signal refl s t x c.want-want.result is) ∙ c.if-not-is_signal.true in
    (lose-refused s t x signal, refl, refl)

pub make_next-requires : goal.make_next-requires
make_next-requires c =
    let s = c.args.middle.now.scenario in
    let x = c.args.site in
    let t = c.requires.0 in
    let stands = c.requires.1 in
    let is : c.want-want.result ≡ want_of (settings s x) (hist s t x) = c.want-want.ensures (settings s x) (hist s t x) stands.place.seat.job in
    let signal : is_signal (wanted s t x) ≡ true =
    sym (c.is_signal.ensures ∙ of-wanted is_signal refl s t x c.want-want.result is) ∙ c.if-not-is_signal.false in
    let same : wanted s t x ≡ c.want-want.result = met-wanted is_signal refl s t x c.want-want.result is signal in
    (t, choice.Lose x, stands, subst (λ (one : Want). IsMade s t x one land.Lost (choice.Lose x)) same (lose-made s t x c.requires.2 signal))

pub returns : goal.returns
returns c = λ t stands g.
    let s = c.args.middle.now.scenario in
    let x = c.args.site in
    let is : c.want-want.result ≡ want_of (settings s x) (hist s t x) = c.want-want.ensures (settings s x) (hist s t x) stands.place.seat.job in
    let signal : is_signal (wanted s t x) ≡ true =
    sym (c.is_signal.ensures ∙ of-wanted is_signal refl s t x c.want-want.result is) ∙ c.if-not-is_signal.false in
    let same : wanted s t x ≡ c.want-want.result = met-wanted is_signal refl s t x c.want-want.result is signal in
    c.make_next.ensures t (choice.Lose x) stands (subst (λ (one : Want). IsMade s t x one land.Lost (choice.Lose x)) same (lose-made s t x g signal))
