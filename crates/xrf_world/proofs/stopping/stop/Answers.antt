use Rattle.std.proofs.Common.{◌≡◌, ◌∙◌, Bool, None, Some, is_some, ap, refl, sym}
use Rattle.xrf_trace.specs.Jobs.{hist}
use Rattle.xrf_trace.specs.Scenario.{settings}
use Rattle.xrf_world.specs.Seats.{want_of}
use Rattle.xrf_world.specs.Wants.{stop_refusal, wanted}
use Rattle.xrf_world.proofs.StopLaws.{stop-made, stop-refused}
use Rattle.xrf_world.proofs.TimeLaws.{few-events}
use Rattle.xrf_world.proofs.WantLaws.{of-wanted, stop-alike}
use Rattle.xrf_world.proofs.stopping.stop.Goals as goal

pub want-want-requires : goal.want-want-requires
want-want-requires c =
    let s = c.args.middle.now.scenario in
    let x = c.args.site in
    let t = c.requires.0 in
    (settings s x, hist s t x, c.requires.1.place.seat.job, few-events s t x c.requires.2)

pub cut_off-requires : goal.cut_off-requires
cut_off-requires c =
    let s = c.args.middle.now.scenario in
    let x = c.args.site in
    let cut = c.args.cut.now in
    let t = c.requires.0 in
    let stands = c.requires.1 in
    let is : c.want-want.result ≡ want_of (settings s x) (hist s t x) = c.want-want.ensures (settings s x) (hist s t x) stands.place.seat.job in
    let met : stop_refusal cut (is_some (hist s t x)) (wanted s t x) ≡ None =
    sym (c.stop_refused.ensures
    ∙ ap (λ (b : Bool). stop_refusal cut b c.want-want.result) (c.has_job.ensures (settings s x) (hist s t x) stands.place.seat)
    ∙ of-wanted (stop_refusal cut (is_some (hist s t x))) (stop-alike cut (is_some (hist s t x))) s t x c.want-want.result is)
    ∙ c.in-None.is in
    (t, stands, stop-made s t x cut c.want-want.result c.requires.2 is met)

pub returns-in-Some : goal.returns-in-Some
returns-in-Some c = λ t stands g.
    let s = c.args.middle.now.scenario in
    let x = c.args.site in
    let cut = c.args.cut.now in
    let is : c.want-want.result ≡ want_of (settings s x) (hist s t x) = c.want-want.ensures (settings s x) (hist s t x) stands.place.seat.job in
    let met : stop_refusal cut (is_some (hist s t x)) (wanted s t x) ≡ Some c.in-Some.reason =
    sym (c.stop_refused.ensures
    ∙ ap (λ (b : Bool). stop_refusal cut b c.want-want.result) (c.has_job.ensures (settings s x) (hist s t x) stands.place.seat)
    ∙ of-wanted (stop_refusal cut (is_some (hist s t x))) (stop-alike cut (is_some (hist s t x))) s t x c.want-want.result is)
    ∙ c.in-Some.is in
    (stop-refused s t x cut c.in-Some.reason met, refl, refl)

pub returns-in-None : goal.returns-in-None
returns-in-None c = λ t stands g.
    let s = c.args.middle.now.scenario in
    let x = c.args.site in
    let cut = c.args.cut.now in
    let is : c.want-want.result ≡ want_of (settings s x) (hist s t x) = c.want-want.ensures (settings s x) (hist s t x) stands.place.seat.job in
    let met : stop_refusal cut (is_some (hist s t x)) (wanted s t x) ≡ None =
    sym (c.stop_refused.ensures
    ∙ ap (λ (b : Bool). stop_refusal cut b c.want-want.result) (c.has_job.ensures (settings s x) (hist s t x) stands.place.seat)
    ∙ of-wanted (stop_refusal cut (is_some (hist s t x))) (stop-alike cut (is_some (hist s t x))) s t x c.want-want.result is)
    ∙ c.in-None.is in
    c.cut_off.ensures t stands (stop-made s t x cut c.want-want.result g is met)
