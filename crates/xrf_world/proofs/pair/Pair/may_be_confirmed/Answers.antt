use Rattle.std.proofs.Common.{◌∙◌, ◌&&◌, not, Bool, ap, sym}
use Rattle.xrf_trace.specs.Devices.{control}
use Rattle.xrf_trace.specs.Jobs.{live}
use Rattle.xrf_trace.specs.Words.{confirmed}
use Rattle.xrf_world.proofs.ChoiceLaws.{yet-confirmable}
use Rattle.xrf_world.proofs.pair.Pair.may_be_confirmed.Goals as goal

pub returns-then-not-is_confirmed : goal.returns-then-not-is_confirmed
returns-then-not-is_confirmed c = λ t stands within.
    let s = c.args.self.now.middle.scenario in
    let n = c.args.number in
    ap (λ (b : Bool). not b && not c.is_live.result) (sym c.if-not-is_confirmed.true)
    ∙ ap (λ (b : Bool). not b && not c.is_live.result) (c.is_confirmed.ensures s t stands.middle.counts)
    ∙ ap (λ (b : Bool). not (confirmed t n) && not b) (c.is_live.ensures t stands)
    ∙ yet-confirmable n (control t).last (live s t n) (confirmed t n) c.requires within

pub returns-else-not-is_confirmed : goal.returns-else-not-is_confirmed
returns-else-not-is_confirmed c = λ t stands within.
    let s = c.args.self.now.middle.scenario in
    let n = c.args.number in
    ap not c.if-not-is_confirmed.false
    ∙ ap (λ (b : Bool). not b && not (live s t n)) (sym c.if-not-is_confirmed.false)
    ∙ ap (λ (b : Bool). not b && not (live s t n)) (c.is_confirmed.ensures s t stands.middle.counts)
    ∙ yet-confirmable n (control t).last (live s t n) (confirmed t n) c.requires within
