use Rattle.std.proofs.Common.{◌≡◌, ◌≤◌, ◌+◌, ◌∙◌, ℕ, ap, sym, arith}
use Rattle.xrf_trace.specs.Devices.{control}
use Rattle.xrf_world.specs.Report.{least_to, may_be_confirmed}
use Rattle.xrf_world.proofs.ChoiceLaws.{least-is, none-more}
use Rattle.xrf_world.proofs.pair.Pair.least_confirmable.Goals as goal

pub loop-before-preserved : goal.loop-before-preserved
loop-before-preserved c = λ t stands.
    let given : c.loop-before.before + 1 ≤ (control t).last = omega (arith, c.loop-before-test.true, c.last-last.ensures t stands) in
    none-more (may_be_confirmed c.args.self.now.middle.scenario t) c.loop-before.before (c.loop-before.invariant t stands)
    (sym (c.may_be_confirmed.ensures t stands given) ∙ c.if-may_be_confirmed.false)

pub returns-then-may_be_confirmed : goal.returns-then-may_be_confirmed
returns-then-may_be_confirmed c = λ t stands.
    let given : c.loop-before.before + 1 ≤ (control t).last = omega (arith, c.loop-before-test.true, c.last-last.ensures t stands) in
    sym (least-is (may_be_confirmed c.args.self.now.middle.scenario t) c.loop-before.before (control t).last (c.loop-before.invariant t stands)
    (sym (c.may_be_confirmed.ensures t stands given) ∙ c.if-may_be_confirmed.true) (omega (arith, given)))

pub returns : goal.returns
returns c = λ t stands.
    let end : c.loop-before.before ≡ (control t).last = omega (arith, c.loop-before-test.false, c.loop-before.auto.before-end, c.last-last.ensures t stands) in
    sym (sym (ap (λ (n : ℕ). least_to (may_be_confirmed c.args.self.now.middle.scenario t) n) end) ∙ c.loop-before.invariant t stands)
