use Rattle.std.proofs.Common.{◌∙◌, ℕ, ap, sym, arith, not, nat_le, ◌&&◌}
use Rattle.xrf_trace.specs.Jobs.{live}
use Rattle.xrf_world.proofs.ChoiceLaws.{past-last, up-to-last}
use Rattle.xrf_world.proofs.pair.Pair.may_confirm.Goals as goal

pub returns-then-number-last : goal.returns-then-number-last
returns-then-number-last c = λ t stands.
    sym (ap (λ (n : ℕ). nat_le 1 c.args.number && nat_le c.args.number n && not (live c.args.self.now.middle.scenario t c.args.number)) (sym (c.last.ensures t stands))
    ∙ past-last c.args.number c.last.result (not (live c.args.self.now.middle.scenario t c.args.number)) (omega (arith, c.if-number-last.true)))

pub returns : goal.returns
returns c = λ t stands.
    ap not (c.is_live.ensures t stands)
    ∙ sym (ap (λ (n : ℕ). nat_le 1 c.args.number && nat_le c.args.number n && not (live c.args.self.now.middle.scenario t c.args.number)) (sym (c.last.ensures t stands))
    ∙ up-to-last c.args.number c.last.result (not (live c.args.self.now.middle.scenario t c.args.number)) c.if-number-eq0.false (omega (arith, c.if-number-last.false)))
