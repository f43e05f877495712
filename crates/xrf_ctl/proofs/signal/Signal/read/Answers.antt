use Rattle.std.proofs.Common.{◌≡◌, ◌≢◌, true, false, sym, ◌∙◌}
use Rattle.xrf_ctl.specs.Signal.{signal_bytes, of_numbers}
use Rattle.xrf_ctl.proofs.SignalLaws.{none_spelled}
use Rattle.xrf_ctl.proofs.signal.Signal.read.Goals as goal

pub returns-else-is_alone_in : goal.returns-else-is_alone_in
returns-else-is_alone_in c =
    let others : signal_bytes (of_numbers c.u32_at-inc.result c.u64_at-counter.result c.u32_at-cursor.result) ≢ c.args.bytes.now =
    λ e. let clash : false ≡ true = sym c.if-is_alone_in.false ∙ c.is_alone_in.ensures.1 (sym e) in absurd (cc) in
    λ s. (λ e. absurd cc, λ spells. absurd (none_spelled c.args.bytes.now _ _ _ c.u32_at-inc.ensures c.u64_at-counter.ensures c.u32_at-cursor.ensures others s spells))
