use Rattle.std.proofs.Common.{ℕ, sym, ◌∙◌, ap}
use Rattle.xrf_setup.specs.declared.choice.Choice.{Choice}
use Rattle.xrf_scenario.proofs.TakingLaws.{last_by_length}
use Rattle.xrf_scenario.proofs.taking.last_tick.Goals as goal

pub returns-in-len1-up : goal.returns-in-len1-up
returns-in-len1-up c = ap (λ (planned : ℕ × Choice). planned.0) c.last-item.is ∙ sym (last_by_length c.args.plan.now _ c.in-len1-up.len_at_least)
