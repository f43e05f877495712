use Rattle.std.proofs.Common.{ℕ, List, ◌++◌, codes, ap, ◌∙◌}
use Rattle.xrf_scenario.specs.Canonical.{fed}
use Rattle.xrf_setup.specs.Commands.{kept_text}
use Rattle.xrf_scenario.proofs.WritingLaws.{clt-next}
use Rattle.xrf_scenario.proofs.canonical.put_clt.Goals as goal

pub loop-place-preserved : goal.loop-place-preserved
loop-place-preserved c =
    clt-next c.args.out.now.items c.loop-place.out.items c.put_command.new.out.items c.args.clt.now c.loop-place.place _ c.loop-place.invariant c.line-applid.ensures
    (c.in_ok-put_command.ensures ∙ ap (λ (applid : List ℕ). c.loop-place.out.items ++ fed (codes "CLT " ++ kept_text (record { applid = applid; text = c.line-applid.result.1.now }))) c.text.ensures.text)
