use Rattle.std.proofs.Common.{◌≡◌, ◌∙◌, ap}
use Rattle.xrf_history.specs.declared.answer.Answer.TheVariants as answer
use Rattle.xrf_trace.specs.Devices.{control}
use Rattle.xrf_trace.specs.Jobs.{known_of}
use Rattle.xrf_world.proofs.middle.Middle.control_answer.Goals as goal

pub returns : goal.returns
returns c = λ t stands.
    let s = c.args.self.now.scenario in
    let held : c.control-held.result ≡ control t = c.control-held.ensures s t stands.data_sets in
    ap (λ held. answer.Ctl held c.known-known.result) held
    ∙ ap (answer.Ctl (control t)) (c.known-known.ensures s t stands.counts ∙ ap (known_of t) held)
