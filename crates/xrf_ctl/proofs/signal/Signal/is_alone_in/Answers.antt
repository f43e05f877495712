use Rattle.std.proofs.Common.{◌≡◌, true, false, sym, ◌∙◌, ap}
use Rattle.xrf_ctl.specs.Signal.{signal_bytes}
use Rattle.xrf_ctl.proofs.SignalLaws.{around, eye_of, rest_of}
use Rattle.xrf_ctl.proofs.signal.Signal.is_alone_in.Goals as goal

pub returns-then-has_eye : goal.returns-then-has_eye
returns-then-has_eye c = (
  λ zero. around c.args.bytes.now c.told-bytes c.fits-bytes (c.has_eye.ensures.0 c.if-has_eye.true) (sym c.is_zero_from.ensures ∙ zero) ∙ ap signal_bytes (sym c.requires),
  λ is. c.is_zero_from.ensures ∙ rest_of c.args.bytes.now c.args.self.now is,
)

pub returns-else-has_eye : goal.returns-else-has_eye
returns-else-has_eye c =
    (λ yes. let no : false ≡ true = sym c.if-has_eye.false ∙ yes in absurd (cc), λ is. c.has_eye.ensures.1 (eye_of c.args.bytes.now c.args.self.now is))
