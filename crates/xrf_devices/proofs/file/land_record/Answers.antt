use Rattle.std.proofs.Common.{◌==◌, ℕ, List, Option, true, false, sym, subst, ◌∙◌}
use Rattle.xrf_trace.specs.Devices.{bytes_if}
use Rattle.xrf_devices.specs.Standing.{FileIs}
use Rattle.xrf_devices.proofs.file.land_record.Goals as goal

pub returns-in-Some-clause-file : goal.returns-in-Some-clause-file
returns-in-Some-clause-file c image are =
    subst (λ (o : Option (List ℕ)). FileIs c.args.records c.write_record.new.file (λ i. elim (i == c.args.k) [ true ↦ bytes_if o (image i) | false ↦ image i ]))
    (sym c.in-Some.is ∙ c.landed.ensures) (c.write_record.ensures.file image are)
