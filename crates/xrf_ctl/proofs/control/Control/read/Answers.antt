use Rattle.xrf_ctl.proofs.ReadingLaws.{read_ok, not_ok, is_fault, parts_are}
use Rattle.xrf_ctl.proofs.control.Control.read.Goals as goal

pub returns-in-Ok-clause-ok : goal.returns-in-Ok-clause-ok
returns-in-Ok-clause-ok c =
    read_ok c.args.bytes.now c.in-Ok.control c.told-bytes c.fits-bytes c.in-Ok.ensures.found.0 c.in-Ok.ensures.found.1
    (λ r has. parts_are c.in-Ok.control r (c.in-Ok.ensures.only r has))

pub returns-in-Err-clause-ok : goal.returns-in-Err-clause-ok
returns-in-Err-clause-ok c = not_ok c.args.bytes.now c.in-Err.field c.in-Err.ensures.fault

pub returns-in-Err-clause-fault : goal.returns-in-Err-clause-fault
returns-in-Err-clause-fault c = is_fault c.args.bytes.now c.in-Err.field c.in-Err.ensures.fault
