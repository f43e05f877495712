use Rattle.xrf_active.proofs.Plans.{pending-put}
use Rattle.xrf_active.proofs.logging.count_record.Goals as goal

pub put_logged-requires-clause-planned : goal.put_logged-requires-clause-planned
put_logged-requires-clause-planned c =
    let plan = c.requires.planned.0 in
    let slot = c.requires.planned.1 in
    pending-put c.args.units.now plan slot c.in-Put.unit c.in-Put.rrn c.in-Put.before (cc (c.requires.planned.2)) c.requires.planned.3
