-- One that is later than all that have ended is not among them.
use Rattle.std.proofs.Common.{ap, sym, subst, ◌∙◌, ◌<◌}
use Rattle.std.proofs.lemmas.Bool.{lt-leb}
use Rattle.xrf_log.proofs.NewestLaws.{later-open}
use Rattle.xrf_log.proofs.taken.has_ended.Goals as goal

pub returns-else-order_of-newest : goal.returns-else-order_of-newest
returns-else-order_of-newest c =
    let after = subst (λ n. c.args.newest < n) c.order_of.ensures c.if-order_of-newest.false in
    lt-leb c.order_of.result c.args.newest c.if-order_of-newest.false ∙ sym (later-open c.args.newest c.args.unit c.args.records.now c.requires after)
