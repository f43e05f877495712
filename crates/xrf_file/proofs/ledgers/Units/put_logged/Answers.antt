-- A put is planned only where there is room for its record.
use Rattle.std.proofs.Common.{◌<◌, ◌-◌, arith, subst, sym, reverse}
use Rattle.std.proofs.lemmas.List.{length-reverse}
use Rattle.xrf_file.specs.Ledger.{Ledger}
use Rattle.xrf_file.proofs.Numbering.{AreNumbered-length}
use Rattle.xrf_file.proofs.Planning.{plan-room}
use Rattle.xrf_file.proofs.ledgers.Units.put_logged.Goals as goal

pub push_reserved-requires : goal.push_reserved-requires
push_reserved-requires c =
    let planned = plan-room c.args.self.now c.requires.planned.1.0 c.args.unit c.args.rrn c.requires.planned.0 c.args.self.now.next c.requires.planned.1.1 in
    let room : c.self.inside.next - c.self.inside.start < c.self.inside.slots = subst (λ (l : Ledger). l.next - l.start < l.slots) (sym c.self.view_is) planned in
    let count = AreNumbered-length c.self.inside.start c.self.inside.next (reverse c.self.inside.puts.items) c.self.invariant.numbered in
    omega (arith, count, room, length-reverse c.self.inside.puts.items, c.self.inside.puts.ok.0, c.self.invariant.put_room, c.self.invariant.order)
