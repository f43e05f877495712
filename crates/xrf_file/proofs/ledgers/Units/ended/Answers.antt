-- The puts that are left are numbered as before.
use Rattle.std.proofs.Common.{◌≤◌, ◌+◌, arith, ap, sym, subst, ◌∙◌, not, length, reverse}
use Rattle.xrf_logrec.specs.LogRecords.{same_unit}
use Rattle.xrf_logrec.proofs.Lists.{length-filter-le}
use Rattle.xrf_file.specs.declared.rows.LoggedPut.{LoggedPut}
use Rattle.xrf_file.specs.declared.rows.OpenUnit.{OpenUnit}
use Rattle.xrf_file.specs.Keeping.{AreNumbered}
use Rattle.xrf_file.proofs.Numbering.{AreNumbered-filter, AreNumbered-weaken}
use Rattle.xrf_file.proofs.ledgers.Units.ended.Goals as goal

pub invariant_of-self : goal.invariant_of-self
invariant_of-self c =
    let next = c.self.inside.next in
    let start = c.self.inside.start in
    let puts = reverse c.self.inside.puts.items in
    let more : next ≤ next + 1 = omega arith in
    let left = AreNumbered-filter (λ (put : LoggedPut). not (same_unit put.unit c.args.unit)) start next puts c.self.invariant.numbered in
    record {
      most = c.self.invariant.most;
      few_units = omega (arith, ap length c.remove_unit.ensures.items, length-filter-le (λ (open_unit : OpenUnit). not (same_unit open_unit.unit c.args.unit)) c.self.inside.open_units.items, c.self.invariant.few_units);
      unit_room = c.remove_unit.ensures.capacity ∙ c.self.invariant.unit_room;
      put_room = c.remove_puts.ensures.capacity ∙ c.self.invariant.put_room;
      order = omega (arith, c.self.invariant.order);
      next_most = omega (arith, c.requires.next, ap (λ l. l.next) c.self.view_is);
      numbered = AreNumbered-weaken start next (next + 1) _ more (subst (AreNumbered start next) (sym c.remove_puts.ensures.items) left);
    }
