-- From the oldest number on the puts are numbered too.
use Rattle.std.proofs.Common.{◌≡◌, ℕ, arith, ap, sym, subst, ◌∙◌, reverse}
use Rattle.xrf_file.specs.Ledger.{oldest, least_number}
use Rattle.xrf_file.specs.Keeping.{AreNumbered}
use Rattle.xrf_file.proofs.Numbering.{AreNumbered-least, least_number-le}
use Rattle.xrf_file.proofs.ledgers.Units.keyed.Goals as goal

pub invariant_of-self : goal.invariant_of-self
invariant_of-self c =
    let next = c.self.inside.next in
    let puts = reverse c.self.inside.puts.items in
    let least : c.args.start ≡ least_number next puts = c.requires ∙ ap oldest (sym c.self.view_is) in
    record {
      most = c.self.invariant.most;
      few_units = c.self.invariant.few_units;
      unit_room = c.self.invariant.unit_room;
      put_room = c.self.invariant.put_room;
      order = omega (arith, least, least_number-le next puts);
      next_most = c.self.invariant.next_most;
      numbered = subst (λ (s : ℕ). AreNumbered s next puts) (sym least) (AreNumbered-least c.self.inside.start next puts c.self.invariant.numbered);
    }
