-- The first put is the oldest.
use Rattle.std.proofs.Common.{◌≡◌, Some, List, ap, sym, ◌∙◌}
use Rattle.std.specs.Prelude.{slice_get}
use Rattle.xrf_file.specs.declared.rows.LoggedPut.{LoggedPut}
use Rattle.xrf_file.specs.Ledger.{oldest}
use Rattle.xrf_file.proofs.Numbering.{first-least}
use Rattle.xrf_file.proofs.ledgers.Units.oldest.Goals as goal

pub returns-in-Some : goal.returns-in-Some
returns-in-Some c =
    let first : slice_get c.self.inside.puts.items 0 ≡ Some c.in-Some.put.now = ap (λ (l : List LoggedPut). slice_get l 0) (sym c.deref.ensures.value) ∙ sym c.in-Some.ensures.value in
    first-least c.self.inside.start c.self.inside.next c.self.inside.puts.items c.in-Some.put.now first c.self.invariant.numbered
    ∙ ap oldest c.self.view_is
