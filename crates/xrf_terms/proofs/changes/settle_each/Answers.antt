use Rattle.std.proofs.Common.{◌∙◌, sym, ap, arith}
use Rattle.std.specs.Prelude.{slice_set}
use Rattle.std.proofs.lemmas.List.Edits.{map_over_more}
use Rattle.xrf_terms.specs.declared.rows.Row.{Row}
use Rattle.xrf_terms.specs.Tracking.{settled_row}
use Rattle.xrf_terms.proofs.changes.settle_each.Goals as goal

pub loop-row-preserved : goal.loop-row-preserved
loop-row-preserved c =
    ap (λ (row : Row). slice_set c.loop-row.rows c.loop-row.row-index row)
    (c.settle_row.ensures ∙ ap (λ (row : Row). settled_row c.args.force row row.how) (sym c.row-item.is))
    ∙ map_over_more (λ (row : Row). settled_row c.args.force row row.how) c.args.rows.now c.loop-row.rows c.loop-row.row-index c.row-item.result (omega arith) c.loop-row.invariant c.row-item.is
