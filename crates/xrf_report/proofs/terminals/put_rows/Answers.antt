-- The rows so far and those that are left are the rows.
use Rattle.std.proofs.Common.{◌++◌, ◌+◌, ◌∙◌, ℕ, List, drop, ap, sym}
use Rattle.std.proofs.lemmas.List.{append_assoc}
use Rattle.xrf_report.specs.Terminals.{row_line, rows_text}
use Rattle.xrf_report.proofs.RowLaws.{next-row, next-fits}
use Rattle.xrf_report.proofs.terminals.put_rows.Goals as goal

pub loop-k-preserved : goal.loop-k-preserved
loop-k-preserved c =
    let row = row_line c.args.xrf c.args.site c.row.result in
    let left = rows_text c.args.xrf c.args.site (drop (c.loop-k.k + 1) c.args.table.now) in
    record {
      whole =
          ap (λ (t : List ℕ). t ++ left) c.in_ok-put_row_line.ensures.text ∙ append_assoc c.loop-k.out.items row left
          ∙ ap (λ (t : List ℕ). c.loop-k.out.items ++ t) (sym (next-row c.args.xrf c.args.site c.args.table.now c.loop-k.k c.row.result c.row.ensures)) ∙ c.loop-k.invariant.whole;
      fits = next-fits c.args.table.now c.loop-k.k c.row.result c.row.ensures c.in_ok-put_row_line.ensures.fits c.loop-k.invariant.fits;
    }
