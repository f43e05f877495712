use Rattle.std.proofs.Common.{sym, ap, List, Some}
use Rattle.xrf_logrec.specs.declared.records.Undo.{Undo}
use Rattle.xrf_file.specs.Ledger.{undo_rows}
use Rattle.xrf_history.specs.Next.{roll_next}
use Rattle.xrf_active.proofs.Rows.{drop-get}
use Rattle.xrf_active.proofs.items.roll_stage.Goals as goal

pub returns-then-rolled-undo_count-clause-stage : goal.returns-then-rolled-undo_count-clause-stage
returns-then-rolled-undo_count-clause-stage c =
    let left = drop-get (undo_rows c.args.unit c.args.units.now) c.args.rolled c.undo.result c.undo.ensures in
    sym (ap (λ (rows : List Undo). Some (roll_next c.args.p.now c.args.unit c.args.place rows)) left)
