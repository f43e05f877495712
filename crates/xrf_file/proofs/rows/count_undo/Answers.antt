use Rattle.std.proofs.Common.{length, filter, reverse, ap, sym, ◌∙◌}
use Rattle.std.proofs.lemmas.List.{length-map, length-reverse}
use Rattle.xrf_logrec.specs.LogRecords.{same_unit}
use Rattle.xrf_logrec.proofs.Lists.{filter-reverse}
use Rattle.xrf_file.specs.declared.rows.LoggedPut.{LoggedPut}
use Rattle.xrf_file.proofs.rows.count_undo.Goals as goal

pub returns : goal.returns
returns c =
    c.count_puts.ensures
    ∙ sym (length-map (filter (λ (put : LoggedPut). same_unit put.unit c.args.unit) (reverse c.args.puts.now)) (λ put. put.undo)
    ∙ ap length (filter-reverse (λ (put : LoggedPut). same_unit put.unit c.args.unit) c.args.puts.now)
    ∙ length-reverse (filter (λ (put : LoggedPut). same_unit put.unit c.args.unit) c.args.puts.now))
