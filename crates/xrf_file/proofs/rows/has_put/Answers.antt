use Rattle.std.proofs.Common.{sym, ◌∙◌}
use Rattle.xrf_logrec.specs.LogRecords.{same_unit}
use Rattle.xrf_logrec.proofs.Lists.{list_any-reverse}
use Rattle.xrf_file.specs.declared.rows.LoggedPut.{LoggedPut}
use Rattle.xrf_file.proofs.rows.has_put.Goals as goal

pub returns : goal.returns
returns c =
    c.any_put.ensures
    ∙ sym (list_any-reverse (λ (put : LoggedPut). same_unit put.unit c.args.unit) c.args.puts.now)
