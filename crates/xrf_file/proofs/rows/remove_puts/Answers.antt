use Rattle.std.proofs.Common.{◌≡◌, not, reverse, rules, ap, sym, ◌∙◌}
use Rattle.std.proofs.lemmas.Fn.{filter_same}
use Rattle.xrf_logrec.specs.LogRecords.{same_unit}
use Rattle.xrf_logrec.proofs.Lists.{filter-reverse}
use Rattle.xrf_file.specs.declared.rows.LoggedPut.{LoggedPut}
use Rattle.xrf_file.specs.Rows.{without_puts}
use Rattle.xrf_file.proofs.rows.remove_puts.Goals as goal

pub returns-clause-items : goal.returns-clause-items
returns-clause-items c =
    let kept : c.retain.new.self.items ≡ without_puts c.args.unit c.args.puts.now.items = filter_same _ _ _ (λ x b f' k. search rules) _ _ c.retain.ensures.filtered in
    ap reverse kept ∙ sym (filter-reverse (λ (put : LoggedPut). not (same_unit put.unit c.args.unit)) c.args.puts.now.items)
