use Rattle.std.proofs.Common.{◌≡◌, ◌∙◌, sym, ap, List, arith}
use Rattle.std.specs.Prelude.{insert}
use Rattle.std.specs.List.{position}
use Rattle.xrf_terms.specs.declared.rows.Row.{Row}
use Rattle.xrf_terms.specs.Table.{is_later, inserted}
use Rattle.xrf_terms.proofs.Places.{inserted_at, inserted-other}
use Rattle.xrf_terms.proofs.TableLaws.{table-inserted}
use Rattle.xrf_terms.proofs.rows.insert_row.Goals as goal

put : (c : goal.After-unwrap) → c.insert.new.self.items ≡ inserted c.args.row c.args.rows.now.items
put c =
    let at : c.insert.new.self.items ≡ insert c.args.rows.now.items c.unwrap_or-place.result c.args.row = grind (arith, c.insert.ensures.items, c.unwrap.ensures) in
    inserted_at c.args.row c.args.rows.now.items c.insert.new.self.items c.later_row.result c.unwrap_or-place.result c.len.result
    (c.later_row.ensures ∙ ap (λ (rows : List Row). position (is_later c.args.row.term) rows) c.as_slice.ensures.value)
    c.unwrap_or-place.ensures (omega (arith, c.len.ensures, c.args.rows.now.ok.0)) at

pub returns-clause-rows : goal.returns-clause-rows
returns-clause-rows c = put c

pub returns-clause-table : goal.returns-clause-table
returns-clause-table c = table-inserted c.args.row c.args.rows.now.items c.insert.new.self.items c.requires.table c.requires.absent c.requires.few (put c)

pub returns-clause-other : goal.returns-clause-other
returns-clause-other c same = inserted-other c.args.row c.args.rows.now.items (sym (put c) ∙ same)
