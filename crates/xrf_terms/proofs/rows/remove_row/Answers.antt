use Rattle.std.proofs.Common.{◌∙◌, sym, ap, List}
use Rattle.std.specs.List.{position}
use Rattle.xrf_terms.specs.declared.rows.Row.{Row}
use Rattle.xrf_terms.specs.Table.{is_of}
use Rattle.xrf_terms.proofs.Places.{stands_at, stands_nowhere, has_row-at, has_row-none}
use Rattle.xrf_terms.proofs.TableLaws.{table-without}
use Rattle.xrf_terms.proofs.rows.remove_row.Goals as goal

pub returns-in-Some-clause-rows : goal.returns-in-Some-clause-rows
returns-in-Some-clause-rows c =
    let at = c.in-Some.ensures ∙ ap (λ (rows : List Row). position (is_of c.args.term) rows) c.as_slice.ensures.value in
    c.remove.ensures.items ∙ sym (stands_at c.args.term c.args.rows.now.items c.in-Some.place at).removed

pub returns-in-None-clause-rows : goal.returns-in-None-clause-rows
returns-in-None-clause-rows c =
    let none = c.in-None.ensures ∙ ap (λ (rows : List Row). position (is_of c.args.term) rows) c.as_slice.ensures.value in
    sym (stands_nowhere c.args.term c.args.rows.now.items none).kept

pub returns-in-Some-clause-table : goal.returns-in-Some-clause-table
returns-in-Some-clause-table c =
    let at = c.in-Some.ensures ∙ ap (λ (rows : List Row). position (is_of c.args.term) rows) c.as_slice.ensures.value in
    table-without c.args.term c.args.rows.now.items c.remove.new.self.items c.requires.table
    (c.remove.ensures.items ∙ sym (stands_at c.args.term c.args.rows.now.items c.in-Some.place at).removed)

pub returns-in-Some-clause-there : goal.returns-in-Some-clause-there
returns-in-Some-clause-there c =
    sym (has_row-at c.args.term c.args.rows.now.items c.in-Some.place (c.in-Some.ensures ∙ ap (λ (rows : List Row). position (is_of c.args.term) rows) c.as_slice.ensures.value))

pub returns-in-None-clause-there : goal.returns-in-None-clause-there
returns-in-None-clause-there c =
    sym (has_row-none c.args.term c.args.rows.now.items (c.in-None.ensures ∙ ap (λ (rows : List Row). position (is_of c.args.term) rows) c.as_slice.ensures.value))
