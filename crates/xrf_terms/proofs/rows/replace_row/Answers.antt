use Rattle.std.proofs.Common.{◌∙◌, sym, ap, refl, List}
use Rattle.std.specs.List.{position}
use Rattle.xrf_terms.specs.declared.rows.Row.{Row}
use Rattle.xrf_terms.specs.Table.{is_of}
use Rattle.xrf_terms.proofs.Places.{stands_at, has_row-nowhere, replaced_same}
use Rattle.xrf_terms.proofs.TableLaws.{table-replaced}
use Rattle.xrf_terms.proofs.rows.replace_row.Goals as goal

pub returns-then-same_row-clause-rows : goal.returns-then-same_row-clause-rows
returns-then-same_row-clause-rows c =
    let at = c.in-Some.ensures ∙ ap (λ (rows : List Row). position (is_of c.args.row.term) rows) c.as_slice.ensures.value in
    replaced_same c.args.row c.index.result.now c.args.rows.now.items c.in-Some.place at c.index.ensures (c.same_row.ensures.0 c.if-same_row.true)

pub unreachable-requires : goal.unreachable-requires
unreachable-requires c =
    let none = c.in-None.ensures ∙ ap (λ (rows : List Row). position (is_of c.args.row.term) rows) c.as_slice.ensures.value in
    has_row-nowhere c.args.row.term c.args.rows.now.items c.requires.there none

pub returns-clause-rows : goal.returns-clause-rows
returns-clause-rows c =
    let at = c.in-Some.ensures ∙ ap (λ (rows : List Row). position (is_of c.args.row.term) rows) c.as_slice.ensures.value in
    sym ((stands_at c.args.row.term c.args.rows.now.items c.in-Some.place at).set c.args.row refl)

pub returns-clause-table : goal.returns-clause-table
returns-clause-table c =
    let at = c.in-Some.ensures ∙ ap (λ (rows : List Row). position (is_of c.args.row.term) rows) c.as_slice.ensures.value in
    table-replaced c.args.row c.args.rows.now.items _ c.requires.table (sym ((stands_at c.args.row.term c.args.rows.now.items c.in-Some.place at).set c.args.row refl))
