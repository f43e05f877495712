use Rattle.std.proofs.Common.{sym}
use Rattle.xrf_terms.proofs.Places.{stands_nowhere, row_read, has_row-found}
use Rattle.xrf_terms.proofs.rows.find_row.Goals as goal

pub returns-in-None-clause-row : goal.returns-in-None-clause-row
returns-in-None-clause-row c = sym (stands_nowhere c.args.term c.args.rows.now c.in-None.ensures).absent

pub returns-in-Some-clause-row : goal.returns-in-Some-clause-row
returns-in-Some-clause-row c = row_read c.args.term c.args.rows.now c.in-Some.place c.index-rows-place.result c.in-Some.ensures c.index-rows-place.is

pub returns-in-Some-clause-own : goal.returns-in-Some-clause-own
returns-in-Some-clause-own c =
    has_row-found c.args.term c.args.rows.now c.index-rows-place.result
    (row_read c.args.term c.args.rows.now c.in-Some.place c.index-rows-place.result c.in-Some.ensures c.index-rows-place.is)
