use Rattle.xrf_terms.proofs.TableLaws.{table-settled_each}
use Rattle.xrf_terms.proofs.changes.settle_rows.Goals as goal

pub returns-clause-table : goal.returns-clause-table
returns-clause-table c =
    table-settled_each c.args.force c.args.rows.now.len c.args.rows.now.items c.deref_mut.result.now c.settle_each.new.rows c.requires.table
    c.args.rows.now.ok.0 c.deref_mut.ensures.value c.settle_each.ensures
