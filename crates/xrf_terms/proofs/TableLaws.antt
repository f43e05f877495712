-- Changes of a table leave a table.
use Rattle.std.proofs.Common.{◌≡◌, ℕ, suc, ◌∷◌, ◌<◌, Bool, false, List, [], ◌++◌, length, take, drop, Option, Some, None, is_some, refl, sym, ap, ◌∙◌, subst, arith}
use Rattle.std.proofs.lemmas.List.{append-nil, take_all, drop_all}
use Rattle.xrf_terms.specs.declared.rows.Row.{Row}
use Rattle.xrf_terms.specs.Table.{IsTable, row_of, has_row, replaced, inserted, without}
use Rattle.xrf_terms.specs.Tracking.{settled}
use Rattle.xrf_terms.proofs.Places.{length-inserted}
use Rattle.xrf_terms.proofs.Order.{ordered-inserted, ordered-without, length-without, ordered-replaced, length-replaced, ordered-settled}

none_is : (found : Option Row) → is_some found ≡ false → None ≡ found
none_is None e = refl
none_is (Some row) e = cc

pub table-inserted : (row : Row) (rows after : List Row) → IsTable rows → has_row row.term rows ≡ false → length rows < 64 → after ≡ inserted row rows → IsTable after
table-inserted row rows after table absent few is =
    subst IsTable (sym is) (record {
      ordered = ordered-inserted row rows table.ordered (none_is (row_of row.term rows) absent);
      few = let len = length-inserted row rows in omega arith;
    })

pub table-without : (term : List ℕ) (rows after : List Row) → IsTable rows → after ≡ without term rows → IsTable after
table-without term rows after table is =
    subst IsTable (sym is) (record { ordered = ordered-without term rows table.ordered; few = let few = table.few in let len = length-without term rows in omega arith })

pub table-replaced : (row : Row) (rows after : List Row) → IsTable rows → after ≡ replaced row rows → IsTable after
table-replaced row rows after table is =
    subst IsTable (sym is) (record { ordered = ordered-replaced row rows table.ordered; few = let few = table.few in let len = length-replaced row rows in omega arith })

length-settled : (force : Bool) (rows : List Row) → length (settled force rows) ≡ length rows
length-settled force [] = refl
length-settled force (row ∷ rows) = ap suc (length-settled force rows)

pub table-settled : (force : Bool) (rows after : List Row) → IsTable rows → after ≡ settled force rows → IsTable after
table-settled force rows after table is =
    subst IsTable (sym is) (record { ordered = ordered-settled force rows table.ordered; few = let few = table.few in let len = length-settled force rows in omega arith })

-- a whole table that is written back
pub written_back : (len : ℕ) (rows after : List Row) → len ≡ length rows → length after ≡ length rows → take len (after ++ drop (length after) rows) ≡ after
written_back len rows after len_is same =
    let none : drop (length after) rows ≡ [] = drop_all (length after) rows (omega arith) in
    rw none (rw (append-nil after) (take_all len after (omega arith)))

pub table-settled_each : (force : Bool) (len : ℕ) (rows lent after : List Row) → IsTable rows → len ≡ length rows → lent ≡ rows → after ≡ settled force lent
    → IsTable (take len (after ++ drop (length after) rows))
table-settled_each force len rows lent after table len_is lent_is is =
    let all : after ≡ settled force rows = is ∙ ap (settled force) lent_is in
    table-settled force rows (take len (after ++ drop (length after) rows)) table
    (written_back len rows after len_is (ap length all ∙ length-settled force rows) ∙ all)
