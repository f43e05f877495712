-- Changes of a table keep its order.
use Rattle.std.proofs.Common.{◌≡◌, ℕ, suc, ◌≤◌, Bool, true, false, cond, List, [], ◌∷◌, length, Some, None, refl, sym, ap, ◌∙◌, subst, arith}
use Rattle.std.specs.declared.cmp.Ordering.{Ordering}
use Rattle.std.specs.declared.cmp.Ordering.TheVariants.{Less, Equal, Greater}
use Rattle.std.specs.Ordering.{is_lt, is_eq}
use Rattle.std.specs.Str.{bytes_eq}
use Rattle.std.proofs.lemmas.Cmp.{nat_list_cmp_total}
use Rattle.std.proofs.lemmas.Map.Text.{is_eq-slice_cmp}
use Rattle.std.proofs.lemmas.Slice.Eq.{bytes_eq-Decides}
use Rattle.xrf_terms.specs.declared.rows.Row.{Row}
use Rattle.xrf_terms.specs.declared.rows.How.{How}
use Rattle.xrf_terms.specs.declared.rows.How.TheVariants.{On, Tracked, Switched, Acquired}
use Rattle.xrf_terms.specs.Table.{compare_names, FirstComesAfter, AreOrdered, is_of, is_later, row_of, replaced, inserted, without}
use Rattle.xrf_terms.specs.Tracking.{settled_row, settled}

-- the first of the rows that are inserted comes after an earlier row
first_after-inserted : (earlier row : Row) (rows : List Row) → compare_names earlier.term row.term ≡ Less → FirstComesAfter earlier rows → FirstComesAfter earlier (inserted row rows)
first_after-inserted earlier row [] before after = before
first_after-inserted earlier row (next ∷ rows) before after = by (is_later row.term next)
  where
    by : (later : Bool) → FirstComesAfter earlier (cond later (row ∷ next ∷ rows) (next ∷ inserted row rows))
    by true = before
    by false = after

-- of two names that aren't one, and the second doesn't come after the first, it comes before
comes_before : (a b : List ℕ) (order : Ordering) → compare_names a b ≡ order → is_lt order ≡ false → bytes_eq b a ≡ false → compare_names b a ≡ Less
comes_before a b Less is later other = cc
comes_before a b Equal is later other =
    let e : bytes_eq a b ≡ true = sym (is_eq-slice_cmp a b) ∙ ap is_eq is in
    let s : bytes_eq b a ≡ true = (bytes_eq-Decides b a).1 (sym ((bytes_eq-Decides a b).0 e)) in
    cc
comes_before a b Greater is later other = nat_list_cmp_total.antisymm b a ∙ rw is refl

pub ordered-inserted : (row : Row) (rows : List Row) → AreOrdered rows → None ≡ row_of row.term rows → AreOrdered (inserted row rows)
ordered-inserted row [] ordered absent = (tt, tt)
ordered-inserted row (next ∷ rows) ordered absent = by_own (is_of row.term next) refl absent (ordered-inserted row rows ordered.1)
  where
    by_later : (later : Bool) → is_later row.term next ≡ later → is_of row.term next ≡ false → AreOrdered (inserted row rows) → AreOrdered (cond later (row ∷ next ∷ rows) (next ∷ inserted row rows))
    by_later true e other more = (is_less (compare_names row.term next.term) refl e, ordered)
      where
        is_less : (order : Ordering) → compare_names row.term next.term ≡ order → is_lt order ≡ true → compare_names row.term next.term ≡ Less
        is_less Less is later = is
        is_less Equal is later = cc
        is_less Greater is later = cc
    by_later false e other more =
        (first_after-inserted next row rows (comes_before row.term next.term (compare_names row.term next.term) refl e other) ordered.0, more)

    by_own : (own : Bool) → is_of row.term next ≡ own → None ≡ cond own (Some next) (row_of row.term rows)
        → (None ≡ row_of row.term rows → AreOrdered (inserted row rows)) → AreOrdered (inserted row (next ∷ rows))
    by_own true e none more = cc
    by_own false e none more = by_later (is_later row.term next) refl e (more none)

-- what comes before the first of some rows comes before the second
first_after-rest : (earlier next : Row) (rows : List Row) → compare_names earlier.term next.term ≡ Less → FirstComesAfter next rows → FirstComesAfter earlier rows
first_after-rest earlier next [] before after = tt
first_after-rest earlier next (third ∷ rows) before after = nat_list_cmp_total.trans earlier.term next.term third.term before after

first_after-without : (earlier : Row) (term : List ℕ) (rows : List Row) → FirstComesAfter earlier rows → AreOrdered rows → FirstComesAfter earlier (without term rows)
first_after-without earlier term [] after ordered = tt
first_after-without earlier term (next ∷ rows) after ordered = by (is_of term next)
  where
    by : (own : Bool) → FirstComesAfter earlier (cond own rows (next ∷ without term rows))
    by true = first_after-rest earlier next rows after ordered.0
    by false = after

pub ordered-without : (term : List ℕ) (rows : List Row) → AreOrdered rows → AreOrdered (without term rows)
ordered-without term [] ordered = tt
ordered-without term (next ∷ rows) ordered = by (is_of term next) (ordered-without term rows ordered.1)
  where
    by : (own : Bool) → AreOrdered (without term rows) → AreOrdered (cond own rows (next ∷ without term rows))
    by true more = ordered.1
    by false more = (first_after-without next term rows ordered.0 ordered.1, more)

pub length-without : (term : List ℕ) (rows : List Row) → length (without term rows) ≤ length rows
length-without term [] = omega arith
length-without term (next ∷ rows) = by (is_of term next) (length-without term rows)
  where
    by : (own : Bool) → length (without term rows) ≤ length rows → length (cond own rows (next ∷ without term rows)) ≤ length (next ∷ rows)
    by true more = omega arith
    by false more = omega arith

-- a row in place of one of its terminal has the same place in the order
same_term : (old row : Row) → is_of row.term old ≡ true → old.term ≡ row.term
same_term old row own = (bytes_eq-Decides old.term row.term).0 own

first_after-replaced : (earlier row : Row) (rows : List Row) → FirstComesAfter earlier rows → FirstComesAfter earlier (replaced row rows)
first_after-replaced earlier row [] after = tt
first_after-replaced earlier row (next ∷ rows) after = by (is_of row.term next) refl
  where
    by : (own : Bool) → is_of row.term next ≡ own → FirstComesAfter earlier (cond own (row ∷ rows) (next ∷ replaced row rows))
    by true own = subst (λ (t : List ℕ). compare_names earlier.term t ≡ Less) (same_term next row own) after
    by false own = after

first_of : (old row : Row) (rows : List Row) → old.term ≡ row.term → FirstComesAfter old rows → FirstComesAfter row rows
first_of old row [] same after = tt
first_of old row (next ∷ rows) same after = subst (λ (t : List ℕ). compare_names t next.term ≡ Less) same after

pub ordered-replaced : (row : Row) (rows : List Row) → AreOrdered rows → AreOrdered (replaced row rows)
ordered-replaced row [] ordered = tt
ordered-replaced row (next ∷ rows) ordered = by (is_of row.term next) refl (ordered-replaced row rows ordered.1)
  where
    by : (own : Bool) → is_of row.term next ≡ own → AreOrdered (replaced row rows) → AreOrdered (cond own (row ∷ rows) (next ∷ replaced row rows))
    by true own more = (first_of next row rows (same_term next row own) ordered.0, ordered.1)
    by false own more = (first_after-replaced next row rows ordered.0, more)

pub length-replaced : (row : Row) (rows : List Row) → length (replaced row rows) ≡ length rows
length-replaced row [] = refl
length-replaced row (next ∷ rows) = by (is_of row.term next) (length-replaced row rows)
  where
    by : (own : Bool) → length (replaced row rows) ≡ length rows → length (cond own (row ∷ rows) (next ∷ replaced row rows)) ≡ length (next ∷ rows)
    by true more = refl
    by false more = ap suc more

-- a row that is settled keeps its terminal
settled-term : (force : Bool) (row : Row) (how : How) → (settled_row force row how).term ≡ row.term
settled-term force row On = refl
settled-term force row Tracked = refl
settled-term force row Switched = refl
settled-term force row Acquired = refl

first_after-settled : (force : Bool) (earlier : Row) (rows : List Row) → FirstComesAfter earlier rows → FirstComesAfter (settled_row force earlier earlier.how) (settled force rows)
first_after-settled force earlier [] after = tt
first_after-settled force earlier (next ∷ rows) after = rw (settled-term force earlier earlier.how, settled-term force next next.how) after

pub ordered-settled : (force : Bool) (rows : List Row) → AreOrdered rows → AreOrdered (settled force rows)
ordered-settled force [] ordered = tt
ordered-settled force (row ∷ rows) ordered = (first_after-settled force row rows ordered.0, ordered-settled force rows ordered.1)
