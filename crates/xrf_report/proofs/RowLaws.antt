-- The next row of a terminal table.
use Rattle.std.proofs.Common.{◌≡◌, ◌+◌, ℕ, zero, suc, List, [], ◌∷◌, ◌++◌, take, drop, slice_get, Some, ap, subst, arith}
use Rattle.std.specs.List.{AllByRecursion}
use Rattle.xrf_base.specs.declared.site.Site.{Site}
use Rattle.xrf_setup.specs.declared.format.Format.{Format}
use Rattle.xrf_terms.specs.declared.rows.Row.{Row}
use Rattle.xrf_report.specs.Fits.{RowFits}
use Rattle.xrf_report.specs.Terminals.{row_line, rows_text}

drop-at : (rows : List Row) (k : ℕ) (row : Row) → slice_get rows k ≡ Some row → drop k rows ≡ row ∷ drop (suc k) rows
drop-at [] k row is = absurd (cc)
drop-at (r ∷ rows) zero row is = cc
drop-at (r ∷ rows) (suc k) row is = drop-at rows k row is

one-more : (k : ℕ) → suc k ≡ k + 1
one-more k = omega arith

-- it is the first of those that are left
pub next-row : (xrf : Format) (x : Site) (rows : List Row) (k : ℕ) (row : Row) → slice_get rows k ≡ Some row
    → rows_text xrf x (drop k rows) ≡ row_line xrf x row ++ rows_text xrf x (drop (k + 1) rows)
next-row xrf x rows k row is =
    subst (λ (n : ℕ). rows_text xrf x (drop k rows) ≡ row_line xrf x row ++ rows_text xrf x (drop n rows)) (one-more k) (ap (rows_text xrf x) (drop-at rows k row is))

fits-on : (rows : List Row) (k : ℕ) (row : Row) → slice_get rows k ≡ Some row → RowFits row → AllByRecursion RowFits (take k rows)
    → AllByRecursion RowFits (take (suc k) rows)
fits-on [] k row is fits all = absurd (cc)
fits-on (r ∷ rows) zero row is fits all = let same : row ≡ r = cc in (subst RowFits same fits, tt)
fits-on (r ∷ rows) (suc k) row is fits all = (all.0, fits-on rows k row is fits all.1)

-- where it fits, one row more of the table fits
pub next-fits : (rows : List Row) (k : ℕ) (row : Row) → slice_get rows k ≡ Some row → RowFits row → AllByRecursion RowFits (take k rows)
    → AllByRecursion RowFits (take (k + 1) rows)
next-fits rows k row is fits all = subst (λ (n : ℕ). AllByRecursion RowFits (take n rows)) (one-more k) (fits-on rows k row is fits all)
