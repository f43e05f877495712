use Rattle.std.proofs.Common.{List, ℕ, ap, arith, filter, length, ◌≤◌}
use Rattle.std.proofs.lemmas.List.{length-map}
use Rattle.std.specs.Str.{bytes_eq}
use Rattle.xrf_clt.specs.Kept.{Kept}
use Rattle.xrf_clt.specs.Table.{texts_for}
use Rattle.xrf_logrec.proofs.Lists.{length-filter-le}
use Rattle.xrf_world.proofs.settings.settings_of.Goals as goal

-- an applid has no more lines than there are
few : (applid : List ℕ) (kept : List Kept) → length (texts_for applid kept) ≤ length kept
few applid kept =
    omega (
      arith,
      length-map (filter (λ (k : Kept). bytes_eq k.applid applid) kept) (λ (k : Kept). k.text),
      length-filter-le (λ (k : Kept). bytes_eq k.applid applid) kept,
    )

pub overflow_cast-result : goal.overflow_cast-result
overflow_cast-result c =
    omega (
      arith,
      few c.applid.result c.clt.result.now,
      c.count_for-lines.ensures,
      ap length c.clt.ensures.clt,
      c.clt.ensures.scenario.clt_few,
    )
