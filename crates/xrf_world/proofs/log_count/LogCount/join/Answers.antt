-- A record commits a unit once, so there are no more units committed than records.
use Rattle.std.proofs.Common.{◌≡◌, ◌≤◌, ◌+◌, Bool, true, false, if◌then◌else◌, List, [], ◌∷◌, ◌++◌, length, ap, sym, ◌∙◌, arith}
use Rattle.std.proofs.lemmas.List.{length-append}
use Rattle.std.specs.List.{list_any}
use Rattle.xrf_log.specs.Flight.{has_ended}
use Rattle.xrf_log_law.proofs.EndsInLog.{open-uncommitted}
use Rattle.xrf_logrec.specs.LogRecords.{same_unit, unit_of}
use Rattle.xrf_logrec.specs.declared.records.LogRec.{LogRec as Rec}
use Rattle.xrf_logrec.specs.declared.records.LogRec.TheVariants.{Put, Commit, Backout}
use Rattle.xrf_trace.specs.Log.{committed}
use Rattle.xrf_world.specs.Counts.{commits}
use Rattle.xrf_world.proofs.log_count.LogCount.join.Goals as goal

-- a record of a unit that has not ended
one_more : (rec : Rec) (records : List Rec) → has_ended (unit_of rec) records ≡ false
    → length (committed (rec ∷ records)) ≡ length (committed records) + commits rec
one_more (Put unit rrn before) records open_yet = omega arith
one_more (Backout unit) records open_yet = omega arith
one_more (Commit unit) records open_yet = by (list_any (same_unit unit) (committed records)) (open-uncommitted unit records open_yet)
  where
    by : (b : Bool) → b ≡ false → length (if b then committed records else committed records ++ unit ∷ []) ≡ length (committed records) + 1
    by true is = absurd (cc)
    by false is = length-append (committed records) (unit ∷ [])

fewer : (records : List Rec) → length (committed records) ≤ length records
fewer [] = omega arith
fewer (Put unit rrn before ∷ records) = let rest = fewer records in omega (arith, rest)
fewer (Backout unit ∷ records) = let rest = fewer records in omega (arith, rest)
fewer (Commit unit ∷ records) = let all = by (list_any (same_unit unit) (committed records)) (fewer records) in omega (arith, all)
  where
    by : (b : Bool) → length (committed records) ≤ length records
        → length (if b then committed records else committed records ++ unit ∷ []) ≤ length records + 1
    by true rest = omega (arith, rest)
    by false rest = omega (arith, rest, length-append (committed records) (unit ∷ []))

one_at_most : (rec : Rec) → commits rec ≤ 1
one_at_most (Put unit rrn before) = omega arith
one_at_most (Backout unit) = omega arith
one_at_most (Commit unit) = omega arith

pub overflow_add-self-2 : goal.overflow_add-self-2
overflow_add-self-2 c =
    let is = c.requires.joins.2 in
    let joins = c.requires.joins.3 in
    omega (arith, is.committed, joins.few, fewer c.requires.joins.1, c.is_commit.ensures, one_at_most c.args.rec.now)

pub returns-clause-log : goal.returns-clause-log
returns-clause-log c = λ slots records is joins. record {
  records = omega (arith, is.records);
  committed = ap (λ n. n + c.is_commit.result) is.committed ∙ ap (λ n. length (committed records) + n) c.is_commit.ensures
      ∙ sym (one_more c.args.rec.now records joins.open_unit);
  flight = c.join_unit.ensures.units slots records is.flight joins;
}
