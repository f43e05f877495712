-- What a job does for its item, after each of its acts.
use Rattle.std.proofs.Common.{Some, ◌≡◌, Bool, None, Option, false, refl, true, if◌then◌else◌, List, subst, ℕ, arith, length, nat_lt, slice_get, sym, ◌+◌, ◌-◌, ◌<◌, [], ◌∷◌, ◌∙◌}
use Rattle.std.proofs.lemmas.Grind.{common_steps}
use Rattle.std.proofs.lemmas.Option.{slice_get-get_or}
use Rattle.xrf_base.specs.declared.items.UnitId.{UnitId}
use Rattle.xrf_base.specs.declared.items.ItemAnswer.TheVariants.{Done}
use Rattle.xrf_base.specs.declared.items.Item.{Item}
use Rattle.xrf_logrec.specs.declared.records.LogRec.TheVariants.{Commit, Backout, Put}
use Rattle.xrf_logrec.specs.declared.records.LogRec.{LogRec}
use Rattle.xrf_logrec.specs.LogRecords.{same_unit}
use Rattle.xrf_file.specs.Ledger.{Ledger, after_end, closed, commit_plan, get_plan, is_bad_rrn, is_log_full, plan_of, planned, put_plan, roll_plan, keyed}
use Rattle.xrf_file.specs.Rows.{is_hot, is_locked, unit_named, without_unit}
use Rattle.xrf_file.specs.declared.rows.OpenUnit.{OpenUnit}
use Rattle.xrf_file.specs.declared.answers.Plan.{Plan}
use Rattle.xrf_history.specs.Working.{after_record}
use Rattle.xrf_history.specs.Next.{record_of_plan}
use Rattle.xrf_log_law.specs.Serving.{Serving}
use Rattle.xrf_log_law.proofs.Tests.{choose_if, no-clash}
use Rattle.xrf_log_law.specs.AtWork.{IsOpenUnit}
use Rattle.xrf_log_law.proofs.LedgerSteps.{open-left}
use Rattle.xrf_log_law.proofs.SameRecords.{same-backout, same-commit}
use Rattle.xrf_base.specs.declared.items.Item.TheVariants as items
use Rattle.xrf_file.specs.declared.answers.Plan.TheVariants as plans
use Rattle.xrf_trace.proofs.PromiseLaws.{same_unit-refl}

-- an item that is planned
pub serving-planned : (l : Ledger) (item : Item) → Serving (Some item) (planned l item) (plan_of l item)
serving-planned l (items.Put name rrn value) = by (unit_named name l.units) refl
  where
    by : (o : Option UnitId) → unit_named name l.units ≡ o → Serving (Some (items.Put name rrn value)) l (put_plan l o rrn value)
    by None e = tt
    by (Some unit) e =
        choose_if (Serving (Some (items.Put name rrn value)) l) (is_bad_rrn l rrn) _ _ (λ b. tt)
        (λ b. choose_if (Serving (Some (items.Put name rrn value)) l) (is_locked unit rrn l.puts) _ _ (λ c. tt)
        (λ c. choose_if (Serving (Some (items.Put name rrn value)) l) (is_log_full l unit) _ _ (λ d. tt) (λ d. (name, refl, e))))
serving-planned l (items.Get name rrn) = by (unit_named name l.units) refl
  where
    by : (o : Option UnitId) → unit_named name l.units ≡ o → Serving (Some (items.Get name rrn)) l (get_plan l o rrn)
    by None e = tt
    by (Some unit) e =
        choose_if (Serving (Some (items.Get name rrn)) l) (is_bad_rrn l rrn) _ _ (λ b. tt)
        (λ b. choose_if (Serving (Some (items.Get name rrn)) l) (is_locked unit rrn l.puts) _ _ (λ c. tt)
        (λ c. (name, refl, (unit, e, c))))
serving-planned l (items.Commit name) = by (unit_named name l.units) refl
  where
    hot : (unit : UnitId) (b : Bool) → unit_named name l.units ≡ Some unit
        → Serving (Some (items.Commit name)) (if b then l else closed l unit) (if b then plans.Commit unit l.next else plans.Answer Done)
    hot unit true e = (name, refl, λ here. e)
    hot unit false e = tt

    by : (o : Option UnitId) → unit_named name l.units ≡ o → Serving (Some (items.Commit name)) (after_end l o) (commit_plan l o)
    by None e = tt
    by (Some unit) e = hot unit (is_hot unit l.puts) e
serving-planned l (items.Roll name) = by (unit_named name l.units) refl
  where
    hot : (unit : UnitId) (b : Bool) → unit_named name l.units ≡ Some unit
        → Serving (Some (items.Roll name)) (if b then l else closed l unit) (if b then plans.Roll unit l.next else plans.Answer Done)
    hot unit true e = (name, refl, λ here. e)
    hot unit false e = tt

    by : (o : Option UnitId) → unit_named name l.units ≡ o → Serving (Some (items.Roll name)) (after_end l o) (roll_plan l o)
    by None e = tt
    by (Some unit) e = hot unit (is_hot unit l.puts) e
serving-planned l (items.Begin name) = tt
serving-planned l _ = tt

-- a record of the plan joins the log
pub gone : {P : Type 0} (u unit : UnitId) (units : List OpenUnit) → u ≡ unit → IsOpenUnit u (without_unit unit units) → P
gone u unit units same here =
    let left = open-left u unit units here in
    no-clash (same_unit u unit) (subst (λ (w : UnitId). same_unit u w ≡ true) same (same_unit-refl u)) left.1

-- so the plan serves its item still
pub serving-recorded : (given : Option Item) (l : Ledger) (plan : Plan) (slot : List ℕ) (rec : LogRec) → record_of_plan plan slot ≡ Some rec
    → Serving given l plan → Serving given (after_record rec l) plan
serving-recorded given l (plans.Put u k value place) slot (Put unit rrn before) hand serving = serving
serving-recorded given l (plans.Put u k value place) slot (Commit unit) hand serving = absurd (cc)
serving-recorded given l (plans.Put u k value place) slot (Backout unit) hand serving = absurd (cc)
serving-recorded given l (plans.Commit u place) slot (Commit unit) hand serving =
    (serving.0, serving.1, λ here. gone u unit l.units (same-commit u unit hand) here)
serving-recorded given l (plans.Commit u place) slot (Put unit rrn before) hand serving = absurd (cc)
serving-recorded given l (plans.Commit u place) slot (Backout unit) hand serving = absurd (cc)
serving-recorded given l (plans.Roll u place) slot (Backout unit) hand serving =
    (serving.0, serving.1, λ here. gone u unit l.units (same-backout u unit hand) here)
serving-recorded given l (plans.Roll u place) slot (Put unit rrn before) hand serving = absurd (cc)
serving-recorded given l (plans.Roll u place) slot (Commit unit) hand serving = absurd (cc)
serving-recorded given l (plans.Answer a) slot rec hand serving = tt
serving-recorded given l (plans.Get k) slot rec hand serving = absurd (cc)

-- and after a keypoint
pub serving-keyed : (given : Option Item) (l : Ledger) (start : ℕ) (plan : Plan) → Serving given l plan → Serving given (keyed l start) plan
serving-keyed given l start (plans.Put u k value place) serving = serving
serving-keyed given l start (plans.Commit u place) serving = serving
serving-keyed given l start (plans.Roll u place) serving = serving
serving-keyed given l start (plans.Answer a) serving = tt
serving-keyed given l start (plans.Get k) serving = serving

-- an item that is taken is there
pub item-there : {T : Type 0} (xs : List T) (n : ℕ) → nat_lt n (length xs) ≡ true → slice_get xs (n + 1 - 1) ≡ None → ⊥
item-there [] n less none = absurd (grind (arith, common_steps))
item-there (y ∷ ys) n less none =
    let within : n + 1 - 1 < length (y ∷ ys) = grind (arith, common_steps) in
    none-some y (sym none ∙ slice_get-get_or (y ∷ ys) (n + 1 - 1) y within)
  where
    none-some : {T : Type 0} (d : T) {e : T} → None ≡ Some e → ⊥
    none-some d e = absurd (cc)
