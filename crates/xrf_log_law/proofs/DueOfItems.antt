-- What a job at work knows at an ITEM and at a keypoint.
use Rattle.std.proofs.Common.{Bool, false, refl, true, ◌≡◌, if◌then◌else◌, List, Some, subst, ℕ, ◌||◌, [], ◌∷◌, arith, length, ◌≤◌, Option, ap, sym, ◌∙◌, ◌+◌, ◌-◌, filter, map, None, drop, not, ◌&&◌, nat_le, nat_lt, ◌/◌, ◌<◌, nat_eq}
use Rattle.std.specs.List.{list_any}
use Rattle.std.specs.Cmp.Lexicographic.{pointwise}
use Rattle.std.proofs.lemmas.Grind.{common_steps}
use Rattle.xrf_base.specs.declared.items.UnitId.{UnitId}
use Rattle.xrf_base.specs.declared.items.Item.{Item}
use Rattle.xrf_logrec.specs.LogRecords.{same_unit}
use Rattle.xrf_logrec.specs.declared.records.Undo.{Undo}
use Rattle.xrf_logrec.specs.declared.keypoints.Keypoint.{Keypoint}
use Rattle.xrf_log.specs.Flight.{flight, has_ended, open_puts}
use Rattle.xrf_log.specs.declared.taken.Row.{Row}
use Rattle.xrf_file.specs.declared.rows.OpenUnit.{OpenUnit}
use Rattle.xrf_file.specs.Rows.{unit_named, is_hot, hot_with, is_locked, undo_of}
use Rattle.xrf_file.specs.Ledger.{Ledger, is_log_full, after_end, commit_plan, get_plan, is_bad_rrn, plan_of, planned, put_plan, roll_plan, undo_rows, least_number, oldest}
use Rattle.xrf_file.specs.declared.rows.LoggedPut.{LoggedPut}
use Rattle.xrf_file.specs.declared.answers.Plan.{Plan}
use Rattle.xrf_history.specs.Events.{Event, Given}
use Rattle.xrf_history.specs.declared.settings.Settings.{Settings}
use Rattle.xrf_history.specs.Holding.{is_restarted}
use Rattle.xrf_history.specs.Working.{keypoint_due, ledger, next_keypoint, rolled_left}
use Rattle.xrf_history.specs.Restarting.{last_keypoint}
use Rattle.xrf_log_law.specs.AtWork.{IsOpenUnit, Ledgers, open_numbered, Last}
use Rattle.xrf_log_law.specs.LogSlots.{AtEnd}
use Rattle.xrf_log_law.specs.State.{State, View, log_part, AreOver}
use Rattle.xrf_log_law.proofs.LedgerLaws.{hot-in_flight, flight-hot_with, locked-free, own-covers, own-rows, own-undone, least-le, oldest-over}
use Rattle.xrf_log_law.specs.Due.{PlanDue, RollDue, KeyDue}
use Rattle.xrf_log_law.specs.BeforeImages.{covers, undo_at}
use Rattle.xrf_log_law.proofs.Tests.{choose_if, and-right}
use Rattle.xrf_base.specs.declared.items.Item.TheVariants as items
use Rattle.xrf_file.specs.declared.answers.Plan.TheVariants as plans
use Rattle.xrf_trace.proofs.PromiseLaws.{same_unit-refl}

-- the unit of a name is open
pub named-open : (name : List ℕ) (units : List OpenUnit) (unit : UnitId) → unit_named name units ≡ Some unit → IsOpenUnit unit units
named-open name [] unit is = absurd (cc)
named-open name (o ∷ units) unit is = by (pointwise nat_eq o.name name) is (named-open name units unit)
  where
    some-same : (a b : UnitId) → Some a ≡ Some b → a ≡ b
    some-same a b same = cc

    by : (b : Bool) → (if b then Some o.unit else unit_named name units) ≡ Some unit → (unit_named name units ≡ Some unit → IsOpenUnit unit units)
        → (same_unit o.unit unit || list_any (λ (q : OpenUnit). same_unit q.unit unit) units) ≡ true
    by true is rest =
        let e : same_unit o.unit unit ≡ true = subst (λ (u : UnitId). same_unit o.unit u ≡ true) (some-same o.unit unit is)
        (same_unit-refl o.unit) in rw e refl
    by false is rest = second (same_unit o.unit unit) (list_any (λ (q : OpenUnit). same_unit q.unit unit) units) (rest is)
      where
        second : (a b : Bool) → b ≡ true → (a || b) ≡ true
        second true b e = refl
        second false b e = e

-- where a unit is found there is one
some-flight : (unit : UnitId) (units : List UnitId) → list_any (λ u. same_unit u unit) units ≡ true → 1 ≤ length units
some-flight unit [] found = absurd (cc)
some-flight unit (u ∷ units) found = omega arith

-- a unit that is hot ends at the end of the log
end-at : (size : ℕ) (first : ℕ → Option (List ℕ)) (v : View) (l : Ledger) (unit : UnitId) → State size first v → Ledgers size v.log v.start l
    → is_hot unit l.puts ≡ true
    → AtEnd size l.next (log_part v) × (list_any (λ u. same_unit u unit) (flight v.log) ≡ true)
end-at size first v l unit state is hot =
    let found : list_any (λ u. same_unit u unit) (flight v.log) ≡ true = hot-in_flight v.log unit (sym (ap (is_hot unit) is.puts) ∙ hot) in (
      record {
        next = sym is.next;
        start = omega (arith, is.next, state.within);
        room = omega
            (arith, is.next, state.room, some-flight unit (flight v.log) found);
      },
      found,
    )

-- what is due of a PUT that is planned
put-due : (size : ℕ) (first : ℕ → Option (List ℕ)) (v : View) (l : Ledger) (rolled : UnitId → List Undo) (unit : UnitId) (rrn : ℕ) (value : List ℕ)
    → State size first v → Ledgers size v.log v.start l
    → IsOpenUnit unit l.units → is_locked unit rrn l.puts ≡ false → is_log_full l unit ≡ false → PlanDue size first v rolled (plans.Put unit rrn value l.next)
put-due size first v l rolled unit rrn value state is here free room =
    let open_yet : has_ended unit v.log ≡ false = is.unended unit here in
    let fits : l.next - l.start + hot_with unit l.units l.puts + 1 ≤ l.slots = grind (arith, common_steps) in
    let named : (u : UnitId) → is_hot u (open_numbered v.log) ≡ true → IsOpenUnit u l.units = λ u hot. is.named u (ap (is_hot u) is.puts ∙ hot) in
    let count : hot_with unit l.units l.puts ≡ hot_with unit l.units (open_numbered v.log) = ap (hot_with unit l.units) is.puts in (
      record { next = sym is.next; start = omega (arith, is.next, state.within); room = omega (arith, is.next, is.begins, is.slots, fits, state.within) },
      record {
        open_yet = open_yet;
        free = sym (locked-free v.log unit rrn) ∙ sym (ap (is_locked unit rrn) is.puts) ∙ free;
        room =
            λ before. omega (
              arith,
              flight-hot_with v.log unit rrn before l.units open_yet here named,
              count,
              fits,
              is.next,
              is.begins,
              is.slots,
              state.within,
            );
      },
    )

-- what is due of a ROLL that is planned
roll-due : (first : ℕ → Option (List ℕ)) (size : ℕ) (v : View) (l : Ledger) (unit : UnitId) → State size first v → Ledgers size v.log v.start l
    → list_any (λ u. same_unit u unit) (flight v.log) ≡ true
    → RollDue first v unit (undo_of unit l.puts)
roll-due first size v l unit state is found =
    let rows : undo_of unit l.puts ≡ map (λ (row : Row). row.undo) (filter (λ row. same_unit row.unit unit) (open_puts v.log)) = ap
    (undo_of unit) is.puts ∙ own-rows v.log unit in
    record {
      hot = found;
      left =
          λ r put. ap (λ (u : List Undo). undo_at r u (v.image r)) rows
          ∙ own-undone unit r (open_puts v.log) (v.image r) (state.undone.locked unit r put) ∙ state.undone.back r;
      own = λ r covered. own-covers unit r (open_puts v.log) (sym (ap (covers r) rows) ∙ covered);
    }

-- what is due of each plan
item-due : (size : ℕ) (first : ℕ → Option (List ℕ)) (v : View) (l : Ledger) (item : Item) → State size first v → Ledgers size v.log v.start l → Last first v
    → PlanDue size first v (λ u. drop 0 (undo_rows u (planned l item))) (plan_of l item)
item-due size first v l (items.Put name rrn value) state is last = by (unit_named name l.units) refl
  where
    P : Plan → Type 0
    P = PlanDue size first v (λ u. drop 0 (undo_rows u l))

    by : (o : Option UnitId) → unit_named name l.units ≡ o → PlanDue size first v (λ u. drop 0 (undo_rows u l)) (put_plan l o rrn value)
    by None e = tt
    by (Some unit) e =
        choose_if (PlanDue size first v (λ u. drop 0 (undo_rows u l))) (is_bad_rrn l rrn) _ _ (λ b. tt)
        (λ b. choose_if (PlanDue size first v (λ u. drop 0 (undo_rows u l))) (is_locked unit rrn l.puts) _ _ (λ c. tt)
        (λ free. choose_if (PlanDue size first v (λ u. drop 0 (undo_rows u l))) (is_log_full l unit) _ _ (λ c. tt)
        (λ room. put-due size first v l (λ u. drop 0 (undo_rows u l)) unit rrn value state is (named-open name l.units unit e) free room)))
item-due size first v l (items.Get name rrn) state is last = by (unit_named name l.units)
  where
    by : (o : Option UnitId) → PlanDue size first v (λ u. drop 0 (undo_rows u l)) (get_plan l o rrn)
    by None = tt
    by (Some unit) =
        choose_if (PlanDue size first v (λ u. drop 0 (undo_rows u l))) (is_bad_rrn l rrn) _ _ (λ b. tt)
        (λ b. choose_if (PlanDue size first v (λ u. drop 0 (undo_rows u l))) (is_locked unit rrn l.puts) _ _ (λ c. tt) (λ c. tt))
item-due size first v l (items.Commit name) state is last = by (unit_named name l.units)
  where
    by : (o : Option UnitId) → PlanDue size first v (λ u. drop 0 (undo_rows u (planned l (items.Commit name)))) (commit_plan l o)
    by None = tt
    by (Some unit) =
        choose_if (PlanDue size first v (λ u. drop 0 (undo_rows u (planned l (items.Commit name))))) (is_hot unit l.puts) _ _
        (λ hot. (let end = end-at size first v l unit state is hot in (end.0, (end.1, λ r put. last unit r put refl)))) (λ b. tt)
item-due size first v l (items.Roll name) state is last = by (unit_named name l.units)
  where
    same-puts : (o : Option UnitId) → (after_end l o).puts ≡ l.puts
    same-puts None = refl
    same-puts (Some u) = cases (is_hot u l.puts)
      where
        cases : (b : Bool) → (if b then l else record l { units = filter (λ (q : OpenUnit). not (same_unit q.unit u)) l.units }).puts ≡ l.puts
        cases true = refl
        cases false = refl

    by : (o : Option UnitId) → PlanDue size first v (λ u. drop 0 (undo_rows u (planned l (items.Roll name)))) (roll_plan l o)
    by None = tt
    by (Some unit) =
        choose_if (PlanDue size first v (λ u. drop 0 (undo_rows u (planned l (items.Roll name))))) (is_hot unit l.puts) _ _
        (λ hot. (let end = end-at size first v l unit state is hot in (
          end.0,
          subst (λ (p : List LoggedPut). RollDue first v unit (undo_of unit p)) (sym (same-puts (unit_named name l.units)))
              (roll-due first size v l unit state is end.1),
        ))) (λ b. tt)
item-due size first v l _ state is last = tt

-- what is due of a keypoint
pub key-due : (size : ℕ) (first : ℕ → Option (List ℕ)) (v : View) (p : Settings) (h : List Event) → State size first v → Ledgers size v.log v.start (ledger p h)
    → last_keypoint p h ≡ record { number = v.number; start = v.start } → keypoint_due p h ≡ true → KeyDue v (next_keypoint p h)
key-due size first v p h state is last due =
    let l : Ledger = ledger p h in
    let less : l.start < oldest l = grind (
      arith,
      common_steps,
      and-right (is_restarted h && nat_le (p.limits.log / 2) (l.next - l.start)) (nat_lt l.start (oldest l)) due,
    ) in
    record {
      next = ap (λ (k : Keypoint). k.number + 1) last;
      later = omega (arith, less, is.begins);
      within = omega (arith, least-le l.next l.puts, is.next);
      over = subst (λ (q : List LoggedPut). AreOver (least_number l.next q) v.log) (sym is.puts) (oldest-over v.log l.next);
    }

-- what is due of each item
pub items-due : (size : ℕ) (first : ℕ → Option (List ℕ)) (v : View) (p : Settings) (h : List Event) → State size first v
    → Ledgers size v.log v.start (ledger p h) → Last first v
    → (item : Item) → PlanDue size first v (λ u. rolled_left p u (Given item ∷ h)) (plan_of (ledger p h) item)
items-due size first v p h state is last item = item-due size first v (ledger p h) item state is last
