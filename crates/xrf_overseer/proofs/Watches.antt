-- What holds of every set that an overseer watches.
use Rattle.std.proofs.Common.{Bool, false, true, ℕ, suc, List, [], ◌∷◌, ◌++◌, None, Some, ◌≡◌, ap, refl, ◌+◌, ◌==◌, ◌⊎◌, inl, inr, length, slice_get, if◌then◌else◌, subst, sym, ◌∙◌, arith, Option, Ok, Err, Result, reverse}
use Rattle.std.proofs.lemmas.Grind.{common_steps}
use Rattle.xrf_logrec.proofs.Lists.{reverse-cons}
use Rattle.xrf_setup.specs.declared.choice.Choice.{Choice as Chosen}
use Rattle.xrf_setup.specs.declared.choice.Choice.TheVariants as choice
use Rattle.xrf_set.specs.SetSoFar.{pair_at}
use Rattle.xrf_set.specs.declared.set_line.SetHead.{SetHead}
use Rattle.xrf_set.specs.declared.set_line.SetLine.{SetLine}
use Rattle.xrf_set.specs.declared.set_line.SetLine.TheVariants as line
use Rattle.xrf_laws.proofs.EveryRun.{every-run}
use Rattle.xrf_trace.specs.Entries.{start_at}
use Rattle.xrf_trace.specs.Runs.{IsRun, outcome, run, run_from, Refusal}
use Rattle.xrf_trace.specs.Scenario.{Scen}
use Rattle.xrf_trace.specs.declared.entry.Act.TheVariants as act
use Rattle.xrf_trace.specs.declared.entry.Entry.{Entry}
use Rattle.xrf_trace.specs.declared.entry.Refused.{Refused}
use Rattle.xrf_overseer.specs.Policies.{AdvicesFit}
use Rattle.xrf_overseer.specs.Theorem.{LooksWell, WatchesKeep, PoliciesKeep}
use Rattle.xrf_overseer.specs.Views.{advised}
use Rattle.xrf_overseer.specs.Watching.{Does, Happened, Chose, Looked, Looks, Watches, after_done, chose, choice_done, choice_outcome, choice_outcome_of, chosen, is_active_start, is_standby_start, let_done, look_from, own, starts_of, view_of, watch_from, watch_on, watch_step, within}
use Rattle.xrf_overseer.specs.declared.view.Advice.{Advice}
use Rattle.xrf_overseer.specs.declared.view.Advice.TheVariants.{Leave, StartActive, StartStandby}
use Rattle.xrf_overseer.specs.declared.view.PairView.{PairView}
use Rattle.xrf_overseer.proofs.Starts.{done-well, active-outcome, standby-outcome, starts-free, stands-by}

-- WHAT HAPPENED IN A RUN: each choice is accepted by its pair, and each look is by an advice of the policy.
abbrev pub Gives : Type 1
Gives = PairView → Advice → Type 0

abbrev pub IsChosen : List Scen → List Happened → ℕ → Chosen → Entry → Type 0
IsChosen scenarios w k c e = (s : Scen) × (pair_at scenarios k ≡ Some s) × (outcome s (own k w) c ≡ Ok e)

abbrev pub IsLooked : Gives → SetHead → List Scen → List Happened → ℕ → Advice → Advice → Type 0
IsLooked gives head scenarios w k advice done = (s : Scen) × (pair_at scenarios k ≡ Some s) × gives (view_of s (own k w)) advice × (done ≡ let_done head k w advice)

abbrev pub IsWatchRun : Gives → SetHead → List Scen → List Happened → Type 0
IsWatchRun gives head scenarios [] = Unit {0}
IsWatchRun gives head scenarios (Chose k c e ∷ w) = IsWatchRun gives head scenarios w × IsChosen scenarios w k c e
IsWatchRun gives head scenarios (Looked line k advice done ∷ w) = IsWatchRun gives head scenarios w × IsLooked gives head scenarios w k advice done

-- a choice
choice-run : (gives : Gives) (head : SetHead) (scenarios : List Scen) (w : List Happened) (k : ℕ) (c : Chosen) (happened : Happened) → IsWatchRun gives head scenarios w
    → choice_outcome scenarios k c w ≡ Ok happened → IsWatchRun gives head scenarios (happened ∷ w)
choice-run gives head scenarios w k c happened is = by (pair_at scenarios k) refl
  where
    at : (s : Scen) → pair_at scenarios k ≡ Some s → (o : Result Entry Refused) → outcome s (own k w) c ≡ o → chose k c o ≡ Ok happened → IsWatchRun gives head scenarios (happened ∷ w)
    at s there (Err reason) made same = absurd (cc)
    at s there (Ok e) made same =
        let whole : Chose k c e ≡ happened = grind (arith, common_steps) in
        subst (λ (one : Happened). IsWatchRun gives head scenarios (one ∷ w)) whole (is, (s, there, made))

    by : (found : Option Scen) → pair_at scenarios k ≡ found → choice_outcome_of found k c w ≡ Ok happened → IsWatchRun gives head scenarios (happened ∷ w)
    by None there same = absurd (cc)
    by (Some s) there same = at s there (outcome s (own k w) c) refl same

-- the scenario behind some others
behind-pairs : (front : List Scen) (s : Scen) (rest : List Scen) → slice_get (front ++ s ∷ rest) (length front) ≡ Some s
behind-pairs [] s rest = grind (arith, common_steps)
behind-pairs (one ∷ front) s rest = behind-step one (front ++ s ∷ rest) (length front) ∙ behind-pairs front s rest
  where
    behind-step : (one : Scen) (more : List Scen) (n : ℕ) → slice_get (one ∷ more) (suc n) ≡ slice_get more n
    behind-step one more n = grind (arith, common_steps)

append-one : (front : List Scen) (s : Scen) (rest : List Scen) → (front ++ s ∷ []) ++ rest ≡ front ++ s ∷ rest
append-one [] s rest = refl
append-one (one ∷ front) s rest = ap (λ (l : List Scen). one ∷ l) (append-one front s rest)

long-one : (front : List Scen) (s : Scen) → length (front ++ s ∷ []) ≡ length front + 1
long-one [] s = refl
long-one (one ∷ front) s = omega (arith, long-one front s)

next-place : (k n m : ℕ) → k ≡ suc n → m ≡ n + 1 → k + 1 ≡ suc m
next-place k n m place long = omega (arith, place, long)

-- the looks at each pair
looks-run : (gives : Gives) (head : SetHead) (scenarios : List Scen) (number k : ℕ) (front rest : List Scen) (w last : List Happened) → front ++ rest ≡ scenarios
    → k ≡ suc (length front) → IsWatchRun gives head scenarios w → Looks gives head number k rest w last → IsWatchRun gives head scenarios last
looks-run gives head scenarios number k front [] w last whole place is looks = subst (IsWatchRun gives head scenarios) (sym looks) is
looks-run gives head scenarios number k front (s ∷ rest) w last whole place is (advice, given, more) =
    looks-run gives head scenarios number (k + 1) (front ++ s ∷ []) rest (Looked number k advice (let_done head k w advice) ∷ w) last
    (append-one front s rest ∙ whole) (next-place k (length front) (length (front ++ s ∷ [])) place (long-one front s))
    (is, (s, ap (pair_at scenarios) place ∙ ap (λ (all : List Scen). slice_get all (length front)) (sym whole) ∙ behind-pairs front s rest, given, refl)) more

-- a line of the script
line-run : (gives : Gives) (head : SetHead) (scenarios : List Scen) (number : ℕ) (one : SetLine) (w next : List Happened) → IsWatchRun gives head scenarios w
    → Does gives head scenarios number one w next → IsWatchRun gives head scenarios next
line-run gives head scenarios number (line.Choice k c) w next is (happened, made, same) =
    subst (IsWatchRun gives head scenarios) (sym same) (choice-run gives head scenarios w k c happened is made)
line-run gives head scenarios number line.Oversee w next is looks = looks-run gives head scenarios number 1 [] scenarios w next refl refl is looks
line-run gives head scenarios number (line.Order k) w next is none = absurd none

-- the script
pub watches-run : (gives : Gives) (head : SetHead) (scenarios : List Scen) (number : ℕ) (lines : List SetLine) (w last : List Happened) → IsWatchRun gives head scenarios w
    → Watches gives head scenarios number lines w last → IsWatchRun gives head scenarios last
watches-run gives head scenarios number [] w last is same = subst (IsWatchRun gives head scenarios) (sym same) is
watches-run gives head scenarios number (one ∷ lines) w last is (next, does, more) =
    watches-run gives head scenarios (number + 1) lines next last (line-run gives head scenarios number one w next is does) more

-- WHAT IS DONE may be followed too, and it is the advice, or nothing
done-fits : (v : PairView) (head : SetHead) (k : ℕ) (w : List Happened) (advice : Advice) → advised v advice ≡ true → advised v (let_done head k w advice) ≡ true
done-fits v head k w Leave fits = refl
done-fits v head k w (StartActive x) fits = by (within head.actives (starts_of is_active_start k w))
  where
    by : (b : Bool) → advised v (if b then StartActive x else Leave) ≡ true
    by true = fits
    by false = refl
done-fits v head k w (StartStandby x) fits = by (within head.standbys (starts_of is_standby_start k w))
  where
    by : (b : Bool) → advised v (if b then StartStandby x else Leave) ≡ true
    by true = fits
    by false = refl

done-is : (head : SetHead) (k : ℕ) (w : List Happened) (advice : Advice) → (let_done head k w advice ≡ advice) ⊎ (let_done head k w advice ≡ Leave)
done-is head k w Leave = inl refl
done-is head k w (StartActive x) = by (within head.actives (starts_of is_active_start k w))
  where
    by : (b : Bool) → ((if b then StartActive x else Leave) ≡ StartActive x) ⊎ ((if b then StartActive x else Leave) ≡ Leave)
    by true = inl refl
    by false = inr refl
done-is head k w (StartStandby x) = by (within head.standbys (starts_of is_standby_start k w))
  where
    by : (b : Bool) → ((if b then StartStandby x else Leave) ≡ StartStandby x) ⊎ ((if b then StartStandby x else Leave) ≡ Leave)
    by true = inl refl
    by false = inr refl

-- THE RUN OF A PAIR
after-outcome : (s : Scen) (t : List Entry) (c : Chosen) (e : Entry) (place : ℕ) → outcome s t c ≡ Ok e → run_from s t place (c ∷ []) ≡ Ok (e ∷ t)
after-outcome s t c e place is =
    subst (λ (o : Result Entry Refused). elim o [ Ok made ↦ run_from s (made ∷ t) (place + 1) [] | Err why ↦ Err (record { place = place; reason = why }) ] ≡ Ok (e ∷ t)) (sym is) refl

abbrev goes_on : Scen → List Entry → ℕ → List Chosen → Result Entry Refused → Result (List Entry) Refusal
goes_on s t place cs o = elim o [ Ok e ↦ run_from s (e ∷ t) (place + 1) cs | Err why ↦ Err (record { place = place; reason = why }) ]

run_from-snoc : (s : Scen) (t now : List Entry) (place : ℕ) (cs : List Chosen) (c : Chosen) (e : Entry) → run_from s t place cs ≡ Ok now → outcome s now c ≡ Ok e
    → run_from s t place (cs ++ c ∷ []) ≡ Ok (e ∷ now)
run_from-snoc s t now place [] c e is made =
    let same : t ≡ now = grind (arith, common_steps) in
    subst (λ (u : List Entry). run_from s u place (c ∷ []) ≡ Ok (e ∷ now)) (sym same) (after-outcome s now c e place made)
run_from-snoc s t now place (d ∷ cs) c e is made = by (outcome s t d) is (λ one rest. run_from-snoc s (one ∷ t) now (place + 1) cs c e rest made)
  where
    by : (o : Result Entry Refused) → goes_on s t place cs o ≡ Ok now
        → ((one : Entry) → run_from s (one ∷ t) (place + 1) cs ≡ Ok now → run_from s (one ∷ t) (place + 1) (cs ++ c ∷ []) ≡ Ok (e ∷ now))
        → goes_on s t place (cs ++ c ∷ []) o ≡ Ok (e ∷ now)
    by (Ok one) rest more = more one rest
    by (Err why) rest more = absurd (cc)

abbrev PairRun : Scen → List Chosen → List Entry → Type 0
PairRun s cs t = (run s (reverse cs) ≡ Ok t) × IsRun s t

-- one choice more
one-more : (s : Scen) (cs : List Chosen) (t : List Entry) (c : Chosen) (e : Entry) → PairRun s cs t → outcome s t c ≡ Ok e → PairRun s (c ∷ cs) (e ∷ t)
one-more s cs t c e before made =
    (subst (λ (all : List Chosen). run s all ≡ Ok (e ∷ t)) (sym (reverse-cons c cs)) (run_from-snoc s [] t 0 (reverse cs) c e before.0 made), (before.1, (c, made)))

-- what is done of an advice that may be followed
done-run : (s : Scen) (cs : List Chosen) (t : List Entry) (done : Advice) → PairRun s cs t → advised (view_of s t) done ≡ true
    → PairRun s (choice_done done cs) (after_done done t)
done-run s cs t Leave before fits = before
done-run s cs t (StartActive x) before fits =
    one-more s cs t (choice.StartActive x) (start_at t x act.StartActive) before (active-outcome s t x (starts-free s t x before.1 fits).no_job)
done-run s cs t (StartStandby x) before fits =
    one-more s cs t (choice.StartStandby x) (start_at t x act.StartStandby) before (standby-outcome s t x (stands-by s t x before.1 fits).no_job)

same-scen : (a b : Scen) → ◌≡◌ {A = Option Scen} (Some a) (Some b) → a ≡ b
same-scen a b same = grind (arith, common_steps)

-- the same scenario of a pair
of-pair : (scenarios : List Scen) (k : ℕ) (found s : Scen) (P : Scen → Type 0) → pair_at scenarios k ≡ Some found → pair_at scenarios k ≡ Some s → P found → P s
of-pair scenarios k found s P there is holds = subst P (same-scen found s (sym there ∙ is)) holds

pub own-runs : (gives : Gives) (head : SetHead) (scenarios : List Scen) (w : List Happened) (k : ℕ) (s : Scen) → AdvicesFit gives → IsWatchRun gives head scenarios w
    → pair_at scenarios k ≡ Some s → PairRun s (chosen k w) (own k w)
own-runs gives head scenarios [] k s fit is there = (refl, tt)
own-runs gives head scenarios (Chose j c e ∷ w) k s fit is there = by (own-runs gives head scenarios w k s fit is.0 there) (j == k) refl
  where
    by : PairRun s (chosen k w) (own k w) → (b : Bool) → (j == k) ≡ b → PairRun s (if b then c ∷ chosen k w else chosen k w) (if b then e ∷ own k w else own k w)
    by before false other = before
    by before true same =
        let here : j ≡ k = grind (arith, common_steps) in
        one-more s (chosen k w) (own k w) c e before
        (subst (λ (n : ℕ). outcome s (own n w) c ≡ Ok e) here
        (of-pair scenarios j is.1.0 s (λ one. outcome one (own j w) c ≡ Ok e) is.1.1 (subst (λ (n : ℕ). pair_at scenarios n ≡ Some s) (sym here) there) is.1.2))
own-runs gives head scenarios (Looked number j advice done ∷ w) k s fit is there = by (own-runs gives head scenarios w k s fit is.0 there) (j == k) refl
  where
    by : PairRun s (chosen k w) (own k w) → (b : Bool) → (j == k) ≡ b
        → PairRun s (if b then choice_done done (chosen k w) else chosen k w) (if b then after_done done (own k w) else own k w)
    by before false other = before
    by before true same =
        let here : j ≡ k = grind (arith, common_steps) in
        let given : gives (view_of s (own k w)) advice =
        subst (λ (n : ℕ). gives (view_of s (own n w)) advice) here
        (of-pair scenarios j is.1.0 s (λ one. gives (view_of one (own j w)) advice) is.1.1 (subst (λ (n : ℕ). pair_at scenarios n ≡ Some s) (sym here) there) is.1.2) in
        let fits : advised (view_of s (own k w)) done ≡ true =
        subst (λ (one : Advice). advised (view_of s (own k w)) one ≡ true) (sym is.1.3)
        (done-fits (view_of s (own k w)) head j w advice (fit (view_of s (own k w)) advice given)) in
        done-run s (chosen k w) (own k w) done before fits

-- EACH LOOK
watch-behind : (gives : Gives) (head : SetHead) (scenarios : List Scen) (later w : List Happened) → IsWatchRun gives head scenarios (later ++ w) → IsWatchRun gives head scenarios w
watch-behind gives head scenarios [] w is = is
watch-behind gives head scenarios (Chose k c e ∷ later) w is = watch-behind gives head scenarios later w is.0
watch-behind gives head scenarios (Looked number k advice done ∷ later) w is = watch-behind gives head scenarios later w is.0

look-well : (gives : Gives) (head : SetHead) (scenarios : List Scen) (w : List Happened) → AdvicesFit gives → IsWatchRun gives head scenarios w → LooksWell gives scenarios w
look-well gives head scenarios w fit is later before number k advice done s split there =
    let here = watch-behind gives head scenarios later (Looked number k advice done ∷ before) (subst (IsWatchRun gives head scenarios) split is) in
    let given : gives (view_of s (own k before)) advice =
    of-pair scenarios k here.1.0 s (λ one. gives (view_of one (own k before)) advice) here.1.1 there here.1.2 in
    let fits : advised (view_of s (own k before)) done ≡ true =
    subst (λ (one : Advice). advised (view_of s (own k before)) one ≡ true) (sym here.1.3)
    (done-fits (view_of s (own k before)) head k before advice (fit (view_of s (own k before)) advice given)) in
    record {
      given = given;
      advised = subst (λ (one : Advice). (one ≡ advice) ⊎ (one ≡ Leave)) (sym here.1.3) (done-is head k before advice);
      well = done-well s (own k before) done (own-runs gives head scenarios before k s fit here.0 there).1 fits;
    }

-- THE THEOREM of an overseer
pub watches_keep : WatchesKeep
watches_keep gives head scenarios lines w fit watches =
    let is = watches-run gives head scenarios 1 lines [] w tt watches in
    record {
      own_runs = λ k s there. (own-runs gives head scenarios w k s fit is there).0;
      safe = λ k s there scenario few. every-run s (own k w) scenario (own-runs gives head scenarios w k s fit is there).1 few;
      looks = look-well gives head scenarios w fit is;
    }

-- FOR A POLICY THAT IS A FUNCTION of the view: what computes is what the relation says
looks-so : (policy : PairView → Advice) (head : SetHead) (number k : ℕ) (scenarios : List Scen) (w : List Happened)
    → Looks (λ v advice. advice ≡ policy v) head number k scenarios w (look_from policy head number k scenarios w)
looks-so policy head number k [] w = refl
looks-so policy head number k (s ∷ scenarios) w =
    (policy (view_of s (own k w)), refl, looks-so policy head number (k + 1) scenarios (Looked number k (policy (view_of s (own k w))) (let_done head k w (policy (view_of s (own k w)))) ∷ w))

abbrev chose_on : List Happened → Result Happened Refused → Result (List Happened) Refused
chose_on w o = elim o [ Ok happened ↦ Ok (happened ∷ w) | Err reason ↦ Err reason ]

step-so : (policy : PairView → Advice) (head : SetHead) (scenarios : List Scen) (number : ℕ) (one : SetLine) (w next : List Happened)
    → watch_step policy head scenarios number one w ≡ Ok next → Does (λ v advice. advice ≡ policy v) head scenarios number one w next
step-so policy head scenarios number (line.Choice k c) w next is = by (choice_outcome scenarios k c w) refl is
  where
    by : (o : Result Happened Refused) → choice_outcome scenarios k c w ≡ o → chose_on w o ≡ Ok next
        → (happened : Happened) × (choice_outcome scenarios k c w ≡ Ok happened) × (next ≡ happened ∷ w)
    by (Ok happened) made same = (happened, made, sym (grind (arith, common_steps)))
    by (Err reason) made same = absurd (cc)
step-so policy head scenarios number line.Oversee w next is =
    let same : look_from policy head number 1 scenarios w ≡ next = grind (arith, common_steps) in
    subst (Looks (λ v advice. advice ≡ policy v) head number 1 scenarios w) same (looks-so policy head number 1 scenarios w)
step-so policy head scenarios number (line.Order k) w next is = absurd (cc)

pub watches-so : (policy : PairView → Advice) (head : SetHead) (scenarios : List Scen) (place : ℕ) (lines : List SetLine) (w last : List Happened)
    → watch_from policy head scenarios place lines w ≡ Ok last → Watches (λ v advice. advice ≡ policy v) head scenarios (place + 1) lines w last
watches-so policy head scenarios place [] w last is = sym (grind (arith, common_steps))
watches-so policy head scenarios place (one ∷ lines) w last is =
    by (watch_step policy head scenarios (place + 1) one w) refl is (λ next rest. watches-so policy head scenarios (place + 1) lines next last rest)
  where
    by : (o : Result (List Happened) Refused) → watch_step policy head scenarios (place + 1) one w ≡ o → watch_on policy head scenarios place lines o ≡ Ok last
        → ((next : List Happened) → watch_from policy head scenarios (place + 1) lines next ≡ Ok last
        → Watches (λ v advice. advice ≡ policy v) head scenarios (place + 1 + 1) lines next last)
        → Watches (λ v advice. advice ≡ policy v) head scenarios (place + 1) (one ∷ lines) w last
    by (Ok next) made rest more = (next, step-so policy head scenarios (place + 1) one w next made, more next rest)
    by (Err reason) made rest more = absurd (cc)

pub policies_keep : PoliciesKeep
policies_keep policy head scenarios lines w fit is =
    watches_keep (λ v advice. advice ≡ policy v) head scenarios lines w (λ v advice same. ap (advised v) same ∙ fit v) (watches-so policy head scenarios 0 lines [] w is)
