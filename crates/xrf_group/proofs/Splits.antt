-- Runs and their parts: what stands behind an entry is a run too, and an entry of a pair is that of a move of the group.
use Rattle.std.proofs.Common.{Bool, false, true, ℕ, List, [], ◌∷◌, ◌++◌, None, Some, ◌≡◌, ap, refl, ◌+◌, ◌==◌, if◌then◌else◌, subst, sym, ◌∙◌, arith, Ok, Err, Result, Option, reverse, ◌&&◌, nat_lt}
use Rattle.std.proofs.lemmas.Grind.{common_steps}
use Rattle.xrf_logrec.proofs.Lists.{reverse-cons}
use Rattle.xrf_base.specs.declared.site.Site.{Site}
use Rattle.xrf_base.specs.declared.site.Site.TheVariants as site
use Rattle.xrf_setup.specs.declared.choice.Choice.{Choice}
use Rattle.xrf_set.specs.SetSoFar.{pair_at}
use Rattle.xrf_set.specs.declared.set_line.SetLine.{SetLine}
use Rattle.xrf_set.specs.declared.set_line.SetLine.TheVariants as line
use Rattle.xrf_trace.specs.Runs.{IsRun, outcome, run, run_from, Refusal}
use Rattle.xrf_trace.specs.Scenario.{Scen}
use Rattle.xrf_trace.specs.declared.entry.Entry.{Entry}
use Rattle.xrf_trace.specs.declared.entry.Refused.{Refused}
use Rattle.xrf_trace.specs.declared.entry.Refused.TheVariants as refused
use Rattle.xrf_group.specs.Group.{IsGroupRun, group_outcome, choice_outcome, order_outcome, or_b, at_pair, moved, is_command, command_at}
use Rattle.xrf_group.specs.Orders.{Moved, own, chosen, orders}

-- what stands behind some entries, and behind some moves, is a run
pub run-behind : (s : Scen) (later t : List Entry) → IsRun s (later ++ t) → IsRun s t
run-behind s [] t is = is
run-behind s (e ∷ later) t is = run-behind s later t is.0

pub group-behind : (scenarios : List Scen) (later g : List Moved) → IsGroupRun scenarios (later ++ g) → IsGroupRun scenarios g
group-behind scenarios [] g is = is
group-behind scenarios (m ∷ later) g is = group-behind scenarios later g is.0

-- HOW A MOVE COMES
pub data Comes (scenarios : List Scen) (g : List Moved) (m : Moved) : Type 0 where
  ByChoice : (s : Scen) → pair_at scenarios m.pair ≡ Some s → m.ordered ≡ false → (nat_lt 1 m.pair && is_command m.choice) ≡ false
      → outcome s (own m.pair g) m.choice ≡ Ok m.entry → Comes scenarios g m
  ByOrder : (coordinator s : Scen) (x : Site) → pair_at scenarios 1 ≡ Some coordinator → pair_at scenarios m.pair ≡ Some s → m.ordered ≡ true
      → m.choice ≡ command_at x → (orders coordinator g m.pair == 0) ≡ false → outcome s (own m.pair g) m.choice ≡ Ok m.entry → Comes scenarios g m

abbrev Makes : List Scen → List Moved → Result Moved Refused → Moved → Type 0
Makes scenarios g made m = made ≡ Ok m → Comes scenarios g m

-- a choice
choice-comes : (scenarios : List Scen) (g : List Moved) (k : ℕ) (c : Choice) (m : Moved) (s : Scen) → pair_at scenarios k ≡ Some s → Makes scenarios g (choice_outcome s g k c) m
choice-comes scenarios g k c m s there = by (nat_lt 1 k && is_command c) refl (outcome s (own k g) c) refl
  where
    by : (b : Bool) → (nat_lt 1 k && is_command c) ≡ b → (o : Result Entry Refused) → outcome s (own k g) c ≡ o
        → (if b then Err refused.NotAllowed else moved k false c o) ≡ Ok m → Comes scenarios g m
    by true is o made same = absurd (cc)
    by false is (Err reason) made same = absurd (cc)
    by false is (Ok e) made same =
        let whole : record { pair = k; ordered = false; choice = c; entry = e } ≡ m = grind (arith, common_steps) in
        subst (Comes scenarios g) whole (ByChoice s there refl is made)

-- an order
order-comes : (scenarios : List Scen) (g : List Moved) (k : ℕ) (m : Moved) (coordinator s : Scen) → pair_at scenarios 1 ≡ Some coordinator
    → pair_at scenarios k ≡ Some s → Makes scenarios g (order_outcome coordinator s g k) m
order-comes scenarios g k m coordinator s first there = by (orders coordinator g k == 0) refl
  where
    at : (x : Site) → (orders coordinator g k == 0) ≡ false → (o : Result Entry Refused) → outcome s (own k g) (command_at x) ≡ o → moved k true (command_at x) o ≡ Ok m
        → Comes scenarios g m
    at x left (Err reason) made same = absurd (cc)
    at x left (Ok e) made same =
        let whole : record { pair = k; ordered = true; choice = command_at x; entry = e } ≡ m = grind (arith, common_steps) in
        subst (Comes scenarios g) whole (ByOrder coordinator s x first there refl refl left made)

    either : (orders coordinator g k == 0) ≡ false → (o : Result Entry Refused) → outcome s (own k g) (command_at site.A) ≡ o → or_b s g k o ≡ Ok m → Comes scenarios g m
    either left (Ok e) made same = at site.A left (Ok e) made same
    either left (Err reason) made same = at site.B left (outcome s (own k g) (command_at site.B)) refl same

    by : (b : Bool) → (orders coordinator g k == 0) ≡ b → (if b then Err refused.NotEnabled else or_b s g k (outcome s (own k g) (command_at site.A))) ≡ Ok m
        → Comes scenarios g m
    by true none same = absurd (cc)
    by false left same = either left (outcome s (own k g) (command_at site.A)) refl same

-- each move of a run
pub comes : (scenarios : List Scen) (g : List Moved) (l : SetLine) (m : Moved) → group_outcome scenarios g l ≡ Ok m → Comes scenarios g m
comes scenarios g (line.Choice k c) m is = by (pair_at scenarios k) refl is
  where
    by : (found : Option Scen) → pair_at scenarios k ≡ found → at_pair found (λ s. choice_outcome s g k c) ≡ Ok m → Comes scenarios g m
    by None there same = absurd (cc)
    by (Some s) there same = choice-comes scenarios g k c m s there same
comes scenarios g (line.Order k) m is = first (pair_at scenarios 1) refl is
  where
    second : (coordinator : Scen) → pair_at scenarios 1 ≡ Some coordinator → (found : Option Scen) → pair_at scenarios k ≡ found
        → at_pair found (λ s. order_outcome coordinator s g k) ≡ Ok m → Comes scenarios g m
    second coordinator one None there same = absurd (cc)
    second coordinator one (Some s) there same = order-comes scenarios g k m coordinator s one there same

    first : (found : Option Scen) → pair_at scenarios 1 ≡ found → at_pair found (λ coordinator. at_pair (pair_at scenarios k) (λ s. order_outcome coordinator s g k)) ≡ Ok m
        → Comes scenarios g m
    first None one same = absurd (cc)
    first (Some coordinator) one same = second coordinator one (pair_at scenarios k) refl same
comes scenarios g line.Oversee m is = absurd (cc)

-- either way it is what its choice makes of its pair
pub made-of : (scenarios : List Scen) (g : List Moved) (m : Moved) (s : Scen) → Comes scenarios g m → pair_at scenarios m.pair ≡ Some s
    → outcome s (own m.pair g) m.choice ≡ Ok m.entry
made-of scenarios g m s (ByChoice found there ordered allowed made) is =
    subst (λ (one : Scen). outcome one (own m.pair g) m.choice ≡ Ok m.entry) (same-scen found s (sym there ∙ is)) made
  where
    same-scen : (a b : Scen) → ◌≡◌ {A = Option Scen} (Some a) (Some b) → a ≡ b
    same-scen a b same = grind (arith, common_steps)
made-of scenarios g m s (ByOrder coordinator found x one there ordered commands left made) is =
    subst (λ (one : Scen). outcome one (own m.pair g) m.choice ≡ Ok m.entry) (same-scen found s (sym there ∙ is)) made
  where
    same-scen : (a b : Scen) → ◌≡◌ {A = Option Scen} (Some a) (Some b) → a ≡ b
    same-scen a b same = grind (arith, common_steps)

-- THE RUN OF A PAIR
after-outcome : (s : Scen) (t : List Entry) (c : Choice) (e : Entry) (place : ℕ) → outcome s t c ≡ Ok e → run_from s t place (c ∷ []) ≡ Ok (e ∷ t)
after-outcome s t c e place is =
    subst (λ (o : Result Entry Refused). elim o [ Ok made ↦ run_from s (made ∷ t) (place + 1) [] | Err why ↦ Err (record { place = place; reason = why }) ] ≡ Ok (e ∷ t)) (sym is) refl

abbrev goes_on : Scen → List Entry → ℕ → List Choice → Result Entry Refused → Result (List Entry) Refusal
goes_on s t place cs o = elim o [ Ok e ↦ run_from s (e ∷ t) (place + 1) cs | Err why ↦ Err (record { place = place; reason = why }) ]

run_from-snoc : (s : Scen) (t now : List Entry) (place : ℕ) (cs : List Choice) (c : Choice) (e : Entry) → run_from s t place cs ≡ Ok now → outcome s now c ≡ Ok e
    → run_from s t place (cs ++ c ∷ []) ≡ Ok (e ∷ now)
run_from-snoc s t now place [] c e is made =
    let same : t ≡ now = grind (arith, common_steps) in
    subst (λ (u : List Entry). run_from s u place (c ∷ []) ≡ Ok (e ∷ now)) (sym same) (after-outcome s now c e place made)
run_from-snoc s t now place (d ∷ cs) c e is made = by (outcome s t d) is (λ one rest. run_from-snoc s (one ∷ t) now (place + 1) cs c e rest made)
  where
    by : (o : Result Entry Refused) → goes_on s t place cs o ≡ Ok now
        → ((one : Entry) → run_from s (one ∷ t) (place + 1) cs ≡ Ok now → run_from s (one ∷ t) (place + 1) (cs ++ c ∷ []) ≡ Ok (e ∷ now))
        → goes_on s t place (cs ++ c ∷ []) o ≡ Ok (e ∷ now)
    by (Ok one) rest more = more one rest
    by (Err why) rest more = absurd (cc)

abbrev pub PairRuns : Scen → List Moved → ℕ → Type 0
PairRuns s g k = run s (reverse (chosen k g)) ≡ Ok (own k g)

pub own-runs : (scenarios : List Scen) (g : List Moved) (k : ℕ) (s : Scen) → IsGroupRun scenarios g → pair_at scenarios k ≡ Some s → PairRuns s g k × IsRun s (own k g)
own-runs scenarios [] k s is there = (refl, tt)
own-runs scenarios (m ∷ g) k s is there = by (own-runs scenarios g k s is.0 there) (m.pair == k) refl
  where
    made : m.pair ≡ k → outcome s (own k g) m.choice ≡ Ok m.entry
    made same = subst (λ (n : ℕ). outcome s (own n g) m.choice ≡ Ok m.entry) same
        (made-of scenarios g m s (comes scenarios g is.1.0 m is.1.1) (subst (λ (n : ℕ). pair_at scenarios n ≡ Some s) (sym same) there))

    by : PairRuns s g k × IsRun s (own k g) → (b : Bool) → (m.pair == k) ≡ b → (run s (reverse (if b then m.choice ∷ chosen k g else chosen k g)) ≡ Ok (if b then m.entry ∷ own k g else own k g))
        × IsRun s (if b then m.entry ∷ own k g else own k g)
    by before false other = before
    by before true same =
        let here : m.pair ≡ k = grind (arith, common_steps) in (
          subst (λ (cs : List Choice). run s cs ≡ Ok (m.entry ∷ own k g)) (sym (reverse-cons m.choice (chosen k g)))
              (run_from-snoc s [] (own k g) 0 (reverse (chosen k g)) m.choice m.entry before.0 (made here)),
          (before.1, (m.choice, made here)),
        )

-- AN ENTRY OF A PAIR is that of a move.
pub record MoveAt (k : ℕ) (g : List Moved) (e : Entry) (before : List Entry) : Type 0 where
  pub later : List Moved
  pub move : Moved
  pub rest : List Moved
  pub split : g ≡ later ++ move ∷ rest
  pub pair : move.pair ≡ k
  pub its_entry : move.entry ≡ e
  pub own_rest : own k rest ≡ before

move-later : (k : ℕ) (g : List Moved) (m : Moved) (e : Entry) (before : List Entry) → MoveAt k g e before → MoveAt k (m ∷ g) e before
move-later k g m e before at = record {
  later = m ∷ at.later;
  move = at.move;
  rest = at.rest;
  split = ap (λ (l : List Moved). m ∷ l) at.split;
  pair = at.pair;
  its_entry = at.its_entry;
  own_rest = at.own_rest;
}

same-head : (e f : Entry) (t u : List Entry) → e ∷ t ≡ f ∷ u → (e ≡ f) × (t ≡ u)
same-head e f t u same = grind (arith, common_steps)

pub move-at : (k : ℕ) (g : List Moved) (later : List Entry) (e : Entry) (before : List Entry) → own k g ≡ later ++ e ∷ before → MoveAt k g e before
move-at k [] [] e before is = absurd (cc)
move-at k [] (l ∷ later) e before is = absurd (cc)
move-at k (m ∷ g) later e before is = by (λ ahead rest. move-at k g ahead e before rest) (m.pair == k) refl later is
  where
    by : ((ahead : List Entry) → own k g ≡ ahead ++ e ∷ before → MoveAt k g e before) → (b : Bool) → (m.pair == k) ≡ b → (ahead : List Entry) → (if b then m.entry ∷ own k g else own k g) ≡ ahead ++ e ∷ before → MoveAt k (m ∷ g) e before
    by more false other ahead rest = move-later k g m e before (more ahead rest)
    by more true same [] rest =
        let parts = same-head m.entry e (own k g) before rest in
        record { later = []; move = m; rest = g; split = refl; pair = grind (arith, common_steps); its_entry = parts.0; own_rest = parts.1 }
    by more true same (l ∷ ahead) rest = move-later k g m e before (more ahead (same-head m.entry l (own k g) (ahead ++ e ∷ before) rest).1)

-- THE CHOICE OF AN ENTRY is the one that added it.
pub last-same : (cs : List Choice) (c d : Choice) → cs ++ c ∷ [] ≡ cs ++ d ∷ [] → c ≡ d
last-same [] c d same = grind (arith, common_steps)
last-same (b ∷ cs) c d same = last-same cs c d (grind (arith, common_steps))
