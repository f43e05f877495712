-- What holds of every run of a group.
use Rattle.std.proofs.Common.{Bool, false, true, ℕ, List, [], ◌∷◌, ◌++◌, Some, ◌≡◌, ◌≤◌, ap, refl, ◌+◌, ◌-◌, ◌==◌, ◌&&◌, nat_lt, if◌then◌else◌, subst, sym, ◌∙◌, arith, Option, Ok, Err, Result, reverse, map, codes, IfOk}
use Rattle.std.proofs.lemmas.Grind.{common_steps}
use Rattle.std.proofs.lemmas.Bool.{and_parts}
use Rattle.std.proofs.lemmas.List.{map-append}
use Rattle.std.proofs.lemmas.Slice.Eq.{bytes_eq-Decides}
use Rattle.xrf_logrec.proofs.Lists.{reverse-cons}
use Rattle.xrf_base.specs.declared.site.Site.{Site}
use Rattle.xrf_cebt.specs.declared.commands.Cebt.TheVariants.{PerformTakeover}
use Rattle.xrf_cebt.specs.declared.replies.CebtReply.{CebtReply}
use Rattle.xrf_ctl.specs.declared.parts.Cause.TheVariants as cause
use Rattle.xrf_setup.specs.declared.choice.Choice.{Choice}
use Rattle.xrf_set.specs.SetSoFar.{pair_at}
use Rattle.xrf_set.specs.declared.set_line.SetLine.{SetLine}
use Rattle.xrf_trace.specs.Jobs.{hist}
use Rattle.xrf_trace.specs.Journal.{choice_of, choice_by, choices_of}
use Rattle.xrf_trace.specs.Runs.{IsRun, run, Refusal}
use Rattle.xrf_trace.specs.Scenario.{Scen, settings}
use Rattle.xrf_trace.specs.Words.{who_at}
use Rattle.xrf_trace.specs.declared.entry.Act.{Act}
use Rattle.xrf_trace.specs.declared.entry.Act.TheVariants as act
use Rattle.xrf_trace.specs.declared.entry.Entry.{Entry}
use Rattle.xrf_trace.specs.declared.entry.Land.{Land}
use Rattle.xrf_trace.specs.declared.entry.Land.TheVariants as land
use Rattle.xrf_trace.specs.declared.entry.Refused.{Refused}
use Rattle.xrf_trace.specs.declared.entry.Who.{Who}
use Rattle.xrf_laws.proofs.EveryRun.{every-run}
use Rattle.xrf_trace.proofs.RunLaws.{journals_tell}
use Rattle.xrf_base.specs.declared.site.Site.TheVariants as site
use Rattle.xrf_group.specs.Group.{IsGroupRun, group_outcome, group_from, group_run, is_command, command_at}
use Rattle.xrf_group.specs.Orders.{Moved, own, chosen, orders, placed, given, places, places_by, line_by, order_text}
use Rattle.xrf_group.specs.Theorem.{StartsTakeover, ByOrder, GivenArePlaced, PlacesOne, SetsNone, StartsByCommand, GroupKeeps}
use Rattle.xrf_group.proofs.JobsTold.{commanded-told, waiting-told, mode-told}
use Rattle.xrf_group.proofs.Decided.{starts-by, by-command, in-command-mode, line-by}
use Rattle.xrf_group.proofs.Splits.{Comes, ByChoice, ByOrder as Ordered, comes, run-behind, group-behind, own-runs, PairRuns, move-at, last-same}

-- the run of some lines is a run of a group
abbrev goes_on : List Scen → List Moved → ℕ → List SetLine → Result Moved Refused → Result (List Moved) Refusal
goes_on scenarios g place lines o = elim o [ Ok m ↦ group_from scenarios (m ∷ g) (place + 1) lines | Err reason ↦ Err (record { place = place; reason = reason }) ]

run_step-is : (scenarios : List Scen) (g last : List Moved) (place : ℕ) (lines : List SetLine) (l : SetLine) (o : Result Moved Refused) → group_outcome scenarios g l ≡ o
    → IsGroupRun scenarios g → ((m : Moved) → IsGroupRun scenarios (m ∷ g) → group_from scenarios (m ∷ g) (place + 1) lines ≡ Ok last → IsGroupRun scenarios last)
    → goes_on scenarios g place lines o ≡ Ok last → IsGroupRun scenarios last
run_step-is scenarios g last place lines l (Ok m) made is rest same = rest m (is, (l, made)) same
run_step-is scenarios g last place lines l (Err reason) made is rest same = absurd (cc)

run_from-is : (scenarios : List Scen) (g last : List Moved) (place : ℕ) (lines : List SetLine) → IsGroupRun scenarios g → group_from scenarios g place lines ≡ Ok last
    → IsGroupRun scenarios last
run_from-is scenarios g last place [] is same = let here : g ≡ last = grind (arith, common_steps) in subst (IsGroupRun scenarios) here is
run_from-is scenarios g last place (l ∷ lines) is same =
    run_step-is scenarios g last place lines l (group_outcome scenarios g l) refl is (λ m after. run_from-is scenarios (m ∷ g) last (place + 1) lines after) same

pub groups-run : (scenarios : List Scen) (lines : List SetLine) (g : List Moved) → group_run scenarios lines ≡ Ok g → IsGroupRun scenarios g
groups-run scenarios lines g same = run_from-is scenarios [] g 0 lines tt same

-- AT MOST ONE: a CT line names one pair
places-clt : (s : Scen) (x : Who) (a : Act) (k : ℕ) → places_by s x a k ≡ true → (n : ℕ) × (a ≡ act.Clt n) × (line_by s x n ≡ order_text k)
places-clt s x (act.Clt n) k is = (n, refl, (bytes_eq-Decides (line_by s x n) (order_text k)).0 is)
places-clt s x _ k is = absurd (cc)

behind-front : (front one other : List ℕ) → front ++ one ≡ front ++ other → one ≡ other
behind-front [] one other same = same
behind-front (b ∷ front) one other same = behind-front front one other (grind (arith, common_steps))

same-digit : (k k' : ℕ) → ◌≡◌ {A = List ℕ} ((48 + k) ∷ []) ((48 + k') ∷ []) → k ≡ k'
same-digit k k' same = grind (arith, common_steps)

same-line : (n n' : ℕ) → act.Clt n ≡ act.Clt n' → n ≡ n'
same-line n n' same = grind (arith, common_steps)

pub places_one : PlacesOne
places_one s e k k' is is' =
    let one = places-clt s e.who e.act k is in
    let other = places-clt s e.who e.act k' is' in
    let number : one.0 ≡ other.0 = same-line one.0 other.0 (sym one.1 ∙ other.1) in
    let text : order_text k ≡ order_text k' = sym one.2 ∙ ap (line_by s e.who) number ∙ other.2 in
    same-digit k k' (behind-front (codes "COMMAND TAKEOVER ") ((48 + k) ∷ []) ((48 + k') ∷ []) text)

-- no more orders are given than placed
placed-more : (s : Scen) (k : ℕ) (e : Entry) (t : List Entry) → placed s k t ≤ placed s k (e ∷ t)
placed-more s k e t = by (places s k e)
  where
    by : (b : Bool) → placed s k t ≤ (if b then placed s k t + 1 else placed s k t)
    by true = omega arith
    by false = omega arith

placed-own : (s : Scen) (k : ℕ) (m : Moved) (g : List Moved) → placed s k (own 1 g) ≤ placed s k (own 1 (m ∷ g))
placed-own s k m g = by (m.pair == 1)
  where
    by : (b : Bool) → placed s k (own 1 g) ≤ placed s k (if b then m.entry ∷ own 1 g else own 1 g)
    by true = placed-more s k m.entry (own 1 g)
    by false = omega arith

same-scen : (a b : Scen) → ◌≡◌ {A = Option Scen} (Some a) (Some b) → a ≡ b
same-scen a b same = grind (arith, common_steps)

-- where an order was given one was left
left-one : (scenarios : List Scen) (g : List Moved) (m : Moved) (coordinator : Scen) → Comes scenarios g m → m.ordered ≡ true → pair_at scenarios 1 ≡ Some coordinator
    → (orders coordinator g m.pair == 0) ≡ false
left-one scenarios g m coordinator (ByChoice s there ordered allowed made) is first = absurd (cc (sym is ∙ ordered))
left-one scenarios g m coordinator (Ordered one s x at there ordered commands left made) is first =
    subst (λ (c : Scen). (orders c g m.pair == 0) ≡ false) (same-scen one coordinator (sym at ∙ first)) left

more-given : (p n : ℕ) → n ≤ p → ((p - n) == 0) ≡ false → n + 1 ≤ p
more-given p n few left = grind (arith, common_steps)

pub given-placed : (scenarios : List Scen) (g : List Moved) → IsGroupRun scenarios g → GivenArePlaced scenarios g
given-placed scenarios [] is k coordinator first two = omega arith
given-placed scenarios (m ∷ g) is k coordinator first two = by (given-placed scenarios g is.0 k coordinator first two) (m.pair == k && m.ordered) refl
  where
    by : given k g ≤ placed coordinator k (own 1 g) → (b : Bool) → (m.pair == k && m.ordered) ≡ b
        → (if b then given k g + 1 else given k g) ≤ placed coordinator k (own 1 (m ∷ g))
    by few false other = omega (arith, few, placed-own coordinator k m g)
    by few true both =
        let parts = and_parts (m.pair == k) m.ordered both in
        let pair : m.pair ≡ k = grind (arith, common_steps) in
        let left : (orders coordinator g k == 0) ≡ false =
        subst (λ (n : ℕ). (orders coordinator g n == 0) ≡ false) pair (left-one scenarios g m coordinator (comes scenarios g is.1.0 m is.1.1) parts.1 first) in
        omega (arith, more-given (placed coordinator k (own 1 g)) (given k g) few left, placed-own coordinator k m g)

-- where some are placed, the trace has an entry that placed one
pub record PlacedAt (s : Scen) (k : ℕ) (t : List Entry) : Type 0 where
  pub later : List Entry
  pub line : Entry
  pub before : List Entry
  pub split : t ≡ later ++ line ∷ before
  pub placed : places s k line ≡ true

placed-at : (s : Scen) (k : ℕ) (t : List Entry) → 1 ≤ placed s k t → PlacedAt s k t
placed-at s k [] some = absurd (omega (arith, some))
placed-at s k (e ∷ t) some = by (placed-at s k t) (places s k e) refl some
  where
    later : PlacedAt s k t → PlacedAt s k (e ∷ t)
    later at = record { later = e ∷ at.later; line = at.line; before = at.before; split = ap (λ (l : List Entry). e ∷ l) at.split; placed = at.placed }

    by : (1 ≤ placed s k t → PlacedAt s k t) → (b : Bool) → places s k e ≡ b → 1 ≤ (if b then placed s k t + 1 else placed s k t) → PlacedAt s k (e ∷ t)
    by more true is few = record { later = []; line = e; before = t; split = refl; placed = is }
    by more false is few = later (more few)

-- THE CHOICE of an entry is the one that added it
choice-told : (s : Scen) (g : List Moved) (m : Moved) (k : ℕ) → m.pair ≡ k → PairRuns s (m ∷ g) k → PairRuns s g k → choice_of m.entry ≡ m.choice
choice-told s g m k pair after before =
    let both : (m.pair == k) ≡ true = grind (arith, common_steps) in
    let runs : run s (reverse (m.choice ∷ chosen k g)) ≡ Ok (m.entry ∷ own k g) =
    subst (λ (b : Bool). run s (reverse (if b then m.choice ∷ chosen k g else chosen k g)) ≡ Ok (if b then m.entry ∷ own k g else own k g)) both after in
    let told = tells (reverse (m.choice ∷ chosen k g)) (m.entry ∷ own k g) runs in
    let rest = tells (reverse (chosen k g)) (own k g) before in
    last-same (reverse (chosen k g)) (choice_of m.entry) m.choice
    (ap (λ (cs : List Choice). cs ++ choice_of m.entry ∷ []) (sym rest) ∙ sym (map-append choice_of (reverse (own k g)) (m.entry ∷ []))
    ∙ sym (ap (map choice_of) (reverse-cons m.entry (own k g))) ∙ told ∙ reverse-cons m.choice (chosen k g))
  where
    tells : (cs : List Choice) (t : List Entry) → run s cs ≡ Ok t → choices_of t ≡ cs
    tells cs t is = subst (λ (o : Result (List Entry) Refusal). IfOk o (λ u. choices_of u ≡ cs)) is (journals_tell s cs)

-- an entry that commands a takeover is of such a choice
commands-by : (x : Site) (reply : CebtReply) (e : Entry) (c : Choice) → choice_of e ≡ c → e.who ≡ who_at x → e.act ≡ act.Cebt PerformTakeover reply → e.land ≡ land.Full
    → is_command c ≡ true
commands-by x reply e c told who acts lands =
    let said : choice_by e.who e.act e.land ≡ command_at x = by x (e.who) (e.act) (e.land) who acts lands in
    ap is_command (sym told ∙ said)
  where
    at : (y : Site) → choice_by (who_at y) (act.Cebt PerformTakeover reply) land.Full ≡ command_at y
    at site.A = refl
    at site.B = refl

    by : (y : Site) (w : Who) (a : Act) (l : Land) → w ≡ who_at y → a ≡ act.Cebt PerformTakeover reply → l ≡ land.Full → choice_by w a l ≡ command_at y
    by y w a l who acts lands = ap (λ (v : Who). choice_by v a l) who ∙ ap (λ (b : Act). choice_by (who_at y) b l) acts ∙ ap (choice_by (who_at y) (act.Cebt PerformTakeover reply)) lands ∙ at y

-- at a dependent such a choice is an order
is-ordered : (scenarios : List Scen) (g : List Moved) (m : Moved) → Comes scenarios g m → 2 ≤ m.pair → is_command m.choice ≡ true → m.ordered ≡ true
is-ordered scenarios g m (ByChoice s there ordered allowed made) two commands =
    let far : nat_lt 1 m.pair ≡ true = grind (arith, common_steps) in
    absurd (both (nat_lt 1 m.pair) (is_command m.choice) far commands allowed)
  where
    both : (a b : Bool) → a ≡ true → b ≡ true → (a && b) ≡ false → ⊥
    both true true is is' wrong = absurd (cc)
    both false b is is' wrong = absurd (cc)
    both true false is is' wrong = absurd (cc)
is-ordered scenarios g m (Ordered coordinator s x first there ordered commands left made) two is = ordered

-- BY ORDER
split-pair : (k : ℕ) (m : Moved) (g : List Moved) → m.pair ≡ k → own k (m ∷ g) ≡ m.entry ∷ own k g
split-pair k m g pair =
    let both : (m.pair == k) ≡ true = grind (arith, common_steps) in
    ap (λ (b : Bool). if b then m.entry ∷ own k g else own k g) both

-- what an order that was given follows
pub record FollowsPlaced (coordinator : Scen) (k : ℕ) (before : List Moved) : Type 0 where
  pub between : List Moved
  pub line : Moved
  pub ahead : List Moved
  pub split_before : before ≡ between ++ line ∷ ahead
  pub of_coordinator : line.pair ≡ 1
  pub placed : places coordinator k line.entry ≡ true
  pub since : List Moved
  pub start : Moved
  pub first : List Moved
  pub split_ahead : ahead ≡ since ++ start ∷ first
  pub of_pair_one : start.pair ≡ 1
  pub starts : StartsTakeover coordinator (own 1 first) start.entry

pub follows-placed : (scenarios : List Scen) (before : List Moved) (k : ℕ) (coordinator : Scen) → IsGroupRun scenarios before → pair_at scenarios 1 ≡ Some coordinator
    → 1 ≤ placed coordinator k (own 1 before) → FollowsPlaced coordinator k before
follows-placed scenarios before k coordinator is one some =
    let at = placed-at coordinator k (own 1 before) some in
    let line = move-at 1 before at.later at.line at.before at.split in
    let run_behind : IsRun coordinator (at.line ∷ at.before) =
    run-behind coordinator at.later (at.line ∷ at.before) (subst (IsRun coordinator) at.split (own-runs scenarios before 1 coordinator is one).1) in
    let clt = places-clt coordinator at.line.who at.line.act k at.placed in
    let by = line-by coordinator at.before at.line clt.0 run_behind clt.1 in
    let has = waiting-told coordinator at.before by.at by.job run_behind.0 by.there by.waits in
    let start = move-at 1 line.rest has.later has.start has.before (line.own_rest ∙ has.split) in
    record {
      between = line.later;
      line = line.move;
      ahead = line.rest;
      split_before = line.split;
      of_coordinator = line.pair;
      placed = subst (λ (e : Entry). places coordinator k e ≡ true) (sym line.its_entry) at.placed;
      since = start.later;
      start = start.move;
      first = start.rest;
      split_ahead = start.split;
      of_pair_one = start.pair;
      starts = subst (λ (e : Entry). StartsTakeover coordinator (own 1 start.rest) e) (sym start.its_entry)
          (subst (λ (t : List Entry). StartsTakeover coordinator t has.start) (sym start.own_rest) has.starts);
    }

some-placed : (p n : ℕ) → ((p - n) == 0) ≡ false → 1 ≤ p
some-placed p n left = grind (arith, common_steps)

pub by-order : (scenarios : List Scen) (g : List Moved) → IsGroupRun scenarios g → ByOrder scenarios g
by-order scenarios g is later before m k at coordinator s split one there two starts =
    let here : IsGroupRun scenarios (m ∷ before) = group-behind scenarios later (m ∷ before) (subst (IsGroupRun scenarios) split is) in
    let run_is : IsRun s (m.entry ∷ own k before) =
    subst (IsRun s) (split-pair k m before starts.pair) (own-runs scenarios (m ∷ before) k s here there).1 in
    let started = starts-by s (own k before) m.entry at cause.Command run_is starts.its_site starts.starts in
    let has = commanded-told s (own k before) at started.job run_is.0 started.there (by-command (settings s at) started.job started.tells) in
    let order = move-at k before has.later has.told has.before has.split in
    let rest : IsGroupRun scenarios (order.move ∷ order.rest) = group-behind scenarios order.later (order.move ∷ order.rest) (subst (IsGroupRun scenarios) order.split here.0) in
    let came = comes scenarios order.rest rest.1.0 order.move rest.1.1 in
    let told = choice-told s order.rest order.move k order.pair (own-runs scenarios (order.move ∷ order.rest) k s rest there).0 (own-runs scenarios order.rest k s rest.0 there).0 in
    let commands = commands-by at has.reply order.move.entry order.move.choice told (ap (λ (e : Entry). e.who) order.its_entry ∙ has.its_site)
    (ap (λ (e : Entry). e.act) order.its_entry ∙ has.its_act) (ap (λ (e : Entry). e.land) order.its_entry ∙ has.landed) in
    let ordered = is-ordered scenarios order.rest order.move came (subst (λ (n : ℕ). 2 ≤ n) (sym order.pair) two) commands in
    let left : (orders coordinator order.rest k == 0) ≡ false =
    subst (λ (n : ℕ). (orders coordinator order.rest n == 0) ≡ false) order.pair (left-one scenarios order.rest order.move coordinator came ordered one) in
    let placed_some = some-placed (placed coordinator k (own 1 order.rest)) (given k order.rest) left in
    let follows = follows-placed scenarios order.rest k coordinator rest.0 one placed_some in
    record {
      later = order.later;
      order = order.move;
      before = order.rest;
      split = order.split;
      given = record {
        pair = order.pair;
        ordered = ordered;
        its_site = ap (λ (e : Entry). e.who) order.its_entry ∙ has.its_site;
        its_number = ap (λ (e : Entry). e.inc) order.its_entry ∙ has.its_number ∙ sym started.its_number;
        job = has.job;
        there = ap (λ (t : List Entry). hist s t at) order.own_rest ∙ has.there;
        signed_on = has.signed_on;
        is_number = has.is_number ∙ sym started.its_number;
      };
      between = follows.between;
      line = follows.line;
      ahead = follows.ahead;
      split_before = follows.split_before;
      of_coordinator = follows.of_coordinator;
      placed = follows.placed;
      since = follows.since;
      start = follows.start;
      first = follows.first;
      split_ahead = follows.split_ahead;
      of_pair_one = follows.of_pair_one;
      starts = follows.starts;
    }

-- COMMAND MODE
sets-behind : (later t : List Entry) → SetsNone (later ++ t) → SetsNone t
sets-behind [] t none = none
sets-behind (e ∷ later) t none = sets-behind later t none.0

own-behind : (k : ℕ) (later g : List Moved) → (ahead : List Entry) × (own k (later ++ g) ≡ ahead ++ own k g)
own-behind k [] g = ([], refl)
own-behind k (m ∷ later) g = by (own-behind k later g) (m.pair == k)
  where
    by : ((ahead : List Entry) × (own k (later ++ g) ≡ ahead ++ own k g)) → (b : Bool)
        → (ahead : List Entry) × ((if b then m.entry ∷ own k (later ++ g) else own k (later ++ g)) ≡ ahead ++ own k g)
    by more true = (m.entry ∷ more.0, ap (λ (l : List Entry). m.entry ∷ l) more.1)
    by more false = more

pub starts-by-command : (scenarios : List Scen) (g : List Moved) → IsGroupRun scenarios g → StartsByCommand scenarios g
starts-by-command scenarios g is later before m k at s why split there mode none starts =
    let here : IsGroupRun scenarios (m ∷ before) = group-behind scenarios later (m ∷ before) (subst (IsGroupRun scenarios) split is) in
    let run_is : IsRun s (m.entry ∷ own k before) = subst (IsRun s) (split-pair k m before starts.pair) (own-runs scenarios (m ∷ before) k s here there).1 in
    let started = starts-by s (own k before) m.entry at why run_is starts.its_site starts.starts in
    let ahead = own-behind k later (m ∷ before) in
    let sets : SetsNone (m.entry ∷ own k before) =
    subst SetsNone (split-pair k m before starts.pair) (sets-behind ahead.0 (own k (m ∷ before)) (subst SetsNone (ap (own k) split ∙ ahead.1) none)) in
    in-command-mode (settings s at) started.job why (mode-told s (own k before) at started.job run_is.0 started.there mode sets.0) started.tells

-- THE THEOREM of a group
pub groups_keep : (scenarios : List Scen) (lines : List SetLine) (g : List Moved) → group_run scenarios lines ≡ Ok g → GroupKeeps scenarios g
groups_keep scenarios lines g same =
    let is = groups-run scenarios lines g same in
    record {
      own_runs = λ k s there. (own-runs scenarios g k s is there).0;
      safe = λ k s there scenario few. every-run s (own k g) scenario (own-runs scenarios g k s is there).1 few;
      by_order = by-order scenarios g is;
      given_are_placed = given-placed scenarios g is;
      starts_by_command = starts-by-command scenarios g is;
    }
