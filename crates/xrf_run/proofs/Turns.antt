-- One turn keeps what a threaded run is.
use Rattle.std.proofs.Common.{IsTrue, ◌≡◌, ℕ, ◌+◌, ◌<◌, ◌≤◌, ◌&&◌, ◌||◌, nat_le, nat_lt, slice_get, get_or, zero, suc, if◌then◌else◌, Bool, true, false, List, [], ◌∷◌, length, Option, Some, None, is_none, Result, Ok, Err, is_err, refl, arith, subst, sym, ap, ◌∙◌}
use Rattle.std.proofs.lemmas.Option.{slice_get_within, get_or_from_slice_get}
use Rattle.std.proofs.lemmas.Grind.{common_steps}
use Rattle.xrf_base.specs.declared.site.Site.{Site}
use Rattle.xrf_base.specs.declared.site.Site.TheVariants.{A, B}
use Rattle.xrf_exit.specs.Exit.{AnswersAllowed}
use Rattle.xrf_exit.specs.declared.Notice.{Notice}
use Rattle.xrf_exit.specs.declared.Notice.TheVariants.{AlternateLost, TakeoverSeen}
use Rattle.xrf_exit.specs.declared.ExitAnswer.{ExitAnswer}
use Rattle.xrf_exit.specs.declared.ExitAnswer.TheVariants.{Abend, Keep, Drop}
use Rattle.xrf_setup.specs.declared.choice.Choice.{Choice}
use Rattle.xrf_setup.specs.declared.choice.Choice.TheVariants.{Tick, Step, Exit}
use Rattle.xrf_setup.specs.declared.ranges.TheConstants.{CHOICES_MOST}
use Rattle.xrf_setup.specs.Choices.{is_planned}
use Rattle.xrf_setup.specs.Scenario.{ArePlanned}
use Rattle.xrf_trace.specs.declared.entry.Entry.{Entry}
use Rattle.xrf_trace.specs.declared.entry.Refused.{Refused}
use Rattle.xrf_trace.specs.Refusals.{refusal}
use Rattle.xrf_trace.specs.Runs.{outcome_of, outcome}
use Rattle.xrf_trace.specs.Scenario.{Scen, IsScen}
use Rattle.xrf_trace.specs.Words.{now}
use Rattle.xrf_world.specs.Report.{is_enabled}
use Rattle.xrf_world.specs.Runs.{Run, Made}
use Rattle.xrf_run.specs.declared.steps.Steps.{Steps}
use Rattle.xrf_run.specs.declared.steps.Phase.{Phase}
use Rattle.xrf_run.specs.declared.steps.Phase.TheVariants.{Threads, Alone}
use Rattle.xrf_run.specs.Answering.{MayBe, MayBeSaid, UponLoss}
use Rattle.xrf_run.specs.Offering.{due_of, due}
use Rattle.xrf_run.specs.Offering.AreOffered.{none_yet, by_step, by_exit, by_tick, taken, refused}
use Rattle.xrf_run.specs.Pacing.{steps_of, one_more, steps_after, steps_made, is_in_pace, may_tick, IsPaced}
use Rattle.xrf_run.specs.Threaded.{Progress, IsThreaded}
use Rattle.xrf_run.specs.Turns.{begun, added, passed, Adds, Added, IsRefused, may_step, MayFollow, IsKept}
use Rattle.xrf_run.proofs.Runs.{run_more}

-- before the first choice
begun-threaded : (s : Scen) (may : ExitAnswer → Type 0) → IsThreaded s may begun
begun-threaded s may = record { run = refl; offered = none_yet; paced = tt; said = tt }

pub begins : (s : Scen) (may : ExitAnswer → Type 0) (t : List Entry) (cs : List Choice) (scenario : Scen) (pace ticks : ℕ) (plan : List (ℕ × Choice)) (capacity : ℕ)
    → IsScen s → t ≡ [] → cs ≡ [] → scenario ≡ s → pace ≡ s.settings.pace → ticks ≡ s.settings.ticks → plan ≡ s.plan → capacity ≡ CHOICES_MOST
    → IsThreaded s may (record { trace = t; choices = cs; offered = 0 }) × IsKept s (record { trace = t; choices = cs; offered = 0 }) scenario (record { a = 0; b = 0 }) pace ticks plan capacity
begins s may t cs scenario pace ticks plan capacity scen no_trace no_choices scenario_is pace_is ticks_is plan_is capacity_is =
    subst (λ xs. IsThreaded s may (record { trace = xs; choices = cs; offered = 0 }) × IsKept s (record { trace = xs; choices = cs; offered = 0 }) scenario (record { a = 0; b = 0 }) pace ticks plan capacity) (sym no_trace)
    (subst (λ xs. IsThreaded s may (record { trace = []; choices = xs; offered = 0 }) × IsKept s (record { trace = []; choices = xs; offered = 0 }) scenario (record { a = 0; b = 0 }) pace ticks plan capacity) (sym no_choices) (
      begun-threaded s may,
      record {
        scen = scen;
        scenario_is = scenario_is;
        as_many = refl;
        few = omega arith;
        steps_are = refl;
        a_fits = omega arith;
        b_fits = omega arith;
        pace_is = pace_is;
        ticks_is = ticks_is;
        plan_is = plan_is;
        within = omega arith;
        capacity_is = capacity_is;
      },
    ))

-- one choice more
one_more-fits : (made : Steps) (x : Site) (n : ℕ) → made.a ≤ n → made.b ≤ n → ((one_more made x).a ≤ n + 1) × ((one_more made x).b ≤ n + 1)
one_more-fits made A n a b = (omega (arith, a), omega (arith, b))
one_more-fits made B n a b = (omega (arith, a), omega (arith, b))

steps_after-fits : (made : Steps) (c : Choice) (n : ℕ) → made.a ≤ n → made.b ≤ n → ((steps_after made c).a ≤ n + 1) × ((steps_after made c).b ≤ n + 1)
steps_after-fits made (Step x) n a b = one_more-fits made x n a b
steps_after-fits made Tick n a b = (omega arith, omega arith)
steps_after-fits made c n a b = (omega (arith, a), omega (arith, b))

added-threaded : (s : Scen) (may : ExitAnswer → Type 0) (p : Progress) (e : Entry) (c : Choice) (k : ℕ) → IsThreaded s may p → outcome s p.trace c ≡ Ok e → MayFollow s may p c k → IsThreaded s may (added p e c k)
added-threaded s may p e c k is next follows =
    record { run = run_more s p.trace e p.choices c is.run next; offered = follows.offered; paced = follows.paced; said = (follows.said, is.said) }

pub adds : (s : Scen) (may : ExitAnswer → Type 0) (p : Progress) (e : Entry) (c : Choice) (k : ℕ) (scenario : Scen) (steps later : Steps) (pace ticks : ℕ) (plan : List (ℕ × Choice)) (capacity wide : ℕ) (cs : List Choice)
    → IsThreaded s may p × IsKept s p scenario steps pace ticks plan capacity → outcome s p.trace c ≡ Ok e → MayFollow s may p c k → length p.trace < CHOICES_MOST
    → later ≡ steps_after steps c → cs ≡ c ∷ p.choices → wide ≡ capacity
    → IsThreaded s may (record { trace = e ∷ p.trace; choices = cs; offered = k }) × IsKept s (record { trace = e ∷ p.trace; choices = cs; offered = k }) scenario later pace ticks plan wide
adds s may p e c k scenario steps later pace ticks plan capacity wide cs (is, kept) next follows room later_is cs_is wide_is =
    subst
    (λ ys. IsThreaded s may (record { trace = e ∷ p.trace; choices = ys; offered = k }) × IsKept s (record { trace = e ∷ p.trace; choices = ys; offered = k }) scenario later pace ticks plan wide)
    (sym cs_is)
    (
    let fits = steps_after-fits steps c (length p.choices) kept.a_fits kept.b_fits in (
      added-threaded s may p e c k is next follows,
      record {
        scen = kept.scen;
        scenario_is = kept.scenario_is;
        as_many = ap suc kept.as_many;
        few = omega (arith, room);
        steps_are = later_is ∙ ap (λ made. steps_after made c) kept.steps_are;
        a_fits = subst (λ (made : Steps). made.a ≤ length (c ∷ p.choices)) (sym later_is) (omega (arith, fits.0));
        b_fits = subst (λ (made : Steps). made.b ≤ length (c ∷ p.choices)) (sym later_is) (omega (arith, fits.1));
        pace_is = kept.pace_is;
        ticks_is = kept.ticks_is;
        plan_is = kept.plan_is;
        within = follows.within;
        capacity_is = wide_is ∙ kept.capacity_is;
      },
    )
    )

-- what may come next: a step that is in its pace
alone-in_pace : (phase : Phase) (s : Scen) (t : List Entry) (count : ℕ) → is_in_pace phase s t count ≡ true → is_in_pace Alone s t count ≡ true
alone-in_pace Alone s t count is = is
alone-in_pace Threads s t count is = by (nat_lt count s.settings.pace) is
  where
    by : (b : Bool) → (b || (false && nat_le s.settings.ticks (now t))) ≡ true → (b || (true && nat_le s.settings.ticks (now t))) ≡ true
    by true is = refl
    by false is = absurd (cc)

pub step_follows : (s : Scen) (may : ExitAnswer → Type 0) (p : Progress) (phase : Phase) (x : Site) → IsThreaded s may p → p.offered ≤ length s.plan → is_in_pace phase s p.trace (steps_of (steps_made p.choices) x) ≡ true
    → MayFollow s may p (Step x) p.offered
step_follows s may p phase x is within in_pace =
    record { offered = by_step p.choices p.offered x is.offered; within = within; paced = (is.paced, (p.trace, is.run, alone-in_pace phase s p.trace (steps_of (steps_made p.choices) x) in_pace)); said = tt }

-- an answer of the exit
pub exit_follows : (s : Scen) (may : ExitAnswer → Type 0) (p : Progress) (x : Site) (said : ExitAnswer) → IsThreaded s may p → p.offered ≤ length s.plan → MayBe may said → MayFollow s may p (Exit x said) p.offered
exit_follows s may p x said is within may_be = record { offered = by_exit p.choices p.offered x said is.offered; within = within; paced = is.paced; said = may_be }

-- a tick
pub tick_follows : (s : Scen) (may : ExitAnswer → Type 0) (p : Progress) → IsThreaded s may p → p.offered ≤ length s.plan → due s p.trace p.offered ≡ None → may_tick s p.trace (steps_made p.choices) ≡ true → MayFollow s may p Tick p.offered
tick_follows s may p is within none comes =
    record { offered = by_tick p.choices p.offered p.trace is.offered is.run none; within = within; paced = (is.paced, (p.trace, is.run, comes)); said = tt }

-- a line of the plan: it is no STEP, TICK or EXIT
due_of-within : (plan : List (ℕ × Choice)) (tick k : ℕ) (c : Choice) → due_of tick (slice_get plan k) ≡ Some c → k < length plan
due_of-within plan tick k c is = by (slice_get plan k) refl is
  where
    by : (o : Option (ℕ × Choice)) → slice_get plan k ≡ o → due_of tick o ≡ Some c → k < length plan
    by None got is = absurd (cc)
    by (Some line) got is = slice_get_within plan k line got

pub due_within : (s : Scen) (t : List Entry) (k : ℕ) (c : Choice) → due s t k ≡ Some c → k < length s.plan
due_within s t k c is = due_of-within s.plan (now t) k c is

planned_or : (plan : List (ℕ × Choice)) (least k : ℕ) (d : ℕ × Choice) → ArePlanned least plan → k < length plan → is_planned (get_or plan k d).1 ≡ true
planned_or [] least k d are less = absurd (omega (arith, less))
planned_or (p ∷ ps) least zero d are less = are.1
planned_or (p ∷ ps) least (suc k) d are less = planned_or ps p.0 k d are.3 (omega (arith, less))

pub line_is : (tick : ℕ) (line : ℕ × Choice) (c : Choice) → due_of tick (Some line) ≡ Some c → line.1 ≡ c
line_is tick line c is = by (nat_le line.0 tick) is
  where
    by : (b : Bool) → (if b then Some line.1 else None) ≡ Some c → line.1 ≡ c
    by true is = grind (arith, common_steps)
    by false is = absurd (cc)

due-planned : (plan : List (ℕ × Choice)) (least tick k : ℕ) (c : Choice) → ArePlanned least plan → due_of tick (slice_get plan k) ≡ Some c → is_planned c ≡ true
due-planned plan least tick k c are is = by (slice_get plan k) refl is
  where
    by : (o : Option (ℕ × Choice)) → slice_get plan k ≡ o → due_of tick o ≡ Some c → is_planned c ≡ true
    by None got is = absurd (cc)
    by (Some line) got is =
        subst (λ x. is_planned x ≡ true) (line_is tick line c is)
        (subst (λ (x : ℕ × Choice). is_planned x.1 ≡ true) (get_or_from_slice_get plan k line line got) (planned_or plan least k line are (slice_get_within plan k line got)))

planned-paced : (s : Scen) (cs : List Choice) (c : Choice) → is_planned c ≡ true → IsPaced s cs → IsPaced s (c ∷ cs)
planned-paced s cs Tick planned paced = absurd (cc)
planned-paced s cs (Step x) planned paced = absurd (cc)
planned-paced s cs c planned paced = paced

planned-said : (may : ExitAnswer → Type 0) (c : Choice) → is_planned c ≡ true → MayBeSaid may c
planned-said may (Exit x said) planned = absurd (cc)
planned-said may c planned = tt

pub offer_follows : (s : Scen) (may : ExitAnswer → Type 0) (p : Progress) (c : Choice) → IsThreaded s may p → IsScen s → due s p.trace p.offered ≡ Some c → MayFollow s may p c (p.offered + 1)
offer_follows s may p c is scen comes =
    let planned = due-planned s.plan 0 (now p.trace) p.offered c scen.plan comes in
    let within = due_within s p.trace p.offered c comes in
    record {
      offered = taken p.choices p.offered p.trace c is.offered is.run comes;
      within = omega (arith, within);
      paced = planned-paced s p.choices c planned is.paced;
      said = planned-said may c planned;
    }

-- a line that is refused is passed
pub passes : (s : Scen) (may : ExitAnswer → Type 0) (p : Progress) (scenario : Scen) (steps : Steps) (pace ticks : ℕ) (plan : List (ℕ × Choice)) (capacity : ℕ)
    → IsThreaded s may p × IsKept s p scenario steps pace ticks plan capacity → IsRefused s p → IsThreaded s may (passed p) × IsKept s (passed p) scenario steps pace ticks plan capacity
passes s may p scenario steps pace ticks plan capacity (is, kept) (c, comes, not_enabled) =
    let within = due_within s p.trace p.offered c comes in (
      record { run = is.run; offered = refused p.choices p.offered p.trace c is.offered is.run comes not_enabled; paced = is.paced; said = is.said },
      record {
        scen = kept.scen;
        scenario_is = kept.scenario_is;
        as_many = kept.as_many;
        few = kept.few;
        steps_are = kept.steps_are;
        a_fits = kept.a_fits;
        b_fits = kept.b_fits;
        pace_is = kept.pace_is;
        ticks_is = kept.ticks_is;
        plan_is = kept.plan_is;
        within = omega (arith, within);
        capacity_is = kept.capacity_is;
      },
    )

-- what a closure whose answers are allowed says
pub may_be : (gives : Notice → ExitAnswer → Type 0) (may : ExitAnswer → Type 0) (told : Notice) (said : ExitAnswer) → AnswersAllowed gives → UponLoss gives may → gives told said → MayBe may said
may_be gives may told Abend allowed upon given = tt
may_be gives may AlternateLost Keep allowed upon given = upon Keep given
may_be gives may AlternateLost Drop allowed upon given = upon Drop given
may_be gives may TakeoverSeen Keep allowed upon given = let never : IsTrue false = allowed TakeoverSeen Keep given in absurd (cc)
may_be gives may TakeoverSeen Drop allowed upon given = let never : IsTrue false = allowed TakeoverSeen Drop given in absurd (cc)

-- a choice is enabled exactly where it has an entry
outcome_of-enabled : (s : Scen) (t : List Entry) (c : Choice) (r : Option Refused) (e : Entry) → outcome_of s t c r ≡ Ok e → is_none r ≡ true
outcome_of-enabled s t c None e is = refl
outcome_of-enabled s t c (Some why) e is = absurd (cc)

pub accepted-enabled : (s : Scen) (t : List Entry) (c : Choice) (e : Entry) → outcome s t c ≡ Ok e → is_enabled s t c ≡ true
accepted-enabled s t c e is = outcome_of-enabled s t c (refusal s t c) e is

outcome_of-refused : (s : Scen) (t : List Entry) (c : Choice) (r : Option Refused) (why : Refused) → outcome_of s t c r ≡ Err why → is_none r ≡ false
outcome_of-refused s t c None why is = absurd (cc)
outcome_of-refused s t c (Some _) why is = refl

pub refused-enabled : (s : Scen) (t : List Entry) (c : Choice) (why : Refused) → outcome s t c ≡ Err why → is_enabled s t c ≡ false
refused-enabled s t c why is = outcome_of-refused s t c (refusal s t c) why is

-- a call that gave no refusal made the choice
pub was_made : (old new : Run) (r : Result Entry Refused) (result : Result (Unit {0}) Refused) → Made old r result new → is_err result ≡ false
    → (e : Entry) × (r ≡ Ok e) × (new ≡ record { scenario = old.scenario; trace = e ∷ old.trace })
was_made old new (Ok e) result (is, made) none = (e, refl, made)
was_made old new (Err why) result (is, same) none = absurd (cc)

-- what the World made is added to what is kept
pub adds_made : (s : Scen) (may : ExitAnswer → Type 0) (old new : Run) (before cs : List Choice) (offered k : ℕ) (c : Choice) (steps later : Steps) (pace ticks : ℕ) (plan : List (ℕ × Choice)) (capacity wide : ℕ)
    → IsThreaded s may (record { trace = old.trace; choices = before; offered = offered }) × IsKept s (record { trace = old.trace; choices = before; offered = offered }) old.scenario steps pace ticks plan capacity
    → (e : Entry) × (outcome old.scenario old.trace c ≡ Ok e) × (new ≡ record { scenario = old.scenario; trace = e ∷ old.trace })
    → MayFollow s may (record { trace = old.trace; choices = before; offered = offered }) c k → length old.trace < CHOICES_MOST → later ≡ steps_after steps c → cs ≡ c ∷ before → wide ≡ capacity
    → IsThreaded s may (record { trace = new.trace; choices = cs; offered = k }) × IsKept s (record { trace = new.trace; choices = cs; offered = k }) new.scenario later pace ticks plan wide
adds_made s may old new before cs offered k c steps later pace ticks plan capacity wide is (e, accepted, new_is) follows room later_is cs_is wide_is =
    subst (λ (w : Run). IsThreaded s may (record { trace = w.trace; choices = cs; offered = k }) × IsKept s (record { trace = w.trace; choices = cs; offered = k }) w.scenario later pace ticks plan wide) (sym new_is)
    (adds s may (record { trace = old.trace; choices = before; offered = offered }) e c k old.scenario steps later pace ticks plan capacity wide cs is (subst (λ (x : Scen). outcome x old.trace c ≡ Ok e) is.1.scenario_is accepted) follows room later_is cs_is wide_is)

pub adds_view : (s : Scen) (old new : Run) (before cs : List Choice) (k : ℕ) (c : Choice) → old.scenario ≡ s
    → (e : Entry) × (outcome old.scenario old.trace c ≡ Ok e) × (new ≡ record { scenario = old.scenario; trace = e ∷ old.trace }) → cs ≡ c ∷ before
    → Adds s (record { trace = old.trace; choices = before; offered = k }) c k (record { trace = new.trace; choices = cs; offered = k })
adds_view s old new before cs k c scenario_is (e, accepted, new_is) cs_is = (
  e,
  subst (λ (x : Scen). outcome x old.trace c ≡ Ok e) scenario_is accepted,
  subst (λ (w : Run). record { trace = w.trace; choices = cs; offered = k } ≡ added (record { trace = old.trace; choices = before; offered = k }) e c k) (sym new_is)
      (subst (λ ys. Path Progress (record { trace = e ∷ old.trace; choices = ys; offered = k }) (added (record { trace = old.trace; choices = before; offered = k }) e c k)) (sym cs_is) refl),
)

-- what a choice that was to be added has come to
pub was_added : (p q : Progress) (c : Choice) (k : ℕ) (r : Result Entry Refused) (b : Bool) → Added p c k r b q → b ≡ true → (e : Entry) × (r ≡ Ok e) × (q ≡ added p e c k)
was_added p q c k (Ok e) b (is, made) yes_added = (e, refl, made)
was_added p q c k (Err why) b (is, same) yes_added = absurd (cc)

pub was_refused : (p q : Progress) (c : Choice) (k : ℕ) (r : Result Entry Refused) (b : Bool) → Added p c k r b q → b ≡ false → (why : Refused) × (r ≡ Err why) × (q ≡ p)
was_refused p q c k (Ok e) b (is, made) not_added = absurd (cc)
was_refused p q c k (Err why) b (is, same) not_added = (why, refl, same)

tick_accepted : (s : Scen) (t : List Entry) → (e : Entry) × (outcome s t Tick ≡ Ok e)
tick_accepted s t = (_, refl)

pub was_ticked : (s : Scen) (p q : Progress) (b : Bool) → Added p Tick p.offered (outcome s p.trace Tick) b q → Adds s p Tick p.offered q
was_ticked s p q b (is, made) = (_, refl, made)

-- a step that was in its pace and added
pub was_stepped : (phase : Phase) (s : Scen) (p q : Progress) (x : Site) (k : ℕ) (b : Bool) → is_in_pace phase s p.trace (steps_of (steps_made p.choices) x) ≡ true → k ≡ p.offered → Added p (Step x) k (outcome s p.trace (Step x)) b q → b ≡ true
    → (may_step phase s p x ≡ true) × Adds s p (Step x) p.offered q
was_stepped phase s p q x k b in_pace k_is is yes_added =
    let made = was_added p q (Step x) k (outcome s p.trace (Step x)) b is yes_added in (
      rw (in_pace, accepted-enabled s p.trace (Step x) made.0 made.1) refl,
      (made.0, made.1, subst (λ n. q ≡ added p made.0 (Step x) n) k_is made.2),
    )
