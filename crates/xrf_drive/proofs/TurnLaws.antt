-- What one turn more makes of a run.
use Rattle.std.proofs.Common.{◌≡◌, ◌<◌, ◌+◌, ℕ, Bool, true, false, List, [], ◌∷◌, ◌++◌, length, Option, Some, None, is_none, is_some, if◌then◌else◌, unwrap_or, Result, Ok, Err, refl, sym, ◌∙◌, ap, subst, add-one, arith}
use Rattle.rand_pcg.specs.Lcg.{Lcg}
use Rattle.rand_pcg.specs.Pcg.{pcg32}
use Rattle.xrf_base.specs.declared.site.Site.{Site}
use Rattle.xrf_base.specs.declared.site.Site.TheVariants as site
use Rattle.xrf_history.specs.Events.{Event}
use Rattle.xrf_setup.specs.declared.choice.Choice.{Choice}
use Rattle.xrf_setup.specs.declared.choice.Choice.TheVariants as choice
use Rattle.xrf_trace.specs.declared.entry.Entry.{Entry}
use Rattle.xrf_trace.specs.declared.entry.Refused.{Refused}
use Rattle.xrf_trace.specs.declared.entry.Refused.TheVariants.{NotEnabled}
use Rattle.xrf_trace.specs.Acts.{act_by}
use Rattle.xrf_trace.specs.Jobs.{hist}
use Rattle.xrf_trace.specs.Refusals.{is_next, may_step, unless}
use Rattle.xrf_trace.specs.Runs.{outcome, Refusal, run, run_from}
use Rattle.xrf_trace.specs.Scenario.{Scen, other}
use Rattle.xrf_world.specs.Runs.{Run, Made, Applied}
use Rattle.xrf_drive.specs.Drawn.{Turns, trace_with, turned, turns_of, with_choice}
use Rattle.xrf_drive.specs.Tries.{DrivesTo, Tried}
use Rattle.xrf_drive.specs.Turns.{choice_or, exit_of_any, first_of, in_its_place, step_at, step_of_any, turn}

-- where a choice was not there, another is tried on the same run
pub or_other : (old before new : Run) (a : Option Choice) (b : Run → Option Choice) (made made_then : Bool) → Tried old a made before → made ≡ false
    → Tried before (b before) made_then new → Tried old (first_of a (b old)) made_then new
or_other old before new (Some c) b made made_then tried not_made then_tried = absurd (let is = tried.0 in cc)
or_other old before new None b made made_then tried not_made then_tried = subst (λ (r : Run). Tried r (b r) made_then new) tried.1 then_tried

-- and where it was, that is all
pub this_one : (old new : Run) (a b : Option Choice) (made : Bool) → Tried old a made new → made ≡ true → Tried old (first_of a b) true new
this_one old new (Some c) b made tried is_made = (refl, tried.1)
this_one old new None b made tried is_made = absurd (let is = tried.0 in cc)

-- where a choice was not there, what takes its place is made of the same run
pub in_place : (old before new : Run) (c : Option Choice) (made : Bool) (other : Run → Choice) → Tried old c made before → made ≡ false
    → Applied before (other before) (Ok tt) new → Applied old (unwrap_or c (other old)) (Ok tt) new
in_place old before new (Some c) made other tried not_made applied = absurd (let is = tried.0 in cc)
in_place old before new None made other tried not_made applied = subst (λ (r : Run). Applied r (other r) (Ok tt) new) tried.1 applied

pub is_made : (old new : Run) (c : Option Choice) (made : Bool) (other : Choice) → Tried old c made new → made ≡ true → Applied old (unwrap_or c other) (Ok tt) new
is_made old new (Some c) made other tried is = tried.1
is_made old new None made other tried is = absurd (let no = tried.0 in cc)

-- where no job is there, no STEP is
no-job : (job : Option (List Event)) → is_some job ≡ false → job ≡ None
no-job None none = refl
no-job (Some h) none = absurd (cc)

pub without_job : (r : Run) (x : Site) → is_some (hist r.scenario r.trace x) ≡ false → Tried r (step_at r.scenario r.trace x) false r
without_job r x none =
    let s = r.scenario in
    let t = r.trace in
    let refused : step_at s t x ≡ None =
    ap (λ (job : Option (List Event)). if is_none (unless (is_next (may_step t) (act_by s t x job)) NotEnabled) then Some (choice.Step x) else None)
    (no-job (hist s t x) none) in
    subst (λ (c : Option Choice). Tried r c false r) (sym refused) (refl, refl)

-- the first of two choices, or else a third
or-first : (a b : Option Choice) (c : Choice) → unwrap_or a (unwrap_or b c) ≡ unwrap_or (first_of a b) c
or-first (Some d) b c = refl
or-first None b c = refl

-- where no STEP of a site is there, the STEP of any is that of the other
first-none : (a b : Option Choice) → a ≡ None → b ≡ first_of a b
first-none None b none = refl
first-none (Some c) b none = absurd (cc)

none-first : (a b : Option Choice) → b ≡ None → a ≡ first_of a b
none-first (Some c) b none = refl
none-first None b none = sym none

other-step : (s : Scen) (t : List Entry) (x : Site) → step_at s t x ≡ None → step_at s t (other x) ≡ step_of_any s t
other-step s t site.A none = first-none (step_at s t site.A) (step_at s t site.B) none
other-step s t site.B none = none-first (step_at s t site.A) (step_at s t site.B) none

-- what takes the place of a STEP of a site that was refused
abbrev pub without_step : Site → Run → Choice
without_step x r = unwrap_or (exit_of_any r.scenario r.trace) (unwrap_or (step_at r.scenario r.trace (other x)) choice.Tick)

its-place : (s : Scen) (t : List Entry) (x : Site) → step_at s t x ≡ None
    → without_step x (record { scenario = s; trace = t }) ≡ choice_or s t (Some (choice.Step x))
its-place s t x none =
    or-first (exit_of_any s t) (step_at s t (other x)) choice.Tick
    ∙ ap (λ (b : Option Choice). unwrap_or (first_of (exit_of_any s t) b) choice.Tick) (other-step s t x none)
    ∙ ap (λ (c : Option Choice). unwrap_or c (in_its_place s t)) (sym none)

not-made : (old new : Run) (c : Option Choice) (made : Bool) → Tried old c made new → made ≡ false → (c ≡ None) × (new ≡ old)
not-made old new (Some c) made tried not_made = absurd (let is = tried.0 in cc)
not-made old new None made tried not_made = (refl, tried.1)

pub step_refused : (old before new : Run) (x : Site) (made : Bool) → Tried old (step_at old.scenario old.trace x) made before → made ≡ false
    → Applied before (without_step x before) (Ok tt) new → Applied old (choice_or old.scenario old.trace (Some (choice.Step x))) (Ok tt) new
step_refused old before new x made tried not_made applied =
    let refused = not-made old before (step_at old.scenario old.trace x) made tried not_made in
    subst (λ (c : Choice). Applied old c (Ok tt) new) (its-place old.scenario old.trace x refused.0)
    (subst (λ (r : Run). Applied r (without_step x r) (Ok tt) new) refused.1 applied)

-- the run of one choice more
abbrev goes_on : Scen → List Entry → ℕ → List Choice → Result Entry Refused → Result (List Entry) Refusal
goes_on s t place cs o = elim o [ Ok e ↦ run_from s (e ∷ t) (place + 1) cs | Err why ↦ Err (record { place = place; reason = why }) ]

one-more-behind : (s : Scen) (t u : List Entry) (place : ℕ) (cs : List Choice) (c : Choice) (e : Entry) (o : Result Entry Refused)
    → ((f : Entry) → run_from s (f ∷ t) (place + 1) cs ≡ Ok u → run_from s (f ∷ t) (place + 1) (cs ++ c ∷ []) ≡ Ok (e ∷ u))
    → goes_on s t place cs o ≡ Ok u → goes_on s t place (cs ++ c ∷ []) o ≡ Ok (e ∷ u)
one-more-behind s t u place cs c e (Ok f) rest runs = rest f runs
one-more-behind s t u place cs c e (Err why) rest runs = absurd (cc)

one-more : (s : Scen) (t u : List Entry) (place : ℕ) (cs : List Choice) (c : Choice) (e : Entry) → run_from s t place cs ≡ Ok u → outcome s u c ≡ Ok e
    → run_from s t place (cs ++ c ∷ []) ≡ Ok (e ∷ u)
one-more s t u place [] c e runs made =
    let here : goes_on s u place [] (outcome s u c) ≡ Ok (e ∷ u) = subst (λ (o : Result Entry Refused). goes_on s u place [] o ≡ Ok (e ∷ u)) (sym made) refl in
    let same : t ≡ u = cc in
    subst (λ (v : List Entry). run_from s v place (c ∷ []) ≡ Ok (e ∷ u)) (sym same) here
one-more s t u place (d ∷ cs) c e runs made =
    one-more-behind s t u place cs c e (outcome s t d) (λ f behind. one-more s (f ∷ t) u (place + 1) cs c e behind made) runs

-- a choice that was made added its entry
made-entry : (old new : Run) (o : Result Entry Refused) → Made old o (Ok tt) new
    → (e : Entry) × ((o ≡ Ok e) × (new ≡ record { scenario = old.scenario; trace = e ∷ old.trace }))
made-entry old new (Ok e) made = (e, (refl, made.1))
made-entry old new (Err why) made = absurd (let no = made.0 in cc)

-- what a turn comes to whose choice was made
record IsTurn (s : Scen) (before : Turns) (after : Turns) (new : Run) : Type 0 where
  is : new ≡ record { scenario = s; trace = after.trace }
  is_run : run s after.choices ≡ Ok after.trace
  count : length after.trace ≡ length before.trace + 1

turn-made : (s : Scen) (so : Turns) (g : Lcg) (c : Choice) (new : Run) → run s so.choices ≡ Ok so.trace
    → Applied (record { scenario = s; trace = so.trace }) c (Ok tt) new → IsTurn s so (with_choice s so g c) new
turn-made s so g c new runs applied =
    let added = made-entry (record { scenario = s; trace = so.trace }) new (outcome s so.trace c) applied in
    let e : Entry = added.0 in
    let whole : trace_with so.trace (outcome s so.trace c) ≡ e ∷ so.trace = ap (trace_with so.trace) added.1.0 in
    let longer : length (e ∷ so.trace) ≡ length so.trace + 1 = omega arith in
    record {
      is = added.1.1 ∙ ap (λ (t : List Entry). record { scenario = s; trace = t }) (sym whole);
      is_run = one-more s [] so.trace 0 so.choices c e runs added.1.0 ∙ ap Ok (sym whole);
      count = ap length whole ∙ longer;
    }

one-turn : (s : Scen) (first : Lcg) (n : ℕ) → turns_of s first (n + 1) ≡ turned s (turns_of s first n)
unfolding turns_of
one-turn s first n = ap (turns_of s first) (add-one n)

-- before the first turn
pub drives-none : (s : Scen) (first : Lcg) (r : Run) → r.scenario ≡ s → r.trace ≡ [] → DrivesTo s first 0 first r
unfolding turns_of
drives-none s first r is fresh = record {
  generator = refl;
  is = ap (λ (a : Scen). record { scenario = a; trace = r.trace }) is ∙ ap (λ (t : List Entry). record { scenario = s; trace = t }) fresh;
  is_run = refl;
  count = refl;
}

-- after one turn more
drives-as : (s : Scen) (first : Lcg) (n : ℕ) (now next : Lcg) (new : Run) → DrivesTo s first n now (record { scenario = s; trace = (turns_of s first n).trace })
    → next ≡ (pcg32 (turns_of s first n).generator).1
    → Applied (record { scenario = s; trace = (turns_of s first n).trace }) (turn s (turns_of s first n).trace (pcg32 (turns_of s first n).generator).0) (Ok tt) new
    → DrivesTo s first (n + 1) next new
drives-as s first n now next new drives after applied =
    let made = turn-made s (turns_of s first n) (pcg32 (turns_of s first n).generator).1 (turn s (turns_of s first n).trace (pcg32 (turns_of s first n).generator).0) new drives.is_run applied in
    let more = sym (one-turn s first n) in
    record {
      generator = after ∙ ap (λ (so : Turns). so.generator) more;
      is = subst (λ (so : Turns). new ≡ record { scenario = s; trace = so.trace }) more made.is;
      is_run = subst (λ (so : Turns). run s so.choices ≡ Ok so.trace) more made.is_run;
      count = subst (λ (so : Turns). length so.trace ≡ n + 1) more (made.count ∙ ap (λ (k : ℕ). k + 1) drives.count);
    }

pub drives-on : (s : Scen) (first : Lcg) (n : ℕ) (now next : Lcg) (word : ℕ) (old new : Run) → DrivesTo s first n now old → (word, next) ≡ pcg32 now
    → Applied old (turn old.scenario old.trace word) (Ok tt) new → DrivesTo s first (n + 1) next new
drives-on s first n now next word old new drives drawn applied =
    let at : Run = record { scenario = s; trace = (turns_of s first n).trace } in
    let from : (word, next) ≡ pcg32 (turns_of s first n).generator = drawn ∙ ap pcg32 drives.generator in
    let words : word ≡ (pcg32 (turns_of s first n).generator).0 = ap (λ (p : ℕ × Lcg). p.0) from in
    drives-as s first n now next new (subst (DrivesTo s first n now) drives.is drives) (ap (λ (p : ℕ × Lcg). p.1) from)
    (subst (λ (w : ℕ). Applied at (turn s (turns_of s first n).trace w) (Ok tt) new) words (subst (λ (r : Run). Applied r (turn r.scenario r.trace word) (Ok tt) new) drives.is applied))

-- there is room for one more
pub has_room : (s : Scen) (first : Lcg) (n most : ℕ) (now : Lcg) (r : Run) → DrivesTo s first n now r → n < most → length r.trace < most
has_room s first n most now r drives few = let size : length r.trace ≡ n = ap (λ (a : Run). length a.trace) drives.is ∙ drives.count in omega arith
