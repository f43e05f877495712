-- The tick of the last change that a job of a run saw is not after the present one.
use Rattle.std.proofs.Common.{◌≡◌, ◌≤◌, ℕ, suc, Bool, true, false, max, if◌then◌else◌, List, [], ◌∷◌, length, Option, Some, None, arith, refl, subst, sym}
use Rattle.xrf_base.specs.declared.site.Site.{Site}
use Rattle.xrf_cavm.specs.Watch.{Told, Reset, changes, latest, is_news, last_look}
use Rattle.xrf_cavm.specs.declared.decisions.Acting.TheVariants as acting
use Rattle.xrf_cavm.specs.declared.decisions.Decided.{Decided}
use Rattle.xrf_cavm.specs.declared.decisions.Decided.TheVariants.{Owner}
use Rattle.xrf_cebt.specs.declared.commands.Cebt.{Cebt}
use Rattle.xrf_cebt.specs.declared.commands.Cebt.TheVariants.{SetSurveillance}
use Rattle.xrf_exit.specs.declared.ExitAnswer.{ExitAnswer}
use Rattle.xrf_exit.specs.declared.ExitAnswer.TheVariants as exit
use Rattle.xrf_history.specs.Events.{Event, Ticked, ActFailed}
use Rattle.xrf_base.specs.declared.items.Item.{Item}
use Rattle.xrf_history.specs.Restarting.{has_read_block}
use Rattle.xrf_history.specs.Looking.{signal_seen, told_to_watch, told_of_reply, told_of_command, told_of_decision, told_of_exit}
use Rattle.xrf_history.specs.Next.{next}
use Rattle.xrf_trace.specs.declared.entry.Act.{Act}
use Rattle.xrf_trace.specs.declared.entry.Act.TheVariants as act
use Rattle.xrf_trace.specs.declared.entry.Entry.{Entry}
use Rattle.xrf_trace.specs.Devices.{sector2}
use Rattle.xrf_trace.specs.Jobs.{hist, handed, block_event, item_event}
use Rattle.xrf_trace.specs.Runs.{IsRun}
use Rattle.xrf_trace.specs.Scenario.{Scen, settings, item_at, other}
use Rattle.xrf_trace.specs.Words.{now, tick_after}
use Rattle.xrf_trace.proofs.JobSteps.{OfJobs, at-job, job-steps, no-jobs, started}
use Rattle.xrf_trace.proofs.Steps.{IsStart, run-step}

-- a history that is no longer than a number of entries, and saw its last change by a tick
pub record IsBy (tick count : ℕ) (h : List Event) : Type 0 where
  pub change_is : latest 0 (changes (told_to_watch h)) ≤ tick
  pub few : length h ≤ count

-- of two numbers
max-within : (a b n : ℕ) → a ≤ n → b ≤ n → max a b ≤ n
max-within a b n first second = grind (arith, first, second)

-- a change at a tick
told-at : (at n : ℕ) (told : List Told) → at ≤ n → latest 0 (changes told) ≤ n → latest 0 (changes (Reset at ∷ told)) ≤ n
told-at at n told now before = max-within at (latest 0 (changes told)) n now before

-- a REPLY
reply-told : (go : Bool) (at n : ℕ) (told : List Told) → at ≤ n → latest 0 (changes told) ≤ n → latest 0 (changes (told_of_reply go at told)) ≤ n
reply-told true at n told now before = before
reply-told false at n told now before = told-at at n told now before

-- a CEBT
command-told : (command : Cebt) (at n : ℕ) (told : List Told) → at ≤ n → latest 0 (changes told) ≤ n → latest 0 (changes (told_of_command command at told)) ≤ n
command-told (SetSurveillance true) at n told now before = told-at at n told now before
command-told (SetSurveillance false) at n told now before = before
command-told _ at n told now before = before

-- a DECIDE
decision-told : (decision : Decided) (at n : ℕ) (told : List Told) → at ≤ n → latest 0 (changes told) ≤ n
    → latest 0 (changes (told_of_decision decision at told)) ≤ n
decision-told (Owner (acting.CatchUp k)) at n told now before = told-at at n told now before
decision-told (Owner _) at n told now before = before
decision-told _ at n told now before = before

-- an EXIT
exit-told : (said : ExitAnswer) (at n : ℕ) (told : List Told) → at ≤ n → latest 0 (changes told) ≤ n → latest 0 (changes (told_of_exit said at told)) ≤ n
exit-told exit.Keep at n told now before = told-at at n told now before
exit-told _ at n told now before = before

-- a LOOK2
look-told : (news : Bool) (at n : ℕ) (ts : List ℕ) → at ≤ n → latest 0 ts ≤ n → latest 0 (if news then at ∷ ts else ts) ≤ n
look-told true at n ts now before = max-within at (latest 0 ts) n now before
look-told false at n ts now before = before

-- what an act hands at the present tick
block-told : (s : Scen) (t : List Entry) (b : ℕ) (has : Bool) (h : List Event) → told_to_watch (block_event s t b has ∷ h) ≡ told_to_watch h
block-told s t b true h = refl
block-told s t b false h = refl

-- an item tells its watch nothing
item-told : (item : Option Item) (h : List Event) → told_to_watch (item_event item ∷ h) ≡ told_to_watch h
item-told None h = refl
item-told (Some item) h = refl

-- what tells it nothing keeps the last change
as-before : (n : ℕ) (told after : List Told) → after ≡ told → latest 0 (changes told) ≤ n → latest 0 (changes after) ≤ n
as-before n told after same before = subst (λ (ts : List Told). latest 0 (changes ts) ≤ n) (sym same) before

-- so no act is a change after its tick
handed-told : (s : Scen) (t : List Entry) (x : Site) (n : ℕ) (h : List Event) (a : Act) → latest 0 (changes (told_to_watch h)) ≤ n
    → latest 0 (changes (told_to_watch (handed s t x n h a ∷ h))) ≤ n
handed-told s t x n h (act.Reply go) before = reply-told go n n (told_to_watch h) (omega arith) before
handed-told s t x n h (act.Cebt command reply) before = command-told command n n (told_to_watch h) (omega arith) before
handed-told s t x n h (act.Exit said) before = exit-told said n n (told_to_watch h) (omega arith) before
handed-told s t x n h act.Look2 before =
    look-told (is_news (signal_seen h, sector2 t (other x)) (last_look (told_to_watch h))) n n (changes (told_to_watch h)) (omega arith) before
handed-told s t x n h (act.Decide decision) before = decision-told decision n n (told_to_watch h) (omega arith) before
handed-told s t x n h (act.LogRead b) before =
    as-before n (told_to_watch h) (told_to_watch (block_event s t b (has_read_block h) ∷ h)) (block-told s t b (has_read_block h) h) before
handed-told s t x n h (act.Item k) before =
    as-before n (told_to_watch h) (told_to_watch (item_event (item_at s x k) ∷ h)) (item-told (item_at s x k) h) before
handed-told s t x n h _ before = before

-- ticks do not fall
tick-rises : (a : Act) (n : ℕ) → n ≤ tick_after a n
tick-rises act.Tick n = omega arith
tick-rises _ n = omega arith

-- a history more
grown : (tick after count : ℕ) (e : Event) (h : List Event) → tick ≤ after → latest 0 (changes (told_to_watch (e ∷ h))) ≤ tick → length h ≤ count
    → IsBy after (suc count) (e ∷ h)
grown tick after count e h later change_is few = record { change_is = omega (arith, later, change_is); few = omega (arith, few) }

-- a START has seen none
start-by : (tick count : ℕ) (a : Act) → IsStart a → IsBy tick (suc count) (started a)
start-by tick count act.StartActive is = record { change_is = omega arith; few = omega arith }
start-by tick count act.StartStandby is = record { change_is = omega arith; few = omega arith }
start-by tick count _ is = absurd is

-- **so of every run**
pub times : (s : Scen) (t : List Entry) → IsRun s t → OfJobs s t (λ x h. IsBy (now t) (length t) h)
times s [] is = no-jobs s (λ x h. IsBy 0 0 h)
times s (e ∷ t) is =
    let before : OfJobs s t (λ x h. IsBy (now t) (length t) h) = times s t is.0 in
    let at : (x : Site) (h : List Event) → hist s t x ≡ Some h → IsBy (now t) (length t) h =
    λ x h there. at-job s (λ y g. IsBy (now t) (length t) g) t x h before there in
    let later : now t ≤ now (e ∷ t) = tick-rises e.act (now t) in
    job-steps s t e (λ x h. IsBy (now (e ∷ t)) (suc (length t)) h) (run-step s t e is) (record {
      starts = λ x a start same. start-by (now (e ∷ t)) (length t) a start;
      ticks = λ x h there same. grown (now t) (now (e ∷ t)) (length t) Ticked h later (at x h there).change_is (at x h there).few;
      reaches = λ x h a there reach same.
          grown (now t) (now (e ∷ t)) (length t) (handed s t x (now t) h a) h later (handed-told s t x (now t) h a (at x h there).change_is) (at x h there).few;
      makes = λ x h a l there wants can on same.
          grown (now t) (now (e ∷ t)) (length t) (handed s t x (now t) h a) h later (handed-told s t x (now t) h a (at x h there).change_is) (at x h there).few;
      fails = λ x h a cut there wants can same.
          grown (now t) (now (e ∷ t)) (length t) (ActFailed (next (settings s x) h) (now t)) h later (at x h there).change_is (at x h there).few;
      others = λ x h there away. record { change_is = omega (arith, later, (at x h there).change_is); few = omega (arith, (at x h there).few) };
    })

-- of a job that is there
pub time-of : (s : Scen) (t : List Entry) (x : Site) (h : List Event) → IsRun s t → hist s t x ≡ Some h → IsBy (now t) (length t) h
time-of s t x h is there = at-job s (λ y g. IsBy (now t) (length t) g) t x h (times s t is) there
