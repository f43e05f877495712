-- What happens in a set of pairs that an overseer watches, line by line of its script.
use Rattle.std.specs.Prelude.{◌≡◌, ℕ, ◌+◌, ◌==◌, Bool, true, false, nat_lt, is_some, if◌then◌else◌, List, [], ◌∷◌, Option, Some, None, Result, Ok, Err}
use Rattle.xrf_base.specs.declared.site.Site.TheVariants as site
use Rattle.xrf_setup.specs.Settings.{level_at}
use Rattle.xrf_setup.specs.declared.choice.Choice.{Choice as Chosen}
use Rattle.xrf_setup.specs.declared.choice.Choice.TheVariants as choice
use Rattle.xrf_set.specs.SetSoFar.{pair_at}
use Rattle.xrf_set.specs.declared.set_line.SetHead.{SetHead}
use Rattle.xrf_set.specs.declared.set_line.SetLine.{SetLine}
use Rattle.xrf_set.specs.declared.set_line.SetLine.TheVariants.{Choice, Order, Oversee}
use Rattle.xrf_trace.specs.Devices.{control}
use Rattle.xrf_trace.specs.Entries.{start_at}
use Rattle.xrf_trace.specs.Jobs.{hist, known_of}
use Rattle.xrf_trace.specs.Runs.{outcome, Refusal}
use Rattle.xrf_trace.specs.Scenario.{Scen}
use Rattle.xrf_trace.specs.declared.entry.Act.TheVariants as act
use Rattle.xrf_trace.specs.declared.entry.Entry.{Entry}
use Rattle.xrf_trace.specs.declared.entry.Refused.{Refused}
use Rattle.xrf_trace.specs.declared.entry.Refused.TheVariants.{NotEnabled}
use Rattle.xrf_overseer.specs.declared.view.Advice.{Advice}
use Rattle.xrf_overseer.specs.declared.view.Advice.TheVariants.{Leave, StartActive, StartStandby}
use Rattle.xrf_overseer.specs.declared.view.PairView.{PairView}

-- what the overseer sees of a pair after a trace
abbrev pub view_of : Scen → List Entry → PairView
view_of s t = record {
  control = control t;
  known = known_of t (control t);
  job_a = is_some (hist s t site.A);
  job_b = is_some (hist s t site.B);
  level_a = level_at s.settings site.A;
  level_b = level_at s.settings site.B;
}

-- What happened in a set: a choice of a pair with the entry that it added; or a look of the overseer at a pair by the script
-- line of a number from 1, what the policy advised, and what of it was done. A list of it has the newest first.
pub data Happened : Type 0 where
  Chose : (pair : ℕ) → (chosen : Chosen) → (entry : Entry) → Happened
  Looked : (line : ℕ) → (pair : ℕ) → (advice : Advice) → (done : Advice) → Happened

-- the trace behind what is done of an advice: an entry more, or none
abbrev pub after_done : Advice → List Entry → List Entry
after_done Leave t = t
after_done (StartActive x) t = start_at t x act.StartActive ∷ t
after_done (StartStandby x) t = start_at t x act.StartStandby ∷ t

-- and the choices
abbrev pub choice_done : Advice → List Chosen → List Chosen
choice_done Leave cs = cs
choice_done (StartActive x) cs = choice.StartActive x ∷ cs
choice_done (StartStandby x) cs = choice.StartStandby x ∷ cs

-- the trace of a pair, and the choices of which it is the run, the newest first
abbrev pub own : ℕ → List Happened → List Entry
own k [] = []
own k (Chose j c e ∷ w) = if j == k then e ∷ own k w else own k w
own k (Looked line j advice done ∷ w) = if j == k then after_done done (own k w) else own k w

abbrev pub chosen : ℕ → List Happened → List Chosen
chosen k [] = []
chosen k (Chose j c e ∷ w) = if j == k then c ∷ chosen k w else chosen k w
chosen k (Looked line j advice done ∷ w) = if j == k then choice_done done (chosen k w) else chosen k w

-- how many jobs the overseer has started as active, and to stand by, at a pair
abbrev pub is_active_start : Advice → Bool
is_active_start (StartActive x) = true
is_active_start _ = false

abbrev pub is_standby_start : Advice → Bool
is_standby_start (StartStandby x) = true
is_standby_start _ = false

abbrev pub starts_of : (Advice → Bool) → ℕ → List Happened → ℕ
starts_of kind k [] = 0
starts_of kind k (Chose j c e ∷ w) = starts_of kind k w
starts_of kind k (Looked line j advice done ∷ w) = if j == k then (if kind done then starts_of kind k w + 1 else starts_of kind k w) else starts_of kind k w

-- what is advised is done where the head has no limit, or it is not reached
abbrev pub within : Option ℕ → ℕ → Bool
within None count = true
within (Some most) count = nat_lt count most

abbrev pub let_done : SetHead → ℕ → List Happened → Advice → Advice
let_done head k w Leave = Leave
let_done head k w (StartActive x) = if within head.actives (starts_of is_active_start k w) then StartActive x else Leave
let_done head k w (StartStandby x) = if within head.standbys (starts_of is_standby_start k w) then StartStandby x else Leave

-- The overseer looks at each pair from a number on. A policy is what it may advise: gives holds of a view and an advice that
-- the policy may give for it.
abbrev pub Looks : (gives : PairView → Advice → Type 0) → SetHead → (line : ℕ) → ℕ → List Scen → List Happened → List Happened → Type 0
Looks gives head line k [] w last = last ≡ w
Looks gives head line k (s ∷ scenarios) w last =
    (advice : Advice) × gives (view_of s (own k w)) advice × Looks gives head line (k + 1) scenarios (Looked line k advice (let_done head k w advice) ∷ w) last

-- what a script line does; the pair of a choice is there
abbrev pub chose : ℕ → Chosen → Result Entry Refused → Result Happened Refused
chose k c (Ok e) = Ok (Chose k c e)
chose k c (Err reason) = Err reason

abbrev pub choice_outcome_of : Option Scen → ℕ → Chosen → List Happened → Result Happened Refused
choice_outcome_of None k c w = Err NotEnabled
choice_outcome_of (Some s) k c w = chose k c (outcome s (own k w) c)

abbrev pub choice_outcome : List Scen → ℕ → Chosen → List Happened → Result Happened Refused
choice_outcome scenarios k c w = choice_outcome_of (pair_at scenarios k) k c w

abbrev pub Does : (gives : PairView → Advice → Type 0) → SetHead → List Scen → (line : ℕ) → SetLine → List Happened → List Happened → Type 0
Does gives head scenarios line (Choice k c) w next = (happened : Happened) × (choice_outcome scenarios k c w ≡ Ok happened) × (next ≡ happened ∷ w)
Does gives head scenarios line Oversee w next = Looks gives head line 1 scenarios w next
Does gives head scenarios line (Order k) w next = ⊥

-- some script lines from the one of a number on are carried out, in the order in which they come
abbrev pub Watches : (gives : PairView → Advice → Type 0) → SetHead → List Scen → (line : ℕ) → List SetLine → List Happened → List Happened → Type 0
Watches gives head scenarios line [] w last = last ≡ w
Watches gives head scenarios line (one ∷ lines) w last =
    (next : List Happened) × Does gives head scenarios line one w next × Watches gives head scenarios (line + 1) lines next last

-- The script is carried out to the line of a place from 0, which is refused. An OVERSEE is never refused.
pub record IsStopped (gives : PairView → Advice → Type 0) (head : SetHead) (scenarios : List Scen) (lines before : List SetLine) (refused : SetLine) (reason : Refused) : Type 0 where
  pub now : List Happened
  pub done : Watches gives head scenarios 1 before [] now
  pub pair : ℕ
  pub made : Chosen
  pub is_choice : refused ≡ Choice pair made
  pub refuses : choice_outcome scenarios pair made now ≡ Err reason

-- for a policy that is a function of the view the same computes
abbrev pub look_from : (PairView → Advice) → SetHead → (line : ℕ) → ℕ → List Scen → List Happened → List Happened
look_from policy head line k [] w = w
look_from policy head line k (s ∷ scenarios) w =
    look_from policy head line (k + 1) scenarios (Looked line k (policy (view_of s (own k w))) (let_done head k w (policy (view_of s (own k w)))) ∷ w)

abbrev pub watch_step : (PairView → Advice) → SetHead → List Scen → (line : ℕ) → SetLine → List Happened → Result (List Happened) Refused
watch_step policy head scenarios line (Choice k c) w = elim (choice_outcome scenarios k c w) [ Ok happened ↦ Ok (happened ∷ w) | Err reason ↦ Err reason ]
watch_step policy head scenarios line Oversee w = Ok (look_from policy head line 1 scenarios w)
watch_step policy head scenarios line (Order k) w = Err NotEnabled

abbrev pub watch_from : (PairView → Advice) → SetHead → List Scen → ℕ → List SetLine → List Happened → Result (List Happened) Refusal
watch_from policy head scenarios place [] w = Ok w
watch_from policy head scenarios place (one ∷ lines) w =
    elim (watch_step policy head scenarios (place + 1) one w) [
      | Ok next ↦ watch_from policy head scenarios (place + 1) lines next
      | Err reason ↦ Err (record { place = place; reason = reason })
    ]

abbrev pub watch_on : (PairView → Advice) → SetHead → List Scen → ℕ → List SetLine → Result (List Happened) Refused → Result (List Happened) Refusal
watch_on policy head scenarios place lines o =
    elim o [ Ok next ↦ watch_from policy head scenarios (place + 1) lines next | Err reason ↦ Err (record { place = place; reason = reason }) ]

abbrev pub watch_run : (PairView → Advice) → SetHead → List Scen → List SetLine → Result (List Happened) Refusal
watch_run policy head scenarios lines = watch_from policy head scenarios 0 lines []
