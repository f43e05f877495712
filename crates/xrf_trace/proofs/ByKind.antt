-- The entries of a run by their kinds.
use Rattle.std.proofs.Common.{Bool, false, true, ◌≡◌, List, ℕ, Some, refl, Option, subst, sym, None}
use Rattle.xrf_base.specs.declared.site.Site.{Site}
use Rattle.xrf_setup.specs.declared.choice.Landing.{Landing}
use Rattle.xrf_setup.specs.declared.choice.Choice.{Choice}
use Rattle.xrf_setup.specs.declared.choice.Choice.TheVariants as choice
use Rattle.xrf_history.specs.Events.{Event}
use Rattle.xrf_history.specs.Next.{next}
use Rattle.xrf_trace.specs.declared.entry.Act.{Act}
use Rattle.xrf_trace.specs.declared.entry.Land.{Land}
use Rattle.xrf_trace.specs.Acts.{is_signal, may_fail, act_of}
use Rattle.xrf_trace.proofs.Steps.{Fits, CanLand, Reaches, IsStart, OfAct, OfChoice, OfConfirm, OfStart, OfStop, OfTick, Step, accepted-step}
use Rattle.xrf_trace.specs.declared.entry.Entry.{Entry}
use Rattle.xrf_trace.specs.Words.{now, who_at}
use Rattle.xrf_trace.specs.Scenario.{Scen, settings}
use Rattle.xrf_trace.specs.Entries.{entry, inc_at, start_at}
use Rattle.xrf_trace.specs.Jobs.{hist}
use Rattle.xrf_trace.specs.Refusals.{refusal}
use Rattle.xrf_trace.specs.declared.entry.Act.TheVariants as act
use Rattle.xrf_trace.specs.declared.entry.Land.TheVariants as land

-- an act that reaches a job, and one of no job
abbrev pub is_quiet : Act → Bool
is_quiet act.Abend = true
is_quiet (act.Reply go) = true
is_quiet (act.Cebt command reply) = true
is_quiet (act.Exit said) = true
is_quiet act.NoAct = true
is_quiet _ = false

-- how an act may land
abbrev pub MayLand : Land → Act → Type 0
MayLand land.Lost a = is_signal a ≡ true
MayLand (land.Fail cut) a = may_fail a ≡ true
MayLand _ a = Unit {0}

-- torn bytes that land are as many as the write has
abbrev pub LandFits : Land → Act → Type 0
LandFits (land.Stop cut) a = Fits cut a
LandFits (land.Fail cut) a = Fits cut a
LandFits _ a = Unit {0}

-- torn bytes that may land fit
can-fit : (t : List Entry) (a : Act) (l : Land) → CanLand t a l → LandFits l a
can-fit t a land.Full can = tt
can-fit t a land.Lost can = tt
can-fit t a (land.Stop cut) can = can.1
can-fit t a (land.Fail cut) can = can.1

-- a signal alone is lost, and what fails may fail
can-land : (t : List Entry) (a : Act) (l : Land) → CanLand t a l → MayLand l a
can-land t a land.Full can = tt
can-land t a land.Lost can = can
can-land t a (land.Stop cut) can = tt
can-land t a (land.Fail cut) can = can.0

-- an entry of a job
abbrev pub made : List Entry → Site → (inc : ℕ) → Act → Land → Entry
made t x i a l = record { tick = now t; who = who_at x; inc = i; act = a; land = l }

-- what is said of an entry, for each kind
pub record Kinds (s : Scen) (t : List Entry) (P : Entry → Type 0) : Type 0 where
  pub tick : P (entry s t choice.Tick)
  pub confirm : (n : ℕ) → P (entry s t (choice.Confirm n))
  pub acts : (x : Site) (h : List Event) (a : Act) (l : Land) → hist s t x ≡ Some h → act_of s t x h (next (settings s x) h) ≡ Some a → LandFits l a
      → MayLand l a → P (made t x (inc_at a (Some h)) a l)
  pub quiet : (x : Site) (i : ℕ) (a : Act) → is_quiet a ≡ true → P (made t x i a land.Full)
  pub stop : (x : Site) (i : ℕ) (cut : Landing) → P (made t x i act.NoAct (land.Stop cut))
  pub active : (x : Site) → P (made t x 0 act.StartActive land.Full)
  pub standby : (x : Site) → P (made t x 0 act.StartStandby land.Full)

-- a choice that reaches a job is no act of it
reach-quiet : (s : Scen) (x : Site) (h : List Event) (a : Act) → Reaches s x h a → is_quiet a ≡ true
reach-quiet s x h act.Abend reach = refl
reach-quiet s x h (act.Reply go) reach = refl
reach-quiet s x h (act.Cebt command reply) reach = refl
reach-quiet s x h (act.Exit said) reach = refl
reach-quiet s x h _ reach = absurd reach

-- of each START
start-kind : (s : Scen) (t : List Entry) (P : Entry → Type 0) (x : Site) (a : Act) → Kinds s t P → IsStart a → P (start_at t x a)
start-kind s t P x act.StartActive kinds start = kinds.active x
start-kind s t P x act.StartStandby kinds start = kinds.standby x
start-kind s t P x _ kinds start = absurd start

-- what is said of each kind holds of each entry
pub by_kind : (s : Scen) (t : List Entry) (e : Entry) (P : Entry → Type 0) → Step s t e → Kinds s t P → P e
by_kind s t e P (OfTick same) kinds = subst P same kinds.tick
by_kind s t e P (OfConfirm n may same) kinds = subst P same (kinds.confirm n)
by_kind s t e P (OfStart x a start none same) kinds = subst P same (start-kind s t P x a kinds start)
by_kind s t e P (OfChoice x h a there reach same) kinds = subst P same (kinds.quiet x (inc_at a (hist s t x)) a (reach-quiet s x h a reach))
by_kind s t e P (OfAct x h a l there wants can same) kinds =
    subst P same
    (subst (λ (job : Option (List Event)). P (made t x (inc_at a job) a l)) (sym there) (kinds.acts x h a l there wants (can-fit t a l can) (can-land t a l can)))
by_kind s t e P (OfStop x h cut there same) kinds = subst P same (kinds.stop x (inc_at act.NoAct (hist s t x)) cut)

-- the same of the entry of an accepted choice
pub choice-kind : (s : Scen) (t : List Entry) (c : Choice) (P : Entry → Type 0) → refusal s t c ≡ None → Kinds s t P → P (entry s t c)
choice-kind s t c P accepted kinds = by_kind s t (entry s t c) P (accepted-step s t c accepted) kinds
