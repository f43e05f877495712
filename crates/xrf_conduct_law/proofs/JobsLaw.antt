-- In every run an entry of a site is by the job that is there, under its number, and ticks are counted.
use Rattle.std.proofs.Common.{◌≡◌, ℕ, ◌+◌, Bool, true, false, List, [], ◌∷◌, length, Option, Some, None, IfSome, is_some, is_none, nat_lt, refl, sym, subst, if◌then◌else◌}
use Rattle.std.proofs.lemmas.Grind.{common_steps}
use Rattle.xrf_base.specs.declared.site.Site.{Site}
use Rattle.xrf_base.specs.declared.site.Site.TheVariants as site
use Rattle.xrf_history.specs.declared.want.Want.{Want}
use Rattle.xrf_history.specs.declared.want.Want.TheVariants as want
use Rattle.xrf_history.specs.Events.{Event}
use Rattle.xrf_history.specs.Next.{next}
use Rattle.xrf_trace.specs.declared.entry.Entry.{Entry}
use Rattle.xrf_trace.specs.declared.entry.Act.{Act}
use Rattle.xrf_trace.specs.declared.entry.Act.TheVariants as act
use Rattle.xrf_trace.specs.Scenario.{Scen, settings, work}
use Rattle.xrf_trace.specs.Words.{who_at, items_taken}
use Rattle.xrf_trace.specs.Jobs.{hist}
use Rattle.xrf_trace.specs.Acts.{next_item, act_of}
use Rattle.xrf_trace.specs.Entries.{inc_at, start_at, entry_at}
use Rattle.xrf_trace.specs.declared.entry.Land.TheVariants as land
use Rattle.xrf_trace.specs.declared.entry.Who.{Who}
use Rattle.xrf_trace.specs.Runs.{IsRun}
use Rattle.xrf_trace.specs.Each.{Each}
use Rattle.xrf_trace.proofs.Steps.{Step, OfTick, OfConfirm, OfStart, OfChoice, OfAct, OfStop, IsStart, Reaches, run-step}
use Rattle.xrf_trace.proofs.RunLaws.{ticks_are_counted}
use Rattle.xrf_trace.specs.JobsAct.{starts_job, IsBy, IsByJob, IsOfSite, JobsAct}

-- of the entry of a site
at-site : (s : Scen) (t : List Entry) (x : Site) (e : Entry) → IsByJob (hist s t x) e → IsOfSite s t e (who_at x)
at-site s t site.A e by = by
at-site s t site.B e by = by

-- a START
start-by : (job : Option (List Event)) (t : List Entry) (x : Site) (a : Act) → IsStart a → job ≡ None → IsByJob job (start_at t x a)
start-by None t x act.StartActive start none = (refl, refl)
start-by None t x act.StartStandby start none = (refl, refl)
start-by None t x _ start none = absurd start
start-by (Some h) t x a start none = absurd (cc)

-- any other entry of a site
own-by : (job : Option (List Event)) (e : Entry) → starts_job e.act ≡ false → is_some job ≡ true → e.inc ≡ inc_at e.act job → IsByJob job e
own-by job e begun there inc = subst (λ (b : Bool). IsBy b job e) (sym begun) (there, inc)

there-is : (job : Option (List Event)) (h : List Event) → job ≡ Some h → is_some job ≡ true
there-is (Some g) h is = refl
there-is None h is = absurd (cc)

-- a choice that reaches a job starts none
reach-begun : (s : Scen) (x : Site) (h : List Event) (a : Act) → Reaches s x h a → starts_job a ≡ false
reach-begun s x h act.Abend reach = refl
reach-begun s x h (act.Reply go) reach = refl
reach-begun s x h (act.Cebt command reply) reach = refl
reach-begun s x h (act.Exit said) reach = refl
reach-begun s x h _ reach = absurd reach

-- nor does an act of a job
abbrev IsNoStart : Act → Type 0
IsNoStart a = starts_job a ≡ false

item-begun : (s : Scen) (t : List Entry) (x : Site) → IfSome (next_item s t x) IsNoStart
item-begun s t x = by (nat_lt (items_taken t x) (length (work s x)))
  where
    by : (b : Bool) → IfSome (if b then Some (act.Item (items_taken t x + 1)) else None) IsNoStart
    by true = refl
    by false = tt

act-begun : (s : Scen) (t : List Entry) (x : Site) (h : List Event) (w : Want) → IfSome (act_of s t x h w) IsNoStart
act-begun s t x h want.Nothing = tt
act-begun s t x h (want.Exit told) = tt
act-begun s t x h want.Item = item-begun s t x
act-begun s t x h _ = refl

-- the entry of a site that is made
made-is : (s : Scen) (t : List Entry) (x : Site) (e made : Entry) → made ≡ e → made.who ≡ who_at x → IsByJob (hist s t x) made → IsOfSite s t e e.who
made-is s t x e made same who by =
    subst (λ (e : Entry). IsOfSite s t e e.who) same (subst (λ (w : Who). IsOfSite s t made w) (sym who) (at-site s t x made by))

-- however an entry comes
of-step : (s : Scen) (t : List Entry) (e : Entry) → Step s t e → IsOfSite s t e e.who
of-step s t e (OfTick made) = subst (λ (e : Entry). IsOfSite s t e e.who) made refl
of-step s t e (OfConfirm n may made) = subst (λ (e : Entry). IsOfSite s t e e.who) made refl
of-step s t e (OfStart x a start none made) = made-is s t x e (start_at t x a) made refl (start-by (hist s t x) t x a start none)
of-step s t e (OfChoice x h a is reach made) =
    made-is s t x e (entry_at s t x a land.Full) made refl
    (own-by (hist s t x) (entry_at s t x a land.Full) (reach-begun s x h a reach) (there-is (hist s t x) h is) refl)
of-step s t e (OfAct x h a l is next_is can made) =
    made-is s t x e (entry_at s t x a l) made refl
    (own-by (hist s t x) (entry_at s t x a l) (subst (λ (o : Option Act). IfSome o IsNoStart) next_is (act-begun s t x h (next (settings s x) h))) (there-is (hist s t x) h is) refl)
of-step s t e (OfStop x h cut is made) =
    made-is s t x e (entry_at s t x act.NoAct (land.Stop cut)) made refl
    (own-by (hist s t x) (entry_at s t x act.NoAct (land.Stop cut)) refl (there-is (hist s t x) h is) refl)

jobs : (s : Scen) (t : List Entry) → IsRun s t → Each (λ t e. IsOfSite s t e e.who) t
jobs s [] is = tt
jobs s (e ∷ t) is = (jobs s t is.0, of-step s t e (run-step s t e is))

-- **jobs act, in every run**
pub jobs-act : (s : Scen) (t : List Entry) → IsRun s t → JobsAct s t
jobs-act s t is = record { jobs = jobs s t is; clock = ticks_are_counted s t is }
