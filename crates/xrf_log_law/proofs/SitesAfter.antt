-- What is said of the job of each site, after an entry.
use Rattle.std.proofs.Common.{IfSome, List, None, Option, Some, refl, subst, sym, true, ◌∷◌, ◌≡◌, ℕ}
use Rattle.xrf_base.specs.declared.site.Site.{Site}
use Rattle.xrf_setup.specs.declared.choice.Landing.{Landing}
use Rattle.xrf_history.specs.declared.want.Want.{Want}
use Rattle.xrf_history.specs.Events.{Event, ActFailed, Ticked}
use Rattle.xrf_history.specs.Next.{next}
use Rattle.xrf_trace.specs.declared.entry.Act.{Act}
use Rattle.xrf_trace.specs.declared.entry.Entry.{Entry}
use Rattle.xrf_trace.specs.declared.entry.Land.{Land}
use Rattle.xrf_trace.specs.Acts.{act_of, is_act, may_fail}
use Rattle.xrf_trace.specs.Jobs.{after_act, after_other, after_own, handed, hist}
use Rattle.xrf_trace.specs.Scenario.{Scen, other, settings}
use Rattle.xrf_trace.specs.Words.{now}
use Rattle.xrf_trace.proofs.ByKind.{MayLand, is_quiet, made}
use Rattle.xrf_trace.proofs.JobSteps.{is-own, want-tried}
use Rattle.xrf_base.specs.declared.site.Site.TheVariants as site
use Rattle.xrf_trace.specs.declared.entry.Act.TheVariants as act
use Rattle.xrf_trace.specs.declared.entry.Land.TheVariants as land

-- a fact of a job that is not gone after its act
abbrev pub UnlessGone : Act → Type 0 → Type 0
UnlessGone (act.Ended reason) fact = Unit {0}
UnlessGone _ fact = fact

-- a fact of the job of a site after an act there
abbrev pub OwnAfter : Scen → List Entry → Site → Act → Land → Option (List Event) → (List Event → Type 0) → Type 0
OwnAfter s t x a l job fact = IfSome (after_own s t x (now t) a l job) fact

-- a fact of an act is one of a job that is not gone
pub unless-gone : (a : Act) (fact : Type 0) → fact → UnlessGone a fact
unless-gone (act.Ended reason) fact holds = tt
unless-gone _ fact holds = holds

-- a job that made an act has it in its history, or is gone
pub full-after : (s : Scen) (t : List Entry) (x : Site) (h : List Event) (a : Act) (fact : List Event → Type 0) → is_act a ≡ true
    → UnlessGone a (fact (handed s t x (now t) h a ∷ h)) → IfSome (after_act s t x (now t) a (Some h)) fact
full-after s t x h act.StartActive fact own goes = absurd (cc)
full-after s t x h act.StartStandby fact own goes = absurd (cc)
full-after s t x h (act.Ended reason) fact own goes = tt
full-after s t x h _ fact own goes = goes

-- a job whose act failed knows it
pub fail-after : (s : Scen) (t : List Entry) (x : Site) (h : List Event) (a : Act) (cut : Landing) (fact : List Event → Type 0)
    → act_of s t x h (next (settings s x) h) ≡ Some a → may_fail a ≡ true
    → fact (ActFailed (next (settings s x) h) (now t) ∷ h) → OwnAfter s t x a (land.Fail cut) (Some h) fact
fail-after s t x h a cut fact is may fails =
    subst (λ (w : Want). fact (ActFailed w (now t) ∷ h)) (sym (want-tried s t x h (next (settings s x) h) a is may)) fails

-- the job of an act: it has made the act, or knows that it failed, or is gone
pub own-after : (s : Scen) (t : List Entry) (x : Site) (h : List Event) (a : Act) (l : Land) (fact : List Event → Type 0)
    → act_of s t x h (next (settings s x) h) ≡ Some a → MayLand l a
    → UnlessGone a (fact (handed s t x (now t) h a ∷ h)) → fact (ActFailed (next (settings s x) h) (now t) ∷ h)
    → OwnAfter s t x a l (Some h) fact
own-after s t x h a land.Full fact is may goes fails = full-after s t x h a fact (is-own s t x h (next (settings s x) h) a is) goes
own-after s t x h a land.Lost fact is may goes fails = full-after s t x h a fact (is-own s t x h (next (settings s x) h) a is) goes
own-after s t x h a (land.Stop cut) fact is may goes fails = tt
own-after s t x h a (land.Fail cut) fact is may goes fails = fail-after s t x h a cut fact is may fails

-- the job that a choice reaches has it in its history
pub quiet-after : (s : Scen) (t : List Entry) (x : Site) (a : Act) (job : Option (List Event)) (fact : List Event → Type 0) → is_quiet a ≡ true
    → IfSome job (λ h. fact (handed s t x (now t) h a ∷ h)) → OwnAfter s t x a land.Full job fact
quiet-after s t x act.Abend None fact quiet reached = tt
quiet-after s t x act.Abend (Some h) fact quiet reached = reached
quiet-after s t x (act.Reply go) None fact quiet reached = tt
quiet-after s t x (act.Reply go) (Some h) fact quiet reached = reached
quiet-after s t x (act.Cebt command reply) None fact quiet reached = tt
quiet-after s t x (act.Cebt command reply) (Some h) fact quiet reached = reached
quiet-after s t x (act.Exit said) None fact quiet reached = tt
quiet-after s t x (act.Exit said) (Some h) fact quiet reached = reached
quiet-after s t x act.NoAct None fact quiet reached = tt
quiet-after s t x act.NoAct (Some h) fact quiet reached = reached
quiet-after s t x _ job fact quiet reached = absurd (cc)

-- it is of no other job
pub quiet-other : (a : Act) (job : Option (List Event)) → is_quiet a ≡ true → after_other a job ≡ job
quiet-other act.Tick job quiet = absurd (cc)
quiet-other _ job quiet = refl

-- and so is an act
act-other : (a : Act) (job : Option (List Event)) → is_act a ≡ true → after_other a job ≡ job
act-other act.Tick job own = absurd (cc)
act-other _ job own = refl

-- an act is of no other job
pub own-other : (s : Scen) (t : List Entry) (x : Site) (h : List Event) (a : Act) (job : Option (List Event)) → act_of s t x h (next (settings s x) h) ≡ Some a
    → after_other a job ≡ job
own-other s t x h a job is = act-other a job (is-own s t x h (next (settings s x) h) a is)

-- a TICK reaches the job of each site
pub tick-after : (job : Option (List Event)) (fact : List Event → Type 0) → IfSome job (λ h. fact (Ticked ∷ h)) → IfSome (after_other act.Tick job) fact
tick-after None fact ticked = tt
tick-after (Some h) fact ticked = ticked

-- after an entry of a site: of its job, and of the other's, which is as before
pub sites-after : (s : Scen) (t : List Entry) (x : Site) (i : ℕ) (a : Act) (l : Land) (fact : Site → List Event → Type 0)
    → OwnAfter s t x a l (hist s t x) (fact x) → after_other a (hist s t (other x)) ≡ hist s t (other x) → IfSome (hist s t (other x)) (fact (other x))
    → (y : Site) → IfSome (hist s (made t x i a l ∷ t) y) (fact y)
sites-after s t site.A i a l fact own same beside site.A = own
sites-after s t site.A i a l fact own same beside site.B = subst (λ (job : Option (List Event)). IfSome job (fact site.B)) (sym same) beside
sites-after s t site.B i a l fact own same beside site.B = own
sites-after s t site.B i a l fact own same beside site.A = subst (λ (job : Option (List Event)). IfSome job (fact site.A)) (sym same) beside
