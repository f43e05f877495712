-- What an entry does to the jobs of both sites.
use Rattle.std.proofs.Common.{List, [], ◌∷◌, false, ◌≡◌, Some, true, ℕ, refl, None, Option, Bool, IfSome, length, nat_lt, ◌+◌, if◌then◌else◌, subst, arith, sym}
use Rattle.std.proofs.lemmas.Grind.{common_steps}
use Rattle.xrf_base.specs.declared.site.Site.{Site}
use Rattle.xrf_base.specs.declared.site.Site.TheVariants as site
use Rattle.xrf_setup.specs.declared.choice.Landing.{Landing}
use Rattle.xrf_setup.specs.declared.choice.Choice.TheVariants as choice
use Rattle.xrf_history.specs.Events.{Event, StartedActive, StartedStandby, ActFailed, Ticked}
use Rattle.xrf_history.specs.Next.{next}
use Rattle.xrf_history.specs.declared.want.Want.{Want}
use Rattle.xrf_history.specs.declared.want.Want.TheVariants as want
use Rattle.xrf_trace.specs.declared.entry.Entry.{Entry}
use Rattle.xrf_trace.specs.Each.{OfJob}
use Rattle.xrf_trace.specs.Scenario.{Scen, settings, other, work}
use Rattle.xrf_trace.specs.Jobs.{hist, handed, after_own, after_other, tried, after_act}
use Rattle.xrf_trace.specs.declared.entry.Act.{Act}
use Rattle.xrf_trace.specs.Words.{is_of, now, who_at, items_taken}
use Rattle.xrf_trace.specs.declared.entry.Land.{Land}
use Rattle.xrf_trace.proofs.Steps.{CanLand, IsStart, Reaches, OfAct, OfChoice, OfConfirm, OfStart, OfStop, OfTick, Step}
use Rattle.xrf_trace.specs.Acts.{act_of, may_fail, is_act, next_item}
use Rattle.xrf_trace.specs.Entries.{entry, entry_at, start_at, inc_at}
use Rattle.xrf_trace.specs.declared.entry.Act.TheVariants as act
use Rattle.xrf_trace.specs.declared.entry.Land.TheVariants as land

-- what is said of the job of each site
abbrev pub OfJobs : Scen → List Entry → (Site → List Event → Type 0) → Type 0
OfJobs s t J = (x : Site) → OfJob (hist s t x) (J x)

-- the history of a START
abbrev pub started : Act → List Event
started act.StartActive = StartedActive ∷ []
started _ = StartedStandby ∷ []

-- an entry that is not of a site
abbrev pub IsElsewhere : Entry → Site → Type 0
IsElsewhere e z = is_of e.who z ≡ false

-- the job goes on after an act: it was made, or lost without its knowing
abbrev pub GoesOn : Land → Type 0
GoesOn land.Full = Unit {0}
GoesOn land.Lost = Unit {0}
GoesOn _ = ⊥

-- What is said of the jobs after an entry, for each way in which it may come to them.
pub record JobCases (s : Scen) (t : List Entry) (e : Entry) (J : Site → List Event → Type 0) : Type 0 where
  pub starts : (x : Site) (a : Act) → IsStart a → start_at t x a ≡ e → J x (started a)
  pub ticks : (x : Site) (h : List Event) → hist s t x ≡ Some h → entry s t choice.Tick ≡ e → J x (Ticked ∷ h)
  pub reaches : (x : Site) (h : List Event) (a : Act) → hist s t x ≡ Some h → Reaches s x h a → entry_at s t x a land.Full ≡ e
      → J x (handed s t x (now t) h a ∷ h)
  pub makes : (x : Site) (h : List Event) (a : Act) (l : Land) → hist s t x ≡ Some h → act_of s t x h (next (settings s x) h) ≡ Some a
      → CanLand t a l → GoesOn l
      → entry_at s t x a l ≡ e → J x (handed s t x (now t) h a ∷ h)
  pub fails : (x : Site) (h : List Event) (a : Act) (cut : Landing) → hist s t x ≡ Some h → act_of s t x h (next (settings s x) h) ≡ Some a → may_fail a ≡ true
      → entry_at s t x a (land.Fail cut) ≡ e → J x (ActFailed (next (settings s x) h) (now t) ∷ h)
  pub others : (x : Site) (h : List Event) → hist s t x ≡ Some h → IsElsewhere e x → J x h

-- each site is that of an entry or the other
sites : (Q : Site → Type 0) (x : Site) → Q x → Q (other x) → (z : Site) → Q z
sites Q site.A own rest site.A = own
sites Q site.A own rest site.B = rest
sites Q site.B own rest site.A = rest
sites Q site.B own rest site.B = own

-- an entry of a site, with any incarnation
abbrev at_site : List Entry → Site → ℕ → Act → Land → Entry
at_site t x n a l = record { tick = now t; who = who_at x; inc = n; act = a; land = l }

-- the job of the entry's site, after it
own-hist : (s : Scen) (t : List Entry) (x : Site) (n : ℕ) (a : Act) (l : Land) → hist s (at_site t x n a l ∷ t) x ≡ after_own s t x (now t) a l (hist s t x)
own-hist s t site.A n a l = refl
own-hist s t site.B n a l = refl

-- the job of the other site, after it
other-hist : (s : Scen) (t : List Entry) (x : Site) (n : ℕ) (a : Act) (l : Land) → hist s (at_site t x n a l ∷ t) (other x) ≡ after_other a (hist s t (other x))
other-hist s t site.A n a l = refl
other-hist s t site.B n a l = refl

-- the other site is not that of the entry
elsewhere : (t : List Entry) (x : Site) (n : ℕ) (a : Act) (l : Land) → IsElsewhere (at_site t x n a l) (other x)
elsewhere t site.A n a l = refl
elsewhere t site.B n a l = refl

-- what is said of a job where one is there
pub of_job : (J : Site → List Event → Type 0) (z : Site) (job : Option (List Event)) → ((h : List Event) → job ≡ Some h → J z h) → OfJob job (J z)
of_job J z None each = tt
of_job J z (Some h) each = each h refl

-- an ITEM is an act
next_item-own : (s : Scen) (t : List Entry) (x : Site) → IfSome (next_item s t x) (λ a. is_act a ≡ true)
next_item-own s t x = by (nat_lt (items_taken t x) (length (work s x)))
  where
    by : (b : Bool) → IfSome (if b then Some (act.Item (items_taken t x + 1)) else None) (λ a. is_act a ≡ true)
    by true = refl
    by false = tt

-- the acts of a job are acts
act_of-own : (s : Scen) (t : List Entry) (x : Site) (h : List Event) (w : Want) → IfSome (act_of s t x h w) (λ a. is_act a ≡ true)
act_of-own s t x h want.Nothing = tt
act_of-own s t x h (want.Exit told) = tt
act_of-own s t x h want.Item = next_item-own s t x
act_of-own s t x h _ = refl

-- the next act of a job is an act
pub is-own : (s : Scen) (t : List Entry) (x : Site) (h : List Event) (w : Want) (a : Act) → act_of s t x h w ≡ Some a → is_act a ≡ true
is-own s t x h w a is = subst (λ (o : Option Act). IfSome o (λ one. is_act one ≡ true)) is (act_of-own s t x h w)

-- a failed act is what its job wanted next
pub want-tried : (s : Scen) (t : List Entry) (x : Site) (h : List Event) (w : Want) (a : Act) → act_of s t x h w ≡ Some a → may_fail a ≡ true → tried a ≡ w
want-tried s t x h want.Item a is may = absurd (item-fails (nat_lt (items_taken t x) (length (work s x))) is)
  where
    item-fails : (b : Bool) → (if b then Some (act.Item (items_taken t x + 1)) else None) ≡ Some a → ⊥
    item-fails true same = grind (arith, common_steps)
    item-fails false same = absurd (cc)
want-tried s t x h w a is may = grind (arith, common_steps)

-- the job of an act, after it
act-done : (s : Scen) (t : List Entry) (x : Site) (h : List Event) (J : Site → List Event → Type 0) (a : Act) → is_act a ≡ true
    → J x (handed s t x (now t) h a ∷ h)
    → OfJob (after_act s t x (now t) a (Some h)) (J x)
act-done s t x h J act.StartActive own after = absurd (cc)
act-done s t x h J act.StartStandby own after = absurd (cc)
act-done s t x h J (act.Ended reason) own after = tt
act-done s t x h J _ own after = after

-- the job that a choice reaches, after it
reach-done : (s : Scen) (t : List Entry) (x : Site) (h : List Event) (J : Site → List Event → Type 0) (a : Act) → Reaches s x h a
    → J x (handed s t x (now t) h a ∷ h)
    → OfJob (after_act s t x (now t) a (Some h)) (J x)
reach-done s t x h J act.Abend reach after = after
reach-done s t x h J (act.Reply go) reach after = after
reach-done s t x h J (act.Cebt command reply) reach after = after
reach-done s t x h J (act.Exit said) reach after = after
reach-done s t x h J _ reach after = absurd reach

-- the job of a START
start-done : (s : Scen) (t : List Entry) (x : Site) (job : Option (List Event)) (J : Site → List Event → Type 0) (a : Act) → IsStart a → J x (started a)
    → OfJob (after_act s t x (now t) a job) (J x)
start-done s t x job J act.StartActive is after = after
start-done s t x job J act.StartStandby is after = after
start-done s t x job J _ is after = absurd is

-- an act does nothing to the job of the other site
act-other : (a : Act) (job : Option (List Event)) → is_act a ≡ true → after_other a job ≡ job
act-other act.Tick job own = absurd (cc)
act-other _ job own = refl

-- nor does a choice that reaches a job
reach-other : (s : Scen) (x : Site) (h : List Event) (a : Act) (job : Option (List Event)) → Reaches s x h a → after_other a job ≡ job
reach-other s x h act.Abend job reach = refl
reach-other s x h (act.Reply go) job reach = refl
reach-other s x h (act.Cebt command reply) job reach = refl
reach-other s x h (act.Exit said) job reach = refl
reach-other s x h _ job reach = absurd reach

-- nor does a START
start-other : (a : Act) (job : Option (List Event)) → IsStart a → after_other a job ≡ job
start-other act.StartActive job is = refl
start-other act.StartStandby job is = refl
start-other _ job is = absurd is

-- a tick reaches the job of each site
tick-jobs : (s : Scen) (t : List Entry) (J : Site → List Event → Type 0) → ((z : Site) (h : List Event) → hist s t z ≡ Some h → J z (Ticked ∷ h)) → (z : Site)
    → OfJob (hist s (entry s t choice.Tick ∷ t) z) (J z)
tick-jobs s t J each z = by (hist s t z) refl
  where
    by : (job : Option (List Event)) → hist s t z ≡ job → OfJob (after_other act.Tick job) (J z)
    by None is = tt
    by (Some h) is = each z h is

-- an entry of a site: its job by what is said of it, and the other as before
entry-jobs : (s : Scen) (t : List Entry) (x : Site) (n : ℕ) (a : Act) (l : Land) (J : Site → List Event → Type 0)
    → OfJob (after_own s t x (now t) a l (hist s t x)) (J x)
    → ((job : Option (List Event)) → after_other a job ≡ job)
    → ((z : Site) (h : List Event) → hist s t z ≡ Some h → IsElsewhere (at_site t x n a l) z → J z h)
    → (z : Site) → OfJob (hist s (at_site t x n a l ∷ t) z) (J z)
entry-jobs s t x n a l J own same others =
    sites (λ z. OfJob (hist s (at_site t x n a l ∷ t) z) (J z)) x
    (subst (λ (job : Option (List Event)). OfJob job (J x)) (sym (own-hist s t x n a l)) own)
    (subst (λ (job : Option (List Event)). OfJob job (J (other x))) (sym (other-hist s t x n a l))
    (subst (λ (job : Option (List Event)). OfJob job (J (other x))) (sym (same (hist s t (other x))))
    (of_job J (other x) (hist s t (other x)) (λ h is. others (other x) h is (elsewhere t x n a l)))))

-- the job at a site where it is known
own-after : (s : Scen) (t : List Entry) (x : Site) (h : List Event) (a : Act) (l : Land) (J : Site → List Event → Type 0) → hist s t x ≡ Some h
    → OfJob (after_own s t x (now t) a l (Some h)) (J x) → OfJob (after_own s t x (now t) a l (hist s t x)) (J x)
own-after s t x h a l J is after = subst (λ (job : Option (List Event)). OfJob (after_own s t x (now t) a l job) (J x)) (sym is) after

-- the jobs after an act, by how it lands
made-jobs : (s : Scen) (t : List Entry) (x : Site) (h : List Event) (a : Act) (l : Land) (J : Site → List Event → Type 0) → hist s t x ≡ Some h
    → act_of s t x h (next (settings s x) h) ≡ Some a → CanLand t a l → JobCases s t (entry_at s t x a l) J → (z : Site)
    → OfJob (hist s (entry_at s t x a l ∷ t) z) (J z)
made-jobs s t x h a l J is wants can moves =
    entry-jobs s t x (inc_at a (hist s t x)) a l J (own-after s t x h a l J is (by l can moves)) (λ job. act-other a job own) moves.others
  where
    own : is_act a ≡ true
    own = is-own s t x h (next (settings s x) h) a wants

    by : (l : Land) → CanLand t a l → JobCases s t (entry_at s t x a l) J → OfJob (after_own s t x (now t) a l (Some h)) (J x)
    by land.Full can moves = act-done s t x h J a own (moves.makes x h a land.Full is wants can tt refl)
    by land.Lost can moves = act-done s t x h J a own (moves.makes x h a land.Lost is wants can tt refl)
    by (land.Stop cut) can moves = tt
    by (land.Fail cut) can moves =
        subst (λ (w : Want). J x (ActFailed w (now t) ∷ h)) (sym (want-tried s t x h (next (settings s x) h) a wants can.0))
        (moves.fails x h a cut is wants can.0 refl)

-- after an entry the jobs of both sites are as is said of it
pub job-steps : (s : Scen) (t : List Entry) (e : Entry) (J : Site → List Event → Type 0) → Step s t e → JobCases s t e J → (z : Site)
    → OfJob (hist s (e ∷ t) z) (J z)
job-steps s t e J (OfTick is) =
    subst (λ (one : Entry). JobCases s t one J → (z : Site) → OfJob (hist s (one ∷ t) z) (J z)) is
    (λ moves. tick-jobs s t J (λ z h there. moves.ticks z h there refl))
job-steps s t e J (OfConfirm n ok is) =
    subst (λ (one : Entry). JobCases s t one J → (z : Site) → OfJob (hist s (one ∷ t) z) (J z)) is
    (λ moves z. of_job J z (hist s t z) (λ h there. moves.others z h there refl))
job-steps s t e J (OfStart x a start none is) =
    subst (λ (one : Entry). JobCases s t one J → (z : Site) → OfJob (hist s (one ∷ t) z) (J z)) is
    (λ moves. entry-jobs s t x 0 a land.Full J (start-done s t x (hist s t x) J a start (moves.starts x a start refl)) (λ job. start-other a job start) moves.others)
job-steps s t e J (OfChoice x h a there reach is) =
    subst (λ (one : Entry). JobCases s t one J → (z : Site) → OfJob (hist s (one ∷ t) z) (J z)) is
    (λ moves. entry-jobs s t x (inc_at a (hist s t x)) a land.Full J
    (own-after s t x h a land.Full J there (reach-done s t x h J a reach (moves.reaches x h a there reach refl)))
    (λ job. reach-other s x h a job reach) moves.others)
job-steps s t e J (OfAct x h a l there wants can is) =
    subst (λ (one : Entry). JobCases s t one J → (z : Site) → OfJob (hist s (one ∷ t) z) (J z)) is (made-jobs s t x h a l J there wants can)
job-steps s t e J (OfStop x h cut there is) =
    subst (λ (one : Entry). JobCases s t one J → (z : Site) → OfJob (hist s (one ∷ t) z) (J z)) is
    (λ moves. entry-jobs s t x (inc_at act.NoAct (hist s t x)) act.NoAct (land.Stop cut) J tt (λ job. refl) moves.others)

-- what is said of the job of each site, of one that is there
pub at-job : (s : Scen) (J : Site → List Event → Type 0) (t : List Entry) (x : Site) (h : List Event) → OfJobs s t J → hist s t x ≡ Some h → J x h
at-job s J t x h each is = subst (λ (one : Option (List Event)). OfJob one (J x)) is (each x)

-- at first no job is there
pub no-jobs : (s : Scen) (J : Site → List Event → Type 0) → OfJobs s [] J
no-jobs s J site.A = tt
no-jobs s J site.B = tt
