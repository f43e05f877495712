-- How each entry of a run comes: the inversion of a run, once for all inductions.
use Rattle.std.proofs.Common.{IfSome, length, ◌≡◌, List, true, None, Some, ℕ, Bool, false, refl, Option, subst, sym, ◌∙◌, arith, ◌==◌, is_some, if◌then◌else◌, not, ◌&&◌, is_none, IfOk, Ok, Result, ◌∷◌, []}
use Rattle.std.proofs.lemmas.Grind.{common_steps}
use Rattle.std.specs.Option.{option_and_then}
use Rattle.std.proofs.lemmas.Bool.{and_parts}
use Rattle.xrf_base.specs.declared.site.Site.{Site}
use Rattle.xrf_exit.specs.declared.ExitAnswer.{ExitAnswer}
use Rattle.xrf_exit.specs.declared.Notice.{Notice}
use Rattle.xrf_setup.specs.declared.choice.Landing.{Landing}
use Rattle.xrf_setup.specs.declared.choice.Choice.{Choice}
use Rattle.xrf_setup.specs.declared.choice.Landing.TheVariants as landing
use Rattle.xrf_setup.specs.declared.choice.Choice.TheVariants as choice
use Rattle.xrf_history.specs.Events.{Event}
use Rattle.xrf_history.specs.Accepting.{exit_allowed, may_abend, may_command, may_reply}
use Rattle.xrf_history.specs.Notices.{notice}
use Rattle.xrf_history.specs.Next.{next}
use Rattle.xrf_trace.specs.declared.entry.Act.{Act}
use Rattle.xrf_trace.specs.Acts.{torn_size, is_signal, is_write, may_fail, act_of, act_by, next_act, is_failing_read}
use Rattle.xrf_trace.specs.declared.entry.Entry.{Entry}
use Rattle.xrf_trace.specs.declared.entry.Land.{Land}
use Rattle.xrf_trace.specs.Refusals.{may_step, may_confirm, unless, is_next, torn_refusal, fail_refusal, stop_refusal, of_job, exit_refusal, refusal}
use Rattle.xrf_trace.specs.Scenario.{Scen, settings}
use Rattle.xrf_trace.specs.Entries.{entry, entry_at, start_at, act_or_none, act_cut, command_act}
use Rattle.xrf_trace.specs.Jobs.{hist}
use Rattle.xrf_trace.specs.declared.entry.Refused.{Refused}
use Rattle.xrf_trace.specs.declared.entry.Refused.TheVariants.{TornLength, NotEnabled, NotAllowed, Dishonest}
use Rattle.xrf_trace.specs.Runs.{outcome, outcome_of, IsRun}
use Rattle.xrf_trace.specs.declared.entry.Land.TheVariants as land
use Rattle.xrf_trace.specs.declared.entry.Act.TheVariants as act

-- torn bytes are as many as the write has
abbrev pub Fits : Landing → Act → Type 0
Fits (landing.Torn bytes) a = IfSome (torn_size a) (λ size. length bytes ≡ size)
Fits _ a = Unit {0}

-- how an act may land
abbrev pub CanLand : List Entry → Act → Land → Type 0
CanLand t a land.Full = may_step t a ≡ true
CanLand t a land.Lost = is_signal a ≡ true
CanLand t a (land.Stop cut) = (is_write a ≡ true) × Fits cut a
CanLand t a (land.Fail cut) = (may_fail a ≡ true) × Fits cut a

-- a choice that reaches the job, and its act
abbrev pub Reaches : Scen → Site → List Event → Act → Type 0
Reaches s x h act.Abend = may_abend h ≡ true
Reaches s x h (act.Reply go) = may_reply (settings s x) h ≡ true
Reaches s x h (act.Cebt command reply) = may_command h ≡ true
Reaches s x h (act.Exit said) = exit_allowed (notice h) said ≡ true
Reaches s x h _ = ⊥

-- a START
abbrev pub IsStart : Act → Type 0
IsStart act.StartActive = Unit {0}
IsStart act.StartStandby = Unit {0}
IsStart _ = ⊥

-- how an entry of a run comes
pub data Step (s : Scen) (t : List Entry) (e : Entry) : Type 0 where
  -- TICK and CONFIRM
  OfTick : entry s t choice.Tick ≡ e → Step s t e
  OfConfirm : (n : ℕ) → may_confirm s t n ≡ true → entry s t (choice.Confirm n) ≡ e → Step s t e
  -- a START
  OfStart : (x : Site) → (a : Act) → IsStart a → hist s t x ≡ None → start_at t x a ≡ e → Step s t e
  -- a choice that reaches a job
  OfChoice : (x : Site) → (h : List Event) → (a : Act) → hist s t x ≡ Some h → Reaches s x h a → entry_at s t x a land.Full ≡ e → Step s t e
  -- an act of a job, and a stop without one
  OfAct : (x : Site) → (h : List Event) → (a : Act) → (l : Land) → hist s t x ≡ Some h → act_of s t x h (next (settings s x) h) ≡ Some a → CanLand t a l
      → entry_at s t x a l ≡ e → Step s t e
  OfStop : (x : Site) → (h : List Event) → (cut : Landing) → hist s t x ≡ Some h → entry_at s t x act.NoAct (land.Stop cut) ≡ e → Step s t e

-- a test that is met where nothing is refused
unless-met : (b : Bool) (why : Refused) → unless b why ≡ None → b ≡ true
unless-met true why ok = refl
unless-met false why ok = absurd (cc)

-- the next act of a site is that of its job
job-there : (s : Scen) (t : List Entry) (x : Site) (h : List Event) → hist s t x ≡ Some h → next_act s t x ≡ act_of s t x h (next (settings s x) h)
job-there s t x h is = subst (λ (job : Option (List Event)). act_by s t x job ≡ act_of s t x h (next (settings s x) h)) (sym is) refl

-- an act that is next, of the kind that was asked for
next-met : (s : Scen) (t : List Entry) (x : Site) (l : Land) (kind : Act → Bool) → is_next kind (next_act s t x) ≡ true
    → ((a : Act) → next_act s t x ≡ Some a → kind a ≡ true → CanLand t a l) → Step s t (entry_at s t x (act_or_none (next_act s t x)) l)
next-met s t x l kind met can = by (hist s t x) refl met
  where
    at : (h : List Event) → hist s t x ≡ Some h → (a : Option Act) → act_of s t x h (next (settings s x) h) ≡ a → is_next kind a ≡ true
        → Step s t (entry_at s t x (act_or_none a) l)
    at h is None none ok = absurd (cc)
    at h is (Some a) some ok = OfAct x h a l is some (can a (job-there s t x h is ∙ some) ok) refl

    by : (job : Option (List Event)) → hist s t x ≡ job → is_next kind (act_by s t x job) ≡ true → Step s t (entry_at s t x (act_or_none (act_by s t x job)) l)
    by None is ok = absurd (cc)
    by (Some h) is ok = at h is (act_of s t x h (next (settings s x) h)) refl ok

-- torn bytes that are accepted are as many as the write has
torn-fits : (bytes : List ℕ) (size : Option ℕ) → torn_refusal bytes size ≡ None → IfSome size (λ n. length bytes ≡ n)
torn-fits bytes None ok = tt
torn-fits bytes (Some n) ok = by (length bytes == n) refl ok
  where
    by : (b : Bool) → (length bytes == n) ≡ b → unless b TornLength ≡ None → length bytes ≡ n
    by true same fine = grind (arith, common_steps)
    by false same refused = absurd (cc)

-- so are those of a failure
pub fail-fits : (cut : Landing) (a : Act) → fail_refusal cut (Some a) ≡ None → Fits cut a
fail-fits landing.Nothing a ok = tt
fail-fits landing.All a ok = tt
fail-fits (landing.Torn bytes) a ok = torn-fits bytes (torn_size a) ok

-- and those of a stop
pub stop-fits : (cut : Landing) (has_job : Bool) (a : Act) → stop_refusal cut has_job (Some a) ≡ None → Fits cut a
stop-fits landing.Nothing has_job a ok = tt
stop-fits landing.All has_job a ok = tt
stop-fits (landing.Torn bytes) has_job a ok = torn-fits bytes (torn_size a) ok

-- a stop: in the next act where that is a write, and without an act elsewhere
stop-is : (s : Scen) (t : List Entry) (x : Site) (cut : Landing) → stop_refusal cut (is_some (hist s t x)) (next_act s t x) ≡ None → is_some (hist s t x) ≡ true
    → Step s t (entry_at s t x (act_cut (next_act s t x)) (land.Stop cut))
stop-is s t x cut accepted there = by (hist s t x) refl there
  where
    at : (h : List Event) → hist s t x ≡ Some h → (a : Option Act) → act_of s t x h (next (settings s x) h) ≡ a
        → Step s t (entry_at s t x (act_cut a) (land.Stop cut))
    at h is None none = OfStop x h cut is refl
    at h is (Some a) some = if-write (is_write a) refl
      where
        fits : stop_refusal cut (is_some (hist s t x)) (Some a) ≡ None
        fits = subst (λ (o : Option Act). stop_refusal cut (is_some (hist s t x)) o ≡ None) (job-there s t x h is ∙ some) accepted

        if-write : (b : Bool) → is_write a ≡ b → Step s t (entry_at s t x (if b then a else act.NoAct) (land.Stop cut))
        if-write true ok = OfAct x h a (land.Stop cut) is some (ok, stop-fits cut (is_some (hist s t x)) a fits) refl
        if-write false _ = OfStop x h cut is refl

    by : (job : Option (List Event)) → hist s t x ≡ job → is_some job ≡ true → Step s t (entry_at s t x (act_cut (act_by s t x job)) (land.Stop cut))
    by None is ok = absurd (cc)
    by (Some h) is ok = at h is (act_of s t x h (next (settings s x) h)) refl

-- a job is there where a next act is
there-if_next : (s : Scen) (t : List Entry) (x : Site) (kind : Act → Bool) → is_next kind (next_act s t x) ≡ true → is_some (hist s t x) ≡ true
there-if_next s t x kind met = by (hist s t x) met
  where
    by : (job : Option (List Event)) → is_next kind (act_by s t x job) ≡ true → is_some job ≡ true
    by None ok = absurd (cc)
    by (Some h) ok = refl

-- torn bytes are accepted where the next act is a write that may be torn
torn-met : (bytes : List ℕ) (a : Option Act) → torn_refusal bytes (option_and_then torn_size a) ≡ None → is_next (λ one. is_some (torn_size one)) a ≡ true
torn-met bytes None ok = absurd (cc)
torn-met bytes (Some a) ok = by (torn_size a) ok
  where
    by : (size : Option ℕ) → torn_refusal bytes size ≡ None → is_some size ≡ true
    by None refused = absurd (cc)
    by (Some size) fine = refl

-- a stop is accepted where a job is
stop-met : (s : Scen) (t : List Entry) (x : Site) (cut : Landing) → stop_refusal cut (is_some (hist s t x)) (next_act s t x) ≡ None
    → is_some (hist s t x) ≡ true
stop-met s t x landing.Nothing ok = unless-met (is_some (hist s t x)) NotEnabled ok
stop-met s t x landing.All ok = there-if_next s t x is_write (unless-met (is_next is_write (next_act s t x)) NotEnabled ok)
stop-met s t x (landing.Torn bytes) ok = there-if_next s t x (λ one. is_some (torn_size one)) (torn-met bytes (next_act s t x) ok)

-- a write that may be torn may fail
torn-fails : (a : Act) → is_some (torn_size a) ≡ true → may_fail a ≡ true
torn-fails a torn = grind (arith, common_steps)

-- a failure is accepted of an act that may fail
fail-met : (s : Scen) (t : List Entry) (x : Site) (cut : Landing) → fail_refusal cut (next_act s t x) ≡ None
    → Step s t (entry_at s t x (act_or_none (next_act s t x)) (land.Fail cut))
fail-met s t x landing.Nothing ok =
    next-met s t x (land.Fail landing.Nothing) may_fail (unless-met (is_next may_fail (next_act s t x)) NotEnabled ok) (λ a is can. (can, tt))
fail-met s t x landing.All ok =
    next-met s t x (land.Fail landing.All) may_fail
    (and_parts (is_next may_fail (next_act s t x)) (not (is_next is_failing_read (next_act s t x)))
    (unless-met (is_next may_fail (next_act s t x) && not (is_next is_failing_read (next_act s t x))) NotEnabled ok)).0
    (λ a is can. (can, tt))
fail-met s t x (landing.Torn bytes) ok =
    next-met s t x (land.Fail (landing.Torn bytes)) (λ one. is_some (torn_size one)) (torn-met bytes (next_act s t x) ok)
    (λ a is can. (
      torn-fails a can,
      fail-fits (landing.Torn bytes) a (subst (λ (o : Option Act). fail_refusal (landing.Torn bytes) o ≡ None) is ok),
    ))

-- a choice that reaches a job: the job is there, and accepts it
reached : (s : Scen) (t : List Entry) (x : Site) (test : List Event → Bool) (a : Option (List Event) → Act) → of_job test (hist s t x) ≡ true
    → ((h : List Event) → test h ≡ true → Reaches s x h (a (Some h))) → Step s t (entry_at s t x (a (hist s t x)) land.Full)
reached s t x test a ok reach = by (hist s t x) refl ok
  where
    by : (job : Option (List Event)) → hist s t x ≡ job → of_job test job ≡ true → Step s t (entry_at s t x (a job) land.Full)
    by None is met = absurd (cc)
    by (Some h) is met = OfChoice x h (a (Some h)) is (reach h met) refl

-- an EXIT is accepted where a job has a notice, and allows the answer
exit-met : (s : Scen) (t : List Entry) (x : Site) (said : ExitAnswer) → exit_refusal (option_and_then notice (hist s t x)) said ≡ None
    → of_job (λ h. exit_allowed (notice h) said) (hist s t x) ≡ true
exit-met s t x said ok = by (hist s t x) ok
  where
    at : (told : Option Notice) → exit_refusal told said ≡ None → exit_allowed told said ≡ true
    at None refused = absurd (cc)
    at (Some told) fine = unless-met (exit_allowed (Some told) said) NotAllowed fine

    by : (job : Option (List Event)) → exit_refusal (option_and_then notice job) said ≡ None → of_job (λ h. exit_allowed (notice h) said) job ≡ true
    by None refused = absurd (cc)
    by (Some h) fine = at (notice h) fine

-- a START is accepted where no job is
none-there : (s : Scen) (t : List Entry) (x : Site) → is_none (hist s t x) ≡ true → hist s t x ≡ None
none-there s t x ok = by (hist s t x) ok
  where
    by : (job : Option (List Event)) → is_none job ≡ true → job ≡ None
    by None met = refl
    by (Some h) met = absurd (cc)

-- the entry of an accepted choice comes in one of these ways
pub accepted-step : (s : Scen) (t : List Entry) (c : Choice) → refusal s t c ≡ None → Step s t (entry s t c)
accepted-step s t choice.Tick ok = OfTick refl
accepted-step s t (choice.Step x) ok =
    next-met s t x land.Full (may_step t) (unless-met (is_next (may_step t) (next_act s t x)) NotEnabled ok) (λ a is can. can)
accepted-step s t (choice.Lose x) ok = next-met s t x land.Lost is_signal (unless-met (is_next is_signal (next_act s t x)) NotEnabled ok) (λ a is can. can)
accepted-step s t (choice.Stop x cut) ok = stop-is s t x cut ok (stop-met s t x cut ok)
accepted-step s t (choice.StartActive x) ok = OfStart x act.StartActive tt (none-there s t x (unless-met (is_none (hist s t x)) NotEnabled ok)) refl
accepted-step s t (choice.StartStandby x) ok = OfStart x act.StartStandby tt (none-there s t x (unless-met (is_none (hist s t x)) NotEnabled ok)) refl
accepted-step s t (choice.Abend x) ok = reached s t x may_abend (λ job. act.Abend) (unless-met (of_job may_abend (hist s t x)) NotEnabled ok) (λ h met. met)
accepted-step s t (choice.Confirm n) ok = OfConfirm n (unless-met (may_confirm s t n) Dishonest ok) refl
accepted-step s t (choice.Reply x go) ok =
    reached s t x (may_reply (settings s x)) (λ job. act.Reply go) (unless-met (of_job (may_reply (settings s x)) (hist s t x)) NotEnabled ok) (λ h met. met)
accepted-step s t (choice.Cebt x command) ok =
    reached s t x may_command (command_act s x command) (unless-met (of_job may_command (hist s t x)) NotEnabled ok) (λ h met. met)
accepted-step s t (choice.Exit x said) ok = reached s t x (λ h. exit_allowed (notice h) said) (λ job. act.Exit said) (exit-met s t x said ok) (λ h met. met)
accepted-step s t (choice.Fail x cut) ok = fail-met s t x cut ok

-- what holds of the entry of an accepted choice holds of its outcome
pub outcome-entry : (P : Entry → Type 0) (s : Scen) (t : List Entry) (c : Choice) (e : Entry) → outcome s t c ≡ Ok e
    → (refusal s t c ≡ None → P (entry s t c)) → P e
outcome-entry P s t c e is holds = by (refusal s t c) refl is
  where
    by : (r : Option Refused) → refusal s t c ≡ r → outcome_of s t c r ≡ Ok e → P e
    by None accepted same = subst (λ (o : Result Entry Refused). IfOk o P) same (holds accepted)
    by (Some why) refused same = absurd (cc)

-- so each outcome comes in one of these ways
pub outcome-step : (s : Scen) (t : List Entry) (c : Choice) (e : Entry) → outcome s t c ≡ Ok e → Step s t e
outcome-step s t c e is = outcome-entry (Step s t) s t c e is (accepted-step s t c)

-- each entry of a run comes in one of these ways
pub run-step : (s : Scen) (t : List Entry) (e : Entry) → IsRun s (e ∷ t) → Step s t e
run-step s t e is = outcome-step s t is.1.0 e is.1.1
