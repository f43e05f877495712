-- What holds of every run.
use Rattle.std.proofs.Common.{◌≡◌, ℕ, suc, ◌+◌, Bool, true, false, List, [], ◌∷◌, ◌++◌, length, map, reverse, take, slice_get, append_assoc, Option, Some, None, Result, Ok, Err, IfSome, IfOk, nat_lt, refl, sym, ◌∙◌, ap, arith, subst, if◌then◌else◌}
use Rattle.std.proofs.lemmas.Grind.{common_steps}
use Rattle.std.proofs.lemmas.List.{map-append}
use Rattle.xrf_base.specs.declared.site.Site.{Site}
use Rattle.xrf_base.specs.declared.site.Site.TheVariants as site
use Rattle.xrf_logrec.proofs.Lists.{reverse-cons}
use Rattle.xrf_cebt.specs.declared.commands.Cebt.{Cebt}
use Rattle.xrf_history.specs.declared.want.Want.{Want}
use Rattle.xrf_history.specs.declared.want.Want.TheVariants as want
use Rattle.xrf_history.specs.Events.{Event}
use Rattle.xrf_history.specs.Next.{next}
use Rattle.xrf_history.specs.Accepting.{may_command}
use Rattle.xrf_setup.specs.declared.choice.Choice.{Choice}
use Rattle.xrf_setup.specs.declared.choice.Choice.TheVariants as choice
use Rattle.xrf_trace.specs.declared.entry.Entry.{Entry}
use Rattle.xrf_trace.specs.declared.entry.Act.{Act}
use Rattle.xrf_trace.specs.declared.entry.Act.TheVariants as act
use Rattle.xrf_trace.specs.declared.entry.Land.{Land}
use Rattle.xrf_trace.specs.declared.entry.Land.TheVariants as land
use Rattle.xrf_trace.specs.declared.entry.Refused.{Refused}
use Rattle.xrf_trace.specs.declared.entry.Refused.TheVariants.{NotEnabled}
use Rattle.xrf_trace.specs.Scenario.{Scen, settings, work}
use Rattle.xrf_trace.specs.Words.{now, tick_after, who_at, items_taken}
use Rattle.xrf_trace.specs.Jobs.{hist}
use Rattle.xrf_trace.specs.Acts.{next_item, act_of, act_by, next_act, is_write, is_act}
use Rattle.xrf_trace.specs.Refusals.{refusal, unless, of_job}
use Rattle.xrf_trace.specs.Entries.{entry, act_or_none, act_cut, command_act}
use Rattle.xrf_trace.specs.Runs.{outcome_of, outcome, Refusal, run_from, run, IsRun}
use Rattle.xrf_trace.specs.Journal.{choice_of_act, choice_at, choice_by, choice_of, choices_of}
use Rattle.xrf_trace.specs.Each.{Each}
use Rattle.xrf_trace.specs.Laws.{IsFirstRefused}

-- the trace of a run is that of a run, and as long as the choices
abbrev IsRunOf : Scen → ℕ → List Entry → Type 0
IsRunOf s count t = IsRun s t × (length t ≡ count)

run_step-is_run : (s : Scen) (t : List Entry) (place count : ℕ) (c : Choice) (cs : List Choice) (o : Result Entry Refused) → outcome s t c ≡ o → IsRun s t
    → ((e : Entry) → IsRun s (e ∷ t) → IfOk (run_from s (e ∷ t) (place + 1) cs) (IsRunOf s count))
    → IfOk (elim o [ Ok e ↦ run_from s (e ∷ t) (place + 1) cs | Err why ↦ Err (record { place = place; reason = why }) ]) (IsRunOf s count)
run_step-is_run s t place count c cs (Ok e) made is rest = rest e (is, (c, made))
run_step-is_run s t place count c cs (Err why) made is rest = tt

run_from-is_run : (s : Scen) (t : List Entry) (place count : ℕ) (cs : List Choice) → length t + length cs ≡ count → IsRun s t
    → IfOk (run_from s t place cs) (IsRunOf s count)
run_from-is_run s t place count [] long is = (is, omega arith)
run_from-is_run s t place count (c ∷ cs) long is =
    run_step-is_run s t place count c cs (outcome s t c) refl is
    (λ e after. run_from-is_run s (e ∷ t) (place + 1) count cs (omega arith) after)

pub runs_are_runs : (s : Scen) (cs : List Choice) → IfOk (run s cs) (λ t. IsRun s t × (length t ≡ length cs))
runs_are_runs s cs = run_from-is_run s [] 0 (length cs) cs (omega arith) tt

-- the next act of a site is an act of its job
abbrev IsOwn : Act → Type 0
IsOwn a = is_act a ≡ true

next_item-own : (s : Scen) (t : List Entry) (x : Site) → IfSome (next_item s t x) IsOwn
next_item-own s t x = by (nat_lt (items_taken t x) (length (work s x)))
  where
    by : (b : Bool) → IfSome (if b then Some (act.Item (items_taken t x + 1)) else None) IsOwn
    by true = refl
    by false = tt

act_of-own : (s : Scen) (t : List Entry) (x : Site) (h : List Event) (w : Want) → IfSome (act_of s t x h w) IsOwn
act_of-own s t x h want.Nothing = tt
act_of-own s t x h (want.Exit told) = tt
act_of-own s t x h want.Item = next_item-own s t x
act_of-own s t x h _ = refl

next_act-own : (s : Scen) (t : List Entry) (x : Site) → IfSome (next_act s t x) IsOwn
next_act-own s t x = by (hist s t x)
  where
    by : (job : Option (List Event)) → IfSome (act_by s t x job) IsOwn
    by None = tt
    by (Some h) = act_of-own s t x h (next (settings s x) h)

-- a tick comes with TICK alone
act_or_none-tick : (a : Option Act) (n : ℕ) → IfSome a IsOwn → n ≡ tick_after (act_or_none a) n
act_or_none-tick None n own = refl
act_or_none-tick (Some act.Tick) n own = absurd (cc)
act_or_none-tick (Some _) n own = refl

act_cut-tick : (a : Option Act) (n : ℕ) → IfSome a IsOwn → n ≡ tick_after (act_cut a) n
act_cut-tick None n own = refl
act_cut-tick (Some a) n own = by (is_write a)
  where
    by : (b : Bool) → n ≡ tick_after (if b then a else act.NoAct) n
    by true = act_or_none-tick (Some a) n own
    by false = refl

command_act-tick : (s : Scen) (x : Site) (command : Cebt) (job : Option (List Event)) (n : ℕ) → n ≡ tick_after (command_act s x command job) n
command_act-tick s x command None n = refl
command_act-tick s x command (Some h) n = refl

entry-tick : (s : Scen) (t : List Entry) (c : Choice) → (entry s t c).tick ≡ tick_after (entry s t c).act (now t)
entry-tick s t choice.Tick = refl
entry-tick s t (choice.Step x) = act_or_none-tick (next_act s t x) (now t) (next_act-own s t x)
entry-tick s t (choice.Lose x) = act_or_none-tick (next_act s t x) (now t) (next_act-own s t x)
entry-tick s t (choice.Stop x cut) = act_cut-tick (next_act s t x) (now t) (next_act-own s t x)
entry-tick s t (choice.StartActive x) = refl
entry-tick s t (choice.StartStandby x) = refl
entry-tick s t (choice.Abend x) = refl
entry-tick s t (choice.Confirm n) = refl
entry-tick s t (choice.Reply x go) = refl
entry-tick s t (choice.Cebt x command) = command_act-tick s x command (hist s t x) (now t)
entry-tick s t (choice.Exit x said) = refl
entry-tick s t (choice.Fail x cut) = act_or_none-tick (next_act s t x) (now t) (next_act-own s t x)

-- what holds of the entry of a choice holds of its outcome
outcome-entry : (P : Entry → Type 0) (s : Scen) (t : List Entry) (c : Choice) (e : Entry) → (refusal s t c ≡ None → P (entry s t c)) → outcome s t c ≡ Ok e → P e
outcome-entry P s t c e holds is = by (refusal s t c) refl is
  where
    by : (r : Option Refused) → refusal s t c ≡ r → outcome_of s t c r ≡ Ok e → P e
    by None accepted same = subst (λ (o : Result Entry Refused). IfOk o P) same (holds accepted)
    by (Some why) refused same = absurd (cc)

pub ticks_are_counted : (s : Scen) (t : List Entry) → IsRun s t → Each (λ before e. e.tick ≡ now (e ∷ before)) t
ticks_are_counted s [] is = tt
ticks_are_counted s (e ∷ t) is =
    (ticks_are_counted s t is.0, outcome-entry (λ made. made.tick ≡ tick_after made.act (now t)) s t is.1.0 e (λ _. entry-tick s t is.1.0) is.1.1)

-- the choice that an entry tells is the one that added it
choice_by-site : (x : Site) (a : Act) (l : Land) → choice_by (who_at x) a l ≡ choice_at x a l
choice_by-site site.A a l = refl
choice_by-site site.B a l = refl

step-told : (x : Site) (a : Option Act) → IfSome a IsOwn → choice_of_act x (act_or_none a) ≡ choice.Step x
step-told x None own = refl
step-told x (Some act.StartActive) own = absurd (cc)
step-told x (Some act.StartStandby) own = absurd (cc)
step-told x (Some act.Abend) own = absurd (cc)
step-told x (Some (act.Reply go)) own = absurd (cc)
step-told x (Some (act.Cebt command reply)) own = absurd (cc)
step-told x (Some (act.Exit said)) own = absurd (cc)
step-told x (Some _) own = refl

command-told : (s : Scen) (x : Site) (command : Cebt) (job : Option (List Event)) → unless (of_job may_command job) NotEnabled ≡ None
    → choice_of_act x (command_act s x command job) ≡ choice.Cebt x command
command-told s x command None accepted = absurd (cc)
command-told s x command (Some h) accepted = refl

entry-told : (s : Scen) (t : List Entry) (c : Choice) → refusal s t c ≡ None → choice_of (entry s t c) ≡ c
entry-told s t choice.Tick accepted = refl
entry-told s t (choice.Step x) accepted = choice_by-site x (act_or_none (next_act s t x)) land.Full ∙ step-told x (next_act s t x) (next_act-own s t x)
entry-told s t (choice.Lose x) accepted = choice_by-site x (act_or_none (next_act s t x)) land.Lost
entry-told s t (choice.Stop x cut) accepted = choice_by-site x (act_cut (next_act s t x)) (land.Stop cut)
entry-told s t (choice.StartActive x) accepted = choice_by-site x act.StartActive land.Full
entry-told s t (choice.StartStandby x) accepted = choice_by-site x act.StartStandby land.Full
entry-told s t (choice.Abend x) accepted = choice_by-site x act.Abend land.Full
entry-told s t (choice.Confirm n) accepted = refl
entry-told s t (choice.Reply x go) accepted = choice_by-site x (act.Reply go) land.Full
entry-told s t (choice.Cebt x command) accepted =
    choice_by-site x (command_act s x command (hist s t x)) land.Full ∙ command-told s x command (hist s t x) accepted
entry-told s t (choice.Exit x said) accepted = choice_by-site x (act.Exit said) land.Full
entry-told s t (choice.Fail x cut) accepted = choice_by-site x (act_or_none (next_act s t x)) (land.Fail cut)

outcome-told : (s : Scen) (t : List Entry) (c : Choice) (e : Entry) → outcome s t c ≡ Ok e → choice_of e ≡ c
outcome-told s t c e is = outcome-entry (λ made. choice_of made ≡ c) s t c e (entry-told s t c) is

choices_of-cons : (e : Entry) (t : List Entry) → choices_of (e ∷ t) ≡ choices_of t ++ choice_of e ∷ []
choices_of-cons e t = ap (map choice_of) (reverse-cons e t) ∙ map-append choice_of (reverse t) (e ∷ [])

abbrev Tells : List Choice → List Entry → Type 0
Tells cs t = choices_of t ≡ cs

run_step-tells : (s : Scen) (t : List Entry) (place : ℕ) (c : Choice) (cs all : List Choice) (o : Result Entry Refused) → outcome s t c ≡ o
    → ((e : Entry) → outcome s t c ≡ Ok e → IfOk (run_from s (e ∷ t) (place + 1) cs) (Tells all))
    → IfOk (elim o [ Ok e ↦ run_from s (e ∷ t) (place + 1) cs | Err why ↦ Err (record { place = place; reason = why }) ]) (Tells all)
run_step-tells s t place c cs all (Ok e) made rest = rest e made
run_step-tells s t place c cs all (Err why) made rest = tt

told-on : (s : Scen) (t : List Entry) (c : Choice) (cs all : List Choice) (e : Entry) → choices_of t ++ c ∷ cs ≡ all → outcome s t c ≡ Ok e
    → choices_of (e ∷ t) ++ cs ≡ all
told-on s t c cs all e whole made =
    ap (λ (l : List Choice). l ++ cs) (choices_of-cons e t ∙ ap (λ (d : Choice). choices_of t ++ d ∷ []) (outcome-told s t c e made))
    ∙ append_assoc (choices_of t) (c ∷ []) cs ∙ whole

run_from-tells : (s : Scen) (t : List Entry) (place : ℕ) (cs all : List Choice) → choices_of t ++ cs ≡ all → IfOk (run_from s t place cs) (Tells all)
run_from-tells s t place [] all whole = grind (arith, common_steps)
run_from-tells s t place (c ∷ cs) all whole =
    run_step-tells s t place c cs all (outcome s t c) refl
    (λ e made. run_from-tells s (e ∷ t) (place + 1) cs all (told-on s t c cs all e whole made))

pub journals_tell : (s : Scen) (cs : List Choice) → IfOk (run s cs) (λ t. choices_of t ≡ cs)
journals_tell s cs = run_from-tells s [] 0 cs cs refl

-- where a run is refused, the choices before run to a trace, and the choice there is refused with that reason
record RefusedOn (s : Scen) (t : List Entry) (place : ℕ) (cs : List Choice) (r : Refusal) : Type 0 where
  done : ℕ
  at : r.place ≡ place + done
  trace : List Entry
  refused : Choice
  before : run_from s t place (take done cs) ≡ Ok trace
  there : slice_get cs done ≡ Some refused
  reason : refusal s trace refused ≡ Some r.reason

outcome-refused : (s : Scen) (t : List Entry) (c : Choice) (why : Refused) → outcome s t c ≡ Err why → refusal s t c ≡ Some why
outcome-refused s t c why is = by (refusal s t c) is
  where
    by : (r : Option Refused) → outcome_of s t c r ≡ Err why → r ≡ Some why
    by None same = absurd (cc)
    by (Some reason) same = cc

refused-here : (s : Scen) (t : List Entry) (place : ℕ) (c : Choice) (cs : List Choice) (why : Refused) (r : Refusal) → outcome s t c ≡ Err why
    → record { place = place; reason = why } ≡ r → RefusedOn s t place (c ∷ cs) r
refused-here s t place c cs why r is same =
    let here : RefusedOn s t place (c ∷ cs) (record { place = place; reason = why }) =
    record { done = 0; at = omega arith; trace = t; refused = c; before = refl; there = refl; reason = outcome-refused s t c why is } in
    subst (RefusedOn s t place (c ∷ cs)) same here

run_from-after : (s : Scen) (t : List Entry) (place : ℕ) (c : Choice) (cs : List Choice) (e : Entry) (trace : List Entry) → outcome s t c ≡ Ok e
    → run_from s (e ∷ t) (place + 1) cs ≡ Ok trace → run_from s t place (c ∷ cs) ≡ Ok trace
run_from-after s t place c cs e trace is after =
    subst (λ (o : Result Entry Refused). elim o [ Ok made ↦ run_from s (made ∷ t) (place + 1) cs | Err why ↦ Err (record { place = place; reason = why }) ] ≡ Ok trace) (sym is) after

refused-later : (s : Scen) (t : List Entry) (place : ℕ) (c : Choice) (cs : List Choice) (e : Entry) (r : Refusal) → outcome s t c ≡ Ok e
    → RefusedOn s (e ∷ t) (place + 1) cs r → RefusedOn s t place (c ∷ cs) r
refused-later s t place c cs e r is later = record {
  done = suc later.done;
  at = omega (arith, later.at);
  trace = later.trace;
  refused = later.refused;
  before = run_from-after s t place c (take later.done cs) e later.trace is later.before;
  there = later.there;
  reason = later.reason;
}

abbrev goes_on : Scen → List Entry → ℕ → List Choice → Result Entry Refused → Result (List Entry) Refusal
goes_on s t place cs o = elim o [ Ok e ↦ run_from s (e ∷ t) (place + 1) cs | Err why ↦ Err (record { place = place; reason = why }) ]

run_step-refused : (s : Scen) (t : List Entry) (place : ℕ) (c : Choice) (cs : List Choice) (r : Refusal) (o : Result Entry Refused) → outcome s t c ≡ o
    → ((e : Entry) → run_from s (e ∷ t) (place + 1) cs ≡ Err r → RefusedOn s (e ∷ t) (place + 1) cs r)
    → goes_on s t place cs o ≡ Err r
    → RefusedOn s t place (c ∷ cs) r
run_step-refused s t place c cs r (Ok e) made rest same = refused-later s t place c cs e r made (rest e same)
run_step-refused s t place c cs r (Err why) made rest same = refused-here s t place c cs why r made (cc)

run_from-refused : (s : Scen) (t : List Entry) (place : ℕ) (cs : List Choice) (r : Refusal) → run_from s t place cs ≡ Err r → RefusedOn s t place cs r
run_from-refused s t place [] r same = absurd (cc)
run_from-refused s t place (c ∷ cs) r same =
    run_step-refused s t place c cs r (outcome s t c) refl (λ e. run_from-refused s (e ∷ t) (place + 1) cs r) same

pub refusals_are_first : (s : Scen) (cs : List Choice) (r : Refusal) → run s cs ≡ Err r → IsFirstRefused s cs r
refusals_are_first s cs r same =
    let on = run_from-refused s [] 0 cs r same in
    let at : on.done ≡ r.place = omega (arith, on.at) in
    record {
      trace = on.trace;
      refused = on.refused;
      before = subst (λ (n : ℕ). run s (take n cs) ≡ Ok on.trace) at on.before;
      there = subst (λ (n : ℕ). slice_get cs n ≡ Some on.refused) at on.there;
      reason = on.reason;
    }
