-- Commands are told, of every run.
use Rattle.std.proofs.Common.{◌≡◌, ◌+◌, Bool, true, false, List, ◌∷◌, length, nat_lt, Option, Some, None, IfSome, sym, ap, ◌∙◌, subst, if◌then◌else◌}
use Rattle.xrf_base.specs.declared.site.Site.{Site}
use Rattle.xrf_cebt.specs.declared.commands.Cebt.{Cebt}
use Rattle.xrf_setup.specs.declared.choice.Choice.{Choice}
use Rattle.xrf_setup.specs.declared.choice.Choice.TheVariants as choice
use Rattle.xrf_history.specs.declared.want.Want.{Want}
use Rattle.xrf_history.specs.declared.want.Want.TheVariants as want
use Rattle.xrf_history.specs.Events.{Event}
use Rattle.xrf_history.specs.Notices.{notice}
use Rattle.xrf_history.specs.Accepting.{may_abend, may_reply, may_command, exit_allowed}
use Rattle.xrf_history.specs.Next.{next}
use Rattle.xrf_trace.specs.declared.entry.Entry.{Entry}
use Rattle.xrf_trace.specs.declared.entry.Act.{Act}
use Rattle.xrf_trace.specs.declared.entry.Act.TheVariants as act
use Rattle.xrf_trace.specs.Scenario.{Scen, settings, work}
use Rattle.xrf_trace.specs.Words.{who_at, items_taken}
use Rattle.xrf_trace.specs.Jobs.{hist}
use Rattle.xrf_trace.specs.Acts.{act_by, act_of, next_act, next_item, is_write}
use Rattle.xrf_trace.specs.Entries.{entry, act_or_none, act_cut, command_act, reply_of}
use Rattle.xrf_trace.specs.Runs.{IsRun}
use Rattle.xrf_trace.specs.Each.{AtSite}
use Rattle.xrf_trace.proofs.Sites.{same-site}
use Rattle.xrf_trace.proofs.Steps.{Step, OfTick, OfConfirm, OfStart, OfChoice, OfAct, OfStop, IsStart, Reaches, run-step, outcome-entry}
use Rattle.xrf_trace.proofs.AtSites.{at-site, each-of, same-some}
use Rattle.xrf_conduct_law.specs.CommandsAreTold.{IsTold, CommandsAreTold}

-- a choice that reaches a job is no act of it
abbrev IsOwn : Act → Type 0
IsOwn act.Abend = ⊥
IsOwn (act.Reply go) = ⊥
IsOwn (act.Cebt command reply) = ⊥
IsOwn (act.Exit said) = ⊥
IsOwn _ = Unit {0}

-- an item that is next
item-own : (s : Scen) (t : List Entry) (x : Site) → IfSome (next_item s t x) IsOwn
item-own s t x = by (nat_lt (items_taken t x) (length (work s x)))
  where
    by : (b : Bool) → IfSome (if b then Some (act.Item (items_taken t x + 1)) else None) IsOwn
    by true = tt
    by false = tt

-- an act that is next is one of the job
act-own : (s : Scen) (t : List Entry) (x : Site) (h : List Event) (w : Want) → IfSome (act_of s t x h w) IsOwn
act-own s t x h want.Nothing = tt
act-own s t x h (want.Exit told) = tt
act-own s t x h want.Item = item-own s t x
act-own s t x h _ = tt

-- of the job that is there
job-own : (s : Scen) (t : List Entry) (x : Site) (job : Option (List Event)) → IfSome (act_by s t x job) IsOwn
job-own s t x None = tt
job-own s t x (Some h) = act-own s t x h (next (settings s x) h)

-- so is what an entry has of it
some-own : (o : Option Act) → IfSome o IsOwn → IsOwn (act_or_none o)
some-own None own = tt
some-own (Some a) own = own

-- and what a stop cuts off
cut-own : (o : Option Act) → IfSome o IsOwn → IsOwn (act_cut o)
cut-own None own = tt
cut-own (Some a) own = by (is_write a)
  where
    by : (b : Bool) → IsOwn (if b then a else act.NoAct)
    by true = own
    by false = tt

-- the reply to a CEBT is that of the job that is there
abbrev Replies : Scen → Site → List Event → Act → Type 0
Replies s x h (act.Cebt command reply) = reply ≡ reply_of s x command h
Replies s x h _ = Unit {0}

-- what reaches a job is taken by it
abbrev Takes : Scen → Site → List Event → Act → Type 0
Takes s x h act.Abend = may_abend h ≡ true
Takes s x h (act.Reply go) = may_reply (settings s x) h ≡ true
Takes s x h (act.Cebt command reply) = may_command h ≡ true
Takes s x h (act.Exit said) = exit_allowed (notice h) said ≡ true
Takes s x h _ = Unit {0}

-- both together
both-told : (s : Scen) (x : Site) (h : List Event) (a : Act) → Replies s x h a → Takes s x h a → IsTold s x h a
both-told s x h act.Abend replies takes = takes
both-told s x h (act.Reply go) replies takes = takes
both-told s x h (act.Cebt command reply) replies takes = (takes, replies)
both-told s x h (act.Exit said) replies takes = takes
both-told s x h _ replies takes = tt

-- of an act of the job nothing is said
own-replies : (s : Scen) (x : Site) (h : List Event) (a : Act) → IsOwn a → Replies s x h a
own-replies s x h (act.Cebt command reply) own = absurd own
own-replies s x h _ own = tt

-- and so of what reaches it
own-takes : (s : Scen) (x : Site) (h : List Event) (a : Act) → IsOwn a → Takes s x h a
own-takes s x h act.Abend own = absurd own
own-takes s x h (act.Reply go) own = absurd own
own-takes s x h (act.Cebt command reply) own = absurd own
own-takes s x h (act.Exit said) own = absurd own
own-takes s x h _ own = tt

-- of the job that is at the site of an entry
abbrev AtEntry : Scen → List Entry → (Scen → Site → List Event → Act → Type 0) → Entry → Type 0
AtEntry s t fact e = (x : Site) (h : List Event) → e.who ≡ who_at x → hist s t x ≡ Some h → fact s x h e.act

-- a CEBT is replied to by the job that is there
command-replies : (s : Scen) (x : Site) (h : List Event) (command : Cebt) (job : Option (List Event)) → job ≡ Some h
    → Replies s x h (command_act s x command job)
command-replies s x h command None here = tt
command-replies s x h command (Some g) here = ap (reply_of s x command) (same-some g h here)

-- at its site
cebt-replies : (s : Scen) (t : List Entry) (y : Site) (command : Cebt) → AtEntry s t Replies (entry s t (choice.Cebt y command))
cebt-replies s t y command x h who here =
    subst (λ (z : Site). Replies s x h (command_act s z command (hist s t z))) (sym (same-site y x who)) (command-replies s x h command (hist s t x) here)

-- of the entry of each choice
choice-replies : (s : Scen) (t : List Entry) (c : Choice) → AtEntry s t Replies (entry s t c)
choice-replies s t (choice.Step y) x h who here =
    own-replies s x h (act_or_none (next_act s t y)) (some-own (next_act s t y) (job-own s t y (hist s t y)))
choice-replies s t (choice.Lose y) x h who here =
    own-replies s x h (act_or_none (next_act s t y)) (some-own (next_act s t y) (job-own s t y (hist s t y)))
choice-replies s t (choice.Fail y cut) x h who here =
    own-replies s x h (act_or_none (next_act s t y)) (some-own (next_act s t y) (job-own s t y (hist s t y)))
choice-replies s t (choice.Stop y cut) x h who here =
    own-replies s x h (act_cut (next_act s t y)) (cut-own (next_act s t y) (job-own s t y (hist s t y)))
choice-replies s t (choice.Cebt y command) x h who here = cebt-replies s t y command x h who here
choice-replies s t _ x h who here = tt

-- so of each entry of a run
replies-at : (s : Scen) (t : List Entry) (e : Entry) → IsRun s (e ∷ t) → AtEntry s t Replies e
replies-at s t e is = outcome-entry (AtEntry s t Replies) s t is.1.0 e is.1.1 (λ accepted. choice-replies s t is.1.0)

-- of a START nothing is said
start-takes : (s : Scen) (x : Site) (h : List Event) (a : Act) → IsStart a → Takes s x h a
start-takes s x h act.StartActive start = tt
start-takes s x h act.StartStandby start = tt
start-takes s x h _ start = absurd start

-- a choice that reaches a job is taken by it
reach-takes : (s : Scen) (x : Site) (h : List Event) (a : Act) → Reaches s x h a → Takes s x h a
reach-takes s x h act.Abend reach = reach
reach-takes s x h (act.Reply go) reach = reach
reach-takes s x h (act.Cebt command reply) reach = reach
reach-takes s x h (act.Exit said) reach = reach
reach-takes s x h _ reach = absurd reach

-- of each entry of a run
step-takes : (s : Scen) (t : List Entry) (e : Entry) → Step s t e → AtEntry s t Takes e
step-takes s t e (OfTick same) = subst (AtEntry s t Takes) same (λ x h who here. tt)
step-takes s t e (OfConfirm n may same) = subst (AtEntry s t Takes) same (λ x h who here. tt)
step-takes s t e (OfStart y a start none same) = subst (AtEntry s t Takes) same (λ x h who here. start-takes s x h a start)
step-takes s t e (OfChoice y g a there reach same) = subst (AtEntry s t Takes) same (λ x h who here.
    let site : y ≡ x = same-site y x who in
    let job : hist s t x ≡ Some g = subst (λ (z : Site). hist s t z ≡ Some g) site there in
    let takes : Takes s x g a = subst (λ (z : Site). Takes s z g a) site (reach-takes s y g a reach) in
    subst (λ (k : List Event). Takes s x k a) (same-some g h (sym job ∙ here)) takes)
step-takes s t e (OfAct y g a l there wants can same) = subst (AtEntry s t Takes) same (λ x h who here.
    own-takes s x h a (subst (λ (o : Option Act). IfSome o IsOwn) wants (act-own s t y g (next (settings s y) g))))
step-takes s t e (OfStop y g cut there same) = subst (AtEntry s t Takes) same (λ x h who here. tt)

-- **commands are told, of every run**
pub commands-are-told : (s : Scen) (t : List Entry) → IsRun s t → CommandsAreTold s t
commands-are-told s t is =
    each-of s (λ t e. AtSite s t e.who (λ x h. IsTold s x h e.act))
    (λ t e is. at-site s t e.who (λ x h. IsTold s x h e.act) (λ x h who here.
    both-told s x h e.act (replies-at s t e is x h who here) (step-takes s t e (run-step s t e is) x h who here))) t is
