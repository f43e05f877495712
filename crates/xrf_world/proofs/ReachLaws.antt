-- What the choices that reach a job, and a START, ask of a World, and what they leave: from the laws.
use Rattle.std.proofs.Common.{◌≡◌, Bool, true, false, ◌||◌, ◌∙◌, sym, ap, refl, arith, is_some, is_none, List, [], ◌∷◌, length, Option, Some, None, Ok, Err}
use Rattle.std.specs.Option.{option_and_then}
use Rattle.xrf_base.specs.declared.site.Site.{Site}
use Rattle.xrf_active.specs.Taking.{LeavesRoom, HasSmallKeys, MayBeHanded}
use Rattle.xrf_cebt.specs.declared.commands.Cebt.{Cebt}
use Rattle.xrf_cebt.specs.declared.replies.CebtReply.{CebtReply}
use Rattle.xrf_exit.specs.declared.ExitAnswer.{ExitAnswer}
use Rattle.xrf_exit.specs.declared.Notice.{Notice}
use Rattle.xrf_setup.specs.declared.choice.Choice.{Choice}
use Rattle.xrf_setup.specs.declared.choice.Choice.TheVariants as choice
use Rattle.xrf_history.specs.declared.answer.Answer.{Answer}
use Rattle.xrf_history.specs.declared.answer.Answer.TheVariants as answer
use Rattle.xrf_history.specs.Accepting.{IsInTime, accepts, exit_allowed, may_abend, may_command, may_reply}
use Rattle.xrf_history.specs.Answers.{event, fits}
use Rattle.xrf_history.specs.Events.{Event, StartedActive, StartedStandby}
use Rattle.xrf_history.specs.Holding.{number}
use Rattle.xrf_history.specs.Next.{next}
use Rattle.xrf_history.specs.Notices.{notice}
use Rattle.xrf_trace.specs.declared.entry.Act.{Act}
use Rattle.xrf_trace.specs.declared.entry.Act.TheVariants as act
use Rattle.xrf_trace.specs.declared.entry.Entry.{Entry}
use Rattle.xrf_trace.specs.declared.entry.Land.TheVariants as land
use Rattle.xrf_trace.specs.declared.entry.Refused.{Refused}
use Rattle.xrf_trace.specs.declared.entry.Refused.TheVariants.{NotEnabled, NotAllowed}
use Rattle.xrf_trace.specs.Entries.{command_act, inc_at, reply_of, start_at}
use Rattle.xrf_trace.specs.Jobs.{hist, after_own}
use Rattle.xrf_trace.specs.Refusals.{unless, of_job, exit_refusal}
use Rattle.xrf_trace.specs.Runs.{outcome, outcome_of}
use Rattle.xrf_trace.specs.Scenario.{Scen, settings}
use Rattle.xrf_trace.specs.Words.{is_item, now, who_at}
use Rattle.xrf_world.specs.Making.{IsReached, IsStarted}
use Rattle.xrf_world.specs.Places.{answer_given}
use Rattle.xrf_world.specs.Standing.{Goes}
use Rattle.xrf_world.proofs.ActLaws.{own-hist, own-site, outcome-is}
use Rattle.xrf_world.proofs.FollowLaws.{can-follow}
use Rattle.xrf_world.proofs.TimeLaws.{IsBy, time-of}

or-left : (a b : Bool) → a ≡ true → (a || b) ≡ true
or-left true b is = refl
or-left false b is = absurd (cc)

-- the job that a choice asks for is there
job-met : (test : List Event → Bool) (job : Option (List Event)) → of_job test job ≡ true → (h : List Event) × (job ≡ Some h) × (test h ≡ true)
job-met test None ok = absurd (cc)
job-met test (Some h) ok = (h, refl, ok)

-- a choice of the present tick is in time
handed-now : (s : Scen) (t : List Entry) (x : Site) (h : List Event) (a : Answer) → Goes s t → hist s t x ≡ Some h → accepts (settings s x) h a ≡ true
    → IsInTime h a → LeavesRoom a → HasSmallKeys a → MayBeHanded (settings s x) h a
handed-now s t x h a g there accepted in_time room small =
    let time : IsBy (now t) (length t) h = time-of s t x h g.run there in
    record {
      fitting = or-left (accepts (settings s x) h a) (fits (settings s x) h (next (settings s x) h) a) accepted;
      few = omega (arith, time.few, g.few);
      in_time = in_time;
      room = room;
      small_keys = small;
    }

-- where a choice that reaches a job is accepted by its entry, the job is handed its answer
abbrev reach_entry : List Entry → Site → List Event → Act → Entry
reach_entry t x h made = record { tick = now t; who = who_at x; inc = number h; act = made; land = land.Full }

reached : (s : Scen) (t : List Entry) (x : Site) (h : List Event) (made : Act) (a : Answer) (c : Choice) → Goes s t → hist s t x ≡ Some h
    → MayBeHanded (settings s x) h a → outcome s t c ≡ Ok (reach_entry t x h made) → is_item made ≡ false
    → after_own s t x (now t) made land.Full (Some h) ≡ Some (event (settings s x) h a ∷ h) → None ≡ answer_given s t x (reach_entry t x h made)
    → IsReached s t x made a c
reached s t x h made a c g there handed out no_item after gives = record {
  job = h;
  entry = reach_entry t x h made;
  there = there;
  handed = handed;
  is_entry = refl;
  after = own-hist s t x (number h) made land.Full ∙ ap (after_own s t x (now t) made land.Full) there ∙ after;
  records = record {
    follow = can-follow s t (reach_entry t x h made) g.scen (g.run, (c, out)) g.few;
    items = record { own = own-site x; left = λ is. absurd (cc); gives = gives };
  };
  is = out;
}

-- ABEND
pub abend-made : (s : Scen) (t : List Entry) (x : Site) → Goes s t → of_job may_abend (hist s t x) ≡ true
    → IsReached s t x act.Abend answer.Abend (choice.Abend x)
abend-made s t x g may =
    let there = job-met may_abend (hist s t x) may in
    let h : List Event = there.0 in
    let out : outcome s t (choice.Abend x) ≡ Ok (reach_entry t x h act.Abend) =
    outcome-is s t (choice.Abend x) (unless true NotEnabled) (reach_entry t x h act.Abend) (ap (λ (b : Bool). unless b NotEnabled) may) refl
    (ap (λ (job : Option (List Event)). record { tick = now t; who = who_at x; inc = inc_at act.Abend job; act = act.Abend; land = land.Full }) there.1) in
    reached s t x h act.Abend answer.Abend (choice.Abend x) g there.1 (handed-now s t x h answer.Abend g there.1 there.2 tt tt tt) out refl refl refl

pub abend-refused : (s : Scen) (t : List Entry) (x : Site) → of_job may_abend (hist s t x) ≡ false → outcome s t (choice.Abend x) ≡ Err NotEnabled
abend-refused s t x may = ap (λ (b : Bool). outcome_of s t (choice.Abend x) (unless b NotEnabled)) may

-- EXIT
exit-met : (job : Option (List Event)) (said : ExitAnswer) → exit_refusal (option_and_then notice job) said ≡ None
    → of_job (λ h. exit_allowed (notice h) said) job ≡ true
exit-met None said ok = absurd (cc)
exit-met (Some h) said ok = at (notice h) ok
  where
    at : (told : Option Notice) → exit_refusal told said ≡ None → exit_allowed told said ≡ true
    at None refused = absurd (cc)
    at (Some told) fine = by (exit_allowed (Some told) said) fine
      where
        by : (b : Bool) → unless b NotAllowed ≡ None → b ≡ true
        by true fine = refl
        by false refused = absurd (cc)

pub exit-made : (s : Scen) (t : List Entry) (x : Site) (said : ExitAnswer) → Goes s t → exit_refusal (option_and_then notice (hist s t x)) said ≡ None
    → IsReached s t x (act.Exit said) (answer.Exit said (now t)) (choice.Exit x said)
exit-made s t x said g ok =
    let there = job-met (λ h. exit_allowed (notice h) said) (hist s t x) (exit-met (hist s t x) said ok) in
    let h : List Event = there.0 in
    let out : outcome s t (choice.Exit x said) ≡ Ok (reach_entry t x h (act.Exit said)) =
    outcome-is s t (choice.Exit x said) None (reach_entry t x h (act.Exit said)) ok refl
    (ap (λ (job : Option (List Event)). record { tick = now t; who = who_at x; inc = inc_at (act.Exit said) job; act = act.Exit said; land = land.Full }) there.1) in
    reached s t x h (act.Exit said) (answer.Exit said (now t)) (choice.Exit x said) g there.1
    (handed-now s t x h (answer.Exit said (now t)) g there.1 there.2 (time-of s t x h g.run there.1).change_is tt tt) out refl refl refl

pub exit-refused : (s : Scen) (t : List Entry) (x : Site) (said : ExitAnswer) (why : Refused)
    → exit_refusal (option_and_then notice (hist s t x)) said ≡ Some why → outcome s t (choice.Exit x said) ≡ Err why
exit-refused s t x said why refused = ap (outcome_of s t (choice.Exit x said)) refused

-- REPLY
pub reply-made : (s : Scen) (t : List Entry) (x : Site) (go : Bool) → Goes s t → of_job (may_reply (settings s x)) (hist s t x) ≡ true
    → IsReached s t x (act.Reply go) (answer.Reply go (now t)) (choice.Reply x go)
reply-made s t x go g may =
    let there = job-met (may_reply (settings s x)) (hist s t x) may in
    let h : List Event = there.0 in
    let out : outcome s t (choice.Reply x go) ≡ Ok (reach_entry t x h (act.Reply go)) =
    outcome-is s t (choice.Reply x go) (unless true NotEnabled) (reach_entry t x h (act.Reply go)) (ap (λ (b : Bool). unless b NotEnabled) may) refl
    (ap (λ (job : Option (List Event)). record { tick = now t; who = who_at x; inc = inc_at (act.Reply go) job; act = act.Reply go; land = land.Full }) there.1) in
    reached s t x h (act.Reply go) (answer.Reply go (now t)) (choice.Reply x go) g there.1
    (handed-now s t x h (answer.Reply go (now t)) g there.1 there.2 (time-of s t x h g.run there.1).change_is tt tt) out refl refl refl

pub reply-refused : (s : Scen) (t : List Entry) (x : Site) (go : Bool) → of_job (may_reply (settings s x)) (hist s t x) ≡ false
    → outcome s t (choice.Reply x go) ≡ Err NotEnabled
reply-refused s t x go may = ap (λ (b : Bool). outcome_of s t (choice.Reply x go) (unless b NotEnabled)) may

-- CEBT: the reply goes by what the job is after the command.
pub command-made : (s : Scen) (t : List Entry) (x : Site) (command : Cebt) (told : CebtReply) → Goes s t → of_job may_command (hist s t x) ≡ true
    → ((h : List Event) → hist s t x ≡ Some h → may_command h ≡ true → told ≡ reply_of s x command h)
    → IsReached s t x (act.Cebt command told) (answer.Cebt command (now t)) (choice.Cebt x command)
command-made s t x command told g may replies =
    let there = job-met may_command (hist s t x) may in
    let h : List Event = there.0 in
    let out : outcome s t (choice.Cebt x command) ≡ Ok (reach_entry t x h (act.Cebt command told)) =
    outcome-is s t (choice.Cebt x command) (unless true NotEnabled) (reach_entry t x h (act.Cebt command told)) (ap (λ (b : Bool). unless b NotEnabled) may) refl
    (ap (λ (job : Option (List Event)). record { tick = now t; who = who_at x; inc = inc_at (command_act s x command job) job; act = command_act s x command job; land = land.Full }) there.1
    ∙ ap (λ (r : CebtReply). record { tick = now t; who = who_at x; inc = number h; act = act.Cebt command r; land = land.Full }) (sym (replies h there.1 there.2))) in
    reached s t x h (act.Cebt command told) (answer.Cebt command (now t)) (choice.Cebt x command) g there.1
    (handed-now s t x h (answer.Cebt command (now t)) g there.1 there.2 (time-of s t x h g.run there.1).change_is tt tt) out refl refl refl

pub command-refused : (s : Scen) (t : List Entry) (x : Site) (command : Cebt) → of_job may_command (hist s t x) ≡ false
    → outcome s t (choice.Cebt x command) ≡ Err NotEnabled
command-refused s t x command may = ap (λ (b : Bool). outcome_of s t (choice.Cebt x command) (unless b NotEnabled)) may

-- START
none-there : (job : Option (List Event)) → is_none job ≡ true → job ≡ None
none-there None ok = refl
none-there (Some h) ok = absurd (cc)

pub not-there : (job : Option (List Event)) → is_some job ≡ false → is_none job ≡ true
not-there None ok = refl
not-there (Some h) ok = absurd (cc)

started : (s : Scen) (t : List Entry) (x : Site) (a : Act) (made : Event) (c : Choice) → Goes s t → is_none (hist s t x) ≡ true
    → outcome s t c ≡ Ok (start_at t x a) → is_item a ≡ false → after_own s t x (now t) a land.Full (hist s t x) ≡ Some (made ∷ [])
    → None ≡ answer_given s t x (start_at t x a) → IsStarted s t x a made c
started s t x a made c g none out no_item after gives = record {
  there = none-there (hist s t x) none;
  after = own-hist s t x 0 a land.Full ∙ after;
  records = record {
    follow = can-follow s t (start_at t x a) g.scen (g.run, (c, out)) g.few;
    items = record { own = own-site x; left = λ is. absurd (cc); gives = gives };
  };
  is = out;
}

pub active-made : (s : Scen) (t : List Entry) (x : Site) → Goes s t → is_none (hist s t x) ≡ true
    → IsStarted s t x act.StartActive StartedActive (choice.StartActive x)
active-made s t x g none =
    started s t x act.StartActive StartedActive (choice.StartActive x) g none
    (outcome-is s t (choice.StartActive x) (unless true NotEnabled) (start_at t x act.StartActive) (ap (λ (b : Bool). unless b NotEnabled) none) refl refl)
    refl refl refl

pub standby-made : (s : Scen) (t : List Entry) (x : Site) → Goes s t → is_none (hist s t x) ≡ true
    → IsStarted s t x act.StartStandby StartedStandby (choice.StartStandby x)
standby-made s t x g none =
    started s t x act.StartStandby StartedStandby (choice.StartStandby x) g none
    (outcome-is s t (choice.StartStandby x) (unless true NotEnabled) (start_at t x act.StartStandby) (ap (λ (b : Bool). unless b NotEnabled) none) refl refl)
    refl refl refl

pub active-refused : (s : Scen) (t : List Entry) (x : Site) → is_none (hist s t x) ≡ false → outcome s t (choice.StartActive x) ≡ Err NotEnabled
active-refused s t x some = ap (λ (b : Bool). outcome_of s t (choice.StartActive x) (unless b NotEnabled)) some

pub standby-refused : (s : Scen) (t : List Entry) (x : Site) → is_none (hist s t x) ≡ false → outcome s t (choice.StartStandby x) ≡ Err NotEnabled
standby-refused s t x some = ap (λ (b : Bool). outcome_of s t (choice.StartStandby x) (unless b NotEnabled)) some
