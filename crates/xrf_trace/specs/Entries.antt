-- The entry that an accepted choice adds.
use Rattle.std.specs.Prelude.{ℕ, ◌+◌, if◌then◌else◌, List, ◌∷◌, Option, Some, None}
use Rattle.xrf_base.specs.declared.site.Site.{Site}
use Rattle.xrf_cebt.specs.declared.commands.Cebt.{Cebt}
use Rattle.xrf_cebt.specs.declared.replies.CebtReply.{CebtReply}
use Rattle.xrf_cebt.specs.Reply.{reply_to}
use Rattle.xrf_history.specs.Events.{Event, Commanded}
use Rattle.xrf_history.specs.Holding.{number, is_granted, is_waiting}
use Rattle.xrf_history.specs.Deciding.{takeovr, surveillance}
use Rattle.xrf_setup.specs.declared.choice.Choice.{Choice}
use Rattle.xrf_setup.specs.declared.choice.Choice.TheVariants as choice
use Rattle.xrf_trace.specs.declared.entry.Entry.{Entry}
use Rattle.xrf_trace.specs.declared.entry.Act.{Act}
use Rattle.xrf_trace.specs.declared.entry.Act.TheVariants as act
use Rattle.xrf_trace.specs.declared.entry.Land.{Land}
use Rattle.xrf_trace.specs.declared.entry.Land.TheVariants as land
use Rattle.xrf_trace.specs.declared.entry.Who.TheVariants as who
use Rattle.xrf_trace.specs.Scenario.{Scen, settings}
use Rattle.xrf_trace.specs.Words.{now, who_at}
use Rattle.xrf_trace.specs.Jobs.{hist}
use Rattle.xrf_trace.specs.Acts.{next_act, is_write}

-- The incarnation of an entry: that which the job holds, and 0 where it holds none or no job is there. The CTLWRITE
-- that grants it carries the new number already, whatever of it lands.
abbrev pub inc_of_act : Act → List Event → ℕ
inc_of_act (act.CtlWrite written) h = if is_granted h then number h else written.last
inc_of_act _ h = number h

abbrev pub inc_at : Act → Option (List Event) → ℕ
inc_at a None = 0
inc_at a (Some h) = inc_of_act a h

-- an entry of a site, and one of none
abbrev pub entry_at : Scen → List Entry → Site → Act → Land → Entry
entry_at s t x a l = record { tick = now t; who = who_at x; inc = inc_at a (hist s t x); act = a; land = l }

abbrev pub start_at : List Entry → Site → Act → Entry
start_at t x a = record { tick = now t; who = who_at x; inc = 0; act = a; land = land.Full }

-- the act that a stop cuts off: the next act where it is a write, and else none
abbrev pub act_or_none : Option Act → Act
act_or_none None = act.NoAct
act_or_none (Some a) = a

abbrev pub act_cut : Option Act → Act
act_cut None = act.NoAct
act_cut (Some a) = if is_write a then a else act.NoAct

-- the reply to a command, by what the job is after it
abbrev pub reply_of : Scen → Site → Cebt → List Event → CebtReply
reply_of s x command h = reply_to command (is_waiting h) (takeovr (settings s x) (Commanded command 0 ∷ h)) (surveillance (Commanded command 0 ∷ h))

abbrev pub command_act : Scen → Site → Cebt → Option (List Event) → Act
command_act s x command None = act.NoAct
command_act s x command (Some h) = act.Cebt command (reply_of s x command h)

-- The entry that an accepted choice adds: the next act for STEP, LOSE and FAIL, and for STOP where it is a write; a
-- START and a CONFIRM; an ABEND, a REPLY, a CEBT with its reply, an EXIT. A lost signal does not land, and its job does
-- not know; a failed act tells its job.
abbrev pub entry : Scen → List Entry → Choice → Entry
entry s t choice.Tick = record { tick = now t + 1; who = who.Env; inc = 0; act = act.Tick; land = land.Full }
entry s t (choice.Step x) = entry_at s t x (act_or_none (next_act s t x)) land.Full
entry s t (choice.Lose x) = entry_at s t x (act_or_none (next_act s t x)) land.Lost
entry s t (choice.Stop x cut) = entry_at s t x (act_cut (next_act s t x)) (land.Stop cut)
entry s t (choice.StartActive x) = start_at t x act.StartActive
entry s t (choice.StartStandby x) = start_at t x act.StartStandby
entry s t (choice.Abend x) = entry_at s t x act.Abend land.Full
entry s t (choice.Confirm n) = record { tick = now t; who = who.Env; inc = 0; act = act.Confirm n; land = land.Full }
entry s t (choice.Reply x go) = entry_at s t x (act.Reply go) land.Full
entry s t (choice.Cebt x command) = entry_at s t x (command_act s x command (hist s t x)) land.Full
entry s t (choice.Exit x said) = entry_at s t x (act.Exit said) land.Full
entry s t (choice.Fail x cut) = entry_at s t x (act_or_none (next_act s t x)) (land.Fail cut)
