-- Which choices are accepted, and why the others are refused.
use Rattle.std.specs.Prelude.{ℕ, ◌==◌, Bool, true, false, ◌&&◌, not, nat_le, is_some, is_none, List, length, Option, Some, None}
use Rattle.std.specs.Option.{option_map_or, option_and_then}
use Rattle.xrf_exit.specs.declared.Notice.{Notice}
use Rattle.xrf_exit.specs.declared.ExitAnswer.{ExitAnswer}
use Rattle.xrf_exit.specs.Exit.{is_allowed}
use Rattle.xrf_history.specs.Events.{Event}
use Rattle.xrf_history.specs.Notices.{notice}
use Rattle.xrf_history.specs.Accepting.{may_abend, may_reply, may_command}
use Rattle.xrf_setup.specs.declared.choice.Choice.{Choice}
use Rattle.xrf_setup.specs.declared.choice.Choice.TheVariants as choice
use Rattle.xrf_setup.specs.declared.choice.Landing.{Landing}
use Rattle.xrf_setup.specs.declared.choice.Landing.TheVariants as landing
use Rattle.xrf_trace.specs.declared.entry.Entry.{Entry}
use Rattle.xrf_trace.specs.declared.entry.Act.{Act}
use Rattle.xrf_trace.specs.declared.entry.Act.TheVariants as act
use Rattle.xrf_trace.specs.declared.entry.Refused.{Refused}
use Rattle.xrf_trace.specs.declared.entry.Refused.TheVariants.{NotEnabled, Dishonest, TornLength, NotAllowed}
use Rattle.xrf_trace.specs.Scenario.{Scen, settings}
use Rattle.xrf_trace.specs.Words.{reserve_is_free}
use Rattle.xrf_trace.specs.Devices.{control}
use Rattle.xrf_trace.specs.Jobs.{hist, live}
use Rattle.xrf_trace.specs.Acts.{next_act, torn_size, is_signal, is_write, is_failing_read, may_fail}

-- refused with this reason where a test is not met
abbrev pub unless : Bool → Refused → Option Refused
unless true reason = None
unless false reason = Some reason

-- the next act is there and is of a kind
abbrev pub is_next : (Act → Bool) → Option Act → Bool
is_next kind None = false
is_next kind (Some a) = kind a

-- STEP: the job has a next act, and for RESERVE nobody holds the reserve
abbrev pub may_step : List Entry → Act → Bool
may_step t act.Reserve = reserve_is_free t
may_step t _ = true

-- torn bytes: the write is one that may be torn, and they are as many as its range
abbrev pub torn_refusal : List ℕ → Option ℕ → Option Refused
torn_refusal bytes None = Some NotEnabled
torn_refusal bytes (Some size) = unless (length bytes == size) TornLength

-- STOP NONE: a job is there. STOP ALL: the next act writes a data set.
abbrev pub stop_refusal : Landing → Bool → Option Act → Option Refused
stop_refusal landing.Nothing has_job a = unless has_job NotEnabled
stop_refusal landing.All has_job a = unless (is_next is_write a) NotEnabled
stop_refusal (landing.Torn bytes) has_job a = torn_refusal bytes (option_and_then torn_size a)

-- FAIL: the next act may fail, and where it is a read the landing is NONE
abbrev pub fail_refusal : Landing → Option Act → Option Refused
fail_refusal landing.Nothing a = unless (is_next may_fail a) NotEnabled
fail_refusal landing.All a = unless (is_next may_fail a && not (is_next is_failing_read a)) NotEnabled
fail_refusal (landing.Torn bytes) a = torn_refusal bytes (option_and_then torn_size a)

-- CONFIRM: the number is from 1 to last of the control record, and no job holds it
abbrev pub may_confirm : Scen → List Entry → ℕ → Bool
may_confirm s t n = nat_le 1 n && nat_le n (control t).last && not (live s t n)

-- EXIT: a notice is pending, and the answer is allowed for it
abbrev pub exit_refusal : Option Notice → ExitAnswer → Option Refused
exit_refusal None said = Some NotEnabled
exit_refusal (Some told) said = unless (is_allowed told said) NotAllowed

-- what is asked of the job at a site, and false where none is there
abbrev pub of_job : (List Event → Bool) → Option (List Event) → Bool
of_job test job = option_map_or test job false

-- the refusal of a choice, or none
abbrev pub refusal : Scen → List Entry → Choice → Option Refused
refusal s t choice.Tick = None
refusal s t (choice.Step x) = unless (is_next (may_step t) (next_act s t x)) NotEnabled
refusal s t (choice.Lose x) = unless (is_next is_signal (next_act s t x)) NotEnabled
refusal s t (choice.Stop x cut) = stop_refusal cut (is_some (hist s t x)) (next_act s t x)
refusal s t (choice.StartActive x) = unless (is_none (hist s t x)) NotEnabled
refusal s t (choice.StartStandby x) = unless (is_none (hist s t x)) NotEnabled
refusal s t (choice.Abend x) = unless (of_job may_abend (hist s t x)) NotEnabled
refusal s t (choice.Confirm n) = unless (may_confirm s t n) Dishonest
refusal s t (choice.Reply x go) = unless (of_job (may_reply (settings s x)) (hist s t x)) NotEnabled
refusal s t (choice.Cebt x command) = unless (of_job may_command (hist s t x)) NotEnabled
refusal s t (choice.Exit x said) = exit_refusal (option_and_then notice (hist s t x)) said
refusal s t (choice.Fail x cut) = fail_refusal cut (next_act s t x)
