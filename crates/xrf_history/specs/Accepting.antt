-- Which choices reach a job: ABEND, REPLY, CEBT and EXIT, by what the job is.
use Rattle.std.specs.Prelude.{Bool, true, false, ◌&&◌, ◌||◌, ◌≤◌, not, is_none, List, Option, Some, None}
use Rattle.xrf_exit.specs.declared.Notice.{Notice}
use Rattle.xrf_exit.specs.declared.ExitAnswer.{ExitAnswer}
use Rattle.xrf_exit.specs.Exit.{is_allowed}
use Rattle.xrf_history.specs.declared.settings.Settings.{Settings}
use Rattle.xrf_history.specs.declared.answer.Answer.{Answer}
use Rattle.xrf_history.specs.declared.answer.Answer.TheVariants as answer
use Rattle.xrf_history.specs.Events.{Event}
use Rattle.xrf_history.specs.Looking.{change}
use Rattle.xrf_history.specs.Holding.{is_owner, is_alternate, is_tracking}
use Rattle.xrf_history.specs.Reserving.{sign_off_due, is_leaving, is_starting}
use Rattle.xrf_history.specs.Notices.{notice}
use Rattle.xrf_history.specs.Deciding.{is_asked, has_go}
use Rattle.xrf_history.specs.Next.{next}
use Rattle.xrf_history.specs.Answers.{fits}

-- ABEND: it is an owner, no notice is pending, and no sign-off is due or begun
abbrev pub may_abend : List Event → Bool
may_abend h = is_owner h && is_none (notice h) && is_none (sign_off_due h)

-- REPLY: it is a tracking alternate, asked, without GO, and not leaving or starting
abbrev pub may_reply : Settings → List Event → Bool
may_reply p h = is_tracking h && is_asked p h && not (has_go p h) && not (is_leaving h) && not (is_starting h)

-- CEBT: it is an alternate, tracking or waiting, and not leaving
abbrev pub may_command : List Event → Bool
may_command h = is_alternate h && not (is_leaving h)

-- EXIT: a notice is pending, and the answer is allowed for it
abbrev pub exit_allowed : Option Notice → ExitAnswer → Bool
exit_allowed None said = false
exit_allowed (Some told) said = is_allowed told said

-- the answer of a tick or of a choice that reaches it
abbrev pub accepts : Settings → List Event → Answer → Bool
accepts p h (answer.Tick at) = true
accepts p h answer.Abend = may_abend h
accepts p h (answer.Reply go at) = may_reply p h
accepts p h (answer.Cebt command at) = may_command h
accepts p h (answer.Exit said at) = exit_allowed (notice h) said
accepts p h _ = false

-- a job takes an answer of its act, and one of a tick or of a choice that reaches it
abbrev pub may_take : Settings → List Event → Answer → Bool
may_take p h a = accepts p h a || fits p h (next p h) a

-- its tick is not before that of the last change
abbrev pub IsInTime : List Event → Answer → Type 0
IsInTime h (answer.Look2 signal at) = change h ≤ at
IsInTime h (answer.Decide known at) = change h ≤ at
IsInTime h (answer.Exit said at) = change h ≤ at
IsInTime h (answer.Reply go at) = change h ≤ at
IsInTime h (answer.Cebt command at) = change h ≤ at
IsInTime h _ = Unit {0}
