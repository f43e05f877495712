-- Which choice a turn of the generated run makes.
use Rattle.std.specs.Prelude.{ℕ, ◌%◌, ◌==◌, nat_lt, if◌then◌else◌, List, Option, Some, None, option_map, unwrap_or}
use Rattle.xrf_base.specs.declared.site.Site.{Site}
use Rattle.xrf_base.specs.declared.site.Site.TheVariants.{A, B}
use Rattle.xrf_exit.specs.declared.ExitAnswer.{ExitAnswer}
use Rattle.xrf_exit.specs.declared.ExitAnswer.TheVariants as exit
use Rattle.xrf_exit.specs.declared.Notice.{Notice}
use Rattle.xrf_exit.specs.declared.Notice.TheVariants.{TakeoverSeen, AlternateLost}
use Rattle.xrf_setup.specs.declared.choice.Choice.{Choice}
use Rattle.xrf_setup.specs.declared.choice.Choice.TheVariants as choice
use Rattle.xrf_setup.specs.declared.choice.Landing.TheVariants.{Nothing}
use Rattle.xrf_trace.specs.declared.entry.Entry.{Entry}
use Rattle.xrf_trace.specs.Scenario.{Scen}
use Rattle.xrf_world.specs.Report.{is_enabled, least_confirmable, notice_at}

-- The choice that a byte draws, by the least number that may be confirmed; none where there is no such number.
abbrev pub drawn_choice : Option ℕ → ℕ → Option Choice
drawn_choice least byte =
    if nat_lt byte 120 then Some (choice.Step A)
    else if nat_lt byte 240 then Some (choice.Step B)
    else if nat_lt byte 244 then Some choice.Tick
    else if byte == 244 then Some (choice.Lose A)
    else if byte == 245 then Some (choice.Lose B)
    else if byte == 246 then Some (choice.Stop A Nothing)
    else if byte == 247 then Some (choice.Stop B Nothing)
    else if byte == 248 then Some (choice.StartActive A)
    else if byte == 249 then Some (choice.StartStandby B)
    else if nat_lt byte 252 then option_map choice.Confirm least
    else if byte == 252 then Some (choice.StartStandby A)
    else if byte == 253 then Some (choice.StartActive B)
    else Some choice.Tick

-- a choice that is there and enabled
abbrev pub if_enabled : Scen → List Entry → Option Choice → Option Choice
if_enabled s t None = None
if_enabled s t (Some c) = if is_enabled s t c then Some c else None

-- EXIT at a site where a notice is pending there: ABEND upon a takeover, DROP upon the loss of the alternate
abbrev pub exit_answer : Notice → ExitAnswer
exit_answer TakeoverSeen = exit.Abend
exit_answer AlternateLost = exit.Drop

abbrev pub exit_at : Scen → List Entry → Site → Option Choice
exit_at s t x = option_map (λ told. choice.Exit x (exit_answer told)) (notice_at s t x)

-- STEP of a site where it is enabled
abbrev pub step_at : Scen → List Entry → Site → Option Choice
step_at s t x = if_enabled s t (Some (choice.Step x))

-- the first of two that is there
abbrev pub first_of : Option Choice → Option Choice → Option Choice
first_of (Some c) other = Some c
first_of None other = other

-- What is made in place of a choice that is not there: the first of EXIT A, EXIT B, STEP A and STEP B that is, else TICK.
abbrev pub exit_of_any : Scen → List Entry → Option Choice
exit_of_any s t = first_of (exit_at s t A) (exit_at s t B)

abbrev pub step_of_any : Scen → List Entry → Option Choice
step_of_any s t = first_of (step_at s t A) (step_at s t B)

abbrev pub exit_or_step : Scen → List Entry → Option Choice
exit_or_step s t = first_of (exit_of_any s t) (step_of_any s t)

abbrev pub in_its_place : Scen → List Entry → Choice
in_its_place s t = unwrap_or (exit_or_step s t) choice.Tick

-- the choice of a turn: what is drawn where it is enabled, which goes by the lowest byte of a word
abbrev pub choice_or : Scen → List Entry → Option Choice → Choice
choice_or s t drawn = unwrap_or (if_enabled s t drawn) (in_its_place s t)

abbrev pub turn : Scen → List Entry → ℕ → Choice
turn s t word = choice_or s t (drawn_choice (least_confirmable s t) (word % 256))
