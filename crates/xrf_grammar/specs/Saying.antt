-- What some words of a form say.
use Rattle.std.specs.Prelude.{ℕ, List, Option, Some, None}
use Rattle.std.specs.Option.{option_map, option_and_then}
use Rattle.xrf_base.specs.Names.{name_of}
use Rattle.xrf_base.specs.Values.{value_of}
use Rattle.xrf_base.specs.declared.site.Site.{Site}
use Rattle.xrf_base.specs.declared.items.Item.{Item}
use Rattle.xrf_base.specs.declared.items.Item.TheVariants as item
use Rattle.xrf_grammar.specs.declared.form.ItemForm.{ItemForm}
use Rattle.xrf_grammar.specs.declared.form.ItemForm.TheVariants as work
use Rattle.xrf_grammar.specs.declared.form.ChoiceForm.{ChoiceForm}
use Rattle.xrf_grammar.specs.declared.form.ChoiceForm.TheVariants as by
use Rattle.xrf_grammar.specs.declared.form.Form.{Form}
use Rattle.xrf_grammar.specs.declared.form.Form.TheVariants as form
use Rattle.xrf_setup.specs.declared.choice.Landing.{Landing}
use Rattle.xrf_setup.specs.declared.choice.Landing.TheVariants.{Nothing, All, Torn}
use Rattle.xrf_setup.specs.declared.choice.Choice.{Choice}
use Rattle.xrf_setup.specs.declared.choice.Choice.TheVariants as choice
use Rattle.xrf_grammar.specs.declared.line.Line.{Line}
use Rattle.xrf_grammar.specs.declared.line.Line.TheVariants as line
use Rattle.xrf_grammar.specs.Hex.{torn_of_hex}
use Rattle.xrf_grammar.specs.Numbers.{number_of}
use Rattle.xrf_grammar.specs.Operands.{site_of, class_of}
use Rattle.xrf_grammar.specs.Places.{behind, second, third, fourth, fifth, sixth}

abbrev pub torn_said : List (List ℕ) → Option Landing
torn_said ws = option_map Torn (torn_of_hex (fourth ws))

-- a choice of a site
abbrev pub site_said : ChoiceForm → Site → List (List ℕ) → Option Choice
site_said by.Step s ws = Some (choice.Step s)
site_said by.StepTimes s ws = Some (choice.Step s)
site_said by.Lose s ws = Some (choice.Lose s)
site_said by.StopNothing s ws = Some (choice.Stop s Nothing)
site_said by.StopAll s ws = Some (choice.Stop s All)
site_said by.StopTorn s ws = option_map (choice.Stop s) (torn_said ws)
site_said by.FailNothing s ws = Some (choice.Fail s Nothing)
site_said by.FailAll s ws = Some (choice.Fail s All)
site_said by.FailTorn s ws = option_map (choice.Fail s) (torn_said ws)
site_said by.StartActive s ws = Some (choice.StartActive s)
site_said by.StartStandby s ws = Some (choice.StartStandby s)
site_said by.Abend s ws = Some (choice.Abend s)
site_said (by.Reply go) s ws = Some (choice.Reply s go)
site_said (by.Cebt command) s ws = Some (choice.Cebt s command)
site_said (by.Exit answer) s ws = Some (choice.Exit s answer)
site_said by.Tick s ws = None
site_said by.TickTimes s ws = None
site_said by.Confirm s ws = None

-- the choice, its count left out
abbrev pub choice_said : ChoiceForm → List (List ℕ) → Option Choice
choice_said by.Tick ws = Some choice.Tick
choice_said by.TickTimes ws = Some choice.Tick
choice_said by.Confirm ws = option_map choice.Confirm (number_of (second ws))
choice_said f ws = option_and_then (λ s. site_said f s ws) (site_of (second ws))

-- the choice, and its count where it has one
abbrev pub counted : ChoiceForm → List (List ℕ) → Choice → Option Line
counted by.TickTimes ws c = option_map (line.Times c) (number_of (second ws))
counted by.StepTimes ws c = option_map (line.Times c) (number_of (third ws))
counted _ ws c = Some (line.Once c)

abbrev pub once_said : ChoiceForm → List (List ℕ) → Option Line
once_said f ws = option_and_then (counted f ws) (choice_said f ws)

-- the item of a line of work, whose operands stand from the fourth word on
abbrev pub item_said : ItemForm → List (List ℕ) → Option Item
item_said work.Begin ws = option_map item.Begin (name_of (fourth ws))
item_said work.Put ws = option_and_then (λ unit. option_and_then (λ number. option_map (item.Put unit number) (value_of (sixth ws))) (number_of (fifth ws))) (name_of (fourth ws))
item_said work.Get ws = option_and_then (λ unit. option_map (item.Get unit) (number_of (fifth ws))) (name_of (fourth ws))
item_said work.Commit ws = option_map item.Commit (name_of (fourth ws))
item_said work.Roll ws = option_map item.Roll (name_of (fourth ws))
item_said work.Logon ws = option_and_then (λ terminal. option_map (item.Logon terminal) (class_of (fifth ws))) (name_of (fourth ws))
item_said work.Logoff ws = option_map item.Logoff (name_of (fourth ws))
item_said work.Signon ws = option_and_then (λ terminal. option_map (item.Signon terminal) (name_of (fifth ws))) (name_of (fourth ws))
item_said work.Signoff ws = option_map item.Signoff (name_of (fourth ws))
item_said work.Shutdown ws = Some item.Shutdown
item_said work.ShutdownTakeover ws = Some item.ShutdownTakeover

abbrev pub work_said : ItemForm → List (List ℕ) → Option Line
work_said f ws = option_and_then (λ s. option_map (line.Work s) (item_said f ws)) (site_of (second ws))

-- a planned choice stands from the third word on
abbrev pub plan_said : ChoiceForm → List (List ℕ) → Option Line
plan_said f ws = option_and_then (λ tick. option_map (line.Plan tick) (choice_said f (behind (behind ws)))) (number_of (second ws))

abbrev pub applid_said : List (List ℕ) → Option Line
applid_said ws = option_and_then (λ s. option_map (line.Applid s) (name_of (third ws))) (site_of (second ws))

abbrev pub level_said : List (List ℕ) → Option Line
level_said ws = option_and_then (λ s. option_map (line.Level s) (number_of (third ws))) (site_of (second ws))

abbrev pub record_said : List (List ℕ) → Option Line
record_said ws = option_and_then (λ number. option_map (line.Record number) (value_of (third ws))) (number_of (second ws))

-- what some words of a form say
abbrev pub said : Form → List (List ℕ) → Option Line
said form.Applid ws = applid_said ws
said (form.Takeovr mode) ws = Some (line.Takeovr mode)
said (form.Quantity quantity) ws = option_map (line.Quantity quantity) (number_of (second ws))
said (form.Images on) ws = Some (line.Images on)
said form.Level ws = level_said ws
said (form.Xrfsoff force) ws = Some (line.Xrfsoff force)
said form.Record ws = record_said ws
said form.CltCancel ws = Some line.Clt
said form.CltCommand ws = Some line.Clt
said form.CltWto ws = Some line.Clt
said (form.Work f) ws = work_said f ws
said (form.Plan f) ws = plan_said f ws
said form.Choices ws = Some line.Choices
said (form.Choice f) ws = once_said f ws
said form.End ws = Some line.End
