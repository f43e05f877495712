-- The table of the forms of all lines.
--
-- A form is a list of parts, one for each word. A keyword stands with the reason of another word in
-- its place: BAD-ITEM right behind WORK and a site, BAD-PLAN right behind PLAN and a tick, BAD-CEBT
-- in a command, UNKNOWN-WORD at the head of a line, BAD-OPTION elsewhere.
use Rattle.std.specs.Prelude.{Bool, true, false, not, List, [], ◌∷◌, ◌++◌, map, filter, if◌then◌else◌}
use Rattle.xrf_base.specs.declared.site.Takeovr.TheVariants.{Auto, Manual, Command}
use Rattle.xrf_cebt.specs.declared.commands.Cebt.TheVariants.{PerformTakeover, PerformShutdown, InquireTakeover, InquireSurveillance, SetTakeover, SetSurveillance}
use Rattle.xrf_exit.specs.declared.ExitAnswer.TheVariants as answer
use Rattle.xrf_grammar.specs.declared.reason.Reason.TheVariants.{UnknownWord, BadOption, BadItem, BadCebt, BadPlan}
use Rattle.xrf_grammar.specs.declared.keyword.Keyword.{Keyword}
use Rattle.xrf_grammar.specs.declared.keyword.Keyword.TheVariants as key
use Rattle.xrf_grammar.specs.declared.form.Part.{Part}
use Rattle.xrf_grammar.specs.declared.form.Part.TheVariants.{Keyword as Key, Refused, Site, Number, Name, Value, Hex, Words}
use Rattle.xrf_grammar.specs.declared.form.ItemForm.{ItemForm}
use Rattle.xrf_grammar.specs.declared.form.ItemForm.TheVariants as item
use Rattle.xrf_grammar.specs.declared.form.ChoiceForm.{ChoiceForm}
use Rattle.xrf_grammar.specs.declared.form.ChoiceForm.TheVariants as choice
use Rattle.xrf_grammar.specs.declared.form.Form.{Form}
use Rattle.xrf_grammar.specs.declared.form.Form.TheVariants as form
use Rattle.xrf_grammar.specs.Quantities.{quantities, range_of}
use Rattle.xrf_setup.specs.declared.format.Format.{Format}
use Rattle.xrf_setup.specs.declared.format.Format.TheVariants.{One, Two}
use Rattle.xrf_setup.specs.declared.ranges.TheConstants.{FILE_LEAST, FILE_MOST, TICKS_MOST, NUMBER_MOST, CLASS_LEAST, CLASS_MOST}

abbrev pub choice_parts : ChoiceForm → List Part
choice_parts choice.Tick = Key key.Tick UnknownWord ∷ []
choice_parts choice.TickTimes = Key key.Tick UnknownWord ∷ Number 1 9999 ∷ []
choice_parts choice.Step = Key key.Step UnknownWord ∷ Site ∷ []
choice_parts choice.StepTimes = Key key.Step UnknownWord ∷ Site ∷ Number 1 9999 ∷ []
choice_parts choice.Lose = Key key.Lose UnknownWord ∷ Site ∷ []
choice_parts choice.StopNothing = Key key.Stop UnknownWord ∷ Site ∷ Key key.NoneWord BadOption ∷ []
choice_parts choice.StopAll = Key key.Stop UnknownWord ∷ Site ∷ Key key.All BadOption ∷ []
choice_parts choice.StopTorn = Key key.Stop UnknownWord ∷ Site ∷ Key key.Torn BadOption ∷ Hex ∷ []
choice_parts choice.FailNothing = Key key.Fail UnknownWord ∷ Site ∷ Key key.NoneWord BadOption ∷ []
choice_parts choice.FailAll = Key key.Fail UnknownWord ∷ Site ∷ Key key.All BadOption ∷ []
choice_parts choice.FailTorn = Key key.Fail UnknownWord ∷ Site ∷ Key key.Torn BadOption ∷ Hex ∷ []
choice_parts choice.StartActive = Key key.Start UnknownWord ∷ Site ∷ Key key.Active BadOption ∷ []
choice_parts choice.StartStandby = Key key.Start UnknownWord ∷ Site ∷ Key key.Standby BadOption ∷ []
choice_parts choice.Abend = Key key.Abend UnknownWord ∷ Site ∷ []
choice_parts choice.Confirm = Key key.Confirm UnknownWord ∷ Number 0 NUMBER_MOST ∷ []
choice_parts (choice.Reply true) = Key key.Reply UnknownWord ∷ Site ∷ Key key.Go BadOption ∷ []
choice_parts (choice.Reply false) = Key key.Reply UnknownWord ∷ Site ∷ Key key.Ignore BadOption ∷ []
choice_parts (choice.Cebt PerformTakeover) = Key key.Cebt UnknownWord ∷ Site ∷ Key key.Perform BadCebt ∷ Key key.Takeover BadCebt ∷ []
choice_parts (choice.Cebt PerformShutdown) = Key key.Cebt UnknownWord ∷ Site ∷ Key key.Perform BadCebt ∷ Key key.Shutdown BadCebt ∷ []
choice_parts (choice.Cebt InquireTakeover) = Key key.Cebt UnknownWord ∷ Site ∷ Key key.Inquire BadCebt ∷ Key key.Takeover BadCebt ∷ []
choice_parts (choice.Cebt InquireSurveillance) = Key key.Cebt UnknownWord ∷ Site ∷ Key key.Inquire BadCebt ∷ Key key.Surveillance BadCebt ∷ []
choice_parts (choice.Cebt (SetTakeover Auto)) = Key key.Cebt UnknownWord ∷ Site ∷ Key key.Set BadCebt ∷ Key key.Takeover BadCebt ∷ Key key.Auto BadCebt ∷ []
choice_parts (choice.Cebt (SetTakeover Manual)) = Key key.Cebt UnknownWord ∷ Site ∷ Key key.Set BadCebt ∷ Key key.Takeover BadCebt ∷ Key key.Manual BadCebt ∷ []
choice_parts (choice.Cebt (SetTakeover Command)) = Key key.Cebt UnknownWord ∷ Site ∷ Key key.Set BadCebt ∷ Key key.Takeover BadCebt ∷ Key key.Command BadCebt ∷ []
choice_parts (choice.Cebt (SetSurveillance true)) = Key key.Cebt UnknownWord ∷ Site ∷ Key key.Set BadCebt ∷ Key key.Surveillance BadCebt ∷ Key key.On BadCebt ∷ []
choice_parts (choice.Cebt (SetSurveillance false)) = Key key.Cebt UnknownWord ∷ Site ∷ Key key.Set BadCebt ∷ Key key.Surveillance BadCebt ∷ Key key.Off BadCebt ∷ []
choice_parts (choice.Exit answer.Abend) = Key key.Exit UnknownWord ∷ Site ∷ Key key.Abend BadOption ∷ []
choice_parts (choice.Exit answer.Keep) = Key key.Exit UnknownWord ∷ Site ∷ Key key.Keep BadOption ∷ []
choice_parts (choice.Exit answer.Drop) = Key key.Exit UnknownWord ∷ Site ∷ Key key.Drop BadOption ∷ []

-- PLAN takes the choices START, STOP, ABEND, CONFIRM, REPLY and CEBT
abbrev pub is_planned : Keyword → Bool
is_planned key.Start = true
is_planned key.Stop = true
is_planned key.Abend = true
is_planned key.Confirm = true
is_planned key.Reply = true
is_planned key.Cebt = true
is_planned _ = false

abbrev pub behind_plan : List Part → List Part
behind_plan (Key keyword reason ∷ more) = (if is_planned keyword then Key keyword BadPlan else Refused keyword BadPlan) ∷ more
behind_plan parts = parts

abbrev pub planned_parts : ChoiceForm → List Part
planned_parts form = Key key.Plan UnknownWord ∷ Number 0 TICKS_MOST ∷ behind_plan (choice_parts form)

abbrev pub work_parts : ItemForm → List Part
work_parts item.Begin = Key key.Work UnknownWord ∷ Site ∷ Key key.Begin BadItem ∷ Name ∷ []
work_parts item.Put = Key key.Work UnknownWord ∷ Site ∷ Key key.Put BadItem ∷ Name ∷ Number 0 NUMBER_MOST ∷ Value ∷ []
work_parts item.Get = Key key.Work UnknownWord ∷ Site ∷ Key key.Get BadItem ∷ Name ∷ Number 0 NUMBER_MOST ∷ []
work_parts item.Commit = Key key.Work UnknownWord ∷ Site ∷ Key key.Commit BadItem ∷ Name ∷ []
work_parts item.Roll = Key key.Work UnknownWord ∷ Site ∷ Key key.Roll BadItem ∷ Name ∷ []
work_parts item.Logon = Key key.Work UnknownWord ∷ Site ∷ Key key.Logon BadItem ∷ Name ∷ Number CLASS_LEAST CLASS_MOST ∷ []
work_parts item.Logoff = Key key.Work UnknownWord ∷ Site ∷ Key key.Logoff BadItem ∷ Name ∷ []
work_parts item.Signon = Key key.Work UnknownWord ∷ Site ∷ Key key.Signon BadItem ∷ Name ∷ Name ∷ []
work_parts item.Signoff = Key key.Work UnknownWord ∷ Site ∷ Key key.Signoff BadItem ∷ Name ∷ []
work_parts item.Shutdown = Key key.Work UnknownWord ∷ Site ∷ Key key.Cemt BadItem ∷ Key key.Shutdown BadOption ∷ []
work_parts item.ShutdownTakeover = Key key.Work UnknownWord ∷ Site ∷ Key key.Cemt BadItem ∷ Key key.Shutdown BadOption ∷ Key key.Takeover BadOption ∷ []

-- the parts of each form
abbrev pub parts_of : Form → List Part
parts_of form.Applid = Key key.Applid UnknownWord ∷ Site ∷ Name ∷ []
parts_of (form.Takeovr Auto) = Key key.Takeovr UnknownWord ∷ Key key.Auto BadOption ∷ []
parts_of (form.Takeovr Manual) = Key key.Takeovr UnknownWord ∷ Key key.Manual BadOption ∷ []
parts_of (form.Takeovr Command) = Key key.Takeovr UnknownWord ∷ Key key.Command BadOption ∷ []
parts_of (form.Quantity quantity) = Key (key.Quantity quantity) UnknownWord ∷ range_of quantity ∷ []
parts_of (form.Images true) = Key key.Images UnknownWord ∷ Key key.On BadOption ∷ []
parts_of (form.Images false) = Key key.Images UnknownWord ∷ Key key.Off BadOption ∷ []
parts_of form.Level = Key key.Level UnknownWord ∷ Site ∷ Number 1 2 ∷ []
parts_of (form.Xrfsoff true) = Key key.Xrfsoff UnknownWord ∷ Key key.Force BadOption ∷ []
parts_of (form.Xrfsoff false) = Key key.Xrfsoff UnknownWord ∷ Key key.Noforce BadOption ∷ []
parts_of form.Record = Key key.Record UnknownWord ∷ Number FILE_LEAST FILE_MOST ∷ Value ∷ []
parts_of form.CltCancel = Key key.Clt UnknownWord ∷ Name ∷ Key key.Cancel BadOption ∷ Name ∷ []
parts_of form.CltCommand = Key key.Clt UnknownWord ∷ Name ∷ Key key.Command BadOption ∷ Words ∷ []
parts_of form.CltWto = Key key.Clt UnknownWord ∷ Name ∷ Key key.Wto BadOption ∷ Words ∷ []
parts_of form.Choices = Key key.Choices UnknownWord ∷ []
parts_of form.End = Key key.End UnknownWord ∷ []
parts_of (form.Work item) = work_parts item
parts_of (form.Plan choice) = planned_parts choice
parts_of (form.Choice choice) = choice_parts choice

-- the forms of a choice
abbrev pub choice_forms : List ChoiceForm
choice_forms = choice.Tick ∷ choice.TickTimes ∷ choice.Step ∷ choice.StepTimes ∷ choice.Lose ∷ choice.StopNothing ∷ choice.StopAll ∷ choice.StopTorn ∷ choice.FailNothing ∷ choice.FailAll ∷ choice.FailTorn ∷ choice.StartActive ∷ choice.StartStandby ∷ choice.Abend ∷ choice.Confirm ∷ choice.Reply true ∷ choice.Reply false ∷ choice.Cebt PerformTakeover ∷ choice.Cebt PerformShutdown ∷ choice.Cebt InquireTakeover ∷ choice.Cebt InquireSurveillance ∷ choice.Cebt (SetTakeover Auto) ∷ choice.Cebt (SetTakeover Manual) ∷ choice.Cebt (SetTakeover Command) ∷ choice.Cebt (SetSurveillance true) ∷ choice.Cebt (SetSurveillance false) ∷ choice.Exit answer.Abend ∷ choice.Exit answer.Keep ∷ choice.Exit answer.Drop ∷ []

-- the forms before the choices under XRF 2
abbrev pub settings_of_two : List Form
settings_of_two = form.Applid ∷ form.Takeovr Auto ∷ form.Takeovr Manual ∷ form.Takeovr Command ∷ []
    ++ map form.Quantity quantities ++ form.Images true ∷ form.Images false ∷ form.Level ∷ form.Xrfsoff true ∷ form.Xrfsoff false ∷ form.Record ∷ form.CltCancel ∷ form.CltCommand ∷ form.CltWto ∷ form.Work item.Begin ∷ form.Work item.Put ∷ form.Work item.Get ∷ form.Work item.Commit ∷ form.Work item.Roll ∷ form.Work item.Logon ∷ form.Work item.Logoff ∷ form.Work item.Signon ∷ form.Work item.Signoff ∷ form.Work item.Shutdown ∷ form.Work item.ShutdownTakeover ∷ []
    ++ map form.Plan choice_forms ++ form.Choices ∷ []

-- XRF 1 has no levels and no users
abbrev pub is_of_two : Form → Bool
is_of_two form.Level = true
is_of_two (form.Xrfsoff force) = true
is_of_two (form.Work item.Signon) = true
is_of_two (form.Work item.Signoff) = true
is_of_two _ = false

abbrev pub settings_of : Format → List Form
settings_of Two = settings_of_two
settings_of One = filter (λ f. not (is_of_two f)) settings_of_two

-- the forms behind the line CHOICES
abbrev pub choices_table : List Form
choices_table = map form.Choice choice_forms ++ form.End ∷ []
