-- What is said once a line has come, or why the line may not come.
use Rattle.std.specs.Prelude.{ℕ, ◌+◌, ◌-◌, Bool, true, false, nat_le, nat_lt, List, [], ◌∷◌, ◌++◌, length, drop, replicate, is_none, get_or, slice_set, Option, Some, None, Result, Ok, Err, if◌then◌else◌}
use Rattle.std.specs.List.{list_all}
use Rattle.xrf_base.specs.declared.items.Item.{Item}
use Rattle.xrf_base.specs.declared.site.Site.TheVariants.{A, B}
use Rattle.xrf_clt.specs.Lines.{words_kept}
use Rattle.xrf_grammar.specs.Places.{behind}
use Rattle.xrf_setup.specs.declared.choice.Choice.{Choice}
use Rattle.xrf_setup.specs.declared.ranges.TheConstants.{CLT_MOST, ITEMS_MOST, PLAN_MOST, CHOICES_MOST}
use Rattle.xrf_grammar.specs.declared.line.Line.{Line}
use Rattle.xrf_grammar.specs.declared.line.Line.TheVariants.{Applid, Takeovr, Quantity, Images, Level, Xrfsoff, Record, Clt, Work, Plan, Choices, Once, Times, End}
use Rattle.xrf_grammar.specs.declared.reason.Reason.{Reason}
use Rattle.xrf_grammar.specs.declared.reason.Reason.TheVariants.{PlanOrder, Twice, TooMany, RrnRange}
use Rattle.xrf_scenario.specs.SoFar.{SoFar, file_said, quantity_given, with_quantity}
use Rattle.xrf_scenario.specs.declared.given.Given.{Given}
use Rattle.xrf_scenario.specs.declared.section.Section.TheVariants.{Making, Whole}
use Rattle.xrf_scenario.specs.declared.numbered.Numbered.{Numbered}

-- a setting is given once
abbrev pub once : {X : Type 0} → Option X → SoFar → Given → Result SoFar Reason
once None so given = Ok (record so { given = given })
once (Some before) so given = Err Twice

-- what is said where there is room
abbrev pub with_room : Bool → SoFar → Result SoFar Reason
with_room true so = Ok so
with_room false so = Err TooMany

-- a record number is given once
abbrev pub free_record : Bool → SoFar → Result SoFar Reason
free_record true so = Ok so
free_record false so = Err Twice

-- the tick of the last PLAN line
abbrev pub last_tick : List (ℕ × Choice) → ℕ
last_tick [] = 0
last_tick (planned ∷ []) = planned.0
last_tick (planned ∷ next ∷ more) = last_tick (next ∷ more)

abbrev pub numbered : ℕ → Choice → Numbered
numbered number choice = record { choice = choice; line = number }

-- no record has a number above FILE
abbrev pub are_within : SoFar → Bool
are_within so = list_all is_none (drop (file_said so) so.records)

-- a record number that was not given
abbrev pub is_free : SoFar → ℕ → Bool
is_free so n = is_none (get_or so.records (n - 1) None)

-- a tick below that of the last PLAN line
abbrev pub is_early : SoFar → ℕ → Bool
is_early so tick = nat_lt tick (last_tick so.plan)

-- room for one more line of the command list, for one more item of a site, for one more planned
-- choice, and for so many more choices
abbrev pub has_clt_room : SoFar → Bool
has_clt_room so = nat_lt (length so.clt) CLT_MOST

abbrev pub has_work_room : List Item → Bool
has_work_room items = nat_lt (length items) ITEMS_MOST

abbrev pub has_plan_room : SoFar → Bool
has_plan_room so = nat_lt (length so.plan) PLAN_MOST

abbrev pub has_choice_room : SoFar → ℕ → Bool
has_choice_room so count = nat_le (length so.choices + count) CHOICES_MOST

-- the settings, each once
abbrev pub take_setting : SoFar → Given → Line → Result SoFar Reason
take_setting so given (Applid A name) = once given.applid_a so (record given { applid_a = Some name })
take_setting so given (Applid B name) = once given.applid_b so (record given { applid_b = Some name })
take_setting so given (Takeovr mode) = once given.takeovr so (record given { takeovr = Some mode })
take_setting so given (Quantity quantity n) = once (quantity_given given quantity) so (with_quantity given quantity n)
take_setting so given (Images on) = once given.images so (record given { images = Some on })
take_setting so given (Level A n) = once given.level_a so (record given { level_a = Some n })
take_setting so given (Level B n) = once given.level_b so (record given { level_b = Some n })
take_setting so given (Xrfsoff force) = once given.force so (record given { force = Some force })
take_setting so given _ = Ok so

-- What is said once a line of this number with these words has come: settings and record numbers
-- come once, the ticks of planned choices do not fall, there is room, and CHOICES comes where no
-- record number is above FILE.
abbrev pub take : ℕ → SoFar → List (List ℕ) → Line → Result SoFar Reason
take number so ws (Record n value) = free_record (is_free so n) (record so { records = slice_set so.records (n - 1) (Some value) })
take number so ws Clt = with_room (has_clt_room so) (record so { clt = so.clt ++ words_kept (behind ws) ∷ [] })
take number so ws (Work A item) = with_room (has_work_room so.work_a) (record so { work_a = so.work_a ++ item ∷ [] })
take number so ws (Work B item) = with_room (has_work_room so.work_b) (record so { work_b = so.work_b ++ item ∷ [] })
take number so ws (Plan tick choice) = if is_early so tick then Err PlanOrder else with_room (has_plan_room so) (record so { plan = so.plan ++ (tick, choice) ∷ [] })
take number so ws Choices = if are_within so then Ok (record so { section = Making }) else Err RrnRange
take number so ws (Once choice) = with_room (has_choice_room so 1) (record so { choices = so.choices ++ numbered number choice ∷ [] })
take number so ws (Times choice count) = with_room (has_choice_room so count) (record so { choices = so.choices ++ replicate count (numbered number choice) })
take number so ws End = Ok (record so { section = Whole })
take number so ws setting = take_setting so so.given setting
