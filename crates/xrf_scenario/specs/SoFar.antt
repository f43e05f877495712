-- What the lines so far say.
use Rattle.std.specs.Prelude.{ℕ, Bool, true, false, List, [], get_or, slice_set, replicate, Option, Some, None, unwrap_or}
use Rattle.xrf_base.specs.declared.items.Item.{Item}
use Rattle.xrf_clt.specs.Kept.{Kept}
use Rattle.xrf_grammar.specs.Quantities.{place_of, default_of}
use Rattle.xrf_grammar.specs.declared.quantity.TheConstants.{QUANTITIES}
use Rattle.xrf_grammar.specs.declared.quantity.Quantity.{Quantity}
use Rattle.xrf_grammar.specs.declared.quantity.Quantity.TheVariants.{File}
use Rattle.xrf_setup.specs.declared.choice.Choice.{Choice}
use Rattle.xrf_setup.specs.declared.ranges.TheConstants.{FILE_MOST}
use Rattle.xrf_setup.specs.declared.format.Format.{Format}
use Rattle.xrf_setup.specs.declared.format.Format.TheVariants.{One}
use Rattle.xrf_scenario.specs.declared.given.Given.{Given}
use Rattle.xrf_scenario.specs.declared.section.Section.{Section}
use Rattle.xrf_scenario.specs.declared.section.Section.TheVariants.{Start, Whole}
use Rattle.xrf_scenario.specs.declared.numbered.Numbered.{Numbered}

pub record SoFar : Type 0 where
  -- the section of the text that the next line is of
  pub section : Section
  pub format : Format
  -- the settings that lines gave
  pub given : Given
  -- a place for each record there may be: record n stands at n - 1
  pub records : List (Option (List ℕ))
  pub clt : List Kept
  pub work_a : List Item
  pub work_b : List Item
  -- ticks and choices
  pub plan : List (ℕ × Choice)
  pub choices : List Numbered

abbrev pub nothing_given : Given
nothing_given = record { applid_a = None; applid_b = None; takeovr = None; quantities = replicate QUANTITIES None; images = None; level_a = None; level_b = None; force = None }

-- before the first line
abbrev pub nothing_said : SoFar
nothing_said = record { section = Start; format = One; given = nothing_given; records = replicate FILE_MOST None; clt = []; work_a = []; work_b = []; plan = []; choices = [] }

abbrev pub is_whole : Section → Bool
is_whole Whole = true
is_whole _ = false

-- the number that a line gave of a quantity, and else its default
abbrev pub quantity_given : Given → Quantity → Option ℕ
quantity_given given quantity = get_or given.quantities (place_of quantity) None

abbrev pub quantity_or_default : Given → Quantity → ℕ
quantity_or_default given quantity = unwrap_or (quantity_given given quantity) (default_of quantity)

-- what is given with this number of a quantity
abbrev pub with_quantity : Given → Quantity → ℕ → Given
with_quantity given quantity n = record given { quantities = slice_set given.quantities (place_of quantity) (Some n) }

abbrev pub file_of : Given → ℕ
file_of given = quantity_or_default given File

abbrev pub file_said : SoFar → ℕ
file_said so = file_of so.given
