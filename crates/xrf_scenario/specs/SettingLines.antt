-- The settings, as lines.
use Rattle.std.specs.Prelude.{◌↔◌, ℕ, List, [], ◌∷◌, ◌++◌, map}
use Rattle.std.specs.List.{AllByRecursion}
use Rattle.xrf_base.specs.declared.site.Site.TheVariants.{A, B}
use Rattle.xrf_ctl.specs.declared.parts.Level.{Level as Program}
use Rattle.xrf_ctl.specs.declared.parts.Level.TheVariants as level
use Rattle.xrf_grammar.specs.LineText.{IsSetting}
use Rattle.xrf_grammar.specs.Quantities.{quantities, quantity_of}
use Rattle.xrf_grammar.specs.declared.quantity.Quantity.{Quantity as Setting}
use Rattle.xrf_grammar.specs.declared.line.Line.{Line}
use Rattle.xrf_grammar.specs.declared.line.Line.TheVariants.{Applid, Takeovr, Quantity, Images, Level, Xrfsoff}
use Rattle.xrf_setup.specs.Settings.{AreSettings, AreLevels}
use Rattle.xrf_setup.specs.declared.format.Format.{Format}
use Rattle.xrf_setup.specs.declared.format.Format.TheVariants.{One, Two}
use Rattle.xrf_setup.specs.declared.settings.Settings.{Settings}

-- the number of a level
abbrev pub level_number : Program → ℕ
level_number level.One = 1
level_number level.Two = 2

-- what stands in no text of XRF 1
abbrev pub level_lines : Format → Settings → List Line
level_lines One t = []
level_lines Two t = Level A (level_number t.level_a) ∷ Level B (level_number t.level_b) ∷ Xrfsoff t.force ∷ []

-- the settings that are one number
abbrev pub quantity_lines : Settings → List Line
quantity_lines t = map (λ (quantity : Setting). Quantity quantity (quantity_of t quantity)) quantities

-- the settings, as lines
abbrev pub setting_lines : Settings → List Line
setting_lines t =
    Applid A t.applid_a ∷ Applid B t.applid_b ∷ Takeovr t.takeovr ∷ []
    ++ quantity_lines t ++ Images t.images ∷ level_lines t.format t

-- Settings are within their ranges exactly where their lines are lines that a text of their format
-- can spell, and their levels are those of the format.
abbrev pub AreLines : Settings → Type 0
AreLines t = AllByRecursion (IsSetting t.format) (setting_lines t) × AreLevels t.format t

abbrev pub SettingsAreLines : Type 0
SettingsAreLines = (t : Settings) → AreSettings t ↔ AreLines t
