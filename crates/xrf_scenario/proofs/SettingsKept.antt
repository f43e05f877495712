-- Settings within their ranges are those whose lines a text of their format can spell.
use Rattle.std.proofs.Common.{◌≡◌, ◌%◌, ℕ, Bool, false, IsTrue, IfSome, Option, Some, None, unwrap_or, codes, refl, arith}
use Rattle.std.specs.List.{AllByRecursion}
use Rattle.std.proofs.lemmas.Bool.{eq-eqb, eqb-true}
use Rattle.xrf_ctl.specs.declared.parts.Level.{Level}
use Rattle.xrf_ctl.specs.declared.parts.Level.TheVariants as level
use Rattle.xrf_setup.specs.Ranges.{IsIn}
use Rattle.xrf_setup.specs.Settings.{AreLevels, AreSettings}
use Rattle.xrf_setup.specs.declared.format.Format.{Format}
use Rattle.xrf_setup.specs.declared.format.Format.TheVariants.{One, Two}
use Rattle.xrf_setup.specs.declared.ranges.TheConstants.{LOG_UNIT}
use Rattle.xrf_setup.specs.declared.settings.Settings.{Settings}
use Rattle.xrf_grammar.specs.LineText.{IsSetting}
use Rattle.xrf_grammar.specs.Operands.{is_multiple_of}
use Rattle.xrf_grammar.specs.Quantities.{IsOfRange, default_of, range_of}
use Rattle.xrf_grammar.specs.declared.line.Line.TheVariants.{Applid, Xrfsoff}
use Rattle.xrf_grammar.specs.declared.quantity.Quantity.{Quantity as Setting}
use Rattle.xrf_grammar.specs.declared.quantity.Quantity.TheVariants.{Adi, Pdi, Log, Ring, File, Pace, Ticks}
use Rattle.xrf_base.specs.declared.site.Site.TheVariants.{A, B}
use Rattle.xrf_scenario.specs.Said.{IsGiven}
use Rattle.xrf_scenario.specs.SoFar.{quantity_given, quantity_or_default}
use Rattle.xrf_scenario.specs.declared.given.Given.{Given}
use Rattle.xrf_scenario.specs.SettingLines.{level_number, level_lines, setting_lines, AreLines, SettingsAreLines}
use Rattle.xrf_scenario.specs.Settled.{level_named, settled}

-- the number of a level is 1 or 2, and names it
level-in : (l : Level) → IsIn 1 2 (level_number l)
level-in level.One = (omega arith, omega arith)
level-in level.Two = (omega arith, omega arith)

pub level-again : (l : Level) → l ≡ level_named (level_number l)
level-again level.One = refl
level-again level.Two = refl

-- a number without a remainder is a multiple, and the other way round
units-multiple : (n : ℕ) → n % LOG_UNIT ≡ 0 → IsTrue (is_multiple_of n LOG_UNIT)
units-multiple n whole = eq-eqb (n % LOG_UNIT) 0 whole

multiple-units : (n : ℕ) → IsTrue (is_multiple_of n LOG_UNIT) → n % LOG_UNIT ≡ 0
multiple-units n is = eqb-true (n % LOG_UNIT) 0 is

-- the lines of the levels are lines of XRF 2
levels-lines : (format : Format) (t : Settings) → AllByRecursion (IsSetting format) (level_lines format t)
levels-lines One t = tt
levels-lines Two t = ((refl, level-in t.level_a), ((refl, level-in t.level_b), (refl, tt)))

-- the lines of settings within their ranges are lines that a text can spell
pub lines-are : (t : Settings) → AreSettings t → AllByRecursion (IsSetting t.format) (setting_lines t)
lines-are t are = (
  are.applid_a,
  (
    are.applid_b,
    (
      tt,
      (
        are.adi,
        (
          are.pdi,
          (
            (are.log, units-multiple t.log are.log_units),
            (are.ring, (are.file, (are.pace, (are.ticks, (tt, levels-lines t.format t))))),
          ),
        ),
      ),
    ),
  ),
)

-- settings whose lines a text can spell are within their ranges
settings-are : (t : Settings) → AreLines t → AreSettings t
settings-are t are =
    let lines = are.0 in
    let adi = lines.1.1.1 in
    let log = adi.1.1 in
    let file = log.1.1 in
    record {
      applid_a = lines.0;
      applid_b = lines.1.0;
      adi = adi.0;
      pdi = adi.1.0;
      log = log.0.0;
      log_units = multiple-units t.log log.0.1;
      ring = log.1.0;
      file = file.0;
      pace = file.1.0;
      ticks = file.1.1.0;
      levels = are.1;
    }

-- Settings are within their ranges exactly where their lines are lines that a text of their format can spell.
pub settings_are_lines : SettingsAreLines
settings_are_lines t = ((λ are. (lines-are t are, are.levels)), settings-are t)

-- the default of a quantity is within its range
default-is : (quantity : Setting) → IsOfRange (range_of quantity) (default_of quantity)
default-is Log = ((omega arith, omega arith), refl)
default-is _ = (omega arith, omega arith)

-- a setting that is given is within its range, and so is its default
given-or : {X : Type 0} (P : X → Type 0) (o : Option X) (default : X) → IfSome o P → P default → P (unwrap_or o default)
given-or P None default is d = d
given-or P (Some x) default is d = is

-- XRF 1 has no levels
no-force : (force : Option Bool) → IfSome force (λ f. IsSetting One (Xrfsoff f)) → unwrap_or force false ≡ false
no-force None is = refl
no-force (Some f) is = let clash : One ≡ Two = is in absurd (cc)

format-levels : (format : Format) (given : Given) → IsGiven format given → AreLevels format (settled format given)
format-levels One given is = (refl, refl, no-force given.force is.force)
format-levels Two given is = tt

-- the number of a quantity that is said is within its range
pub quantity-is : (format : Format) (given : Given) → IsGiven format given → (quantity : Setting) → IsOfRange (range_of quantity) (quantity_or_default given quantity)
quantity-is format given is quantity = given-or (IsOfRange (range_of quantity)) (quantity_given given quantity) (default_of quantity) (is.quantities quantity) (default-is quantity)

-- the settings of what is said are within their ranges
pub settings-said : (format : Format) (given : Given) → IsGiven format given → AreSettings (settled format given)
settings-said format given is =
    let of : (quantity : Setting) → IsOfRange (range_of quantity) (quantity_or_default given quantity) = quantity-is format given is in
    record {
      applid_a = given-or (λ name. IsSetting format (Applid A name)) given.applid_a (codes "CICSA") is.applid_a refl;
      applid_b = given-or (λ name. IsSetting format (Applid B name)) given.applid_b (codes "CICSB") is.applid_b refl;
      adi = of Adi;
      pdi = of Pdi;
      log = (of Log).0;
      log_units = multiple-units (quantity_or_default given Log) (of Log).1;
      ring = of Ring;
      file = of File;
      pace = of Pace;
      ticks = of Ticks;
      levels = format-levels format given is;
    }
