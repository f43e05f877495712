-- The settings of a scenario: their ranges, and those of a site.
use Rattle.std.specs.Prelude.{◌≡◌, ◌%◌, ℕ, false, List}
use Rattle.xrf_base.specs.Names.{IsName}
use Rattle.xrf_base.specs.declared.site.Site.{Site}
use Rattle.xrf_base.specs.declared.site.Site.TheVariants.{A, B}
use Rattle.xrf_ctl.specs.declared.parts.Level.{Level}
use Rattle.xrf_ctl.specs.declared.parts.Level.TheVariants as level
use Rattle.xrf_setup.specs.Ranges.{IsIn}
use Rattle.xrf_setup.specs.declared.format.Format.{Format}
use Rattle.xrf_setup.specs.declared.format.Format.TheVariants.{One, Two}
use Rattle.xrf_setup.specs.declared.settings.Settings.{Settings}
use Rattle.xrf_setup.specs.declared.ranges.TheConstants.{INTERVAL_LEAST, INTERVAL_MOST, LOG_LEAST, LOG_MOST, LOG_UNIT, RING_LEAST, RING_MOST, FILE_LEAST, FILE_MOST, PACE_LEAST, PACE_MOST, TICKS_MOST}

-- Under XRF 1 both levels are 1, and no users are signed off.
abbrev pub AreLevels : Format → Settings → Type 0
AreLevels One t = (t.level_a ≡ level.One) × (t.level_b ≡ level.One) × (t.force ≡ false)
AreLevels Two t = Unit {0}

-- settings within their ranges
pub record AreSettings (t : Settings) : Type 0 where
  pub applid_a : IsName t.applid_a
  pub applid_b : IsName t.applid_b
  pub adi : IsIn INTERVAL_LEAST INTERVAL_MOST t.adi
  pub pdi : IsIn INTERVAL_LEAST INTERVAL_MOST t.pdi
  pub log : IsIn LOG_LEAST LOG_MOST t.log
  pub log_units : t.log % LOG_UNIT ≡ 0
  pub ring : IsIn RING_LEAST RING_MOST t.ring
  pub file : IsIn FILE_LEAST FILE_MOST t.file
  pub pace : IsIn PACE_LEAST PACE_MOST t.pace
  pub ticks : IsIn 0 TICKS_MOST t.ticks
  pub levels : AreLevels t.format t

-- those of a site
abbrev pub applid_of : Settings → Site → List ℕ
applid_of t A = t.applid_a
applid_of t B = t.applid_b

abbrev pub level_at : Settings → Site → Level
level_at t A = t.level_a
level_at t B = t.level_b
