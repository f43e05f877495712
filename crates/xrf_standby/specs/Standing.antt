-- When a job stands for a history, by what it is by now: an alternate, or an owner that was let through.
use Rattle.std.specs.Prelude.{◌≡◌, ◌<◌, false, List, length}
use Rattle.xrf_history.specs.declared.settings.Settings.{Settings}
use Rattle.xrf_history.specs.Events.{Event}
use Rattle.xrf_history.specs.Holding.{is_owner, starts_active}
use Rattle.xrf_active.specs.Promoting.{WasAlternate}
use Rattle.xrf_standby.specs.declared.role.Role.{Role}
use Rattle.xrf_standby.specs.declared.role.Role.TheVariants as role
use Rattle.xrf_standby.specs.declared.standby.Standby.{Standby}
use Rattle.xrf_standby.specs.Alternate as alternate
use Rattle.xrf_standby.specs.LetThrough as let_through

-- what it is by now stands for the history
abbrev pub RoleIs : Role → Settings → List Event → Type 0
RoleIs (role.Alternate job) p h = (job.settings ≡ p) × alternate.Stands job h × (is_owner h ≡ false)
RoleIs (role.LetThrough job) p h = (job.owner.settings ≡ p) × let_through.Stands job h
RoleIs role.Moving p h = ⊥

-- the same of one that has just been handed an answer, by which it may have been let through
abbrev pub WasHanded : Role → Settings → List Event → Type 0
WasHanded (role.Alternate job) p h = (job.settings ≡ p) × alternate.Stands job h × (length h < 16386)
WasHanded (role.LetThrough job) p h = (job.owner.settings ≡ p) × let_through.Stands job h
WasHanded role.Moving p h = ⊥

pub record Stands (job : Standby) (h : List Event) : Type 0 where
  pub role : RoleIs job.role job.settings h
  -- it was started as standby, and is an alternate until it is let through
  pub started : starts_active h ≡ false
  pub was : is_owner h ≡ false → WasAlternate h
