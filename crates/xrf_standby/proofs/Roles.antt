-- What is known of a job by what it is by now.
use Rattle.std.proofs.Common.{◌≡◌, false, List}
use Rattle.xrf_history.specs.declared.settings.Settings.{Settings}
use Rattle.xrf_history.specs.Events.{Event}
use Rattle.xrf_history.specs.Holding.{is_owner, starts_active}
use Rattle.xrf_history.proofs.Tests.{not-both}
use Rattle.xrf_active.specs.Promoting.{WasAlternate}
use Rattle.xrf_active.proofs.Alternates.{started_standby}
use Rattle.xrf_standby.specs.declared.role.Role.{Role}
use Rattle.xrf_standby.specs.declared.role.Role.TheVariants as role
use Rattle.xrf_standby.specs.Standing.{RoleIs}

-- it was started as standby
pub started_so : (r : Role) (p : Settings) (h : List Event) → RoleIs r p h → starts_active h ≡ false
started_so (role.Alternate job) p h is = started_standby h is.1.was
started_so (role.LetThrough job) p h is = is.1.started
started_so role.Moving p h is = absurd is

-- and while it is no owner it is an alternate
pub was_so : (r : Role) (p : Settings) (h : List Event) → RoleIs r p h → is_owner h ≡ false → WasAlternate h
was_so (role.Alternate job) p h is alt = is.1.was
was_so (role.LetThrough job) p h is alt = absurd (not-both (is_owner h) is.1.owns alt)
was_so role.Moving p h is alt = absurd is
