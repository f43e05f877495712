-- A job that signs on as active is an owner by its first CTLWRITE.
use Rattle.std.proofs.Common.{◌≡◌, ℕ, ◌<◌, Bool, true, false, List, ◌∷◌, Some, refl, ◌∙◌, arith}
use Rattle.std.specs.Prelude.{nat_lt}
use Rattle.std.proofs.lemmas.Grind.{common_steps}
use Rattle.xrf_base.specs.declared.site.Site.{Site}
use Rattle.xrf_ctl.specs.declared.parts.Level.{Level}
use Rattle.xrf_ctl.specs.Control.{ControlRecord}
use Rattle.xrf_cavm.specs.declared.known.Known.{Known}
use Rattle.xrf_cavm.specs.Grants.{grant_active}
use Rattle.xrf_cavm.specs.Record.{is_owner as names_owner}
use Rattle.xrf_history.specs.declared.settings.Settings.{Settings}
use Rattle.xrf_history.specs.Events.{Event, ControlWritten}
use Rattle.xrf_history.specs.Holding.{number, is_granted, is_owner, starts_active}
use Rattle.xrf_history.specs.Taking.{is_draining}
use Rattle.xrf_history.specs.Reserving.{SignOnActive, purpose, granted, known_read, record_read}
use Rattle.xrf_history.specs.Next.{record_for}

-- it is granted where its incarnation is not 0
pub granted-above : (h : List Event) (inc : ℕ) → is_granted h ≡ nat_lt 0 (number h) → inc ≡ number h → 0 < inc → is_granted h ≡ true
granted-above h inc same e above = grind (arith, common_steps)

-- the record that is granted names its last incarnation as owner
pub granted-owner : (r : ControlRecord) (site : Site) (known : Known) (level : Level) (w : ControlRecord) → granted (grant_active r site known level) ≡ Some w → names_owner w w.last ≡ true
granted-owner r site known level w e = grind (arith, common_steps)

-- it is an owner after its first CTLWRITE, and after each
pub is_owner-written : (p : Settings) (h : List Event) (w : ControlRecord) → is_owner h ≡ is_granted h → (is_granted h ≡ false → purpose h ≡ SignOnActive) → record_for p h ≡ Some w
    → is_owner (ControlWritten w ∷ h) ≡ true
is_owner-written p h w same asks e = by (is_granted h) refl
  where
    by : (b : Bool) → is_granted h ≡ b → is_owner (ControlWritten w ∷ h) ≡ true
    by true g = rw (same ∙ g) refl
    by false g =
        let e2 = rw (asks g) at e in
        let names = granted-owner (record_read h) p.site (known_read h) p.level w e2 in
        rw (same ∙ g, g) names

-- and drains what it drained before
pub is_draining-written : (h : List Event) (w : ControlRecord) → is_owner h ≡ is_granted h → (is_granted h ≡ false → starts_active h ≡ true) → is_owner (ControlWritten w ∷ h) ≡ true
    → is_draining (ControlWritten w ∷ h) ≡ is_draining h
is_draining-written h w same starts owner = by (is_granted h) refl
  where
    by : (b : Bool) → is_granted h ≡ b → is_draining (ControlWritten w ∷ h) ≡ is_draining h
    by true g = rw (same ∙ g) refl
    by false g = rw (owner, same ∙ g, starts g) refl
