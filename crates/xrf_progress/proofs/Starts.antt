-- A start in place comes to its restart.
use Rattle.std.proofs.Common.{◌≡◌, ◌+◌, ◌*◌, ◌/◌, ◌&&◌, not, Bool, true, false, List, [], ◌∷◌, ◌++◌, Some, is_some, refl, ap, arith}
use Rattle.xrf_base.specs.declared.site.Site.{Site}
use Rattle.xrf_ctl.specs.declared.parts.Level.{Level}
use Rattle.xrf_ctl.specs.declared.parts.OwnerState.TheVariants.{Running}
use Rattle.xrf_ctl.specs.Control.{ControlRecord}
use Rattle.xrf_cavm.specs.Grants.{is_foreign}
use Rattle.xrf_cavm.specs.Record.{owner_is, inc_of_owner, inc_of_alt}
use Rattle.xrf_history.specs.Events.{StartedActive}
use Rattle.xrf_trace.specs.declared.entry.Entry.{Entry}
use Rattle.xrf_trace.specs.declared.entry.Act.TheVariants as act
use Rattle.xrf_trace.specs.declared.entry.Land.TheVariants as land
use Rattle.xrf_trace.specs.Scenario.{Scen, settings, other}
use Rattle.xrf_trace.specs.Words.{now, confirmed}
use Rattle.xrf_trace.specs.Devices.{control, sector1, sector2}
use Rattle.xrf_trace.specs.Jobs.{hist, known_of, after_own, after_other}
use Rattle.xrf_trace.specs.Runs.{IsRun}
use Rattle.xrf_trace.specs.ThroughByProof.{may_sign_on}
use Rattle.xrf_progress.specs.Serving.{Serves}
use Rattle.xrf_progress.specs.InPlace.{start_of, IsGranted, StartsRestart, StartsAreAtOnce}
use Rattle.xrf_progress.proofs.Course.{ByItself, Ground}
use Rattle.xrf_progress.proofs.Reached.{of-own}
use Rattle.xrf_progress.proofs.Served.{All, served-all, sure-comes, sure-ends}
use Rattle.xrf_progress.proofs.SignOns.{IsFree, ToReserve}
use Rattle.xrf_progress.proofs.Standing.{Stands, InSignOn}

-- the ground of one that is started so: no TICK comes before its restart
abbrev ground_of : Scen → List Entry → Site → Ground
ground_of s t x = record {
  me = (control t).last + 1;
  way = ByItself;
  from = now t;
  late = 0;
  by = 0;
  one = sector1 (start_of s t x ∷ t) (other x);
  two = sector2 (start_of s t x ∷ t) (other x);
}

-- a record that grants is free
free-of : (level : Level) (t : List Entry) (c : ControlRecord) → may_sign_on level c (known_of t c) ≡ true → IsFree level (confirmed t) c
free-of level t c may =
    let parts = three (is_foreign level c.format) (owner_is c Running) (is_some c.owner) (confirmed t (inc_of_owner c.owner)) (is_some c.alt) (confirmed t (inc_of_alt c.alt)) may in
    record { known = parts.0; over = parts.1; gone = parts.2 }
  where
    three : (f r o k a g : Bool) → (not f && not (r && not (o && k)) && not (a && not (a && g))) ≡ true
        → (f ≡ false) × (r ≡ true → k ≡ true) × (a ≡ true → g ≡ true)
    three false false o k false g is = (refl, λ runs. absurd (cc), λ some. absurd (cc))
    three false false o k true true is = (refl, λ runs. absurd (cc), λ some. refl)
    three false true true true false g is = (refl, λ runs. refl, λ some. absurd (cc))
    three false true true true true true is = (refl, λ runs. refl, λ some. refl)
    three false false o k true false is = absurd (cc)
    three false true true true true false is = absurd (cc)
    three false true true false a g is = absurd (cc)
    three false true false k a g is = absurd (cc)
    three true r o k a g is = absurd (cc)

-- the job that is started
job-of : (s : Scen) (t : List Entry) (x : Site) → hist s (start_of s t x ∷ t) x ≡ Some (StartedActive ∷ [])
job-of s t x =
    ap (λ (b : Bool). elim b [ true ↦ after_own s t x (now t) act.StartActive land.Full (hist s t x) | false ↦ after_other act.StartActive (hist s t x) ]) (of-own x)

-- where it begins
begins-start : (s : Scen) (t : List Entry) (x : Site) → IsGranted s t x
    → Stands s (start_of s t x ∷ t) x (ground_of s t x) 0 true (5 * s.settings.log + s.settings.log / 64 + 13)
begins-start s t x may =
    InSignOn refl (StartedActive ∷ []) (job-of s t x) (free-of (settings s x).level t (control t) may) refl (omega arith)
    (ToReserve (record { active = refl; no_number = refl; no_owner = refl; no_off = refl; no_told = refl; no_drop = refl; fresh = refl }) refl)
    (omega arith)

-- all through a part that serves it
all-starts : (s : Scen) (t part : List Entry) (x : Site) → IsRun s (part ++ start_of s t x ∷ t) → IsGranted s t x → Serves s (start_of s t x ∷ t) x part
    → All s (start_of s t x ∷ t) part x (ground_of s t x) true (5 * s.settings.log + s.settings.log / 64 + 13)
all-starts s t part x is may served =
    served-all s (start_of s t x ∷ t) part x (ground_of s t x) true (5 * s.settings.log + s.settings.log / 64 + 13) is served
    (record { first = refl; second = refl; at = omega arith }) (begins-start s t x may)

-- **a start in place comes to its restart**
pub starts-restart : StartsRestart
starts-restart s t part x ranges is may served many =
    sure-ends s (start_of s t x ∷ t) part x (ground_of s t x) (5 * s.settings.log + s.settings.log / 64 + 13) ranges (omega (arith, many))
    (all-starts s t part x is may served)

-- **before the first TICK**
pub starts-are-at-once : StartsAreAtOnce
starts-are-at-once s t part x is may served late =
    sure-comes s (start_of s t x ∷ t) part x (ground_of s t x) (5 * s.settings.log + s.settings.log / 64 + 13) (omega (arith, late))
    (all-starts s t part x is may served)
