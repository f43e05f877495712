-- What holds of a job at work, after each of its acts.
use Rattle.std.proofs.Common.{List, Option, refl, ℕ, IfSome, None, Some, true, ◌≡◌, nat_le, ◌==◌, [], ◌∷◌}
use Rattle.xrf_base.specs.declared.items.UnitId.{UnitId}
use Rattle.xrf_gated.specs.declared.gated.TheConstants.{OPEN}
use Rattle.xrf_logrec.specs.declared.records.LogRec.{LogRec}
use Rattle.xrf_logrec.specs.declared.records.LogRec.TheVariants.{Put, Backout, Commit}
use Rattle.xrf_logrec.specs.declared.records.Undo.{Undo}
use Rattle.xrf_file.specs.declared.answers.Plan.{Plan}
use Rattle.xrf_file.specs.declared.rows.OpenUnit.{OpenUnit}
use Rattle.xrf_history.specs.declared.want.Want.{Want}
use Rattle.xrf_history.specs.Events.{Event}
use Rattle.xrf_history.specs.declared.settings.Settings.{Settings}
use Rattle.xrf_history.specs.Working.{keypoint_due, rolled_left}
use Rattle.xrf_history.specs.Rows.{boundary, log_write}
use Rattle.xrf_history.specs.Holding.{is_restarted}
use Rattle.xrf_history.specs.Next.{after_log_look, after_log_close, after_file_read, roll_next, after_item}
use Rattle.xrf_log_law.specs.AtWork.{Last, LastAt, NamedAt, LastIn, NamedIn, PlanNamed, IsOpenUnit}
use Rattle.xrf_log_law.specs.State.{View}
use Rattle.xrf_log_law.proofs.LastValues.{last-roll}
use Rattle.xrf_log_law.specs.Jobs.{Idle}
use Rattle.xrf_log_law.proofs.Tests.{choose, no-clash}
use Rattle.xrf_log_law.proofs.Boundaries.{boundary-data}
use Rattle.xrf_file.specs.declared.answers.Plan.TheVariants as plans
use Rattle.xrf_history.specs.declared.want.Want.TheVariants as want

-- all the last values hold but where some are named
pub last-any : (first : ℕ → Option (List ℕ)) (v : View) (plan : Plan) (w : Want) → Last first v → LastAt first v plan w
last-any first v plan (want.LogLook place) last = last-roll first v plan last
last-any first v plan (want.LogClose place) last = last-roll first v plan last
last-any first v plan (want.LogBody place rec) last = last-roll first v plan last
last-any first v plan (want.LogOpen place rec) last = last-roll first v plan last
last-any first v plan (want.Undo rrn own) last = last-roll first v plan last
last-any first v plan (want.FileWrite unit rrn value) last = λ u r put e. last u r put refl
last-any first v plan _ last = last

-- an idle act needs nothing
idle-last : (first : ℕ → Option (List ℕ)) (v : View) (units : List OpenUnit) (plan : Plan) (w : Want) → Idle w → Last first v
    → LastAt first v plan w × NamedAt units plan w
idle-last first v units plan (want.LogRead b) idle last = absurd (cc)
idle-last first v units plan (want.LogLook place) idle last = absurd (cc)
idle-last first v units plan (want.LogClose place) idle last = absurd (cc)
idle-last first v units plan (want.LogBody place rec) idle last = absurd (cc)
idle-last first v units plan (want.LogOpen place rec) idle last = absurd (cc)
idle-last first v units plan (want.KpRead k) idle last = absurd (cc)
idle-last first v units plan (want.KpClose k) idle last = absurd (cc)
idle-last first v units plan (want.KpBody k keypoint) idle last = absurd (cc)
idle-last first v units plan (want.KpOpen k keypoint) idle last = absurd (cc)
idle-last first v units plan (want.FileRead rrn) idle last = absurd (cc)
idle-last first v units plan (want.FileWrite unit rrn value) idle last = absurd (cc)
idle-last first v units plan (want.Undo rrn own) idle last = absurd (cc)
idle-last first v units plan want.Item idle last = absurd (cc)
idle-last first v units plan want.Restarted idle last = absurd (cc)
idle-last first v units plan _ idle last = (last, tt)

-- also inside a sequence
pub idle-in : (first : ℕ → Option (List ℕ)) (v : View) (units : List OpenUnit) (plan : Plan) (o : Option Want) → IfSome o Idle → Last first v
    → LastIn first v plan o × NamedIn units plan o
idle-in first v units plan None idle last = (last, tt)
idle-in first v units plan (Some w) idle last = idle-last first v units plan w idle last

-- nor does it carry out a plan
idle-named : (units : List OpenUnit) (plan : Plan) (w : Want) → Idle w → NamedAt units plan w
idle-named units plan (want.LogLook place) idle = absurd (cc)
idle-named units plan (want.LogClose place) idle = absurd (cc)
idle-named units plan (want.LogBody place rec) idle = absurd (cc)
idle-named units plan (want.LogOpen place rec) idle = absurd (cc)
idle-named units plan (want.FileRead rrn) idle = absurd (cc)
idle-named units plan (want.Undo rrn own) idle = absurd (cc)
idle-named units plan _ idle = tt

-- at a boundary of a job at work no plan is carried out
pub boundary-named : (units : List OpenUnit) (plan : Plan) (p : Settings) (h : List Event) → is_restarted h ≡ true → NamedAt units plan (boundary p h)
boundary-named units plan p h restarted = boundary-data p h (NamedAt units plan) (record {
  idle = λ w idle. idle-named units plan w idle;
  restarts = λ owner none going. no-clash (is_restarted h) restarted going;
  works = λ owner none working. choose (NamedAt units plan) (keypoint_due p h) _ _ (λ e. tt) (λ e. tt);
})

-- a plan is carried on
pub log_write-named : (units : List OpenUnit) (plan : Plan) (p : Settings) (place : ℕ) (rec : LogRec) → PlanNamed units plan
    → NamedAt units plan (log_write p place rec)
log_write-named units plan p place rec named = choose (NamedAt units plan) (nat_le p.limits.log place) _ _ (λ e. named) (λ e. named)

-- after a LOGLOOK
pub look-named : (units : List OpenUnit) (plan : Plan) (place gate : ℕ) (o : Option LogRec) → PlanNamed units plan
    → NamedIn units plan (after_log_look place gate o)
look-named units plan place gate None named = tt
look-named units plan place gate (Some rec) named = choose (NamedAt units plan) (gate == OPEN) _ _ (λ e. named) (λ e. named)

-- after a LOGCLOSE
pub close-named : (units : List OpenUnit) (plan : Plan) (place : ℕ) (o : Option LogRec) → PlanNamed units plan → NamedIn units plan (after_log_close place o)
close-named units plan place None named = tt
close-named units plan place (Some rec) named = named

-- after a FILEREAD
pub read-named : (units : List OpenUnit) (p : Settings) (plan : Plan) (slot : List ℕ) → PlanNamed units plan → NamedIn units plan (after_file_read p slot plan)
read-named units p (plans.Put unit rrn value place) slot named = log_write-named units (plans.Put unit rrn value place) p place (Put unit rrn slot) named
read-named units p (plans.Answer a) slot named = tt
read-named units p (plans.Get k) slot named = tt
read-named units p (plans.Commit u place) slot named = tt
read-named units p (plans.Roll u place) slot named = tt

-- while a unit rolls
pub roll-named : (units : List OpenUnit) (p : Settings) (unit : UnitId) (place : ℕ) (rows : List Undo) → IsOpenUnit unit units
    → NamedAt units (plans.Roll unit place) (roll_next p unit place rows)
roll-named units p unit place [] named = log_write-named units (plans.Roll unit place) p place (Backout unit) named
roll-named units p unit place (row ∷ rows) named = named

-- after an ITEM
pub item-named : (units : List OpenUnit) (p : Settings) (h : List Event) (plan : Plan) → PlanNamed units plan → NamedIn units plan (after_item p h plan)
item-named units p h (plans.Answer a) named = tt
item-named units p h (plans.Get k) named = tt
item-named units p h (plans.Put u k value place) named = named
item-named units p h (plans.Commit u place) named = log_write-named units (plans.Commit u place) p place (Commit u) named
item-named units p h (plans.Roll u place) named = roll-named units p u place (rolled_left p u h) named
