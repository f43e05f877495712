-- An alternate has done no work of an owner.
use Rattle.std.proofs.Common.{◌≡◌, false, List, [], ◌∷◌, None, refl, arith}
use Rattle.std.proofs.lemmas.Grind.{common_steps}
use Rattle.xrf_base.specs.declared.items.UnitId.{UnitId}
use Rattle.xrf_base.specs.declared.items.ItemAnswer.TheVariants.{Done}
use Rattle.xrf_file.specs.declared.answers.Plan.TheVariants as plans
use Rattle.xrf_log.specs.Scan.{cleared}
use Rattle.xrf_cavm.specs.declared.decisions.Decided.TheVariants as decided
use Rattle.xrf_history.specs.declared.settings.Settings.{Settings}
use Rattle.xrf_history.specs.declared.want.Want.TheVariants as want
use Rattle.xrf_history.specs.Events.{Event, StartedActive, StartedStandby, Abended, Exited, Reserved, Released, DecisionMade, MessageRead, FirstBlockRead, BlockRead, LogOpened, KeyOpened, RecordUndone, Given, RestartDeclared, ActFailed}
use Rattle.xrf_history.specs.Holding.{is_owner, is_restarted, starts_active}
use Rattle.xrf_history.specs.Taking.{is_drained}
use Rattle.xrf_history.specs.Reserving.{purpose, purpose_now, sign_off_due, drop_due}
use Rattle.xrf_history.specs.Notices.{is_drop, notice, epoch}
use Rattle.xrf_history.specs.Restarting.{scan, undone, has_backout, records_opened, last_keypoint}
use Rattle.xrf_history.specs.Working.{last_plan, undone_of_item}
use Rattle.xrf_active.specs.Promoting.{IsOfAlternate, WasAlternate}
use Rattle.xrf_active.specs.Standing.{AreSmall}

-- It has begun none of what an owner tells, sends and ends by: it was started as standby, is not restarted, has drained
-- nothing, did not reserve for a drop, and has no sign-off, drop, notice or epoch.
abbrev TellsNothing : List Event → Type 0
TellsNothing h =
    (starts_active h ≡ false) × (is_restarted h ≡ false) × (is_drained h ≡ false) × (is_drop (purpose h) ≡ false)
    × (sign_off_due h ≡ None) × (drop_due h ≡ false) × (notice h ≡ None) × (epoch h ≡ None)

-- It has done nothing with the log and the file: no block is scanned, nothing undone, logged or planned.
abbrev LogsNothing : Settings → List Event → Type 0
LogsNothing p h =
    (scan p h ≡ cleared p.limits.log) × (undone h ≡ 0) × (records_opened h ≡ 0) × (last_keypoint p h ≡ (cleared p.limits.log).anchor)
    × AreSmall h × ((unit : UnitId) → has_backout unit h ≡ false) × (last_plan p h ≡ plans.Answer Done) × (undone_of_item h ≡ 0)

-- an alternate reserves for no drop
reserves-none : (h : List Event) → is_owner h ≡ false → is_drop (purpose_now h) ≡ false
reserves-none h alt = grind (arith, common_steps)

tells-step : (h : List Event) (e : Event) → IsOfAlternate e → is_owner h ≡ false → TellsNothing h → TellsNothing (e ∷ h)
tells-step h StartedActive is alt q = absurd is
tells-step h StartedStandby is alt q = absurd is
tells-step h Abended is alt q = absurd is
tells-step h (Exited said at) is alt q = absurd is
tells-step h (Given item) is alt q = absurd is
tells-step h RestartDeclared is alt q = absurd is
tells-step h Reserved is alt q = (q.0, q.1, q.2, reserves-none h alt, q.4, refl, q.6, q.7)
tells-step h Released is alt q = (q.0, q.1, q.2, q.3, q.4, q.5, rw q.3 q.6, rw q.3 q.7)
tells-step h (DecisionMade known at (decided.Owner acting)) is alt q = absurd is
tells-step h (DecisionMade known at _) is alt q = q
tells-step h (MessageRead place slot) is alt q = (q.0, q.1, rw (q.2, alt) refl, q.3, q.4, q.5, q.6, q.7)
tells-step h (ActFailed (want.MsgRead place) at) is alt q = (q.0, q.1, rw (q.2, alt) refl, q.3, rw (q.4, alt) refl, rw (q.5, alt) refl, q.6, q.7)
tells-step h (ActFailed _ at) is alt q = absurd is
tells-step h _ is alt q = q

pub tells_nothing : (h : List Event) → WasAlternate h → TellsNothing h
tells_nothing [] was = absurd was
tells_nothing (StartedStandby ∷ h) was = rw was (refl, refl, refl, refl, refl, refl, refl, refl)
tells_nothing (e ∷ h) was = tells-step h e was.0 was.1 (tells_nothing h was.2)

logs-step : (p : Settings) (h : List Event) (e : Event) → IsOfAlternate e → LogsNothing p h → LogsNothing p (e ∷ h)
logs-step p h (FirstBlockRead block keys) is q = absurd is
logs-step p h (BlockRead block) is q = absurd is
logs-step p h (LogOpened place rec) is q = absurd is
logs-step p h (KeyOpened place keypoint) is q = absurd is
logs-step p h (RecordUndone rrn before) is q = absurd is
logs-step p h (Given item) is q = absurd is
logs-step p h (ActFailed (want.MsgRead place) at) is q = q
logs-step p h (ActFailed _ at) is q = absurd is
logs-step p h _ is q = q

pub logs_nothing : (p : Settings) (h : List Event) → WasAlternate h → LogsNothing p h
logs_nothing p [] was = absurd was
logs_nothing p (StartedStandby ∷ h) was = rw was (refl, refl, refl, refl, tt, λ unit. refl, refl, refl)
logs_nothing p (e ∷ h) was = logs-step p h e was.0 (logs_nothing p h was.2)

-- so it was started as standby, has not restarted, and has no notice and no epoch
pub started_standby : (h : List Event) → WasAlternate h → starts_active h ≡ false
started_standby h was = (tells_nothing h was).0

pub not_restarted : (h : List Event) → WasAlternate h → is_restarted h ≡ false
not_restarted h was = (tells_nothing h was).1

pub no_notice : (h : List Event) → WasAlternate h → notice h ≡ None
no_notice h was = (tells_nothing h was).6

pub no_epoch : (h : List Event) → WasAlternate h → epoch h ≡ None
no_epoch h was = (tells_nothing h was).7
