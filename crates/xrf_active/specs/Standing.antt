-- When a job stands for a history: an equation for each of its fields, and what it rests on.
use Rattle.std.specs.Prelude.{◌≡◌, ℕ, ◌+◌, ◌<◌, ◌≤◌, Bool, true, false, List, [], ◌∷◌, length, drop, Option, Some, None}
use Rattle.xrf_base.specs.declared.items.UnitId.{UnitId}
use Rattle.xrf_msg.specs.declared.messages.Message.{Message}
use Rattle.xrf_log.specs.Flight.{flight}
use Rattle.xrf_log.specs.Scan.{anchor_of}
use Rattle.xrf_history.specs.declared.settings.Settings.{Settings}
use Rattle.xrf_history.specs.declared.want.Want.TheVariants as want
use Rattle.xrf_history.specs.Events.{Event, FirstBlockRead, KeyOpened, ActFailed}
use Rattle.xrf_history.specs.Holding.{is_granted, is_owner, is_restarted, starts_active}
use Rattle.xrf_history.specs.Taking.{is_draining}
use Rattle.xrf_history.specs.Reserving.{SignOnActive, purpose, sign_off_due, drop_due, leaves, open_decision}
use Rattle.xrf_history.specs.Notices.{notice, epoch}
use Rattle.xrf_history.specs.Terminals.{table}
use Rattle.xrf_history.specs.Restarting.{scan, undone, has_backout, backouts_left, records_opened, last_keypoint}
use Rattle.xrf_history.specs.Working.{ledger, last_plan, undone_of_item}
use Rattle.xrf_history.specs.Sending.{sent, cursor, is_end_sent, message_of_change}
use Rattle.xrf_history.specs.Rows.{reading_due}
use Rattle.xrf_job.specs.Rooms.{AreFor}
use Rattle.xrf_job.specs.Sharing.{Shares}
use Rattle.xrf_active.specs.declared.sending.Sending.{Sending}
use Rattle.xrf_active.specs.declared.active.Active.{Active}

-- The messages of the epoch, by what a history knows of them. That of a change counts once End is sent.
abbrev pub SendsTo : Option Sending → (now : Option ℕ) → (count heard : ℕ) → (over : Bool) → (change : ℕ → Option Message) → Type 0
SendsTo None now count heard over change = now ≡ None
SendsTo (Some s) now count heard over change =
    (now ≡ Some s.writer.epoch)
    × (s.writer.seq ≡ count)
    × (s.writer.cursor ≡ heard)
    × (s.has_ended ≡ over)
    × (over ≡ true → s.change ≡ change s.writer.epoch)

abbrev pub Sends : Settings → Option Sending → List Event → Type 0
Sends p sending h = SendsTo sending (epoch h) (sent h) (cursor h) (is_end_sent h) (λ n. message_of_change p n (sent h) h)

-- the keypoints of a history have small numbers
abbrev pub AreSmall : List Event → Type 0
AreSmall [] = Unit {0}
AreSmall (FirstBlockRead block keys ∷ h) = ((anchor_of keys).number < 16384) × ((anchor_of keys).start < 16384) × AreSmall h
AreSmall (KeyOpened place keypoint ∷ h) = (keypoint.number ≤ 16385 + length h) × AreSmall h
AreSmall (ActFailed (want.KpOpen place keypoint) at ∷ h) = (keypoint.number ≤ 16385 + length h) × AreSmall h
AreSmall (_ ∷ h) = AreSmall h

pub record Stands (job : Active) (h : List Event) : Type 0 where
  pub shared : Shares job.common job.settings h
  pub rooms : AreFor job.rooms job.settings.limits
  -- it is an owner once it is granted, and before that it signs on as active
  pub owns : is_owner h ≡ is_granted h
  pub starts : is_granted h ≡ false → starts_active h ≡ true
  pub signs_on : is_granted h ≡ false → purpose h ≡ SignOnActive
  pub stays : is_granted h ≡ false → leaves h ≡ None
  pub decides : is_granted h ≡ false → open_decision h ≡ None
  pub reads : is_granted h ≡ false → reading_due h ≡ false
  -- what is due
  pub signs_off : job.sign_off ≡ sign_off_due h
  pub tells : job.notice ≡ notice h
  pub drops : job.must_drop ≡ drop_due h
  pub drains : job.is_draining ≡ is_draining h
  pub sends : Sends job.settings job.sending h
  -- the restart
  pub terminals : job.rooms.table ≡ table job.settings h
  pub takes : job.rooms.scan ≡ scan job.settings h
  pub scanned : job.has_scanned ≡ (scan job.settings h).ended
  pub restarted : job.has_restarted ≡ is_restarted h
  pub undoes : job.undone ≡ undone h
  pub opens : job.opened ≡ records_opened h
  pub keypoint : job.keypoint ≡ last_keypoint job.settings h
  pub small : AreSmall h
  pub none_backed_out : (scan job.settings h).ended ≡ false → (unit : UnitId) → has_backout unit h ≡ false
  pub none_opened : (scan job.settings h).ended ≡ false → records_opened h ≡ 0
  pub anchored : is_restarted h ≡ false → last_keypoint job.settings h ≡ (scan job.settings h).anchor
  pub backs_out : is_restarted h ≡ false → backouts_left job.settings h ≡ drop (records_opened h) (flight (scan job.settings h).records)
  -- the work after it
  pub has_scanned : is_restarted h ≡ true → (scan job.settings h).ended ≡ true
  pub has_drained : is_restarted h ≡ true → is_draining h ≡ false
  pub units : is_restarted h ≡ true → job.rooms.units ≡ ledger job.settings h
  pub keys : is_restarted h ≡ true → (ledger job.settings h).start ≡ (last_keypoint job.settings h).start
  pub plans : job.plan ≡ last_plan job.settings h
  pub rolls : job.rolled ≡ undone_of_item h
