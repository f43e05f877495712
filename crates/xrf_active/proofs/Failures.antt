-- What a failed act changes.
use Rattle.std.proofs.Common.{subst, ◌≡◌, ◌∙◌, sym, ap, refl, ℕ, Bool, true, false, ◌&&◌, ◌||◌, not, cond, List, [], ◌∷◌, filter, Option, Some, None}
use Rattle.std.specs.Prelude.{if◌then◌else◌, nat_le}
use Rattle.xrf_base.specs.declared.items.UnitId.{UnitId}
use Rattle.xrf_ctl.specs.declared.parts.OwnerState.{OwnerState}
use Rattle.xrf_ctl.specs.declared.parts.OwnerState.TheVariants.{OffAbend}
use Rattle.xrf_logrec.specs.declared.records.LogRec.{LogRec}
use Rattle.xrf_history.specs.declared.settings.Settings.{Settings}
use Rattle.xrf_history.specs.declared.want.Want.{Want}
use Rattle.xrf_history.specs.declared.want.Want.TheVariants as want
use Rattle.xrf_history.specs.Events.{Event, ActFailed}
use Rattle.xrf_history.specs.Holding.{is_owner}
use Rattle.xrf_history.specs.Taking.{is_drained, is_draining}
use Rattle.xrf_history.specs.Reserving.{or_else, is_on_message, fails_sending, fails_owner, sign_off_due, drop_due}
use Rattle.xrf_history.specs.Restarting.{scan, undone, has_backout, backouts_left, records_opened, last_keypoint}
use Rattle.xrf_history.specs.Working.{ledger, undone_of_item}
use Rattle.xrf_history.specs.Sending.{sent, is_end_sent, message_of_change}
use Rattle.xrf_log.specs.Flight.{flight}
use Rattle.xrf_active.specs.declared.sending.Sending.{Sending}
use Rattle.xrf_history.specs.Rows.{log_write}
use Rattle.xrf_active.specs.declared.active.Active.{Active}
use Rattle.xrf_active.specs.declared.due.Due.{Due}
use Rattle.xrf_active.specs.declared.due.Due.TheVariants as dues
use Rattle.xrf_active.specs.Dues.{act_of}
use Rattle.xrf_active.specs.Failing.{IsQuiet}
use Rattle.xrf_active.specs.Standing.{AreSmall, Sends, Stands}

either : (c : Bool) → cond c None (Some OffAbend) ≡ cond (not c) (Some OffAbend) None
either true = refl
either false = refl

state-bools : (o b d e : Bool) → o ≡ true → e ≡ d → cond (b && not e) None (Some OffAbend) ≡ cond (o && not (o && b && not d)) (Some OffAbend) None
state-bools true b d e owner same = ap (λ (x : Bool). cond (b && not x) None (Some OffAbend)) same ∙ either (b && not d)
state-bools false b d e owner same = absurd (cc)

drop-bools : (o b d e m n : Bool) → o ≡ true → e ≡ d → m ≡ n → (m || (b && not e)) ≡ (n || (o && b && not d))
drop-bools true b d e m n owner same due = ap (λ (x : Bool). m || (b && not x)) same ∙ ap (λ (x : Bool). x || (b && not d)) due
drop-bools false b d e m n owner same due = absurd (cc)

-- the sign-off, and the drop, that are due after it
pub sign_off-failed : (sign_off : Option OwnerState) (h : List Event) (b drains : Bool) → is_owner h ≡ true → drains ≡ is_draining h → sign_off ≡ sign_off_due h
    → or_else sign_off (if b && not drains then None else Some OffAbend) ≡ or_else (sign_off_due h) (if fails_owner b h then Some OffAbend else None)
sign_off-failed sign_off h b drains owner same due =
    ap (λ (x : Option OwnerState). or_else x (if b && not drains then None else Some OffAbend)) due ∙ ap (or_else (sign_off_due h)) (state-bools (is_owner h) b (is_draining h) drains owner same)

pub drop-failed : (must_drop : Bool) (h : List Event) (b drains : Bool) → is_owner h ≡ true → drains ≡ is_draining h → must_drop ≡ drop_due h
    → (must_drop || (b && not drains)) ≡ (drop_due h || fails_sending b h)
drop-failed must_drop h b drains owner same due = drop-bools (is_owner h) b (is_draining h) drains must_drop (drop_due h) owner same due

-- what counts no act that failed quietly
pub record Counts (tried : Want) (at : ℕ) (p : Settings) (h : List Event) : Type 0 where
  pub undoes : undone (ActFailed tried at ∷ h) ≡ undone h
  pub backs_out : (unit : UnitId) → has_backout unit (ActFailed tried at ∷ h) ≡ has_backout unit h
  pub opens : records_opened (ActFailed tried at ∷ h) ≡ records_opened h
  pub keys : last_keypoint p (ActFailed tried at ∷ h) ≡ last_keypoint p h
  pub units : ledger p (ActFailed tried at ∷ h) ≡ ledger p h
  pub rolls : undone_of_item (ActFailed tried at ∷ h) ≡ undone_of_item h
  pub drains : is_drained (ActFailed tried at ∷ h) ≡ is_drained h
  pub sends : sent (ActFailed tried at ∷ h) ≡ sent h
  pub ends : is_end_sent (ActFailed tried at ∷ h) ≡ is_end_sent h
  pub change : (n q : ℕ) → message_of_change p n q (ActFailed tried at ∷ h) ≡ message_of_change p n q h
  pub small : AreSmall h → AreSmall (ActFailed tried at ∷ h)

pub quiet-counts : (tried : Want) (b : Bool) (at : ℕ) (p : Settings) (h : List Event) → IsQuiet tried b → Counts tried at p h
quiet-counts (want.MsgClose place) b at p h is = record { undoes = refl; backs_out = λ unit. refl; opens = refl; keys = refl; units = refl; rolls = refl; drains = refl; sends = refl; ends = refl; change = λ n q. refl; small = λ s. s }
quiet-counts (want.MsgBody place message) b at p h is = record { undoes = refl; backs_out = λ unit. refl; opens = refl; keys = refl; units = refl; rolls = refl; drains = refl; sends = refl; ends = refl; change = λ n q. refl; small = λ s. s }
quiet-counts (want.LogRead block) b at p h is = record { undoes = refl; backs_out = λ unit. refl; opens = refl; keys = refl; units = refl; rolls = refl; drains = refl; sends = refl; ends = refl; change = λ n q. refl; small = λ s. s }
quiet-counts (want.LogLook place) b at p h is = record { undoes = refl; backs_out = λ unit. refl; opens = refl; keys = refl; units = refl; rolls = refl; drains = refl; sends = refl; ends = refl; change = λ n q. refl; small = λ s. s }
quiet-counts (want.LogClose place) b at p h is = record { undoes = refl; backs_out = λ unit. refl; opens = refl; keys = refl; units = refl; rolls = refl; drains = refl; sends = refl; ends = refl; change = λ n q. refl; small = λ s. s }
quiet-counts (want.LogBody place rec) b at p h is = record { undoes = refl; backs_out = λ unit. refl; opens = refl; keys = refl; units = refl; rolls = refl; drains = refl; sends = refl; ends = refl; change = λ n q. refl; small = λ s. s }
quiet-counts (want.KpRead place) b at p h is = record { undoes = refl; backs_out = λ unit. refl; opens = refl; keys = refl; units = refl; rolls = refl; drains = refl; sends = refl; ends = refl; change = λ n q. refl; small = λ s. s }
quiet-counts (want.KpClose place) b at p h is = record { undoes = refl; backs_out = λ unit. refl; opens = refl; keys = refl; units = refl; rolls = refl; drains = refl; sends = refl; ends = refl; change = λ n q. refl; small = λ s. s }
quiet-counts (want.KpBody place keypoint) b at p h is = record { undoes = refl; backs_out = λ unit. refl; opens = refl; keys = refl; units = refl; rolls = refl; drains = refl; sends = refl; ends = refl; change = λ n q. refl; small = λ s. s }
quiet-counts (want.FileRead rrn) b at p h is = record { undoes = refl; backs_out = λ unit. refl; opens = refl; keys = refl; units = refl; rolls = refl; drains = refl; sends = refl; ends = refl; change = λ n q. refl; small = λ s. s }
quiet-counts (want.FileWrite unit rrn value) b at p h is = record { undoes = refl; backs_out = λ unit. refl; opens = refl; keys = refl; units = refl; rolls = refl; drains = refl; sends = refl; ends = refl; change = λ n q. refl; small = λ s. s }
quiet-counts _ b at p h is = absurd is

-- and it is on a message slot or not
pub quiet-message : (tried : Want) (b : Bool) → IsQuiet tried b → b ≡ is_on_message tried
quiet-message (want.MsgClose place) b is = is
quiet-message (want.MsgBody place message) b is = is
quiet-message (want.LogRead block) b is = is
quiet-message (want.LogLook place) b is = is
quiet-message (want.LogClose place) b is = is
quiet-message (want.LogBody place rec) b is = is
quiet-message (want.KpRead place) b is = is
quiet-message (want.KpClose place) b is = is
quiet-message (want.KpBody place keypoint) b is = is
quiet-message (want.FileRead rrn) b is = is
quiet-message (want.FileWrite unit rrn value) b is = is
quiet-message _ b is = absurd is

pub sends-quiet : (p : Settings) (s : Option Sending) (tried : Want) (at : ℕ) (h : List Event) → Counts tried at p h → Sends p s h → Sends p s (ActFailed tried at ∷ h)
sends-quiet p None tried at h q sends = sends
sends-quiet p (Some s) tried at h q sends = (
  sends.0,
  sends.1 ∙ sym q.sends,
  sends.2,
  sends.3 ∙ sym q.ends,
  λ over. sends.4 (sym q.ends ∙ over) ∙ sym (ap (λ (n : ℕ). message_of_change p s.writer.epoch n (ActFailed tried at ∷ h)) q.sends ∙ q.change s.writer.epoch (sent h)),
)

pub left-quiet : (p : Settings) (tried : Want) (at : ℕ) (h : List Event) → Counts tried at p h → backouts_left p (ActFailed tried at ∷ h) ≡ backouts_left p h
left-quiet p tried at h q = by (flight (scan p h).records)
  where
    by : (units : List UnitId) → filter (λ unit. not (has_backout unit (ActFailed tried at ∷ h))) units ≡ filter (λ unit. not (has_backout unit h)) units
    by [] = refl
    by (unit ∷ units) = rw (q.backs_out unit) (ap (λ (l : List UnitId). cond (not (has_backout unit h)) (unit ∷ l) l) (by units))

-- the first act of a write of a log record is none that is counted
pub quiet-write : (p : Settings) (place : ℕ) (rec : LogRec) → IsQuiet (log_write p place rec) false
quiet-write p place rec = by (nat_le p.limits.log place)
  where
    by : (b : Bool) → IsQuiet (elim b [ true ↦ want.LogLook place | false ↦ want.LogBody place rec ]) false
    by true = refl
    by false = refl

abbrev pub is_backout : Due → Bool
is_backout (dues.Backout place rec) = true
is_backout _ = false

pub quiet-backout : (p : Settings) (due : Due) → is_backout due ≡ true → IsQuiet (act_of p due) false
quiet-backout p (dues.Backout place rec) is = quiet-write p place rec
quiet-backout p _ is = absurd (cc)

-- a job that stands after an act that failed stands after the same act
pub failed-act : (job : Active) (h : List Event) (at : ℕ) (tried act : Want) → tried ≡ act → Stands job (ActFailed tried at ∷ h) → Stands job (ActFailed act at ∷ h)
failed-act job h at tried act same stands = subst (λ (w : Want). Stands job (ActFailed w at ∷ h)) same stands
