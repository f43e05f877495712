-- The acts at a boundary, seen from the data sets: those of a restart, those of a job at work, and idle ones.
use Rattle.std.proofs.Common.{List, None, Option, Some, false, refl, true, ◌≡◌}
use Rattle.xrf_ctl.specs.declared.parts.Cause.{Cause}
use Rattle.xrf_ctl.specs.declared.parts.OwnerState.{OwnerState}
use Rattle.xrf_exit.specs.declared.Notice.{Notice}
use Rattle.xrf_msg.specs.declared.messages.Message.{Message}
use Rattle.xrf_history.specs.Events.{Event}
use Rattle.xrf_history.specs.declared.settings.Settings.{Settings}
use Rattle.xrf_history.specs.declared.want.EndWhy.{EndWhy}
use Rattle.xrf_history.specs.declared.want.Want.{Want}
use Rattle.xrf_history.specs.Holding.{is_owner, is_restarted}
use Rattle.xrf_history.specs.Notices.{notice}
use Rattle.xrf_history.specs.Reserving.{drop_due, leaves, sign_off_due, start_due, through_due}
use Rattle.xrf_history.specs.Rows.{active_next, alternate_next, alternate_row, alternate_starts, alternate_tracks, boundary, lines_left, owner_row, reading_due, restart_next, round_due, work_next}
use Rattle.xrf_history.specs.Sending.{may_write, message_due}
use Rattle.xrf_history.specs.Taking.{is_draining}
use Rattle.xrf_log_law.specs.Jobs.{Idle}
use Rattle.xrf_log_law.proofs.Tests.{choose, choose_if}
use Rattle.xrf_history.specs.declared.want.EndWhy.TheVariants as end
use Rattle.xrf_history.specs.declared.want.Want.TheVariants as want

-- an alternate that tracks is idle
tracks-idle : (p : Settings) (h : List Event) → Idle (alternate_tracks p h)
tracks-idle p h =
    choose_if Idle (through_due h) _ _ (λ e. refl) (λ e. choose_if Idle (round_due h) _ _ (λ e. refl)
    (λ e. choose_if Idle (reading_due h) _ _ (λ e. refl) (λ e. refl)))

-- one that starts its takeover is idle
starts-idle : (p : Settings) (h : List Event) (start : Option Cause) → Idle (alternate_starts p h start)
starts-idle p h (Some cause) = refl
starts-idle p h None = tracks-idle p h

-- one that leaves is idle
row-idle : (p : Settings) (h : List Event) (why : Option EndWhy) → Idle (alternate_row p h why)
row-idle p h None = starts-idle p h (start_due h)
row-idle p h (Some end.Dropped) = refl
row-idle p h (Some _) = refl

-- so each alternate is
alternate-idle : (p : Settings) (h : List Event) → Idle (alternate_next p h)
alternate-idle p h = choose_if Idle (lines_left p h) _ _ (λ e. refl) (λ e. row-idle p h (leaves h))

-- what is said of an act, for each at a boundary
pub record DataCases (p : Settings) (h : List Event) (fact : Want → Type 0) : Type 0 where
  pub idle : (w : Want) → Idle w → fact w
  pub restarts : is_owner h ≡ true → sign_off_due h ≡ None → is_restarted h ≡ false → fact (restart_next p h)
  pub works : is_owner h ≡ true → sign_off_due h ≡ None → is_restarted h ≡ true → fact (work_next p h)

-- holds of the act at the boundary
pub boundary-data : (p : Settings) (h : List Event) (fact : Want → Type 0) → DataCases p h fact → fact (boundary p h)
boundary-data p h fact cases =
    choose_if fact (is_owner h) _ _ (λ owner. row owner (sign_off_due h) refl (notice h)) (λ e. cases.idle (alternate_next p h) (alternate-idle p h))
  where
    active : is_owner h ≡ true → sign_off_due h ≡ None → is_restarted h ≡ true → (due : Option Message) → fact (active_next p h due)
    active owner none restarted (Some message) = choose fact (may_write p h) _ _ (λ e. cases.idle _ refl) (λ e. cases.idle want.Nothing refl)
    active owner none restarted None = cases.works owner none restarted

    row : is_owner h ≡ true → (off : Option OwnerState) → sign_off_due h ≡ off → (told : Option Notice) → fact (owner_row p h off told)
    row owner (Some state) is told = cases.idle want.Reserve refl
    row owner None none (Some told) = cases.idle (want.Exit told) refl
    row owner None none None =
        choose_if fact (drop_due h) _ _ (λ e. cases.idle want.Reserve refl)
        (λ e. choose_if fact (round_due h) _ _ (λ e. cases.idle _ refl)
        (λ e. choose_if fact (is_draining h) _ _ (λ e. cases.idle _ refl)
        (λ e. choose_if fact (is_restarted h) _ _ (λ restarted. active owner none restarted (message_due p h)) (λ going. cases.restarts owner none going))))
