-- The acts at a boundary, by cases, once for all.
use Rattle.std.proofs.Common.{if◌then◌else◌, List, None, false, true, ◌≡◌, Some, ◌+◌, ◌%◌, Bool, nat_le, ℕ, [], ◌∷◌, Option, refl, not}
use Rattle.std.proofs.lemmas.Bool.{and_parts}
use Rattle.xrf_base.specs.declared.items.UnitId.{UnitId}
use Rattle.xrf_ctl.specs.declared.parts.Cause.{Cause}
use Rattle.xrf_ctl.specs.declared.parts.OwnerState.{OwnerState}
use Rattle.xrf_logrec.specs.declared.records.LogRec.{LogRec}
use Rattle.xrf_logrec.specs.declared.records.LogRec.TheVariants.{Backout}
use Rattle.xrf_logrec.specs.declared.records.Undo.{Undo}
use Rattle.xrf_exit.specs.declared.Notice.{Notice}
use Rattle.xrf_msg.specs.declared.messages.Message.{Message}
use Rattle.xrf_msg.specs.Messages.{number_of}
use Rattle.xrf_history.specs.declared.want.Want.{Want}
use Rattle.xrf_history.specs.Events.{Event}
use Rattle.xrf_history.specs.Reserving.{drop_due, sign_off_due, through_due, leaves, start_due}
use Rattle.xrf_history.specs.Holding.{is_owner, is_granted, is_restarted}
use Rattle.xrf_history.specs.Notices.{notice}
use Rattle.xrf_history.specs.declared.settings.Settings.{Settings}
use Rattle.xrf_history.specs.Taking.{is_draining}
use Rattle.xrf_history.specs.Sending.{may_write, message_due}
use Rattle.xrf_history.specs.Rows.{reading_due, reading_place, rounds, signal_of, log_write, backout_next, restart_next, undo_next, active_next, has_signalled, owner_works, round_due, alternate_tracks, alternate_next, alternate_row, alternate_starts, lines_issued, lines_left, owner_row, boundary}
use Rattle.xrf_history.specs.Restarting.{backouts_left, next_record, rows_left, scan}
use Rattle.xrf_history.specs.Working.{keypoint_due, next_keypoint}
use Rattle.xrf_history.proofs.Tests.{not-both}
use Rattle.xrf_history.specs.declared.want.EndWhy.{EndWhy}
use Rattle.xrf_history.specs.declared.want.Want.TheVariants as want
use Rattle.xrf_history.specs.declared.want.EndWhy.TheVariants as end

-- Kinds of acts: those that are not on messages, take no item and are not RESTARTED;
abbrev pub IsPlain : Want → Type 0
IsPlain (want.MsgRead k) = ⊥
IsPlain (want.MsgClose k) = ⊥
IsPlain (want.MsgBody k m) = ⊥
IsPlain (want.MsgOpen k m) = ⊥
IsPlain want.Item = ⊥
IsPlain want.Restarted = ⊥
IsPlain _ = Unit {0}

-- among them those on the log, the keypoints and the file;
abbrev pub IsCalm : Want → Type 0
IsCalm (want.LogRead b) = Unit {0}
IsCalm (want.LogLook k) = Unit {0}
IsCalm (want.LogClose k) = Unit {0}
IsCalm (want.LogBody k rec) = Unit {0}
IsCalm (want.LogOpen k rec) = Unit {0}
IsCalm (want.KpRead k) = Unit {0}
IsCalm (want.KpClose k) = Unit {0}
IsCalm (want.KpBody k keypoint) = Unit {0}
IsCalm (want.KpOpen k keypoint) = Unit {0}
IsCalm (want.FileRead k) = Unit {0}
IsCalm (want.FileWrite unit k value) = Unit {0}
IsCalm (want.Undo k before) = Unit {0}
IsCalm _ = ⊥

-- and those that wait, leave, or begin what is done under the reserve
abbrev pub IsIdle : Want → Type 0
IsIdle want.Nothing = Unit {0}
IsIdle (want.Exit told) = Unit {0}
IsIdle want.Reserve = Unit {0}
IsIdle (want.Clt k) = Unit {0}
IsIdle (want.Ended why) = Unit {0}
IsIdle _ = ⊥

-- an act on the log, the keypoints or the file is plain
pub calm-plain : (w : Want) → IsCalm w → IsPlain w
calm-plain (want.MsgRead k) calm = absurd calm
calm-plain (want.MsgClose k) calm = absurd calm
calm-plain (want.MsgBody k m) calm = absurd calm
calm-plain (want.MsgOpen k m) calm = absurd calm
calm-plain want.Item calm = absurd calm
calm-plain want.Restarted calm = absurd calm
calm-plain _ calm = tt

-- an act that waits, leaves or reserves is plain
pub idle-plain : (w : Want) → IsIdle w → IsPlain w
idle-plain (want.MsgRead k) idle = absurd idle
idle-plain (want.MsgClose k) idle = absurd idle
idle-plain (want.MsgBody k m) idle = absurd idle
idle-plain (want.MsgOpen k m) idle = absurd idle
idle-plain want.Item idle = absurd idle
idle-plain want.Restarted idle = absurd idle
idle-plain _ idle = tt

-- an owner at work: no sign-off, notice or drop is due
pub record Works (h : List Event) : Type 0 where
  pub owner : is_owner h ≡ true
  pub no_sign_off : sign_off_due h ≡ None
  pub no_notice : notice h ≡ None
  pub no_drop : drop_due h ≡ false

-- what is said of an act, for each at a boundary
pub record Cases (p : Settings) (h : List Event) (P : Want → Type 0) : Type 0 where
  pub idle : (w : Want) → IsIdle w → P w
  pub calm : (w : Want) → IsCalm w → Works h → P w
  pub signals : is_granted h ≡ true → (is_owner h ≡ true → Works h) → P (want.Signal1 (signal_of h (rounds h + 1)))
  pub reads : is_owner h ≡ false → reading_due h ≡ true → P (want.MsgRead (reading_place p h))
  pub drains : Works h → is_draining h ≡ true → P (want.MsgRead (reading_place p h))
  pub restarts : Works h → is_draining h ≡ false → is_restarted h ≡ false → P want.Restarted
  pub sends : Works h → is_draining h ≡ false → is_restarted h ≡ true → (m : Message) → message_due p h ≡ Some m → may_write p h ≡ true
      → P (want.MsgRead (number_of m % p.limits.ring))
  pub works : Works h → is_draining h ≡ false → is_restarted h ≡ true → message_due p h ≡ None → P want.Item

-- a log record is written by a LOGLOOK or a LOGBODY
log_write-by : (P : Want → Type 0) (p : Settings) (place : ℕ) (rec : LogRec) → ((w : Want) → IsCalm w → P w) → P (log_write p place rec)
log_write-by P p place rec calm = by (nat_le p.limits.log place)
  where
    by : (b : Bool) → P (elim b [ true ↦ want.LogLook place | false ↦ want.LogBody place rec ])
    by true = calm (want.LogLook place) tt
    by false = calm (want.LogBody place rec) tt

-- the acts of a restart: calm ones and RESTARTED
restart-by : (P : Want → Type 0) (p : Settings) (h : List Event) → ((w : Want) → IsCalm w → P w) → P want.Restarted → P (restart_next p h)
restart-by P p h calm restarts = by (scan p h).ended
  where
    backouts : (units : List UnitId) → P (backout_next p h units)
    backouts [] = restarts
    backouts (unit ∷ units) = log_write-by P p (next_record p h) (Backout unit) calm

    undos : (rows : List Undo) → P (undo_next p h rows)
    undos [] = backouts (backouts_left p h)
    undos (row ∷ rows) = calm (want.Undo row.rrn row.before) tt

    by : (b : Bool) → P (elim b [ false ↦ want.LogRead (scan p h).block | true ↦ undo_next p h (rows_left p h) ])
    by false = calm (want.LogRead (scan p h).block) tt
    by true = undos (rows_left p h)

-- the acts of a restarted owner: a message, a keypoint or an item
active-by : (P : Want → Type 0) (p : Settings) (h : List Event) → Works h → is_draining h ≡ false → is_restarted h ≡ true → Cases p h P
    → P (active_next p h (message_due p h))
active-by P p h works not_draining restarted cases = by (message_due p h) refl
  where
    keypoint : message_due p h ≡ None → (b : Bool) → P (elim b [ true ↦ want.KpRead ((next_keypoint p h).number % 2) | false ↦ want.Item ])
    keypoint none true = cases.calm (want.KpRead ((next_keypoint p h).number % 2)) tt works
    keypoint none false = cases.works works not_draining restarted none

    sends : (m : Message) → message_due p h ≡ Some m → (b : Bool) → may_write p h ≡ b
        → P (elim b [ true ↦ want.MsgRead (number_of m % p.limits.ring) | false ↦ want.Nothing ])
    sends m due true may = cases.sends works not_draining restarted m due may
    sends m due false may = cases.idle want.Nothing tt

    by : (due : Option Message) → message_due p h ≡ due → P (active_next p h due)
    by None none = keypoint none (keypoint_due p h)
    by (Some m) some = sends m some (may_write p h) refl

-- the acts of an owner with no sign-off and no notice
works-by : (P : Want → Type 0) (p : Settings) (h : List Event) → is_owner h ≡ true → sign_off_due h ≡ None → notice h ≡ None → Cases p h P → P (owner_works p h)
works-by P p h owner no_sign_off no_notice cases = drop (drop_due h) refl
  where
    restarted : Works h → is_draining h ≡ false → (b : Bool) → is_restarted h ≡ b
        → P (if b then active_next p h (message_due p h) else restart_next p h)
    restarted works not_draining false is = restart-by P p h (λ w calm. cases.calm w calm works) (cases.restarts works not_draining is)
    restarted works not_draining true is = active-by P p h works not_draining is cases

    draining : Works h → (b : Bool) → is_draining h ≡ b
        → P (if b then want.MsgRead (reading_place p h) else (if is_restarted h then active_next p h (message_due p h) else restart_next p h))
    draining works true is = cases.drains works is
    draining works false is = restarted works is (is_restarted h) refl

    round : Works h → (b : Bool) → round_due h ≡ b
        → P (if b then want.Signal1 (signal_of h (rounds h + 1))
        else (if is_draining h then want.MsgRead (reading_place p h) else (if is_restarted h then active_next p h (message_due p h) else restart_next p h)))
    round works true due = cases.signals (and_parts (is_granted h) (not (has_signalled h)) due).0 (λ _. works)
    round works false due = draining works (is_draining h) refl

    drop : (b : Bool) → drop_due h ≡ b
        → P (if b then want.Reserve else (if round_due h then want.Signal1 (signal_of h (rounds h + 1))
        else (if is_draining h then want.MsgRead (reading_place p h) else (if is_restarted h then active_next p h (message_due p h) else restart_next p h))))
    drop true is = cases.idle want.Reserve tt
    drop false is = round (record { owner = owner; no_sign_off = no_sign_off; no_notice = no_notice; no_drop = is }) (round_due h) refl

-- the acts of an alternate that does not leave and does not start
tracks-by : (P : Want → Type 0) (p : Settings) (h : List Event) → is_owner h ≡ false → Cases p h P → P (alternate_tracks p h)
tracks-by P p h alternate cases = through (through_due h)
  where
    reading : (b : Bool) → reading_due h ≡ b → P (if b then want.MsgRead (reading_place p h) else want.Nothing)
    reading true is = cases.reads alternate is
    reading false is = cases.idle want.Nothing tt

    round : (b : Bool) → round_due h ≡ b
        → P (if b then want.Signal1 (signal_of h (rounds h + 1)) else (if reading_due h then want.MsgRead (reading_place p h) else want.Nothing))
    round true due = cases.signals (and_parts (is_granted h) (not (has_signalled h)) due).0 (λ owner. absurd (not-both (is_owner h) owner alternate))
    round false due = reading (reading_due h) refl

    through : (b : Bool)
        → P (if b then want.Reserve
        else (if round_due h then want.Signal1 (signal_of h (rounds h + 1)) else (if reading_due h then want.MsgRead (reading_place p h) else want.Nothing)))
    through true = cases.idle want.Reserve tt
    through false = round (round_due h) refl

-- the acts of an alternate
alternate-by : (P : Want → Type 0) (p : Settings) (h : List Event) → is_owner h ≡ false → Cases p h P → P (alternate_next p h)
alternate-by P p h alternate cases = lines (lines_left p h)
  where
    starts : (cause : Option Cause) → P (alternate_starts p h cause)
    starts (Some cause) = cases.idle want.Reserve tt
    starts None = tracks-by P p h alternate cases

    leaving : (reason : Option EndWhy) → P (alternate_row p h reason)
    leaving None = starts (start_due h)
    leaving (Some end.Dropped) = cases.idle (want.Ended end.Dropped) tt
    leaving (Some _) = cases.idle want.Reserve tt

    lines : (b : Bool) → P (if b then want.Clt (lines_issued h + 1) else alternate_row p h (leaves h))
    lines true = cases.idle (want.Clt (lines_issued h + 1)) tt
    lines false = leaving (leaves h)

-- the acts of an owner
owner-by : (P : Want → Type 0) (p : Settings) (h : List Event) → is_owner h ≡ true → Cases p h P → P (owner_row p h (sign_off_due h) (notice h))
owner-by P p h owner cases = by (sign_off_due h) (notice h) refl refl
  where
    by : (state : Option OwnerState) (told : Option Notice) → sign_off_due h ≡ state → notice h ≡ told → P (owner_row p h state told)
    by (Some state) told is is_told = cases.idle want.Reserve tt
    by None (Some told) is is_told = cases.idle (want.Exit told) tt
    by None None is is_told = works-by P p h owner is is_told cases

-- what is said of each case holds of the act at a boundary
pub boundary-by : (P : Want → Type 0) (p : Settings) (h : List Event) → Cases p h P → P (boundary p h)
boundary-by P p h cases = by (is_owner h) refl
  where
    by : (b : Bool) → is_owner h ≡ b → P (if b then owner_row p h (sign_off_due h) (notice h) else alternate_next p h)
    by true is = owner-by P p h is cases
    by false is = alternate-by P p h is cases
