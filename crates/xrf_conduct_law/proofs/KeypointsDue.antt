-- The acts on the keypoints: each comes where a keypoint is due, and what is written is the one that is due.
use Rattle.std.proofs.Common.{◌≡◌, ℕ, ◌+◌, ◌%◌, ◌==◌, Bool, true, false, List, [], ◌∷◌, Option, Some, None, refl, subst, arith, nat_le, if◌then◌else◌}
use Rattle.std.proofs.lemmas.Grind.{common_steps}
use Rattle.xrf_base.specs.declared.items.UnitId.{UnitId}
use Rattle.xrf_ctl.specs.declared.parts.OwnerState.{OwnerState}
use Rattle.xrf_exit.specs.declared.Notice.{Notice}
use Rattle.xrf_gated.specs.declared.gated.TheConstants.{OPEN}
use Rattle.xrf_logrec.specs.declared.records.LogRec.{LogRec}
use Rattle.xrf_logrec.specs.declared.records.LogRec.TheVariants.{Backout}
use Rattle.xrf_logrec.specs.declared.records.Undo.{Undo}
use Rattle.xrf_logrec.specs.declared.keypoints.Keypoint.{Keypoint}
use Rattle.xrf_msg.specs.declared.messages.Message.{Message}
use Rattle.xrf_msg.specs.Messages.{number_of}
use Rattle.xrf_history.specs.declared.settings.Settings.{Settings}
use Rattle.xrf_history.specs.declared.want.Want.{Want}
use Rattle.xrf_history.specs.declared.want.Want.TheVariants as want
use Rattle.xrf_history.specs.Events.{Event, StartedActive, StartedStandby, Ticked, Abended, Replied, Commanded, Exited, MessageRead, MessageClosed, LogLooked, LogClosed, LogOpened, KeyLooked, KeyClosed, KeyBodied, RecordRead, RecordUndone, Given, ControlRead, Released, EndedAs}
use Rattle.xrf_history.specs.Holding.{is_owner, is_restarted}
use Rattle.xrf_history.specs.Notices.{notice}
use Rattle.xrf_history.specs.Reserving.{sign_off_due, drop_due}
use Rattle.xrf_history.specs.Taking.{is_draining}
use Rattle.xrf_history.specs.Restarting.{scan, rows_left, backouts_left, next_record}
use Rattle.xrf_history.specs.Sending.{may_write, message_due}
use Rattle.xrf_history.specs.Working.{keypoint_due, next_keypoint}
use Rattle.xrf_history.specs.Rows.{boundary, owner_row, owner_works, alternate_next, active_next, restart_next, undo_next, backout_next, log_write, round_due, reading_place, rounds, signal_of}
use Rattle.xrf_history.specs.Next.{inside, next, or_boundary}
use Rattle.xrf_history.proofs.Histories.{IsHistory, Comes, induct}

-- what is due of an act on the keypoints
abbrev pub KeyDue : (due : Bool) → Keypoint → Want → Type 0
KeyDue due keypoint (want.KpRead k) = due ≡ true
KeyDue due keypoint (want.KpClose k) = due ≡ true
KeyDue due keypoint (want.KpBody k written) = (due ≡ true) × (written ≡ keypoint)
KeyDue due keypoint (want.KpOpen k written) = (due ≡ true) × (written ≡ keypoint)
KeyDue due keypoint _ = Unit {0}

-- the acts on the keypoints
abbrev pub is_key : Want → Bool
is_key (want.KpRead k) = true
is_key (want.KpClose k) = true
is_key (want.KpBody k keypoint) = true
is_key (want.KpOpen k keypoint) = true
is_key _ = false

-- such an act is there
abbrev is_key_of : Option Want → Bool
is_key_of None = false
is_key_of (Some w) = is_key w

-- of other acts nothing is said
plain-due : (due : Bool) (keypoint : Keypoint) (w : Want) → is_key w ≡ false → KeyDue due keypoint w
plain-due due keypoint (want.KpRead k) plain = absurd (cc)
plain-due due keypoint (want.KpClose k) plain = absurd (cc)
plain-due due keypoint (want.KpBody k written) plain = absurd (cc)
plain-due due keypoint (want.KpOpen k written) plain = absurd (cc)
plain-due due keypoint _ plain = tt

-- what is due of the act that is due inside the sequence
abbrev InsideDue : Bool → Keypoint → Option Want → Type 0
InsideDue due keypoint None = Unit {0}
InsideDue due keypoint (Some w) = KeyDue due keypoint w

-- of none on the keypoints nothing is said
plain-inside : (due : Bool) (keypoint : Keypoint) (o : Option Want) → is_key_of o ≡ false → InsideDue due keypoint o
plain-inside due keypoint None plain = tt
plain-inside due keypoint (Some w) plain = plain-due due keypoint w plain

-- the acts at a boundary: a KPREAD where a keypoint is due, and no other on the keypoints
record-row : (p : Settings) (h : List Event) (place : ℕ) (rec : LogRec) → is_key (log_write p place rec) ≡ false
record-row p h place rec = by (nat_le p.limits.log place)
  where
    by : (b : Bool) → is_key (elim b [ true ↦ want.LogLook place | false ↦ want.LogBody place rec ]) ≡ false
    by true = refl
    by false = refl

-- none in a restart
restart-row : (p : Settings) (h : List Event) → is_key (restart_next p h) ≡ false
restart-row p h = by (scan p h).ended
  where
    backouts : (units : List UnitId) → is_key (backout_next p h units) ≡ false
    backouts [] = refl
    backouts (unit ∷ units) = record-row p h (next_record p h) (Backout unit)

    undos : (rows : List Undo) → is_key (undo_next p h rows) ≡ false
    undos [] = backouts (backouts_left p h)
    undos (row ∷ rows) = refl

    by : (b : Bool) → is_key (elim b [ false ↦ want.LogRead (scan p h).block | true ↦ undo_next p h (rows_left p h) ]) ≡ false
    by false = refl
    by true = undos (rows_left p h)

-- what is said of the act at a boundary
abbrev AtRow : (due : Bool) → Want → Type 0
AtRow due (want.KpRead k) = due ≡ true
AtRow due w = is_key w ≡ false

-- so it is of an act that is none of them
plain-row : (due : Bool) (w : Want) → is_key w ≡ false → AtRow due w
plain-row due (want.KpRead k) plain = absurd (cc)
plain-row due (want.KpClose k) plain = plain
plain-row due (want.KpBody k keypoint) plain = plain
plain-row due (want.KpOpen k keypoint) plain = plain
plain-row due _ plain = refl

-- a restarted owner
active-row : (p : Settings) (h : List Event) (o : Option Message) → AtRow (keypoint_due p h) (active_next p h o)
active-row p h None = by (keypoint_due p h)
  where
    by : (b : Bool) → AtRow b (elim b [ true ↦ want.KpRead ((next_keypoint p h).number % 2) | false ↦ want.Item ])
    by true = refl
    by false = refl
active-row p h (Some m) = by (may_write p h)
  where
    by : (b : Bool) → AtRow (keypoint_due p h) (elim b [ true ↦ want.MsgRead (number_of m % p.limits.ring) | false ↦ want.Nothing ])
    by true = refl
    by false = refl

-- an owner with no sign-off and no notice
works-row : (p : Settings) (h : List Event) → AtRow (keypoint_due p h) (owner_works p h)
works-row p h = by (drop_due h) (round_due h) (is_draining h) (is_restarted h)
  where
    by : (drop due drains restarted : Bool)
        → AtRow (keypoint_due p h) (if drop then want.Reserve else (if due then want.Signal1 (signal_of h (rounds h + 1))
        else (if drains then want.MsgRead (reading_place p h) else (if restarted then active_next p h (message_due p h) else restart_next p h))))
    by true due drains restarted = refl
    by false true drains restarted = refl
    by false false true restarted = refl
    by false false false true = active-row p h (message_due p h)
    by false false false false = plain-row (keypoint_due p h) (restart_next p h) (restart-row p h)

-- an alternate
alternate-row : (p : Settings) (h : List Event) → is_key (alternate_next p h) ≡ false
alternate-row p h = grind (arith, common_steps)

-- each job
boundary-row : (p : Settings) (h : List Event) → AtRow (keypoint_due p h) (boundary p h)
boundary-row p h = by (is_owner h)
  where
    owner : (state : Option OwnerState) (told : Option Notice) → AtRow (keypoint_due p h) (owner_row p h state told)
    owner (Some state) told = refl
    owner None (Some told) = refl
    owner None None = works-row p h

    by : (b : Bool) → AtRow (keypoint_due p h) (if b then owner_row p h (sign_off_due h) (notice h) else alternate_next p h)
    by true = owner (sign_off_due h) (notice h)
    by false = plain-row (keypoint_due p h) (alternate_next p h) (alternate-row p h)

-- of the act at a boundary
row-due : (due : Bool) (keypoint : Keypoint) (w : Want) → AtRow due w → KeyDue due keypoint w
row-due due keypoint (want.KpRead k) at = at
row-due due keypoint (want.KpClose k) at = absurd (cc)
row-due due keypoint (want.KpBody k written) at = absurd (cc)
row-due due keypoint (want.KpOpen k written) at = absurd (cc)
row-due due keypoint _ at = tt

-- so it is of the next act
next-due : (p : Settings) (h : List Event) (w : Want) → InsideDue (keypoint_due p h) (next_keypoint p h) (inside p h) → next p h ≡ w
    → KeyDue (keypoint_due p h) (next_keypoint p h) w
next-due p h w at is = by (inside p h) at is
  where
    by : (o : Option Want) → InsideDue (keypoint_due p h) (next_keypoint p h) o → or_boundary p h o ≡ w → KeyDue (keypoint_due p h) (next_keypoint p h) w
    by None at is =
        subst (KeyDue (keypoint_due p h) (next_keypoint p h)) is (row-due (keypoint_due p h) (next_keypoint p h) (boundary p h) (boundary-row p h))
    by (Some v) at is = subst (KeyDue (keypoint_due p h) (next_keypoint p h)) is at

-- of a history
abbrev AreDue : Settings → List Event → Type 0
AreDue p h = InsideDue (keypoint_due p h) (next_keypoint p h) (inside p h)

-- after a look at the gate
gate-due : (due : Bool) (keypoint : Keypoint) (b : Bool) (k : ℕ) → due ≡ true
    → KeyDue due keypoint (elim b [ true ↦ want.KpClose k | false ↦ want.KpBody k keypoint ])
gate-due due keypoint true k is = is
gate-due due keypoint false k is = (is, refl)

-- the events after which an act on the keypoints may be due inside a sequence
abbrev is_key_event : Event → Bool
is_key_event Ticked = true
is_key_event Abended = true
is_key_event (Replied go n) = true
is_key_event (Commanded command n) = true
is_key_event (Exited answer n) = true
is_key_event (KeyLooked k gate) = true
is_key_event (KeyClosed k) = true
is_key_event (KeyBodied k keypoint) = true
is_key_event _ = false

-- after any other none is
no-key : (p : Settings) (h : List Event) (e : Event) → is_key_event e ≡ false → is_key_of (inside p (e ∷ h)) ≡ false
no-key p h Ticked plain = absurd (cc)
no-key p h Abended plain = absurd (cc)
no-key p h (Replied go n) plain = absurd (cc)
no-key p h (Commanded command n) plain = absurd (cc)
no-key p h (Exited answer n) plain = absurd (cc)
no-key p h (KeyLooked k gate) plain = absurd (cc)
no-key p h (KeyClosed k) plain = absurd (cc)
no-key p h (KeyBodied k keypoint) plain = absurd (cc)
no-key p h (MessageRead k slot) plain = grind (arith, common_steps)
no-key p h (MessageClosed k) plain = grind (arith, common_steps)
no-key p h (LogLooked k gate) plain = grind (arith, common_steps)
no-key p h (LogClosed k) plain = grind (arith, common_steps)
no-key p h (LogOpened k rec) plain = grind (arith, common_steps)
no-key p h (RecordRead k slot) plain = grind (arith, common_steps)
no-key p h (RecordUndone k before) plain = grind (arith, common_steps)
no-key p h (Given item) plain = grind (arith, common_steps)
no-key p h (ControlRead held known) plain = grind (arith, common_steps)
no-key p h Released plain = grind (arith, common_steps)
no-key p h _ plain = refl

-- each event keeps it
due-step : (p : Settings) (h : List Event) (e : Event) → IsHistory p h → Comes p h e → AreDue p h → AreDue p (e ∷ h)
due-step p h StartedActive is comes at = absurd comes
due-step p h StartedStandby is comes at = absurd comes
due-step p h Ticked is comes at = at
due-step p h Abended is comes at = at
due-step p h (Replied go n) is comes at = at
due-step p h (Commanded command n) is comes at = at
due-step p h (Exited answer n) is comes at = at
due-step p h (KeyLooked k gate) is comes at = gate-due (keypoint_due p h) (next_keypoint p h) (gate == OPEN) k (next-due p h (want.KpRead k) at comes)
due-step p h (KeyClosed k) is comes at = (next-due p h (want.KpClose k) at comes, refl)
due-step p h (KeyBodied k keypoint) is comes at = next-due p h (want.KpBody k keypoint) at comes
due-step p h (EndedAs reason) is comes at = absurd comes
due-step p h e is comes at =
    plain-inside (keypoint_due p (e ∷ h)) (next_keypoint p (e ∷ h)) (inside p (e ∷ h)) (no-key p h e refl)

-- **an act on the keypoints comes where a keypoint is due, and writes the one that is due**
pub keypoints-due : (p : Settings) (h : List Event) (w : Want) → IsHistory p h → next p h ≡ w → KeyDue (keypoint_due p h) (next_keypoint p h) w
keypoints-due p h w is told = next-due p h w (induct AreDue (λ p. tt) (λ p. tt) due-step p h is) told
