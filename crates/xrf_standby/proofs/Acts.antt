-- The acts that an alternate makes.
use Rattle.std.proofs.Common.{◌≡◌, Bool, true, false, List, [], ◌∷◌, Option, Some, None, refl, ap, sym, subst}
use Rattle.std.specs.Prelude.{if◌then◌else◌}
use Rattle.xrf_ctl.specs.Control.{ControlRecord}
use Rattle.xrf_ctl.specs.declared.parts.Cause.{Cause}
use Rattle.xrf_history.specs.declared.settings.Settings.{Settings}
use Rattle.xrf_history.specs.declared.want.Want.{Want}
use Rattle.xrf_history.specs.declared.want.Want.TheVariants as want
use Rattle.xrf_history.specs.declared.want.EndWhy.{EndWhy}
use Rattle.xrf_history.specs.declared.want.EndWhy.TheVariants as end
use Rattle.xrf_history.specs.Events.{Event, StartedStandby, Ticked, Abended, Replied, Commanded, Exited, ControlRead, Released, MessageRead, MessageClosed, MessageBodied, LogLooked, LogClosed, LogBodied, LogOpened, KeyLooked, KeyClosed, KeyBodied, RecordRead, RecordUndone, Given}
use Rattle.xrf_msg.specs.declared.messages.Message.{Message}
use Rattle.xrf_history.specs.Holding.{is_owner, is_restarted}
use Rattle.xrf_history.specs.Reserving.{leaves, start_due, through_due}
use Rattle.xrf_history.specs.Rows.{boundary, lines_left, alternate_row, alternate_starts, alternate_tracks, round_due, reading_due}
use Rattle.xrf_history.specs.Next.{inside, next, or_boundary, write_next, end_next, record_for, end_for, message_at_hand, after_message_read}
use Rattle.xrf_job.specs.declared.stage.Stage.{Stage}
use Rattle.xrf_job.specs.Stages.{inside_of}
use Rattle.xrf_active.specs.Promoting.{IsOfAlternate, WasAlternate}
use Rattle.xrf_active.proofs.Alternates.{not_restarted}

-- the acts of an alternate
abbrev pub is_act : Want → Bool
is_act want.Nothing = true
is_act want.Reserve = true
is_act want.CtlRead = true
is_act (want.CtlWrite written) = true
is_act want.Release = true
is_act (want.Signal1 signal) = true
is_act (want.Signal2 signal) = true
is_act want.Look1 = true
is_act want.Look2 = true
is_act want.Decide = true
is_act (want.MsgRead place) = true
is_act (want.Clt line) = true
is_act (want.Ended reason) = true
is_act _ = false

-- such an act, or none
abbrev pub is_act_of : Option Want → Bool
is_act_of None = true
is_act_of (Some act) = is_act act

write-act : (written : Option ControlRecord) → is_act (write_next written) ≡ true
write-act None = refl
write-act (Some written) = refl

end-act : (reason : Option EndWhy) → is_act_of (end_next reason) ≡ true
end-act None = refl
end-act (Some reason) = refl

-- no message is at hand before RESTARTED
none-at-hand : (p : Settings) (h : List Event) → is_restarted h ≡ false → message_at_hand p h ≡ None
none-at-hand p h running = rw (message_at_hand, running) refl

-- inside a sequence
inside-step : (p : Settings) (h : List Event) (e : Event) → IsOfAlternate e → WasAlternate h → is_act_of (inside p h) ≡ true → is_act_of (inside p (e ∷ h)) ≡ true
inside-step p h Ticked is was act = act
inside-step p h (Replied go at) is was act = act
inside-step p h (Commanded command at) is was act = act
inside-step p h (ControlRead held known) is was act = write-act (record_for p (ControlRead held known ∷ h))
inside-step p h Released is was act = end-act (end_for p h)
inside-step p h (MessageRead place slot) is was act = subst (λ (m : Option Message). is_act_of (after_message_read place slot m) ≡ true) (sym (none-at-hand p h (not_restarted h was))) refl
inside-step p h Abended is was act = absurd is
inside-step p h (Exited said at) is was act = absurd is
inside-step p h (MessageClosed place) is was act = absurd is
inside-step p h (MessageBodied place message) is was act = absurd is
inside-step p h (LogLooked place gate) is was act = absurd is
inside-step p h (LogClosed place) is was act = absurd is
inside-step p h (LogBodied place rec) is was act = absurd is
inside-step p h (LogOpened place rec) is was act = absurd is
inside-step p h (KeyLooked place gate) is was act = absurd is
inside-step p h (KeyClosed place) is was act = absurd is
inside-step p h (KeyBodied place keypoint) is was act = absurd is
inside-step p h (RecordRead rrn slot) is was act = absurd is
inside-step p h (RecordUndone rrn before) is was act = absurd is
inside-step p h (Given item) is was act = absurd is
inside-step p h _ is was act = refl

pub inside_act : (p : Settings) (h : List Event) → WasAlternate h → is_act_of (inside p h) ≡ true
inside_act p [] was = absurd was
inside_act p (StartedStandby ∷ h) was = refl
inside_act p (e ∷ h) was = inside-step p h e was.0 was.2 (inside_act p h was.2)

-- at a boundary
if-act : (b : Bool) (act other : Want) → is_act act ≡ true → is_act other ≡ true → is_act (if b then act else other) ≡ true
if-act true act other is is_other = is
if-act false act other is is_other = is_other

tracks-act : (p : Settings) (h : List Event) → is_act (alternate_tracks p h) ≡ true
tracks-act p h = if-act (through_due h) _ _ refl (if-act (round_due h) _ _ refl (if-act (reading_due h) _ _ refl refl))

starts-act : (p : Settings) (h : List Event) (cause : Option Cause) → is_act (alternate_starts p h cause) ≡ true
starts-act p h (Some cause) = refl
starts-act p h None = tracks-act p h

row-act : (p : Settings) (h : List Event) (reason : Option EndWhy) → is_act (alternate_row p h reason) ≡ true
row-act p h (Some end.Dropped) = refl
row-act p h (Some reason) = refl
row-act p h None = starts-act p h (start_due h)

if-alternate : (b : Bool) (act other : Want) → b ≡ false → is_act other ≡ true → is_act (if b then act else other) ≡ true
if-alternate true act other alt is = absurd (cc)
if-alternate false act other alt is = is

boundary-act : (p : Settings) (h : List Event) → is_owner h ≡ false → is_act (boundary p h) ≡ true
boundary-act p h alt = if-alternate (is_owner h) _ _ alt (if-act (lines_left p h) _ _ refl (row-act p h (leaves h)))

pub next_act : (p : Settings) (h : List Event) → WasAlternate h → is_owner h ≡ false → is_act (next p h) ≡ true
next_act p h was alt = by (inside p h) (inside_act p h was)
  where
    by : (o : Option Want) → is_act_of o ≡ true → is_act (or_boundary p h o) ≡ true
    by None act = boundary-act p h alt
    by (Some w) act = act

-- it is at no stage of an owner's act
pub no-stage : (p : Settings) (h : List Event) (x y : Stage) → x ≡ y → inside_of x ≡ inside p h → WasAlternate h → is_act_of (inside_of y) ≡ false → ⊥
no-stage p h x y same stage was none = cc (ap (λ (z : Stage). is_act_of (inside_of z)) same, ap is_act_of stage, inside_act p h was, none)
