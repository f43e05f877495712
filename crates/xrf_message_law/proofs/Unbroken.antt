-- After a failed MSGOPEN no more message of the epoch is made.
use Rattle.std.proofs.Common.{Bool, false, refl, true, ◌≡◌, ◌||◌, List, is_some, is_none, None, Option, ap, ℕ, Some, ◌∷◌, ◌&&◌, if◌then◌else◌, not, subst, ◌==◌}
use Rattle.xrf_base.specs.declared.site.Site.{Site}
use Rattle.xrf_ctl.specs.declared.parts.OwnerState.{OwnerState}
use Rattle.xrf_ctl.specs.declared.parts.OwnerState.TheVariants.{OffAbend}
use Rattle.xrf_ctl.specs.declared.parts.Taking.{Taking}
use Rattle.xrf_cavm.specs.declared.decisions.Decided.{Decided}
use Rattle.xrf_cavm.specs.declared.known.Known.{Known}
use Rattle.xrf_cavm.specs.declared.decisions.Decided.TheVariants.{Owner}
use Rattle.xrf_cavm.specs.declared.decisions.Acting.TheVariants as acting
use Rattle.xrf_gated.specs.declared.gated.TheConstants.{OPEN}
use Rattle.xrf_exit.specs.declared.Notice.{Notice}
use Rattle.xrf_exit.specs.declared.Notice.TheVariants.{AlternateLost, TakeoverSeen}
use Rattle.xrf_exit.specs.declared.ExitAnswer.{ExitAnswer}
use Rattle.xrf_exit.specs.declared.ExitAnswer.TheVariants as exit
use Rattle.xrf_msg.specs.declared.messages.Message.{Message}
use Rattle.xrf_msg.specs.Messages.{epoch_of}
use Rattle.xrf_history.specs.Events.{Event, ActFailed, DecisionMade, Exited, Released, Reserved, StartedActive, StartedStandby, Abended, Given, MessageRead, MessageClosed, BlockRead, Commanded, ControlRead, ControlWritten, EndedAs, FirstBlockRead, LineIssued, Looked1, Looked2, MessageBodied, MessageOpened, Replied, Signalled1, Signalled2, Ticked}
use Rattle.xrf_history.proofs.Tests.{or-left, or-right, or_else-some}
use Rattle.xrf_history.specs.Reserving.{sign_off_due, drop_due, purpose, or_else, state_by_item, SignOnActive, SignOnStandby, leaves, purpose_now, purpose_of_alternate, purpose_of_owner, start_due, record_read, fails_owner, is_on_message, fails_sending}
use Rattle.xrf_history.specs.Notices.{notice, epoch, is_drop}
use Rattle.xrf_history.proofs.Boundary.{Works, IsIdle, IsCalm, Cases, boundary-by}
use Rattle.xrf_history.specs.declared.want.Want.{Want}
use Rattle.xrf_history.specs.declared.settings.Settings.{Settings}
use Rattle.xrf_history.specs.Holding.{is_owner, is_granted, starts_active, is_restarted}
use Rattle.xrf_history.specs.Accepting.{exit_allowed}
use Rattle.xrf_history.proofs.Holding.{owner-granted}
use Rattle.xrf_history.specs.Taking.{is_draining}
use Rattle.xrf_history.specs.Next.{next, after_message_read, gate_of, or_boundary, after_message_close, message_at_hand}
use Rattle.xrf_history.specs.Rows.{boundary}
use Rattle.xrf_history.proofs.Inside.{IsQuiet, quiet-next, IsPassing, passing-inside, control-next, released-next}
use Rattle.xrf_history.specs.Sending.{message_due}
use Rattle.xrf_history.proofs.Histories.{IsHistory, Comes, induct}
use Rattle.xrf_history.specs.Answers.{may_fail}
use Rattle.xrf_history.specs.declared.want.Want.TheVariants as want
use Rattle.xrf_trace.specs.declared.entry.Entry.{Entry}
use Rattle.xrf_trace.proofs.Short.{IsShort}
use Rattle.xrf_trace.specs.Scenario.{Scen, settings}
use Rattle.xrf_trace.specs.Jobs.{hist}
use Rattle.xrf_trace.proofs.Paths.{history-at}
use Rattle.xrf_message_law.specs.Unbroken.{is_calm, is_level, is_okay, is_seen, UnbrokenAt}
use Rattle.xrf_message_law.specs.Listing.{is_unbroken}
use Rattle.xrf_message_law.proofs.Owner.{owns}
use Rattle.xrf_message_law.proofs.Alternates.{NoEpoch, no_epoch-step}
use Rattle.xrf_message_law.proofs.DueMessage.{due-is}
use Rattle.xrf_message_law.specs.Due.{DueAt, Sending, writes}
use Rattle.xrf_message_law.proofs.Due.{due-at}

-- of a disjunction whose right side is not met the left one is
only-left : (a b : Bool) → (a || b) ≡ true → b ≡ false → a ≡ true
only-left true b is gone = refl
only-left false true is gone = absurd (cc)
only-left false false is gone = absurd (cc)

-- neither of two tests that are not met is
both-gone : (a b : Bool) → a ≡ false → b ≡ false → (a || b) ≡ false
both-gone false false a b = refl
both-gone true x a b = absurd (cc)
both-gone false true a b = absurd (cc)

-- each of the four tests gives the next
level-calm : (h : List Event) → is_level h ≡ true → is_calm h ≡ true
level-calm h is = or-left (is_level h) (is_some (sign_off_due h)) is

-- a sign-off that is due will do
calm-okay : (h : List Event) → is_calm h ≡ true → is_okay h ≡ true
calm-okay h is = or-left (is_calm h) (drop_due h || is_seen (notice h)) is

-- so will no failed MSGOPEN
unbroken-level : (h : List Event) → is_unbroken h ≡ true → is_level h ≡ true
unbroken-level h is = or-left (is_unbroken h) (is_none (epoch h)) is

-- and no epoch
none-level : (h : List Event) → epoch h ≡ None → is_level h ≡ true
none-level h is = or-right (is_unbroken h) (is_none (epoch h)) (ap (λ (o : Option ℕ). is_none o) is)

-- an owner at work is calm, without a sign-off that is due
works-level : (h : List Event) → Works h → is_okay h ≡ true → is_level h ≡ true
works-level h works okay =
    only-left (is_level h) (is_some (sign_off_due h))
    (only-left (is_calm h) (drop_due h || is_seen (notice h)) okay (both-gone (drop_due h) (is_seen (notice h)) works.no_drop
    (ap (λ (o : Option Notice). is_seen o) works.no_notice)))
    (ap (λ (o : Option OwnerState). is_some o) works.no_sign_off)

-- what is known before an idle act
unbroken-idle : (h : List Event) (w : Want) → is_okay h ≡ true → IsIdle w → UnbrokenAt h w
unbroken-idle h want.Nothing okay idle = okay
unbroken-idle h (want.Exit told) okay idle = okay
unbroken-idle h want.Reserve okay idle = okay
unbroken-idle h (want.Clt k) okay idle = okay
unbroken-idle h (want.Ended why) okay idle = okay
unbroken-idle h _ okay idle = absurd idle

-- and before an act of a restart
unbroken-calm : (h : List Event) (w : Want) → is_calm h ≡ true → IsCalm w → UnbrokenAt h w
unbroken-calm h (want.LogRead b) is calm = is
unbroken-calm h (want.LogLook k) is calm = is
unbroken-calm h (want.LogClose k) is calm = is
unbroken-calm h (want.LogBody k rec) is calm = is
unbroken-calm h (want.LogOpen k rec) is calm = is
unbroken-calm h (want.KpRead k) is calm = is
unbroken-calm h (want.KpClose k) is calm = is
unbroken-calm h (want.KpBody k keypoint) is calm = is
unbroken-calm h (want.KpOpen k keypoint) is calm = is
unbroken-calm h (want.FileRead k) is calm = is
unbroken-calm h (want.FileWrite unit k value) is calm = is
unbroken-calm h (want.Undo k before) is calm = is
unbroken-calm h _ is calm = absurd calm

-- what is known at a boundary, row by row
unbroken-cases : (p : Settings) (h : List Event) → (is_owner h ≡ false → epoch h ≡ None) → is_okay h ≡ true → Cases p h (UnbrokenAt h)
unbroken-cases p h none okay = record {
  idle = λ w idle. unbroken-idle h w okay idle;
  calm = λ w calm works. unbroken-calm h w (level-calm h (works-level h works okay)) calm;
  signals = λ granted works. by (is_owner h) refl works;
  reads = λ alternate due. none-level h (none alternate);
  drains = λ works draining. works-level h works okay;
  restarts = λ works drained not_yet. level-calm h (works-level h works okay);
  sends = λ works drained restarted m due may. works-level h works okay;
  works = λ works drained restarted no_message. level-calm h (works-level h works okay);
}
  where
    by : (b : Bool) → is_owner h ≡ b → (is_owner h ≡ true → Works h) → is_calm h ≡ true
    by true owner works = level-calm h (works-level h (works owner) okay)
    by false alternate works = level-calm h (none-level h (none alternate))

-- what an event carries over
record Carries (h later : List Event) : Type 0 where
  unbroken : is_unbroken h ≡ true → is_unbroken later ≡ true
  level : is_level h ≡ true → is_level later ≡ true
  calm : is_calm h ≡ true → is_calm later ≡ true
  okay : is_okay h ≡ true → is_okay later ≡ true
  drop : is_drop (purpose h) ≡ true → is_drop (purpose later) ≡ true

-- a disjunction, part by part
either : (a b c d : Bool) → (a ≡ true → c ≡ true) → (b ≡ true → d ≡ true) → (a || b) ≡ true → (c || d) ≡ true
either true b c d l r is = or-left c d (l refl)
either false b c d l r is = or-right c d (r is)

-- what is known of a history is known of a later one
unbroken-on : (h later : List Event) (w : Want) → Carries h later → UnbrokenAt h w → UnbrokenAt later w
unbroken-on h later want.Nothing c is = c.okay is
unbroken-on h later (want.Exit told) c is = c.okay is
unbroken-on h later want.Reserve c is = c.okay is
unbroken-on h later (want.Clt k) c is = c.okay is
unbroken-on h later (want.Ended why) c is = c.okay is
unbroken-on h later want.CtlRead c is = either (is_okay h) (is_drop (purpose h)) (is_okay later) (is_drop (purpose later)) c.okay c.drop is
unbroken-on h later (want.CtlWrite written) c is = either (is_okay h) (is_drop (purpose h)) (is_okay later) (is_drop (purpose later)) c.okay c.drop is
unbroken-on h later want.Release c is = either (is_okay h) (is_drop (purpose h)) (is_okay later) (is_drop (purpose later)) c.okay c.drop is
unbroken-on h later (want.MsgRead k) c is = c.level is
unbroken-on h later (want.MsgClose k) c is = c.unbroken is
unbroken-on h later (want.MsgBody k m) c is = c.unbroken is
unbroken-on h later (want.MsgOpen k m) c is = c.unbroken is
unbroken-on h later _ c is = c.calm is

-- events that leave all of it but for a sign-off that may become due
abbrev IsUnrelated : Event → Type 0
IsUnrelated StartedActive = ⊥
IsUnrelated StartedStandby = ⊥
IsUnrelated Reserved = ⊥
IsUnrelated Released = ⊥
IsUnrelated (DecisionMade known at decision) = ⊥
IsUnrelated (Exited answer at) = ⊥
IsUnrelated (ActFailed w at) = ⊥
IsUnrelated _ = Unit {0}

-- a further sign-off leaves one due
more-due : (l d : Bool) (a b : Option OwnerState) → ((l || is_some a) || d) ≡ true → ((l || is_some (or_else a b)) || d) ≡ true
more-due l d a b is =
    either (l || is_some a) d (l || is_some (or_else a b)) d (λ one. either l (is_some a) l (is_some (or_else a b)) (λ i. i) (or_else-some a b) one) (λ i. i) is

-- the same of the calm test
more-calm : (l : Bool) (a b : Option OwnerState) → (l || is_some a) ≡ true → (l || is_some (or_else a b)) ≡ true
more-calm l a b is = either l (is_some a) l (is_some (or_else a b)) (λ i. i) (or_else-some a b) is

-- such an event carries all of it over
carries-on : (h : List Event) (e : Event) → IsUnrelated e → Carries h (e ∷ h)
carries-on h StartedActive is = absurd is
carries-on h StartedStandby is = absurd is
carries-on h Reserved is = absurd is
carries-on h Released is = absurd is
carries-on h (DecisionMade known at decision) is = absurd is
carries-on h (Exited answer at) is = absurd is
carries-on h (ActFailed w at) is = absurd is
carries-on h Abended is = record {
  unbroken = λ i. i;
  level = λ i. i;
  calm = more-calm (is_level h) (sign_off_due h) (Some OffAbend);
  okay = more-due (is_level h) (drop_due h || is_seen (notice h)) (sign_off_due h) (Some OffAbend);
  drop = λ i. i;
}
carries-on h (Given item) is = record {
  unbroken = λ i. i;
  level = λ i. i;
  calm = more-calm (is_level h) (sign_off_due h) (state_by_item item);
  okay = more-due (is_level h) (drop_due h || is_seen (notice h)) (sign_off_due h) (state_by_item item);
  drop = λ i. i;
}
carries-on h _ is = record { unbroken = λ i. i; level = λ i. i; calm = λ i. i; okay = λ i. i; drop = λ i. i }

-- an EXIT: upon a taking that is seen, it is ABEND alone
exit-okay : (h : List Event) (answer : ExitAnswer) (at : ℕ) → exit_allowed (notice h) answer ≡ true → is_okay h ≡ true → is_okay (Exited answer at ∷ h) ≡ true
exit-okay h exit.Abend at allowed okay =
    or-left (is_level h || is_some (or_else (sign_off_due h) (Some OffAbend))) (drop_due h || false)
    (or-right (is_level h) (is_some (or_else (sign_off_due h) (Some OffAbend))) (due (sign_off_due h)))
  where
    due : (o : Option OwnerState) → is_some (or_else o (Some OffAbend)) ≡ true
    due (Some state) = refl
    due None = refl
exit-okay h exit.Drop at allowed okay = or-right (is_calm h) (true || false) refl
exit-okay h exit.Keep at allowed okay =
    either (is_calm h) (drop_due h || is_seen (notice h)) (is_calm h) (drop_due h || false) (λ i. i)
    (λ i. either (drop_due h) (is_seen (notice h)) (drop_due h) false (λ j. j) (keep (notice h) allowed) i) okay
  where
    keep : (o : Option Notice) → exit_allowed o exit.Keep ≡ true → is_seen o ≡ true → false ≡ true
    keep (Some TakeoverSeen) allowed seen = allowed
    keep (Some AlternateLost) allowed seen = seen
    keep None allowed seen = seen

-- an EXIT leaves a sign-off due
exit-calm : (h : List Event) (answer : ExitAnswer) (at : ℕ) → is_calm h ≡ true → is_calm (Exited answer at ∷ h) ≡ true
exit-calm h exit.Abend at is = more-calm (is_level h) (sign_off_due h) (Some OffAbend) is
exit-calm h exit.Drop at is = is
exit-calm h exit.Keep at is = is

-- so an EXIT carries all of it over
carries-exit : (h : List Event) (answer : ExitAnswer) (at : ℕ) → exit_allowed (notice h) answer ≡ true → Carries h (Exited answer at ∷ h)
carries-exit h answer at allowed =
    record { unbroken = λ i. i; level = λ i. i; calm = exit-calm h answer at; okay = exit-okay h answer at allowed; drop = λ i. i }

-- a RESERVE: what is due then is a sign-off, or the drop
drop-now : (h : List Event) → is_granted h ≡ true → is_owner h ≡ true → sign_off_due h ≡ None → is_drop (purpose_now h) ≡ true
drop-now h granted owner none = by (is_granted h) (is_owner h) (sign_off_due h) granted owner none
  where
    by : (g o : Bool) (state : Option OwnerState) → g ≡ true → o ≡ true → state ≡ None
        → is_drop (elim g [
          | false ↦ elim (starts_active h) [ true ↦ SignOnActive | false ↦ SignOnStandby ]
          | true ↦ elim o
              [ true ↦ purpose_of_owner state | false ↦ purpose_of_alternate (leaves h) (start_due h) ]
        ]) ≡ true
    by true true None is owns gone = refl
    by true true (Some state) is owns gone = absurd (cc)
    by true false state is owns gone = absurd (cc)
    by false o state is owns gone = absurd (cc)

-- so at the CTLREAD a drop is what was reserved for, or nothing is
reserved-unbroken : (h : List Event) → (is_owner h ≡ false → epoch h ≡ None) → (is_okay (Reserved ∷ h) || is_drop (purpose_now h)) ≡ true
reserved-unbroken h none = by (is_owner h) (sign_off_due h) refl refl
  where
    calm : is_calm h ≡ true → (is_okay (Reserved ∷ h) || is_drop (purpose_now h)) ≡ true
    calm is = or-left (is_okay (Reserved ∷ h)) (is_drop (purpose_now h)) (or-left (is_calm h) (false || is_seen (notice h)) is)

    by : (o : Bool) (state : Option OwnerState) → is_owner h ≡ o → sign_off_due h ≡ state → (is_okay (Reserved ∷ h) || is_drop (purpose_now h)) ≡ true
    by false state alternate is = calm (level-calm h (none-level h (none alternate)))
    by true (Some state) owner is = calm (or-right (is_level h) (is_some (sign_off_due h)) (ap (λ (o : Option OwnerState). is_some o) is))
    by true None owner is = or-right (is_okay (Reserved ∷ h)) (is_drop (purpose_now h)) (drop-now h (owner-granted h owner) owner is)

-- a RELEASE: a drop is made, or has read a taking
released-unbroken : (h : List Event) → (is_okay h || is_drop (purpose h)) ≡ true → is_okay (Released ∷ h) ≡ true
released-unbroken h was = by (is_drop (purpose h)) (record_read h).taking refl
  where
    by : (d : Bool) (taking : Option Taking) → is_drop (purpose h) ≡ d
        → (((is_unbroken h || is_none (if d && is_none taking then None else epoch h)) || is_some (sign_off_due h)) ||
        (drop_due h || is_seen (if d && is_some taking then Some TakeoverSeen else notice h))) ≡ true
    by true None drops =
        or-left ((is_unbroken h || true) || is_some (sign_off_due h)) (drop_due h || is_seen (notice h))
        (or-left (is_unbroken h || true) (is_some (sign_off_due h)) (or-right (is_unbroken h) true refl))
    by true (Some taking) drops =
        or-right ((is_unbroken h || is_none (epoch h)) || is_some (sign_off_due h)) (drop_due h || true) (or-right (drop_due h) true refl)
    by false taking drops = only-left (is_okay h) (is_drop (purpose h)) was drops

-- a DECIDE
decided-unbroken : (h : List Event) (known : Known) (at : ℕ) (d : Decided) → is_calm h ≡ true → is_okay (DecisionMade known at d ∷ h) ≡ true
decided-unbroken h known at (Owner (acting.CatchUp n)) is = refl
decided-unbroken h known at (Owner acting.Forget) is =
    or-left ((is_unbroken h || true) || is_some (sign_off_due h)) (drop_due h || is_seen (notice h))
    (or-left (is_unbroken h || true) (is_some (sign_off_due h)) (or-right (is_unbroken h) true refl))
decided-unbroken h known at (Owner acting.Seen) is = or-left (is_calm h) (drop_due h || true) is
decided-unbroken h known at (Owner acting.Lost) is = or-left (is_calm h) (drop_due h || false) is
decided-unbroken h known at (Owner acting.Nothing) is = or-left (is_calm h) (drop_due h || is_seen (notice h)) is
decided-unbroken h known at _ is = or-left (is_calm h) (drop_due h || is_seen (notice h)) is

-- a failed act
abbrev IsNoOpening : Want → Type 0
IsNoOpening (want.MsgOpen k m) = ⊥
IsNoOpening _ = Unit {0}

-- a failed act that is no MSGOPEN leaves it so
failed-calm : (h : List Event) (w : Want) (at : ℕ) → IsNoOpening w → is_calm h ≡ true → is_okay (ActFailed w at ∷ h) ≡ true
failed-calm h (want.MsgOpen k m) at other is = absurd other
failed-calm h w at other is =
    or-left (is_level h || is_some (sign_off_due (ActFailed w at ∷ h))) (drop_due (ActFailed w at ∷ h) || is_seen (notice h))
    (more-calm (is_level h) (sign_off_due h) (if fails_owner (is_on_message w) h then Some OffAbend else None) is)

-- a failed MSGOPEN of an owner that is drained makes a drop due
failed-open : (h : List Event) (k : ℕ) (m : Message) (at : ℕ) → is_owner h ≡ true → is_draining h ≡ false → is_okay (ActFailed (want.MsgOpen k m) at ∷ h) ≡ true
failed-open h k m at owner drained =
    or-right (is_calm (ActFailed (want.MsgOpen k m) at ∷ h)) (drop_due (ActFailed (want.MsgOpen k m) at ∷ h) || is_seen (notice h))
    (or-left (drop_due (ActFailed (want.MsgOpen k m) at ∷ h)) (is_seen (notice h)) (or-right (drop_due h) (fails_sending true h)
    (sends (is_owner h) (is_draining h) owner drained)))
  where
    sends : (o d : Bool) → o ≡ true → d ≡ false → (o && true && not d) ≡ true
    sends true false o d = refl
    sends true true o d = absurd (cc)
    sends false d o e = absurd (cc)

-- both, of a history
pub record IsUnbroken (p : Settings) (h : List Event) : Type 0 where
  pub none : NoEpoch h
  pub unbroken : UnbrokenAt h (next p h)

-- what is known at a boundary
at-boundary : (p : Settings) (h : List Event) → NoEpoch h → is_okay h ≡ true → UnbrokenAt h (boundary p h)
at-boundary p h none okay = boundary-by (UnbrokenAt h) p h (unbroken-cases p h none okay)

-- an event that the boundary follows
quiet-unbroken : (p : Settings) (h : List Event) (e : Event) → IsQuiet e → NoEpoch (e ∷ h) → is_calm (e ∷ h) ≡ true → UnbrokenAt (e ∷ h) (next p (e ∷ h))
quiet-unbroken p h e is none calm =
    quiet-next (UnbrokenAt (e ∷ h)) p h e is (λ w c. unbroken-calm (e ∷ h) w calm c) (unbroken-cases p (e ∷ h) none (calm-okay (e ∷ h) calm))

-- at a boundary it is okay
okay-of : (h : List Event) (w : Want) → IsIdle w → UnbrokenAt h w → is_okay h ≡ true
okay-of h want.Nothing idle is = is
okay-of h (want.Exit told) idle is = is
okay-of h want.Reserve idle is = is
okay-of h (want.Clt k) idle is = is
okay-of h (want.Ended why) idle is = is
okay-of h _ idle is = absurd idle

-- and before an act of a restart
calm-of : (h : List Event) (w : Want) → IsCalm w → UnbrokenAt h w → is_okay h ≡ true
calm-of h (want.LogRead b) calm is = calm-okay h is
calm-of h (want.LogLook k) calm is = calm-okay h is
calm-of h (want.LogClose k) calm is = calm-okay h is
calm-of h (want.LogBody k rec) calm is = calm-okay h is
calm-of h (want.LogOpen k rec) calm is = calm-okay h is
calm-of h (want.KpRead k) calm is = calm-okay h is
calm-of h (want.KpClose k) calm is = calm-okay h is
calm-of h (want.KpBody k keypoint) calm is = calm-okay h is
calm-of h (want.KpOpen k keypoint) calm is = calm-okay h is
calm-of h (want.FileRead k) calm is = calm-okay h is
calm-of h (want.FileWrite unit k value) calm is = calm-okay h is
calm-of h (want.Undo k before) calm is = calm-okay h is
calm-of h _ calm is = absurd calm

-- and at any boundary
boundary-okay : (p : Settings) (h : List Event) → UnbrokenAt h (boundary p h) → is_okay h ≡ true
boundary-okay p h = boundary-by (λ w. UnbrokenAt h w → is_okay h ≡ true) p h (record {
  idle = λ w idle. okay-of h w idle;
  calm = λ w calm works. calm-of h w calm;
  signals = λ granted works is. calm-okay h is;
  reads = λ alternate due is. calm-okay h (level-calm h is);
  drains = λ works draining is. calm-okay h (level-calm h is);
  restarts = λ works drained not_yet is. calm-okay h is;
  sends = λ works drained restarted m due may is. calm-okay h (level-calm h is);
  works = λ works drained restarted none is. calm-okay h is;
})

-- an event that may come inside a sequence
passing-unbroken : (p : Settings) (h : List Event) (e : Event) → IsPassing e → Carries h (e ∷ h) → NoEpoch (e ∷ h) → UnbrokenAt h (next p h)
    → UnbrokenAt (e ∷ h) (next p (e ∷ h))
passing-unbroken p h e is carries none before =
    passing-inside (UnbrokenAt (e ∷ h)) p h e is (λ w now inner. unbroken-on h (e ∷ h) w carries (subst (UnbrokenAt h) now before))
    (λ at. unbroken-cases p (e ∷ h) none (carries.okay (boundary-okay p h (subst (UnbrokenAt h) at before))))

-- whatever comes next, it is okay, but under the reserve
decided-calm : (h : List Event) (known : Known) (at : ℕ) (d : Decided) → is_calm h ≡ true → is_calm (DecisionMade known at d ∷ h) ≡ true
decided-calm h known at (Owner (acting.CatchUp n)) is = refl
decided-calm h known at (Owner acting.Forget) is = or-left (is_unbroken h || true) (is_some (sign_off_due h)) (or-right (is_unbroken h) true refl)
decided-calm h known at (Owner _) is = is
decided-calm h known at _ is = is

-- where there is an epoch no MSGOPEN of it failed
unbroken-epoch : (h : List Event) (n : ℕ) → is_level h ≡ true → epoch h ≡ Some n → is_unbroken h ≡ true
unbroken-epoch h n level is = only-left (is_unbroken h) (is_none (epoch h)) level (ap (λ (o : Option ℕ). is_none o) is)

-- a MSGREAD
read-unbroken : (p : Settings) (h : List Event) (k : ℕ) (slot : List ℕ) → NoEpoch h → is_level h ≡ true
    → UnbrokenAt (MessageRead k slot ∷ h) (next p (MessageRead k slot ∷ h))
read-unbroken p h k slot none level = by (is_restarted h)
  where
    later : List Event
    later = MessageRead k slot ∷ h

    gate : (m : Message) → is_unbroken h ≡ true → (b : Bool)
        → UnbrokenAt (MessageRead k slot ∷ h) (elim b [ true ↦ want.MsgClose k | false ↦ want.MsgBody k m ])
    gate m unbroken true = unbroken
    gate m unbroken false = unbroken

    sends : (o : Option Message) → message_due p h ≡ o
        → UnbrokenAt (MessageRead k slot ∷ h) (or_boundary p (MessageRead k slot ∷ h) (after_message_read k slot o))
    sends None due = at-boundary p (MessageRead k slot ∷ h) none (calm-okay (MessageRead k slot ∷ h) (level-calm h level))
    sends (Some m) due = gate m (unbroken-epoch h (epoch_of m) level (due-is p h m due).epoch_is) (gate_of slot == OPEN)

    by : (b : Bool)
        → UnbrokenAt (MessageRead k slot ∷ h) (or_boundary p (MessageRead k slot ∷ h)
        (after_message_read k slot (elim b [ true ↦ message_due p h | false ↦ None ])))
    by true = sends (message_due p h) refl
    by false = at-boundary p (MessageRead k slot ∷ h) none (calm-okay (MessageRead k slot ∷ h) (level-calm h level))

-- a CLOSE
closed-unbroken : (p : Settings) (h : List Event) (k : ℕ) → NoEpoch h → is_unbroken h ≡ true → UnbrokenAt (MessageClosed k ∷ h) (next p (MessageClosed k ∷ h))
closed-unbroken p h k none unbroken = by (message_at_hand p h)
  where
    by : (o : Option Message) → UnbrokenAt (MessageClosed k ∷ h) (or_boundary p (MessageClosed k ∷ h) (after_message_close k o))
    by None = at-boundary p (MessageClosed k ∷ h) none (calm-okay (MessageClosed k ∷ h) (level-calm h (unbroken-level h unbroken)))
    by (Some m) = unbroken

-- a failed act: of a message, which drops, or of another, at which it is calm
failed-unbroken : (p : Settings) (h : List Event) (w : Want) (at : ℕ) → IsHistory p h → next p h ≡ w → may_fail w ≡ true → UnbrokenAt h w
    → is_okay (ActFailed w at ∷ h) ≡ true
failed-unbroken p h (want.MsgOpen k m) at is told may of =
    let sending : Sending p h k m = subst (DueAt p h) told (due-at p h is).due in failed-open h k m at sending.stays.owner sending.drained
failed-unbroken p h w at is told may of = failed-calm h w at tt (calm w may of)
  where
    calm : (one : Want) → may_fail one ≡ true → UnbrokenAt h one → is_calm h ≡ true
    calm (want.MsgRead k) may of = level-calm h of
    calm (want.MsgClose k) may of = level-calm h (unbroken-level h of)
    calm (want.MsgBody k m) may of = level-calm h (unbroken-level h of)
    calm (want.MsgOpen k m) may of = level-calm h (unbroken-level h of)
    calm want.Nothing may of = absurd (cc)
    calm (want.Exit told) may of = absurd (cc)
    calm want.Reserve may of = absurd (cc)
    calm (want.Clt k) may of = absurd (cc)
    calm (want.Ended why) may of = absurd (cc)
    calm want.CtlRead may of = absurd (cc)
    calm (want.CtlWrite written) may of = absurd (cc)
    calm want.Release may of = absurd (cc)
    calm _ may of = of

-- an event that comes
unbroken-by : (p : Settings) (h : List Event) (e : Event) → IsHistory p h → Comes p h e → UnbrokenAt h (next p h) → NoEpoch h → NoEpoch (e ∷ h)
    → UnbrokenAt (e ∷ h) (next p (e ∷ h))
unbroken-by p h StartedActive is comes before was none = absurd comes
unbroken-by p h StartedStandby is comes before was none = absurd comes
unbroken-by p h Ticked is comes before was none = passing-unbroken p h Ticked tt (carries-on h Ticked tt) none before
unbroken-by p h Abended is comes before was none = passing-unbroken p h Abended tt (carries-on h Abended tt) none before
unbroken-by p h (Replied go at) is comes before was none = passing-unbroken p h (Replied go at) tt (carries-on h (Replied go at) tt) none before
unbroken-by p h (Commanded command at) is comes before was none =
    passing-unbroken p h (Commanded command at) tt (carries-on h (Commanded command at) tt) none before
unbroken-by p h (Exited said at) is comes before was none = passing-unbroken p h (Exited said at) tt (carries-exit h said at comes) none before
unbroken-by p h Reserved is comes before was none = reserved-unbroken h was
unbroken-by p h (ControlRead held known) is comes before was none =
    let of = subst (UnbrokenAt h) comes before in control-next (UnbrokenAt (ControlRead held known ∷ h)) p h held known (λ written. of) of
unbroken-by p h (ControlWritten written) is comes before was none = subst (UnbrokenAt h) comes before
unbroken-by p h Released is comes before was none =
    let of = subst (UnbrokenAt h) comes before in
    released-next (UnbrokenAt (Released ∷ h)) p h (λ why. released-unbroken h of) (unbroken-cases p (Released ∷ h) none (released-unbroken h of))
unbroken-by p h (Signalled1 signal) is comes before was none = subst (UnbrokenAt h) comes before
unbroken-by p h (Signalled2 signal) is comes before was none = subst (UnbrokenAt h) comes before
unbroken-by p h (Looked1 held signal) is comes before was none = subst (UnbrokenAt h) comes before
unbroken-by p h (Looked2 signal at) is comes before was none = subst (UnbrokenAt h) comes before
unbroken-by p h (DecisionMade known at d) is comes before was none =
    at-boundary p (DecisionMade known at d ∷ h) none (decided-unbroken h known at d (subst (UnbrokenAt h) comes.0 before))
unbroken-by p h (MessageRead k slot) is comes before was none = read-unbroken p h k slot was (subst (UnbrokenAt h) comes before)
unbroken-by p h (MessageClosed k) is comes before was none = closed-unbroken p h k was (subst (UnbrokenAt h) comes before)
unbroken-by p h (MessageBodied k m) is comes before was none = subst (UnbrokenAt h) comes before
unbroken-by p h (MessageOpened k m) is comes before was none =
    at-boundary p (MessageOpened k m ∷ h) none (calm-okay h (level-calm h (unbroken-level h (subst (UnbrokenAt h) comes before))))
unbroken-by p h (LineIssued k) is comes before was none = at-boundary p (LineIssued k ∷ h) none (subst (UnbrokenAt h) comes before)
unbroken-by p h (EndedAs why) is comes before was none = absurd comes
unbroken-by p h (Given item) is comes before was none =
    quiet-unbroken p h (Given item) tt none ((carries-on h (Given item) tt).calm (subst (UnbrokenAt h) comes before))
unbroken-by p h (FirstBlockRead block keys) is comes before was none =
    quiet-unbroken p h (FirstBlockRead block keys) tt none (subst (UnbrokenAt h) comes.1 before)
unbroken-by p h (BlockRead block) is comes before was none = quiet-unbroken p h (BlockRead block) tt none (subst (UnbrokenAt h) comes.1 before)
unbroken-by p h (ActFailed w at) is comes before was none =
    at-boundary p (ActFailed w at ∷ h) none (failed-unbroken p h w at is comes.0 comes.1 (subst (UnbrokenAt h) comes.0 before))
unbroken-by p h e is comes before was none = quiet-unbroken p h e tt none (subst (UnbrokenAt h) comes before)

-- so what is known is known after it
unbroken-step : (p : Settings) (h : List Event) (e : Event) → IsHistory p h → Comes p h e → IsUnbroken p h → IsUnbroken p (e ∷ h)
unbroken-step p h e is comes b =
    let none : NoEpoch (e ∷ h) = no_epoch-step p h e comes b.none in record { none = none; unbroken = unbroken-by p h e is comes b.unbroken b.none none }

-- **of every history**
pub unbroken-at : (p : Settings) (h : List Event) → IsHistory p h → IsUnbroken p h
unbroken-at p h is =
    induct IsUnbroken (λ p. record { none = λ alternate. refl; unbroken = refl })
    (λ p. record { none = λ alternate. refl; unbroken = refl }) unbroken-step p h is

-- a message is written only while no MSGOPEN of the epoch failed
unbroken-writes : (h : List Event) (w : Want) → writes w ≡ true → UnbrokenAt h w → is_unbroken h ≡ true
unbroken-writes h (want.MsgClose k) is unbroken = unbroken
unbroken-writes h (want.MsgBody k m) is unbroken = unbroken
unbroken-writes h (want.MsgOpen k m) is unbroken = unbroken
unbroken-writes h _ is unbroken = absurd (cc)

-- **in every run**
pub sends-unbroken : (s : Scen) (t : List Entry) → IsShort s t → (x : Site) (h : List Event) → hist s t x ≡ Some h
    → writes (next (settings s x) h) ≡ true → is_unbroken h ≡ true
sends-unbroken s t is x h there writing =
    unbroken-writes h (next (settings s x) h) writing (unbroken-at (settings s x) h (history-at s t x h is.run there)).unbroken
