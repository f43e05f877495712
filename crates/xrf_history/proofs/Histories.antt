-- The histories that a job can have: each event is one that may come next.
use Rattle.std.proofs.Common.{List, [], ◌∷◌, true, ◌≡◌, ℕ, Bool, false}
use Rattle.xrf_history.specs.Events.{Abended, ActFailed, BlockRead, Commanded, ControlRead, ControlWritten, DecisionMade, EndedAs, Event, Exited, FirstBlockRead, Given, KeyBodied, KeyClosed, KeyLooked, KeyOpened, LineIssued, LogBodied, LogClosed, LogLooked, LogOpened, Looked1, Looked2, MessageBodied, MessageClosed, MessageOpened, MessageRead, RecordRead, RecordUndone, RecordWritten, Released, Replied, Reserved, RestartDeclared, Signalled1, Signalled2, StartedActive, StartedStandby, Ticked}
use Rattle.xrf_history.specs.declared.settings.Settings.{Settings}
use Rattle.xrf_history.specs.Deciding.{cause}
use Rattle.xrf_history.specs.Accepting.{exit_allowed, may_abend, may_command, may_reply}
use Rattle.xrf_history.specs.Answers.{may_fail}
use Rattle.xrf_history.specs.Next.{next}
use Rattle.xrf_history.specs.Notices.{notice}
use Rattle.xrf_history.specs.declared.want.Want.TheVariants as want

-- an event that may come after a history: an act is the next one, a choice is accepted
abbrev pub Comes : Settings → List Event → Event → Type 0
Comes p h StartedActive = ⊥
Comes p h StartedStandby = ⊥
Comes p h Ticked = Unit {0}
Comes p h Abended = may_abend h ≡ true
Comes p h (Replied go at) = may_reply p h ≡ true
Comes p h (Commanded command at) = may_command h ≡ true
Comes p h (Exited answer at) = exit_allowed (notice h) answer ≡ true
Comes p h Reserved = next p h ≡ want.Reserve
Comes p h (ControlRead held known) = next p h ≡ want.CtlRead
Comes p h (ControlWritten written) = next p h ≡ want.CtlWrite written
Comes p h Released = next p h ≡ want.Release
Comes p h (Signalled1 signal) = next p h ≡ want.Signal1 signal
Comes p h (Signalled2 signal) = next p h ≡ want.Signal2 signal
Comes p h (Looked1 held signal) = next p h ≡ want.Look1
Comes p h (Looked2 signal at) = next p h ≡ want.Look2
Comes p h (DecisionMade known at decision) = (next p h ≡ want.Decide) × (decision ≡ cause p h known at)
Comes p h (MessageRead place slot) = next p h ≡ want.MsgRead place
Comes p h (MessageClosed place) = next p h ≡ want.MsgClose place
Comes p h (MessageBodied place message) = next p h ≡ want.MsgBody place message
Comes p h (MessageOpened place message) = next p h ≡ want.MsgOpen place message
Comes p h (FirstBlockRead block keys) = (b : ℕ) × (next p h ≡ want.LogRead b)
Comes p h (BlockRead block) = (b : ℕ) × (next p h ≡ want.LogRead b)
Comes p h (LogLooked place gate) = next p h ≡ want.LogLook place
Comes p h (LogClosed place) = next p h ≡ want.LogClose place
Comes p h (LogBodied place rec) = next p h ≡ want.LogBody place rec
Comes p h (LogOpened place rec) = next p h ≡ want.LogOpen place rec
Comes p h (KeyLooked place gate) = next p h ≡ want.KpRead place
Comes p h (KeyClosed place) = next p h ≡ want.KpClose place
Comes p h (KeyBodied place keypoint) = next p h ≡ want.KpBody place keypoint
Comes p h (KeyOpened place keypoint) = next p h ≡ want.KpOpen place keypoint
Comes p h (RecordRead rrn slot) = next p h ≡ want.FileRead rrn
Comes p h (RecordWritten unit rrn value) = next p h ≡ want.FileWrite unit rrn value
Comes p h (RecordUndone rrn before) = next p h ≡ want.Undo rrn before
Comes p h (Given item) = next p h ≡ want.Item
Comes p h (LineIssued line) = next p h ≡ want.Clt line
Comes p h RestartDeclared = next p h ≡ want.Restarted
Comes p h (EndedAs reason) = ⊥
Comes p h (ActFailed tried at) = (next p h ≡ tried) × (may_fail tried ≡ true)

-- a history begins with its START
abbrev pub is_started : Event → Bool
is_started StartedActive = true
is_started StartedStandby = true
is_started _ = false

-- a history: it begins with its START, and each event comes
abbrev pub IsHistory : Settings → List Event → Type 0
IsHistory p [] = ⊥
IsHistory p (e ∷ []) = is_started e ≡ true
IsHistory p (e ∷ d ∷ h) = IsHistory p (d ∷ h) × Comes p (d ∷ h) e

-- a history with one event more that comes
pub grows : (p : Settings) (h : List Event) (e : Event) → IsHistory p h → Comes p h e → IsHistory p (e ∷ h)
grows p [] e is comes = absurd is
grows p (d ∷ h) e is comes = (is, comes)

-- an induction over a history: a fact of each START that is kept by each event that comes
pub induct : (F : Settings → List Event → Type 0) → ((p : Settings) → F p (StartedActive ∷ [])) → ((p : Settings) → F p (StartedStandby ∷ []))
    → ((p : Settings) (h : List Event) (e : Event) → IsHistory p h → Comes p h e → F p h → F p (e ∷ h))
    → (p : Settings) (h : List Event) → IsHistory p h → F p h
induct F active standby step p [] is = absurd is
induct F active standby step p (StartedActive ∷ []) is = active p
induct F active standby step p (StartedStandby ∷ []) is = standby p
induct F active standby step p (_ ∷ []) is = absurd (cc)
induct F active standby step p (e ∷ d ∷ h) is = step p (d ∷ h) e is.0 is.1 (induct F active standby step p (d ∷ h) is.0)
