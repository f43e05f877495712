-- Updates are the work of an owner.
use Rattle.std.proofs.Common.{if◌then◌else◌, Bool, false, true, None, Option, Some, List, arith, ◌≡◌, refl, sym, ◌∷◌, ◌∙◌, ℕ, ap, []}
use Rattle.std.proofs.lemmas.Grind.{common_steps}
use Rattle.xrf_ctl.specs.Control.{ControlRecord}
use Rattle.xrf_cavm.specs.declared.known.Known.{Known}
use Rattle.xrf_history.specs.declared.want.Want.{Want}
use Rattle.xrf_history.specs.Events.{Event, MessageRead, Released, ControlRead, Abended, ActFailed, BlockRead, Commanded, ControlWritten, DecisionMade, EndedAs, Exited, FirstBlockRead, LineIssued, Looked1, Looked2, Replied, Reserved, RestartDeclared, Signalled1, Signalled2, StartedActive, StartedStandby, Ticked}
use Rattle.xrf_history.specs.declared.settings.Settings.{Settings}
use Rattle.xrf_history.specs.Rows.{alternate_next, owner_row}
use Rattle.xrf_history.specs.Notices.{notice}
use Rattle.xrf_history.specs.Reserving.{sign_off_due}
use Rattle.xrf_history.specs.Holding.{is_owner, is_restarted}
use Rattle.xrf_history.specs.Next.{next, or_boundary, inside}
use Rattle.xrf_history.proofs.Histories.{Comes, is_started, IsHistory}
use Rattle.xrf_history.specs.declared.want.Want.TheVariants as want

-- the acts of an owner alone
abbrev pub is_owner_act : Want → Bool
is_owner_act (want.MsgClose place) = true
is_owner_act (want.MsgBody place message) = true
is_owner_act (want.MsgOpen place message) = true
is_owner_act (want.LogRead block) = true
is_owner_act (want.LogLook place) = true
is_owner_act (want.LogClose place) = true
is_owner_act (want.LogBody place rec) = true
is_owner_act (want.LogOpen place rec) = true
is_owner_act (want.KpRead place) = true
is_owner_act (want.KpClose place) = true
is_owner_act (want.KpBody place keypoint) = true
is_owner_act (want.KpOpen place keypoint) = true
is_owner_act (want.FileRead rrn) = true
is_owner_act (want.FileWrite unit rrn value) = true
is_owner_act (want.Undo rrn before) = true
is_owner_act want.Item = true
is_owner_act want.Restarted = true
is_owner_act _ = false

-- such an act inside the sequence
abbrev pub is_owner_act_of : Option Want → Bool
is_owner_act_of None = false
is_owner_act_of (Some w) = is_owner_act w

-- an alternate's act at a boundary is none of them
alternate_next-not : (p : Settings) (h : List Event) → is_owner_act (alternate_next p h) ≡ false
alternate_next-not p h = grind (arith, common_steps)

-- such an act at a boundary is an owner's
boundary-owners : (p : Settings) (h : List Event) (b : Bool)
    → is_owner_act (if b then owner_row p h (sign_off_due h) (notice h) else alternate_next p h) ≡ true → b ≡ true
boundary-owners p h true is = refl
boundary-owners p h false is = absurd (cc (alternate_next-not p h))

-- so far: an act of an owner is next, or RESTARTED is made, in an owner alone
record OnlyOwners (p : Settings) (h : List Event) : Type 0 where
  pub next : is_owner_act (next p h) ≡ true → is_owner h ≡ true
  pub restarted : is_restarted h ≡ true → is_owner h ≡ true

-- such an act is an owner's, inside a sequence or at a boundary
next-by : (p : Settings) (h : List Event) (o : Option Want) → (is_owner_act_of o ≡ true → is_owner h ≡ true)
    → is_owner_act (or_boundary p h o) ≡ true → is_owner h ≡ true
next-by p h None inner is = boundary-owners p h (is_owner h) is
next-by p h (Some w) inner is = inner is

-- an event that keeps what the job is, and is followed by no act of an owner, or comes in an owner
works-by : (p : Settings) (e : Event) (h : List Event) → is_owner (e ∷ h) ≡ is_owner h → is_restarted (e ∷ h) ≡ is_restarted h
    → (is_owner_act_of (inside p (e ∷ h)) ≡ true → is_owner h ≡ true) → OnlyOwners p h → OnlyOwners p (e ∷ h)
works-by p e h same restarted inner works = record {
  next = next-by p (e ∷ h) (inside p (e ∷ h)) (λ is. same ∙ inner is);
  restarted = λ is. same ∙ works.restarted (sym restarted ∙ is);
}

-- an act inside the sequence is the next one
inside-next : (p : Settings) (h : List Event) (o : Option Want) → is_owner_act_of o ≡ true → is_owner_act (or_boundary p h o) ≡ true
inside-next p h None is = absurd (cc)
inside-next p h (Some w) is = is

-- such an act inside the sequence is an owner's
still-works : (p : Settings) (h : List Event) → OnlyOwners p h → is_owner_act_of (inside p h) ≡ true → is_owner h ≡ true
still-works p h works is = works.next (inside-next p h (inside p h) is)

-- one that follows a MSGREAD is of a restarted job
message-works : (p : Settings) (h : List Event) (k : ℕ) (slot : List ℕ) → is_owner_act_of (inside p (MessageRead k slot ∷ h)) ≡ true → is_restarted h ≡ true
message-works p h k slot is = grind (arith, common_steps)

-- none follows a RELEASE
released-works : (p : Settings) (h : List Event) → is_owner_act_of (inside p (Released ∷ h)) ≡ true → ⊥
released-works p h is = grind (arith, common_steps)

-- none follows a CTLREAD
read-works : (p : Settings) (h : List Event) (held : ControlRecord) (known : Known) → is_owner_act_of (inside p (ControlRead held known ∷ h)) ≡ true → ⊥
read-works p h held known is = grind (arith, common_steps)

-- each event keeps it
works-step : (p : Settings) (h : List Event) (e : Event) → Comes p h e → OnlyOwners p h → OnlyOwners p (e ∷ h)
works-step p h StartedActive comes works = absurd comes
works-step p h StartedStandby comes works = absurd comes
works-step p h Ticked comes works = works-by p Ticked h refl refl (still-works p h works) works
works-step p h Abended comes works = works-by p Abended h refl refl (still-works p h works) works
works-step p h (Replied go n) comes works = works-by p (Replied go n) h refl refl (still-works p h works) works
works-step p h (Commanded command n) comes works = works-by p (Commanded command n) h refl refl (still-works p h works) works
works-step p h (Exited answer n) comes works = works-by p (Exited answer n) h refl refl (still-works p h works) works
works-step p h Reserved comes works = works-by p Reserved h refl refl (λ is. absurd (cc)) works
works-step p h (ControlRead held known) comes works = works-by p (ControlRead held known) h refl refl (λ is. absurd (read-works p h held known is)) works
works-step p h (ControlWritten w) comes works = record {
  next = λ is. absurd (cc);
  restarted = λ is. grind (arith, common_steps, works.restarted is);
}
works-step p h Released comes works = works-by p Released h refl refl (λ is. absurd (released-works p h is)) works
works-step p h (Signalled1 signal) comes works = works-by p (Signalled1 signal) h refl refl (λ is. absurd (cc)) works
works-step p h (Signalled2 signal) comes works = works-by p (Signalled2 signal) h refl refl (λ is. absurd (cc)) works
works-step p h (Looked1 held signal) comes works = works-by p (Looked1 held signal) h refl refl (λ is. absurd (cc)) works
works-step p h (Looked2 signal n) comes works = works-by p (Looked2 signal n) h refl refl (λ is. absurd (cc)) works
works-step p h (DecisionMade known n decision) comes works = works-by p (DecisionMade known n decision) h refl refl (λ is. absurd (cc)) works
works-step p h (MessageRead k slot) comes works = works-by p (MessageRead k slot) h refl refl (λ is. works.restarted (message-works p h k slot is)) works
works-step p h (LineIssued line) comes works = works-by p (LineIssued line) h refl refl (λ is. absurd (cc)) works
works-step p h RestartDeclared comes works =
    let owner = works.next (ap is_owner_act comes) in
    record { next = λ is. owner; restarted = λ is. owner }
works-step p h (EndedAs reason) comes works = absurd comes
works-step p h (ActFailed tried n) comes works = works-by p (ActFailed tried n) h refl refl (λ is. absurd (cc)) works
works-step p h (FirstBlockRead block keys) comes works = works-by p (FirstBlockRead block keys) h refl refl (λ is. absurd (cc)) works
works-step p h (BlockRead block) comes works = works-by p (BlockRead block) h refl refl (λ is. absurd (cc)) works
works-step p h e comes works = works-by p e h refl refl (λ is. works.next (ap is_owner_act comes)) works

-- of each START
works-start : (p : Settings) (e : Event) → is_started e ≡ true → OnlyOwners p (e ∷ [])
works-start p StartedActive started = record { next = λ is. absurd (cc); restarted = λ is. absurd (cc) }
works-start p StartedStandby started = record { next = λ is. absurd (cc); restarted = λ is. absurd (cc) }
works-start p _ started = absurd (cc)

-- of a history
works : (p : Settings) (h : List Event) → IsHistory p h → OnlyOwners p h
works p [] is = absurd is
works p (e ∷ []) is = works-start p e is
works p (e ∷ d ∷ h) is = works-step p (d ∷ h) e is.1 (works p (d ∷ h) is.0)

-- the acts of an owner alone come next in an owner alone
pub owner_acts : (p : Settings) (h : List Event) → IsHistory p h → is_owner_act (next p h) ≡ true → is_owner h ≡ true
owner_acts p h is = (works p h is).next
