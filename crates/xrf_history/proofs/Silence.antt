-- An owner that has seen a taking makes no update after it.
use Rattle.std.proofs.Common.{Bool, true, None, Option, Some, false, is_some, ◌≡◌, ◌⊎◌, List, ap, arith, ◌∙◌, ℕ, subst, inl, inr, refl, sym, ◌∷◌, ◌||◌, ◌&&◌}
use Rattle.std.proofs.lemmas.Grind.{common_steps}
use Rattle.std.proofs.lemmas.Bool.{and_parts}
use Rattle.xrf_ctl.specs.Control.{ControlRecord}
use Rattle.xrf_ctl.specs.declared.parts.OwnerState.{OwnerState}
use Rattle.xrf_ctl.specs.declared.parts.OwnerState.TheVariants.{OffAbend}
use Rattle.xrf_ctl.specs.Signal.{SignalRecord}
use Rattle.xrf_cavm.specs.declared.known.Known.{Known}
use Rattle.xrf_cavm.specs.declared.decisions.Decided.{Decided}
use Rattle.xrf_cavm.specs.Record.{is_owner as names_owner}
use Rattle.xrf_exit.specs.declared.Notice.{Notice}
use Rattle.xrf_exit.specs.declared.Notice.TheVariants.{TakeoverSeen}
use Rattle.xrf_exit.specs.declared.ExitAnswer.{ExitAnswer}
use Rattle.xrf_exit.specs.declared.ExitAnswer.TheVariants as exit
use Rattle.xrf_history.specs.declared.want.Want.{Want}
use Rattle.xrf_history.proofs.OwnersWork.{is_owner_act}
use Rattle.xrf_history.proofs.Phases.{HasRead, Phase, phase, NextIn, is_outside, before_write}
use Rattle.xrf_history.specs.Reserving.{Purpose, purpose, record_read, sign_off_due, record_by_purpose, known_read, or_else, SignOnActive, SignOnStandby, DropAlternate, SignOff}
use Rattle.xrf_history.specs.Notices.{is_drop, notice, epoch_number, notice_in}
use Rattle.xrf_history.specs.Holding.{is_owner, number, is_granted}
use Rattle.xrf_history.specs.Events.{Event, Exited, Looked2, DecisionMade, Released, Looked1, ControlRead, Abended, ActFailed, Reserved, BlockRead, Commanded, ControlWritten, EndedAs, FirstBlockRead, LineIssued, Replied, Signalled1, Signalled2, StartedActive, StartedStandby, Ticked}
use Rattle.xrf_history.specs.declared.settings.Settings.{Settings}
use Rattle.xrf_history.specs.Next.{inside, next, or_boundary, write_next, after_control_read, after_release}
use Rattle.xrf_history.specs.Looking.{record_seen}
use Rattle.xrf_history.specs.Progress.{has_seen_taking}
use Rattle.xrf_history.specs.Rows.{boundary}
use Rattle.xrf_history.proofs.Histories.{IsHistory, Comes, induct}
use Rattle.xrf_history.proofs.PhaseLaws.{next-inside, phase-next, boundary-outside, read-phase}
use Rattle.xrf_history.specs.Accepting.{exit_allowed}
use Rattle.xrf_history.proofs.Rounds.{is_rounds, no-rounds}
use Rattle.xrf_history.specs.Deciding.{cause}
use Rattle.xrf_history.proofs.Purposes.{is_sign_off, Suits, suited}
use Rattle.xrf_history.proofs.Holding.{owner-granted}
use Rattle.xrf_history.specs.Answers.{may_fail}
use Rattle.xrf_history.specs.declared.want.Want.TheVariants as want
use Rattle.xrf_history.proofs.SigningOff.{purpose-due}
use Rattle.xrf_history.proofs.Tests.{or-left}

-- the acts that it makes no more: those of an owner alone, and a read of a message
abbrev pub is_busy : Want → Bool
is_busy (want.MsgRead place) = true
is_busy w = is_owner_act w

-- such an act inside the sequence
abbrev pub is_busy_of : Option Want → Bool
is_busy_of None = false
is_busy_of (Some w) = is_busy w

-- in the round after LOOK1
abbrev pub is_looking_of : Option Want → Bool
is_looking_of (Some want.Look2) = true
is_looking_of (Some want.Decide) = true
is_looking_of _ = false

-- with no sign-off due: the notice is pending, or the round comes to DECIDE, or the drop to RELEASE
abbrev IsDue : Option OwnerState → Option Notice → Option Want → (seen read : ControlRecord) → Phase → Purpose → Type 0
IsDue (Some state) told act seen read f q = Unit {0}
IsDue None told act seen read f q =
    ((told ≡ Some TakeoverSeen) × (act ≡ None))
    ⊎ (((is_looking_of act ≡ true) × (is_some seen.taking ≡ true)) ⊎ ((f ≡ HasRead) × (is_drop q ≡ true) × (is_some read.taking ≡ true)))

-- an owner that has seen a taking: nothing busy is inside, and its notice, its DECIDE or its RELEASE is due
record Silenced (owner : Bool) (off : Option OwnerState) (told : Option Notice) (act : Option Want) (seen read : ControlRecord) (f : Phase)
    (q : Purpose) : Type 0 where
  pub is_owner : owner ≡ true
  pub inner : is_busy_of act ≡ false
  pub due : IsDue off told act seen read f q

-- of a history
abbrev IsSilenced : Settings → List Event → Type 0
IsSilenced p h = Silenced (is_owner h) (sign_off_due h) (notice h) (inside p h) (record_seen h) (record_read h) (phase p h) (purpose h)

-- so it is of an owner that has seen a taking
abbrev Silent : Settings → List Event → Type 0
Silent p h = has_seen_taking h ≡ true → IsSilenced p h

-- the acts that are left with no sign-off due
abbrev is_resting : Want → Bool
is_resting (want.Exit told) = true
is_resting want.Look2 = true
is_resting want.Decide = true
is_resting want.Release = true
is_resting _ = false

-- with the notice pending the next act is EXIT
told-rests : (p : Settings) (h : List Event) → is_owner h ≡ true → sign_off_due h ≡ None → notice h ≡ Some TakeoverSeen → inside p h ≡ None
    → is_resting (next p h) ≡ true
told-rests p h owner off told at = ap is_resting (ap (or_boundary p h) at) ∙ boundary-rests p h owner off told
  where
    boundary-rests : (p : Settings) (h : List Event) → is_owner h ≡ true → sign_off_due h ≡ None → notice h ≡ Some TakeoverSeen
        → is_resting (boundary p h) ≡ true
    boundary-rests p h owner off told = grind (arith, common_steps)

-- in the round comes LOOK2 or DECIDE
looking-rests : (p : Settings) (h : List Event) (o : Option Want) → is_looking_of o ≡ true → is_resting (or_boundary p h o) ≡ true
looking-rests p h o looking = grind (arith, common_steps)

-- a drop that read a taking writes nothing
dropping-writes : (p : Settings) (q : Purpose) (n epoch : ℕ) (c : ControlRecord) (known : Known) → is_drop q ≡ true → is_some c.taking ≡ true
    → write_next (record_by_purpose p q n epoch c known) ≡ want.Release
dropping-writes p q n epoch c known drop taking = grind (arith, common_steps)

-- so RELEASE comes next
dropping-rests : (p : Settings) (h : List Event) → IsHistory p h → phase p h ≡ HasRead → is_drop (purpose h) ≡ true → is_some (record_read h).taking ≡ true
    → is_resting (next p h) ≡ true
dropping-rests p h is at drop taking =
    ap is_resting
    (next-inside p h (after_control_read p h) (subst (NextIn p h) at (phase-next p h is)) ∙ dropping-writes p (purpose h) (number h)
    (epoch_number h) (record_read h) (known_read h) drop taking)

-- with no sign-off due nothing busy is next
rests : (p : Settings) (h : List Event) → IsHistory p h → IsSilenced p h → sign_off_due h ≡ None → is_resting (next p h) ≡ true
rests p h is silenced off =
    by (subst (λ (o : Option OwnerState). IsDue o (notice h) (inside p h) (record_seen h) (record_read h) (phase p h) (purpose h)) off silenced.due)
  where
    by : IsDue None (notice h) (inside p h) (record_seen h) (record_read h) (phase p h) (purpose h) → is_resting (next p h) ≡ true
    by (inl told) = told-rests p h silenced.is_owner off told.0 told.1
    by (inr (inl looking)) = looking-rests p h (inside p h) looking.0
    by (inr (inr dropping)) = dropping-rests p h is dropping.0 dropping.1 dropping.2

-- nothing busy is next
off-boundary : (p : Settings) (h : List Event) (state : OwnerState) → is_owner h ≡ true → sign_off_due h ≡ Some state → is_busy (boundary p h) ≡ false
off-boundary p h state owner off = grind (arith, common_steps)

-- with a sign-off due nothing busy is next
off-busy : (p : Settings) (h : List Event) (state : OwnerState) (o : Option Want) → is_owner h ≡ true → sign_off_due h ≡ Some state → is_busy_of o ≡ false
    → is_busy (or_boundary p h o) ≡ false
off-busy p h state None owner off inner = off-boundary p h state owner off
off-busy p h state (Some w) owner off inner = inner

-- the acts that are left are not busy
resting-idle : (w : Want) → is_resting w ≡ true → is_busy w ≡ false
resting-idle w resting = grind (arith, common_steps)

-- nothing busy is next
not-busy : (p : Settings) (h : List Event) → IsHistory p h → IsSilenced p h → is_busy (next p h) ≡ false
not-busy p h is silenced = by (sign_off_due h) refl
  where
    by : (o : Option OwnerState) → sign_off_due h ≡ o → is_busy (next p h) ≡ false
    by None off = resting-idle (next p h) (rests p h is silenced off)
    by (Some state) off = off-busy p h state (inside p h) silenced.is_owner off silenced.inner

-- steps
due-some : (off : Option OwnerState) (told : Option Notice) (act : Option Want) (seen read : ControlRecord) (f : Phase) (q : Purpose)
    → is_some off ≡ true → IsDue off told act seen read f q
due-some None told act seen read f q is = absurd (cc)
due-some (Some state) told act seen read f q is = tt

-- in the round
due-looking : (off : Option OwnerState) (told : Option Notice) (act : Option Want) (seen read : ControlRecord) (f : Phase) (q : Purpose)
    → is_looking_of act ≡ true
    → is_some seen.taking ≡ true → IsDue off told act seen read f q
due-looking None told act seen read f q looking taking = inr (inl (looking, taking))
due-looking (Some state) told act seen read f q looking taking = tt

-- after the CTLREAD of a drop
due-dropping : (off : Option OwnerState) (told : Option Notice) (act : Option Want) (seen read : ControlRecord) (q : Purpose) → is_drop q ≡ true
    → is_some read.taking ≡ true → IsDue off told act seen read HasRead q
due-dropping None told act seen read q drop taking = inr (inr (refl, drop, taking))
due-dropping (Some state) told act seen read q drop taking = tt

-- with the notice pending
due-told : (off : Option OwnerState) (told : Option Notice) (act : Option Want) (seen read : ControlRecord) (f : Phase) (q : Purpose)
    → told ≡ Some TakeoverSeen → act ≡ None
    → IsDue off told act seen read f q
due-told None told act seen read f q is at = inl (is, at)
due-told (Some state) told act seen read f q is at = tt

-- an act that it makes only while its sign-off is due
silent-by : (p : Settings) (h : List Event) (e : Event) (w : Want) → IsHistory p h → next p h ≡ w → is_resting w ≡ false → IsSilenced p h
    → is_owner (e ∷ h) ≡ true → sign_off_due (e ∷ h) ≡ sign_off_due h → is_busy_of (inside p (e ∷ h)) ≡ false → IsSilenced p (e ∷ h)
silent-by p h e w is comes active silenced owner off inner = record { is_owner = owner; inner = inner; due = by (sign_off_due h) refl }
  where
    by : (o : Option OwnerState) → sign_off_due h ≡ o
        → IsDue (sign_off_due (e ∷ h)) (notice (e ∷ h)) (inside p (e ∷ h)) (record_seen (e ∷ h)) (record_read (e ∷ h)) (phase p (e ∷ h)) (purpose (e ∷ h))
    by None none = absurd (cc (sym (ap is_resting comes ∙ active) ∙ rests p h is silenced none))
    by (Some state) some =
        due-some (sign_off_due (e ∷ h)) (notice (e ∷ h)) (inside p (e ∷ h)) (record_seen (e ∷ h)) (record_read (e ∷ h)) (phase p (e ∷ h)) (purpose (e ∷ h))
        (ap (λ (o : Option OwnerState). is_some o) (off ∙ some))

-- what comes later is enough
or-some : (a b : Option OwnerState) → is_some b ≡ true → is_some (or_else a b) ≡ true
or-some None b is = is
or-some (Some x) b is = refl

-- EXIT ABEND
abbrev is_abend : ExitAnswer → Bool
is_abend exit.Abend = true
is_abend _ = false

-- the notice of a taking allows EXIT ABEND alone
seen-abends : (told : Option Notice) (answer : ExitAnswer) → told ≡ Some TakeoverSeen → exit_allowed told answer ≡ true → is_abend answer ≡ false → ⊥
seen-abends told answer is allowed stays = grind (arith, common_steps)

-- another EXIT leaves what is due
other-due : (off : Option OwnerState) (told : Option Notice) (act : Option Want) (seen read : ControlRecord) (f : Phase) (q : Purpose) (answer : ExitAnswer)
    → exit_allowed told answer ≡ true → is_abend answer ≡ false → IsDue off told act seen read f q → IsDue off None act seen read f q
other-due (Some state) told act seen read f q answer allowed stays due = tt
other-due None told act seen read f q answer allowed stays (inl is) = absurd (seen-abends told answer is.0 allowed stays)
other-due None told act seen read f q answer allowed stays (inr rest) = inr rest

-- after an EXIT
exit-due : (p : Settings) (h : List Event) (answer : ExitAnswer) (n : ℕ) → exit_allowed (notice h) answer ≡ true
    → IsDue (sign_off_due h) (notice h) (inside p h) (record_seen h) (record_read h) (phase p h) (purpose h)
    → IsDue (sign_off_due (Exited answer n ∷ h)) None (inside p h) (record_seen h) (record_read h) (phase p h) (purpose h)
exit-due p h exit.Abend n allowed due =
    due-some (or_else (sign_off_due h) (Some OffAbend)) None (inside p h) (record_seen h) (record_read h) (phase p h) (purpose h)
    (or-some (sign_off_due h) (Some OffAbend) refl)
exit-due p h exit.Keep n allowed due =
    other-due (sign_off_due h) (notice h) (inside p h) (record_seen h) (record_read h) (phase p h) (purpose h) exit.Keep allowed refl due
exit-due p h exit.Drop n allowed due =
    other-due (sign_off_due h) (notice h) (inside p h) (record_seen h) (record_read h) (phase p h) (purpose h) exit.Drop allowed refl due

-- no look goes on at a boundary
boundary-looks : (p : Settings) (h : List Event) → is_looking_of (Some (boundary p h)) ≡ false
boundary-looks p h = looks-of (boundary p h) (no-rounds p h)
  where
    looks-of : (w : Want) → is_rounds w ≡ false → is_looking_of (Some w) ≡ false
    looks-of w none = grind (arith, common_steps)

-- at a LOOK2 or a DECIDE with no sign-off due the record of LOOK1 has a taking
not-looking : (p : Settings) (h : List Event) (w : Want) → is_looking_of (Some w) ≡ true → next p h ≡ w → boundary p h ≡ next p h → ⊥
not-looking p h w looking is same = absurd (cc (sym (ap (λ (v : Want). is_looking_of (Some v)) (same ∙ is) ∙ looking) ∙ boundary-looks p h))

-- where a look goes on the record looked at has the taking
look-taking : (p : Settings) (h : List Event) (w : Want) → IsHistory p h → next p h ≡ w → is_looking_of (Some w) ≡ true → IsSilenced p h → sign_off_due h ≡ None
    → is_some (record_seen h).taking ≡ true
look-taking p h w is comes looking silenced off =
    by (subst (λ (o : Option OwnerState). IsDue o (notice h) (inside p h) (record_seen h) (record_read h) (phase p h) (purpose h)) off silenced.due)
  where
    by : IsDue None (notice h) (inside p h) (record_seen h) (record_read h) (phase p h) (purpose h) → is_some (record_seen h).taking ≡ true
    by (inl told) = absurd (not-looking p h w looking comes (sym (ap (or_boundary p h) told.1)))
    by (inr (inl here)) = here.1
    by (inr (inr dropping)) =
        absurd
        (cc (
          sym (next-inside p h (after_control_read p h) (subst (NextIn p h) dropping.0 (phase-next p h is)) ∙ dropping-writes p (purpose h)
              (number h) (epoch_number h) (record_read h) (known_read h) dropping.1 dropping.2) ∙ comes,
          looking,
        ))

-- after a LOOK2
looked-due : (p : Settings) (h : List Event) (signal : Option SignalRecord) (n : ℕ) → IsHistory p h → next p h ≡ want.Look2 → IsSilenced p h
    → IsSilenced p (Looked2 signal n ∷ h)
looked-due p h signal n is comes silenced = record {
  is_owner = silenced.is_owner;
  inner = refl;
  due = by (sign_off_due h) refl silenced.due;
}
  where
    by : (o : Option OwnerState) → sign_off_due h ≡ o → IsDue (sign_off_due h) (notice h) (inside p h) (record_seen h) (record_read h) (phase p h) (purpose h)
        → IsDue (sign_off_due h) (notice h) (Some want.Decide) (record_seen h) (record_read h) (phase p h) (purpose h)
    by (Some state) some due =
        due-some (sign_off_due h) (notice h) (Some want.Decide) (record_seen h) (record_read h) (phase p h) (purpose h)
        (ap (λ (o : Option OwnerState). is_some o) some)
    by None none due =
        due-looking (sign_off_due h) (notice h) (Some want.Decide) (record_seen h) (record_read h) (phase p h) (purpose h) refl
        (look-taking p h want.Look2 is comes refl silenced none)

-- an owner that looked at a taking decides SEEN
seen-told : (p : Settings) (h : List Event) (known : Known) (n : ℕ) (decision : Decided) → is_owner h ≡ true → is_some (record_seen h).taking ≡ true
    → decision ≡ cause p h known n
    → notice_in decision (notice h) ≡ Some TakeoverSeen
seen-told p h known n decision owner taking made = grind (arith, common_steps)

-- after a DECIDE
decided-due : (p : Settings) (h : List Event) (known : Known) (n : ℕ) (decision : Decided) → IsHistory p h → next p h ≡ want.Decide
    → decision ≡ cause p h known n → IsSilenced p h
    → IsSilenced p (DecisionMade known n decision ∷ h)
decided-due p h known n decision is comes made silenced = record {
  is_owner = silenced.is_owner;
  inner = refl;
  due = by (sign_off_due h) refl;
}
  where
    by : (o : Option OwnerState) → sign_off_due h ≡ o
        → IsDue (sign_off_due h) (notice_in decision (notice h)) None (record_seen h) (record_read h) (phase p h) (purpose h)
    by (Some state) some =
        due-some (sign_off_due h) (notice_in decision (notice h)) None (record_seen h) (record_read h) (phase p h) (purpose h)
        (ap (λ (o : Option OwnerState). is_some o) some)
    by None none =
        due-told (sign_off_due h) (notice_in decision (notice h)) None (record_seen h) (record_read h) (phase p h) (purpose h)
        (seen-told p h known n decision silenced.is_owner (look-taking p h want.Decide is comes refl silenced none) made) refl

-- nothing busy follows a RELEASE inside its sequence
released-busy : (p : Settings) (h : List Event) → is_busy_of (inside p (Released ∷ h)) ≡ false
released-busy p h = grind (arith, common_steps)

-- a drop does not end the job
drop-released : (p : Settings) (h : List Event) → is_drop (purpose h) ≡ true → after_release p h ≡ None
drop-released p h drop = grind (arith, common_steps)

-- the RELEASE of a drop that read a taking tells the notice
drop-told : (h : List Event) → is_drop (purpose h) ≡ true → is_some (record_read h).taking ≡ true → notice (Released ∷ h) ≡ Some TakeoverSeen
drop-told h drop taking = grind (arith, common_steps)

-- no RELEASE comes at a boundary
boundary-release : (p : Settings) (h : List Event) → boundary p h ≡ want.Release → ⊥
boundary-release p h is = absurd (cc (sym (ap is_outside is) ∙ boundary-outside p h))

-- no RELEASE comes in a round
look-release : (p : Settings) (h : List Event) (o : Option Want) → is_looking_of o ≡ true → or_boundary p h o ≡ want.Release → ⊥
look-release p h o looking is = grind (arith, common_steps)

-- at a RELEASE with no sign-off due it is that of a drop
drop-at : (p : Settings) (h : List Event) → next p h ≡ want.Release → IsSilenced p h → sign_off_due h ≡ None
    → (is_drop (purpose h) ≡ true) × (is_some (record_read h).taking ≡ true)
drop-at p h comes silenced off =
    by (subst (λ (o : Option OwnerState). IsDue o (notice h) (inside p h) (record_seen h) (record_read h) (phase p h) (purpose h)) off silenced.due)
  where
    by : IsDue None (notice h) (inside p h) (record_seen h) (record_read h) (phase p h) (purpose h)
        → (is_drop (purpose h) ≡ true) × (is_some (record_read h).taking ≡ true)
    by (inl told) = absurd (boundary-release p h (sym (ap (or_boundary p h) told.1) ∙ comes))
    by (inr (inl here)) = absurd (look-release p h (inside p h) here.0 comes)
    by (inr (inr dropping)) = (dropping.1, dropping.2)

-- after a RELEASE
released-due : (p : Settings) (h : List Event) → next p h ≡ want.Release → IsSilenced p h → IsSilenced p (Released ∷ h)
released-due p h comes silenced = record { is_owner = silenced.is_owner; inner = released-busy p h; due = by (sign_off_due h) refl }
  where
    by : (o : Option OwnerState) → sign_off_due h ≡ o
        → IsDue (sign_off_due h) (notice (Released ∷ h)) (after_release p h) (record_seen h) (record_read h) (phase p (Released ∷ h)) (purpose h)
    by (Some state) some =
        due-some (sign_off_due h) (notice (Released ∷ h)) (after_release p h) (record_seen h) (record_read h) (phase p (Released ∷ h)) (purpose h)
        (ap (λ (o : Option OwnerState). is_some o) some)
    by None none =
        let drop = drop-at p h comes silenced none in
        due-told (sign_off_due h) (notice (Released ∷ h)) (after_release p h) (record_seen h) (record_read h) (phase p (Released ∷ h)) (purpose h)
        (drop-told h drop.0 drop.1) (drop-released p h drop.0)

-- after a LOOK1
look-seen : (p : Settings) (h : List Event) (held : ControlRecord) (signal : Option SignalRecord) (b : Bool) → IsHistory p h → next p h ≡ want.Look1
    → has_seen_taking h ≡ b → Silent p h
    → (b || (is_owner h && is_some held.taking)) ≡ true → IsSilenced p (Looked1 held signal ∷ h)
look-seen p h held signal true is comes before silent seen =
    silent-by p h (Looked1 held signal) want.Look1 is comes refl (silent before) (silent before).is_owner refl refl
look-seen p h held signal false is comes before silent seen =
    let parts = and_parts (is_owner h) (is_some held.taking) seen in
    record {
      is_owner = parts.0;
      inner = refl;
      due = due-looking (sign_off_due h) (notice h) (Some want.Look2) held (record_read h) (phase p h) (purpose h) refl parts.1;
    }

-- nothing busy follows a CTLREAD inside its sequence
read-busy : (p : Settings) (h : List Event) (held : ControlRecord) (known : Known) → is_busy_of (inside p (ControlRead held known ∷ h)) ≡ false
read-busy p h held known = grind (arith, common_steps)

-- what is due of an owner that reads a taking
owner-due : (off : Option OwnerState) (told : Option Notice) (act : Option Want) (seen read : ControlRecord) (q : Purpose) (granted owner : Bool)
    → Suits q granted owner → owner ≡ true
    → granted ≡ true → (is_sign_off q ≡ true → is_some off ≡ true) → is_some read.taking ≡ true → IsDue off told act seen read HasRead q
owner-due off told act seen read (SignOff state) granted owner suits is has stays taking = due-some off told act seen read HasRead (SignOff state) (stays refl)
owner-due off told act seen read DropAlternate granted owner suits is has stays taking = due-dropping off told act seen read DropAlternate refl taking
owner-due off told act seen read SignOnActive granted owner suits is has stays taking = absurd (cc (suits))
owner-due off told act seen read SignOnStandby granted owner suits is has stays taking = absurd (cc (suits))
owner-due off told act seen read _ granted owner suits is has stays taking = absurd (cc (suits.1))

-- after a CTLREAD
read-seen : (p : Settings) (h : List Event) (held : ControlRecord) (known : Known) (b : Bool) → IsHistory p h → next p h ≡ want.CtlRead
    → has_seen_taking h ≡ b → Silent p h
    → (b || (is_owner h && is_some held.taking)) ≡ true → IsSilenced p (ControlRead held known ∷ h)
read-seen p h held known true is comes before silent seen =
    silent-by p h (ControlRead held known) want.CtlRead is comes refl (silent before) (silent before).is_owner refl (read-busy p h held known)
read-seen p h held known false is comes before silent seen =
    let parts = and_parts (is_owner h) (is_some held.taking) seen in
    record {
      is_owner = parts.0;
      inner = read-busy p h held known;
      due = owner-due (sign_off_due h) (notice h) (inside p (ControlRead held known ∷ h)) (record_seen h) held (purpose h) (is_granted h) (is_owner h)
          (suited p h is (ap before_write (read-phase p h is comes))) parts.0 (owner-granted h parts.0) (purpose-due h) parts.1;
    }

-- a busy act does not come
idle : (p : Settings) (h : List Event) (w : Want) → IsHistory p h → next p h ≡ w → is_busy w ≡ true → IsSilenced p h → ⊥
idle p h w is comes busy silenced = absurd (cc (sym (not-busy p h is silenced) ∙ ap is_busy comes ∙ busy))

-- an act that may fail is busy
fails-busy : (w : Want) → may_fail w ≡ true → is_busy w ≡ true
fails-busy w may = grind (arith, common_steps)

-- each event keeps it
silent-step : (p : Settings) (h : List Event) (e : Event) → IsHistory p h → Comes p h e → Silent p h → Silent p (e ∷ h)
silent-step p h StartedActive is comes silent = absurd comes
silent-step p h StartedStandby is comes silent = absurd comes
silent-step p h Ticked is comes silent = silent
silent-step p h Abended is comes silent = λ seen. record {
  is_owner = (silent seen).is_owner;
  inner = (silent seen).inner;
  due =
      due-some (or_else (sign_off_due h) (Some OffAbend)) (notice h) (inside p h) (record_seen h) (record_read h) (phase p h) (purpose h)
      (or-some (sign_off_due h) (Some OffAbend) refl);
}
silent-step p h (Replied go n) is comes silent = silent
silent-step p h (Commanded command n) is comes silent = silent
silent-step p h (Exited answer n) is comes silent = λ seen. record {
  is_owner = (silent seen).is_owner;
  inner = (silent seen).inner;
  due = exit-due p h answer n comes (silent seen).due;
}
silent-step p h Reserved is comes silent = λ seen. silent-by p h Reserved want.Reserve is comes refl (silent seen) (silent seen).is_owner refl refl
silent-step p h (ControlRead held known) is comes silent = λ seen. read-seen p h held known (has_seen_taking h) is comes refl silent seen
silent-step p h (ControlWritten w) is comes silent = λ seen.
    silent-by p h (ControlWritten w) (want.CtlWrite w) is comes refl (silent seen)
    (or-left (is_owner h) (names_owner w (number (ControlWritten w ∷ h))) (silent seen).is_owner) refl refl
silent-step p h Released is comes silent = λ seen. released-due p h comes (silent seen)
silent-step p h (Signalled1 signal) is comes silent =
    λ seen. silent-by p h (Signalled1 signal) (want.Signal1 signal) is comes refl (silent seen) (silent seen).is_owner refl refl
silent-step p h (Signalled2 signal) is comes silent =
    λ seen. silent-by p h (Signalled2 signal) (want.Signal2 signal) is comes refl (silent seen) (silent seen).is_owner refl refl
silent-step p h (Looked1 held signal) is comes silent = λ seen. look-seen p h held signal (has_seen_taking h) is comes refl silent seen
silent-step p h (Looked2 signal n) is comes silent = λ seen. looked-due p h signal n is comes (silent seen)
silent-step p h (DecisionMade known n decision) is comes silent = λ seen. decided-due p h known n decision is comes.0 comes.1 (silent seen)
silent-step p h (LineIssued line) is comes silent =
    λ seen. silent-by p h (LineIssued line) (want.Clt line) is comes refl (silent seen) (silent seen).is_owner refl refl
silent-step p h (FirstBlockRead block keys) is comes silent = λ seen. absurd (idle p h (want.LogRead comes.0) is comes.1 refl (silent seen))
silent-step p h (BlockRead block) is comes silent = λ seen. absurd (idle p h (want.LogRead comes.0) is comes.1 refl (silent seen))
silent-step p h (ActFailed tried n) is comes silent = λ seen. absurd (idle p h tried is comes.0 (fails-busy tried comes.1) (silent seen))
silent-step p h (EndedAs reason) is comes silent = absurd comes
silent-step p h e is comes silent = λ seen. absurd (idle p h (next p h) is refl (ap is_busy comes) (silent seen))

-- an owner that has seen a taking has no update next
pub silent-next : (p : Settings) (h : List Event) → IsHistory p h → has_seen_taking h ≡ true → is_busy (next p h) ≡ false
silent-next p h is seen = not-busy p h is (induct Silent (λ p. λ seen. absurd (cc)) (λ p. λ seen. absurd (cc)) silent-step p h is seen)
