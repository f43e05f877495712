-- What an owner that was let through keeps of the time before.
use Rattle.std.proofs.Common.{◌≡◌, ℕ, Bool, true, false, List, [], ◌∷◌, Option, Some, None, refl, arith}
use Rattle.std.proofs.lemmas.Grind.{common_steps}
use Rattle.xrf_cavm.specs.declared.decisions.Decided.{Decided}
use Rattle.xrf_cavm.specs.declared.decisions.Decided.TheVariants.{Owner}
use Rattle.xrf_cavm.specs.declared.known.Known.{Known}
use Rattle.xrf_cebt.specs.declared.commands.Cebt.{Cebt}
use Rattle.xrf_ctl.specs.Control.{ControlRecord}
use Rattle.xrf_history.specs.declared.answer.Answer.{Answer}
use Rattle.xrf_history.specs.declared.answer.Answer.TheVariants as answer
use Rattle.xrf_history.specs.declared.settings.Settings.{Settings}
use Rattle.xrf_history.specs.declared.want.Want.{Want}
use Rattle.xrf_history.specs.declared.want.Want.TheVariants as want
use Rattle.xrf_history.specs.Accepting.{may_take}
use Rattle.xrf_history.specs.Answers.{event, fits, made, gate_event}
use Rattle.xrf_history.specs.Deciding.{mode_of, cause}
use Rattle.xrf_history.specs.Events.{Event, StartedStandby, Ticked, Abended, Replied, Commanded, Exited, Reserved, ControlRead, ControlWritten, DecisionMade, MessageRead, MessageClosed, LogLooked, LogClosed, LogOpened, KeyLooked, RecordRead, RecordUndone, Given, Released}
use Rattle.xrf_history.specs.Holding.{is_owner, is_granted, starts_active, number}
use Rattle.xrf_history.specs.Next.{inside, next, or_boundary}
use Rattle.xrf_history.specs.Reserving.{Purpose, StartTakeover, purpose, purpose_now, abandons, is_leaving, is_starting}
use Rattle.xrf_history.specs.Rows.{boundary}
use Rattle.xrf_history.proofs.Holding.{owner-granted}
use Rattle.xrf_history.proofs.PhaseLaws.{boundary-outside}
use Rattle.xrf_history.proofs.Phases.{is_outside}
use Rattle.xrf_history.proofs.Purposes.{Suits, suits-now}
use Rattle.xrf_history.proofs.Tests.{not-both}
use Rattle.xrf_active.specs.Promoting.{WasAlternate}
use Rattle.xrf_standby.specs.LetThrough.{mode_after, leaves_after}

-- it has just been let through, so it starts no takeover
pub starts_none : (h : List Event) → WasAlternate h → is_owner h ≡ true → is_starting h ≡ false
starts_none [] was owner = absurd was
starts_none (StartedStandby ∷ h) was owner = rw was refl
starts_none (ControlWritten written ∷ h) was owner = refl
starts_none (e ∷ h) was owner = absurd (not-both (is_owner h) owner was.1)

-- a purpose to start a takeover
abbrev is_start : Purpose → Bool
is_start (StartTakeover cause) = true
is_start _ = false

-- an owner reserves for none
suits-start : (q : Purpose) (granted owner : Bool) → Suits q granted owner → owner ≡ true → is_start q ≡ false
suits-start (StartTakeover cause) granted owner suits is = absurd (not-both owner is suits.1)
suits-start _ granted owner suits is = refl

owner-starts : (h : List Event) → is_owner h ≡ true → is_start (purpose_now h) ≡ false
owner-starts h owner = suits-start (purpose_now h) (is_granted h) (is_owner h) (suits-now h) owner

-- the act is to read the control record
abbrev is_read : Want → Bool
is_read want.CtlRead = true
is_read _ = false

abbrev is_read_of : Option Want → Bool
is_read_of None = false
is_read_of (Some act) = is_read act

-- it comes after a RESERVE alone
abbrev is_before_read : Event → Bool
is_before_read Ticked = true
is_before_read Abended = true
is_before_read (Replied go at) = true
is_before_read (Commanded command at) = true
is_before_read (Exited said at) = true
is_before_read Reserved = true
is_before_read _ = false

reads-none : (p : Settings) (h : List Event) (e : Event) → is_before_read e ≡ false → is_read_of (inside p (e ∷ h)) ≡ false
reads-none p h (ControlRead held known) not_before = grind (arith, common_steps)
reads-none p h Released not_before = grind (arith, common_steps)
reads-none p h (MessageRead place slot) not_before = grind (arith, common_steps)
reads-none p h (MessageClosed place) not_before = grind (arith, common_steps)
reads-none p h (LogLooked place gate) not_before = grind (arith, common_steps)
reads-none p h (LogClosed place) not_before = grind (arith, common_steps)
reads-none p h (LogOpened place rec) not_before = grind (arith, common_steps)
reads-none p h (KeyLooked place gate) not_before = grind (arith, common_steps)
reads-none p h (RecordRead rrn slot) not_before = grind (arith, common_steps)
reads-none p h (RecordUndone rrn before) not_before = grind (arith, common_steps)
reads-none p h (Given item) not_before = grind (arith, common_steps)
reads-none p h Ticked not_before = absurd (cc)
reads-none p h Abended not_before = absurd (cc)
reads-none p h (Replied go at) not_before = absurd (cc)
reads-none p h (Commanded command at) not_before = absurd (cc)
reads-none p h (Exited said at) not_before = absurd (cc)
reads-none p h Reserved not_before = absurd (cc)
reads-none p h _ not_before = refl

-- an owner that is to read the control record starts no takeover
inside-reads : (p : Settings) (h : List Event) → is_owner h ≡ true → is_read_of (inside p h) ≡ true → is_start (purpose h) ≡ false
inside-reads p [] owner reads = absurd (cc)
inside-reads p (Ticked ∷ h) owner reads = inside-reads p h owner reads
inside-reads p (Abended ∷ h) owner reads = inside-reads p h owner reads
inside-reads p (Replied go at ∷ h) owner reads = inside-reads p h owner reads
inside-reads p (Commanded command at ∷ h) owner reads = inside-reads p h owner reads
inside-reads p (Exited said at ∷ h) owner reads = inside-reads p h owner reads
inside-reads p (Reserved ∷ h) owner reads = owner-starts h owner
inside-reads p (e ∷ h) owner reads = absurd (not-both (is_read_of (inside p (e ∷ h))) reads (reads-none p h e refl))

outside-reads : (w : Want) → is_outside w ≡ true → is_read w ≡ false
outside-reads want.CtlRead outside = absurd (cc)
outside-reads _ outside = refl

next-reads : (p : Settings) (h : List Event) → is_owner h ≡ true → is_read (next p h) ≡ true → is_start (purpose h) ≡ false
next-reads p h owner reads = by (inside p h) refl reads
  where
    by : (o : Option Want) → inside p h ≡ o → is_read (or_boundary p h o) ≡ true → is_start (purpose h) ≡ false
    by None none read = absurd (not-both (is_read (boundary p h)) read (outside-reads (boundary p h) (boundary-outside p h)))
    by (Some act) some read = inside-reads p h owner (rw some read)

-- so the record that it reads abandons none
abandons-none : (q : Purpose) (me : ℕ) (held : ControlRecord) → is_start q ≡ false → abandons q me held ≡ false
abandons-none (StartTakeover cause) me held none = absurd (cc)
abandons-none _ me held none = refl

fits-read : (p : Settings) (h : List Event) (w : Want) (held : ControlRecord) (known : Known) → fits p h w (answer.Ctl held known) ≡ true → is_read w ≡ true
fits-read p h want.CtlRead held known fitting = refl
fits-read p h _ held known fitting = absurd (cc)

-- What an event keeps of an owner's words: it is an owner, was started as standby, starts no takeover, goes by the same,
-- and leaves as before.
abbrev Keeps : Settings → List Event → Event → Type 0
Keeps p h e =
    (is_owner (e ∷ h) ≡ true) × (starts_active (e ∷ h) ≡ starts_active h) × (is_starting (e ∷ h) ≡ false)
    × (mode_of p (e ∷ h) ≡ mode_of p h) × (is_leaving (e ∷ h) ≡ is_leaving h)

made-keeps : (p : Settings) (h : List Event) (w : Want) → is_owner h ≡ true → is_starting h ≡ false → Keeps p h (made w)
made-keeps p h (want.CtlWrite written) owner starts = (rw owner refl, refl, refl, refl, refl)
made-keeps p h want.Reserve owner starts = (owner, refl, starts, refl, refl)
made-keeps p h _ owner starts = (owner, refl, starts, refl, refl)

gate-keeps : (p : Settings) (h : List Event) (w : Want) (gate : ℕ) → is_owner h ≡ true → is_starting h ≡ false → Keeps p h (gate_event w gate)
gate-keeps p h (want.KpRead place) gate owner starts = (owner, refl, starts, refl, refl)
gate-keeps p h _ gate owner starts = (owner, refl, starts, refl, refl)

-- no REPLY and no CEBT reaches an owner
no-reply : (p : Settings) (h : List Event) (w : Want) (go : Bool) (at : ℕ) → fits p h w (answer.Reply go at) ≡ false
no-reply p h want.Nothing go at = refl
no-reply p h _ go at = refl

no-command : (p : Settings) (h : List Event) (w : Want) (command : Cebt) (at : ℕ) → fits p h w (answer.Cebt command at) ≡ false
no-command p h want.Nothing command at = refl
no-command p h _ command at = refl

replies-none : (p : Settings) (h : List Event) (go : Bool) (at : ℕ) → is_owner h ≡ true → may_take p h (answer.Reply go at) ≡ false
replies-none p h go at owner = rw (owner-granted h owner, owner) (no-reply p h (next p h) go at)

commands-none : (p : Settings) (h : List Event) (command : Cebt) (at : ℕ) → is_owner h ≡ true → may_take p h (answer.Cebt command at) ≡ false
commands-none p h command at owner = rw (owner-granted h owner, owner) (no-command p h (next p h) command at)

-- an answer of a decision
abbrev is_decision : Answer → Bool
is_decision (answer.Decide known at) = true
is_decision _ = false

event-keeps : (p : Settings) (h : List Event) (a : Answer) → is_owner h ≡ true → is_starting h ≡ false → may_take p h a ≡ true → is_decision a ≡ false
    → Keeps p h (event p h a)
event-keeps p h (answer.Decide known at) owner starts may none = absurd (cc)
event-keeps p h (answer.Done at) owner starts may none = made-keeps p h (next p h) owner starts
event-keeps p h (answer.Gate gate) owner starts may none = gate-keeps p h (next p h) gate owner starts
event-keeps p h (answer.Ctl held known) owner starts may none =
    (owner, refl, starts, refl, rw (abandons-none (purpose h) (number h) held (next-reads p h owner (fits-read p h (next p h) held known may))) refl)
event-keeps p h (answer.Failed at) owner starts may none = (owner, refl, starts, refl, rw owner refl)
event-keeps p h (answer.Reply go at) owner starts may none = absurd (not-both (may_take p h (answer.Reply go at)) may (replies-none p h go at owner))
event-keeps p h (answer.Cebt command at) owner starts may none = absurd (not-both (may_take p h (answer.Cebt command at)) may (commands-none p h command at owner))
event-keeps p h _ owner starts may none = (owner, refl, starts, refl, refl)

-- a decision of an owner
abbrev is_owners : Decided → Bool
is_owners (Owner acting) = true
is_owners _ = false

decides-owners : (p : Settings) (h : List Event) (known : Known) (at : ℕ) → is_owner h ≡ true → is_owners (cause p h known at) ≡ true
decides-owners p h known at owner = grind (arith, common_steps)

decided-starts : (h : List Event) (known : Known) (at : ℕ) (d : Decided) → is_owners d ≡ true → is_starting (DecisionMade known at d ∷ h) ≡ false
decided-starts h known at (Owner acting) is = refl
decided-starts h known at _ is = absurd (cc)

decided-mode : (p : Settings) (h : List Event) (known : Known) (at : ℕ) (d : Decided) → is_owners d ≡ true
    → mode_of p (DecisionMade known at d ∷ h) ≡ mode_after p h (answer.Decide known at) (mode_of p h)
decided-mode p h known at (Owner acting) is = refl
decided-mode p h known at _ is = absurd (cc)

decided-leaves : (h : List Event) (known : Known) (at : ℕ) (d : Decided) → is_owners d ≡ true → is_leaving (DecisionMade known at d ∷ h) ≡ false
decided-leaves h known at (Owner acting) is = refl
decided-leaves h known at _ is = absurd (cc)

-- a decision keeps its words but for what was asked and said, and that it leaves
pub owns_on : (p : Settings) (h : List Event) (a : Answer) → is_owner h ≡ true → is_starting h ≡ false → may_take p h a ≡ true → is_owner (event p h a ∷ h) ≡ true
owns_on p h (answer.Decide known at) owner starts may = owner
owns_on p h a owner starts may = (event-keeps p h a owner starts may refl).0

pub started_so : (p : Settings) (h : List Event) (a : Answer) → is_owner h ≡ true → is_starting h ≡ false → may_take p h a ≡ true
    → starts_active (event p h a ∷ h) ≡ starts_active h
started_so p h (answer.Decide known at) owner starts may = refl
started_so p h a owner starts may = (event-keeps p h a owner starts may refl).1

pub starts_on : (p : Settings) (h : List Event) (a : Answer) → is_owner h ≡ true → is_starting h ≡ false → may_take p h a ≡ true
    → is_starting (event p h a ∷ h) ≡ false
starts_on p h (answer.Decide known at) owner starts may = decided-starts h known at (cause p h known at) (decides-owners p h known at owner)
starts_on p h a owner starts may = (event-keeps p h a owner starts may refl).2

pub mode_on : (p : Settings) (h : List Event) (a : Answer) → is_owner h ≡ true → is_starting h ≡ false → may_take p h a ≡ true
    → mode_of p (event p h a ∷ h) ≡ mode_after p h a (mode_of p h)
mode_on p h (answer.Decide known at) owner starts may = decided-mode p h known at (cause p h known at) (decides-owners p h known at owner)
mode_on p h a owner starts may = (event-keeps p h a owner starts may refl).3

pub leaves_on : (p : Settings) (h : List Event) (a : Answer) → is_owner h ≡ true → is_starting h ≡ false → may_take p h a ≡ true
    → is_leaving (event p h a ∷ h) ≡ leaves_after a (is_leaving h)
leaves_on p h (answer.Decide known at) owner starts may = decided-leaves h known at (cause p h known at) (decides-owners p h known at owner)
leaves_on p h a owner starts may = (event-keeps p h a owner starts may refl).4
