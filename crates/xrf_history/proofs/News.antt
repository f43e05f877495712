-- Loss of signal is no news within the interval.
use Rattle.std.proofs.Common.{List, None, Option, Some, ap, true, ◌≡◌, Bool, false, ℕ, ◌||◌, [], ◌∷◌, arith, max, not, ◌&&◌, refl, ◌∙◌, is_some, if◌then◌else◌, sym}
use Rattle.std.proofs.lemmas.Grind.{common_steps}
use Rattle.xrf_ctl.specs.declared.parts.Cause.{Cause}
use Rattle.xrf_ctl.specs.declared.parts.OwnerState.{OwnerState}
use Rattle.xrf_cavm.specs.Watch.{is_lost, latest, Look, Looked, Reset, Told, changes, is_news, last_look}
use Rattle.xrf_cavm.specs.declared.decisions.Decided.{Decided}
use Rattle.xrf_cavm.specs.declared.decisions.Decided.TheVariants.{Owner}
use Rattle.xrf_cavm.specs.declared.known.Known.{Known}
use Rattle.xrf_cavm.specs.Record.{is_owner as names_owner}
use Rattle.xrf_cavm.specs.declared.decisions.Acting.TheVariants as acting
use Rattle.xrf_exit.specs.declared.ExitAnswer.{ExitAnswer}
use Rattle.xrf_exit.specs.declared.Notice.{Notice}
use Rattle.xrf_exit.specs.declared.Notice.TheVariants.{TakeoverSeen}
use Rattle.xrf_exit.specs.declared.ExitAnswer.TheVariants as exit
use Rattle.xrf_cebt.specs.declared.commands.Cebt.{Cebt}
use Rattle.xrf_history.specs.Events.{Event, DecisionMade, Exited, ControlWritten, Reserved, Released, StartedActive, StartedStandby, Commanded, Looked2, Replied, Abended, Looked1, Signalled1, Signalled2, Ticked}
use Rattle.xrf_history.specs.declared.settings.Settings.{Settings}
use Rattle.xrf_history.specs.declared.want.Want.{Want}
use Rattle.xrf_history.specs.Next.{inside, next, or_boundary}
use Rattle.xrf_history.proofs.Rounds.{is_rounds, is_rounds_of, round-inside, rounds-after}
use Rattle.xrf_history.specs.News.{is_within, look_before, turns_on, has_news}
use Rattle.xrf_history.specs.Looking.{told_to_watch, told_of_command, told_of_decision, told_of_exit, signal_seen, change}
use Rattle.xrf_history.specs.Holding.{is_owner, is_granted, starts_active, number}
use Rattle.xrf_history.specs.Notices.{notice, notice_in, is_drop, drop_read_taking}
use Rattle.xrf_history.specs.Deciding.{cause}
use Rattle.xrf_history.specs.declared.want.EndWhy.{EndWhy}
use Rattle.xrf_history.specs.Reserving.{SignOnActive, SignOnStandby, leaves, purpose_now, purpose_of_alternate, purpose_of_owner, sign_off_due, start_due, purpose, record_read}
use Rattle.xrf_history.proofs.Histories.{Comes, IsHistory, induct}
use Rattle.xrf_history.specs.Accepting.{exit_allowed}
use Rattle.xrf_history.specs.declared.want.Want.TheVariants as want
use Rattle.xrf_history.proofs.Tests.{or-left}

-- a round goes on inside its sequence
pub inside-is : (p : Settings) (h : List Event) (w : Want) → next p h ≡ w → is_rounds w ≡ true → inside p h ≡ Some w
inside-is p h w is rounds = by (inside p h) (round-inside p h w is rounds) is
  where
    by : (o : Option Want) → is_rounds_of o ≡ true → or_boundary p h o ≡ w → o ≡ Some w
    by None here same = absurd (cc)
    by (Some v) here same = ap (λ (u : Want). Some u) same

-- some tick of these is within the interval
abbrev pub any_within : ℕ → ℕ → List ℕ → Bool
any_within adi now [] = false
any_within adi now (t ∷ ts) = is_within adi now t || any_within adi now ts

-- loss by the later of two ticks
lost-max : (adi now t r : ℕ) → is_lost (max t r) adi now ≡ (not (is_within adi now t) && is_lost r adi now)
lost-max adi now t r = grind (arith, common_steps)

-- loss by the latest tick is none within the interval
lost-from : (adi now start : ℕ) (ts : List ℕ) → is_lost (latest start ts) adi now ≡ (not (any_within adi now ts) && is_lost start adi now)
lost-from adi now start [] = refl
lost-from adi now start (t ∷ ts) =
    lost-max adi now t (latest start ts) ∙ by (is_within adi now t) (any_within adi now ts) (is_lost start adi now) (lost-from adi now start ts)
  where
    by : (a b c : Bool) → is_lost (latest start ts) adi now ≡ (not b && c) → (not a && is_lost (latest start ts) adi now) ≡ (not (a || b) && c)
    by true b c is = refl
    by false b c is = is

-- a tick that is not within the interval tells loss from the first on
within-zero : (adi now t : ℕ) → is_within adi now t ≡ false → is_lost 0 adi now ≡ true
within-zero adi now t is = grind (arith, common_steps)

-- some tick is there
abbrev pub is_cons : List ℕ → Bool
is_cons [] = false
is_cons (t ∷ ts) = true

-- loss is no tick within the interval, where some tick is there
pub lost-news : (adi now : ℕ) (ts : List ℕ) → is_cons ts ≡ true → is_lost (latest 0 ts) adi now ≡ not (any_within adi now ts)
lost-news adi now [] is = absurd (cc)
lost-news adi now (t ∷ ts) is = lost-from adi now 0 (t ∷ ts) ∙ by (is_within adi now t) (any_within adi now ts) refl
  where
    by : (a b : Bool) → is_within adi now t ≡ a → (not (a || b) && is_lost 0 adi now) ≡ not (a || b)
    by true b within = refl
    by false true within = refl
    by false false within = within-zero adi now t within

-- where a look was told there is a change
pub look-cons : (ts : List Told) → is_some (last_look ts) ≡ true → is_cons (changes ts) ≡ true
look-cons [] is = absurd (cc)
look-cons (Reset at ∷ ts) is = refl
look-cons (Looked look at ∷ ts) is = by (last_look ts) refl (look-cons ts)
  where
    of : (b : Bool) → is_cons (changes ts) ≡ true → is_cons (if b then at ∷ changes ts else changes ts) ≡ true
    of true rest = refl
    of false rest = rest

    by : (o : Option Look) → last_look ts ≡ o → (is_some (last_look ts) ≡ true → is_cons (changes ts) ≡ true)
        → is_cons (if is_news look o then at ∷ changes ts else changes ts) ≡ true
    by None same rest = refl
    by (Some before) same rest = of (is_news look (Some before)) (rest (ap (λ (q : Option Look). is_some q) same))

-- what counts as a change in an owner alone
abbrev is_catch_up : Decided → Bool
is_catch_up (Owner (acting.CatchUp n)) = true
is_catch_up _ = false

-- EXIT KEEP
abbrev is_keep : ExitAnswer → Bool
is_keep exit.Keep = true
is_keep _ = false

-- a history was told CATCHUP or EXIT KEEP, which count in an owner alone
abbrev pub has_reset : List Event → Bool
has_reset [] = false
has_reset (DecisionMade known at decision ∷ h) = is_catch_up decision || has_reset h
has_reset (Exited answer at ∷ h) = is_keep answer || has_reset h
has_reset (_ ∷ h) = has_reset h

-- nothing is noticed, and nothing that counts in an owner alone was told
record Quiet (told : Option Notice) (reset : Bool) : Type 0 where
  pub none : told ≡ None
  pub plain : reset ≡ false

-- so it is of a job that is no owner
abbrev IsQuiet : Settings → List Event → Type 0
IsQuiet p h = is_owner h ≡ false → Quiet (notice h) (has_reset h)

-- who is no owner decides no CATCHUP and notices nothing
cause-quiet : (p : Settings) (h : List Event) (known : Known) (n : ℕ) (decision : Decided) (told : Option Notice) → decision ≡ cause p h known n
    → is_owner h ≡ false
    → (notice_in decision told ≡ told) × (is_catch_up decision ≡ false)
cause-quiet p h known n decision told made no_owner = grind (arith, common_steps)

-- a RESERVE to drop is an owner's
drop-now : (h : List Event) → is_drop (purpose_now h) ≡ true → is_owner h ≡ true
drop-now h is = by (sign_off_due h) (is_granted h) (is_owner h) (starts_active h) (leaves h) (start_due h) is
  where
    by : (o : Option OwnerState) (g w a : Bool) (l : Option EndWhy) (start : Option Cause)
        → is_drop (elim g [
          | false ↦ elim a [ true ↦ SignOnActive | false ↦ SignOnStandby ]
          | true ↦ elim w
              [ true ↦ purpose_of_owner o | false ↦ purpose_of_alternate l start ]
        ]) ≡ true
        → w ≡ true
    by o g true a l start is = refl
    by o false false true l start is = absurd (cc)
    by o false false false l start is = absurd (cc)
    by o true false a (Some r) start is = absurd (cc)
    by o true false a None (Some c) is = absurd (cc)
    by o true false a None None is = absurd (cc)

-- what is not one of two is not the first
pub or-none : (a b : Bool) → (a || b) ≡ false → a ≡ false
or-none a b is = grind (arith, common_steps)

-- who has a purpose to drop is an owner
drop-owner : (h : List Event) → is_drop (purpose h) ≡ true → is_owner h ≡ true
drop-owner [] is = absurd (cc)
drop-owner (Reserved ∷ h) is = drop-now h is
drop-owner (ControlWritten w ∷ h) is = or-left (is_owner h) (names_owner w (number (ControlWritten w ∷ h))) (drop-owner h is)
drop-owner (_ ∷ h) is = drop-owner h is

-- who is no owner read no taking for a drop
no-taking : (h : List Event) → is_owner h ≡ false → drop_read_taking h ≡ false
no-taking h no_owner = by (is_drop (purpose h)) refl
  where
    by : (b : Bool) → is_drop (purpose h) ≡ b → (b && is_some (record_read h).taking) ≡ false
    by false drop = refl
    by true drop = absurd (cc (sym no_owner ∙ drop-owner h drop))

-- each event keeps it
quiet-step : (p : Settings) (h : List Event) (e : Event) → IsHistory p h → Comes p h e → IsQuiet p h → IsQuiet p (e ∷ h)
quiet-step p h StartedActive is comes quiet = absurd comes
quiet-step p h StartedStandby is comes quiet = absurd comes
quiet-step p h (DecisionMade known n decision) is comes quiet = λ no_owner.
    let before = quiet no_owner in
    let plain = cause-quiet p h known n decision (notice h) comes.1 no_owner in
    record { none = plain.0 ∙ before.none; plain = ap (λ (b : Bool). b || has_reset h) plain.1 ∙ before.plain }
quiet-step p h (Exited answer n) is comes quiet = λ no_owner. absurd (cc (sym comes ∙ ap (λ (o : Option Notice). exit_allowed o answer) (quiet no_owner).none))
quiet-step p h (ControlWritten w) is comes quiet = λ no_owner. quiet (or-none (is_owner h) (names_owner w (number (ControlWritten w ∷ h))) no_owner)
quiet-step p h Released is comes quiet = λ no_owner.
    record { none = ap (λ (b : Bool). if b then Some TakeoverSeen else notice h) (no-taking h no_owner) ∙ (quiet no_owner).none; plain = (quiet no_owner).plain }
quiet-step p h _ is comes quiet = quiet

-- a job that is no owner was told nothing that counts in an owner alone
pub quiet : (p : Settings) (h : List Event) → IsHistory p h → is_owner h ≡ false → has_reset h ≡ false
quiet p h is no_owner =
    (induct IsQuiet (λ p. λ no_owner. record { none = refl; plain = refl }) (λ p. λ no_owner. record { none = refl; plain = refl }) quiet-step p h is no_owner).plain

-- the news of a job that was never told what counts in an owner alone
both-none : (a b : Bool) → (a || b) ≡ false → (a ≡ false) × (b ≡ false)
both-none a b is = grind (arith, common_steps)

-- a command is no look
of-command : (command : Cebt) (at : ℕ) (ts : List Told) → last_look (told_of_command command at ts) ≡ last_look ts
of-command command at ts = grind (arith, common_steps)

-- a decision is no look
of-decision : (decision : Decided) (at : ℕ) (ts : List Told) → last_look (told_of_decision decision at ts) ≡ last_look ts
of-decision decision at ts = grind (arith, common_steps)

-- the last look that was told is the look before
look-is : (h : List Event) → last_look (told_to_watch h) ≡ look_before h
look-is [] = refl
look-is (Looked2 signal at ∷ h) = refl
look-is (Replied true at ∷ h) = look-is h
look-is (Replied false at ∷ h) = look-is h
look-is (Commanded command at ∷ h) = of-command command at (told_to_watch h) ∙ look-is h
look-is (DecisionMade known at decision ∷ h) = of-decision decision at (told_to_watch h) ∙ look-is h
look-is (Exited exit.Keep at ∷ h) = look-is h
look-is (Exited exit.Drop at ∷ h) = look-is h
look-is (Exited exit.Abend at ∷ h) = look-is h
look-is (_ ∷ h) = look-is h

-- a conjunction with what is not met
and-false : (a : Bool) → (a && false) ≡ false
and-false true = refl
and-false false = refl

-- a conjunction with what is met
and-true : (a : Bool) → (a && true) ≡ a
and-true true = refl
and-true false = refl

-- a decision that is no CATCHUP tells nothing
plain-decision : (decision : Decided) (at : ℕ) (ts : List Told) → is_catch_up decision ≡ false → told_of_decision decision at ts ≡ ts
plain-decision decision at ts plain = grind (arith, common_steps)

-- an EXIT but KEEP tells nothing
plain-exit : (answer : ExitAnswer) (at : ℕ) (ts : List Told) → is_keep answer ≡ false → told_of_exit answer at ts ≡ ts
plain-exit answer at ts plain = grind (arith, common_steps)

-- a tick that is added by a test
add-if : (adi now at : ℕ) (ts : List ℕ) (b : Bool) → any_within adi now (if b then at ∷ ts else ts) ≡ ((is_within adi now at && b) || any_within adi now ts)
add-if adi now at ts b = grind (arith, common_steps)

-- a command tells news where it turns surveillance on
command-news : (adi now at : ℕ) (ts : List Told) (command : Cebt)
    → any_within adi now (changes (told_of_command command at ts)) ≡ ((is_within adi now at && turns_on command) || any_within adi now (changes ts))
command-news adi now at ts command = grind (arith, common_steps)

-- news is a change that was told within the interval
pub news-told : (adi now : ℕ) (h : List Event) → has_reset h ≡ false → has_news adi now h ≡ any_within adi now (changes (told_to_watch h))
news-told adi now [] plain = refl
news-told adi now (Looked2 signal at ∷ h) plain =
    ap (λ (b : Bool). (is_within adi now at && is_news (signal_seen h, signal) (look_before h)) || b) (news-told adi now h plain)
    ∙ ap (λ (b : Bool). (is_within adi now at && b) || any_within adi now (changes (told_to_watch h)))
    (ap (is_news (signal_seen h, signal)) (sym (look-is h)))
    ∙ sym (add-if adi now at (changes (told_to_watch h)) (is_news (signal_seen h, signal) (last_look (told_to_watch h))))
news-told adi now (Replied true at ∷ h) plain = ap (λ (b : Bool). b || has_news adi now h) (and-false (is_within adi now at)) ∙ news-told adi now h plain
news-told adi now (Replied false at ∷ h) plain =
    ap (λ (b : Bool). b || has_news adi now h) (and-true (is_within adi now at)) ∙ ap (λ (b : Bool). is_within adi now at || b) (news-told adi now h plain)
news-told adi now (Commanded command at ∷ h) plain =
    ap (λ (b : Bool). (is_within adi now at && turns_on command) || b) (news-told adi now h plain) ∙ sym (command-news adi now at (told_to_watch h) command)
news-told adi now (DecisionMade known at decision ∷ h) plain =
    let parts = both-none (is_catch_up decision) (has_reset h) plain in
    news-told adi now h parts.1 ∙ ap (λ (ts : List Told). any_within adi now (changes ts)) (sym (plain-decision decision at (told_to_watch h) parts.0))
news-told adi now (Exited answer at ∷ h) plain =
    let parts = both-none (is_keep answer) (has_reset h) plain in
    news-told adi now h parts.1 ∙ ap (λ (ts : List Told). any_within adi now (changes ts)) (sym (plain-exit answer at (told_to_watch h) parts.0))
news-told adi now (_ ∷ h) plain = news-told adi now h plain

-- a DECIDE comes after a look
abbrev is_decide_of : Option Want → Bool
is_decide_of (Some want.Decide) = true
is_decide_of _ = false

-- a DECIDE goes on with a round
decide-rounds : (o : Option Want) → is_decide_of o ≡ true → is_rounds_of o ≡ true
decide-rounds o is = grind (arith, common_steps)

-- where DECIDE comes next a look was made
abbrev Looks : Settings → List Event → Type 0
Looks p h = is_decide_of (inside p h) ≡ true → is_some (look_before h) ≡ true

-- each event keeps it
looks-step : (p : Settings) (h : List Event) (e : Event) → IsHistory p h → Comes p h e → Looks p h → Looks p (e ∷ h)
looks-step p h Ticked is comes looks = looks
looks-step p h Abended is comes looks = looks
looks-step p h (Replied go n) is comes looks = looks
looks-step p h (Commanded command n) is comes looks = looks
looks-step p h (Exited answer n) is comes looks = looks
looks-step p h (Signalled1 signal) is comes looks = λ here. absurd (cc)
looks-step p h (Signalled2 signal) is comes looks = λ here. absurd (cc)
looks-step p h (Looked1 held signal) is comes looks = λ here. absurd (cc)
looks-step p h (Looked2 signal n) is comes looks = λ here. refl
looks-step p h StartedActive is comes looks = absurd comes
looks-step p h StartedStandby is comes looks = absurd comes
looks-step p h e is comes looks = λ here. absurd (rounds-after p h e refl (decide-rounds (inside p (e ∷ h)) here))

-- a DECIDE comes after a look
decides-look : (p : Settings) (h : List Event) → IsHistory p h → next p h ≡ want.Decide → is_some (look_before h) ≡ true
decides-look p h is comes =
    induct Looks (λ p. λ here. absurd (cc)) (λ p. λ here. absurd (cc)) looks-step p h is (ap is_decide_of (inside-is p h want.Decide comes refl))

-- at a DECIDE of a job that is no owner, loss of signal is no news within the interval
pub lost-is : (p : Settings) (h : List Event) (now : ℕ) → IsHistory p h → next p h ≡ want.Decide → is_owner h ≡ false
    → is_lost (change h) p.adi now ≡ not (has_news p.adi now h)
lost-is p h now is comes no_owner =
    lost-news p.adi now (changes (told_to_watch h)) (look-cons (told_to_watch h) (ap (λ (o : Option Look). is_some o) (look-is h) ∙ decides-look p h is comes))
    ∙ ap not (sym (news-told p.adi now h (quiet p h is no_owner)))
