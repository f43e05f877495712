-- An alternate that waits leaves since an act of it failed.
use Rattle.std.proofs.Common.{arith, ◌≡◌, ◌&&◌, ◌||◌, not, ℕ, Bool, true, false, Option, Some, None, is_some, List, ◌∷◌, sym, ap, refl, ◌∙◌}
use Rattle.std.proofs.lemmas.Grind.{common_steps}
use Rattle.xrf_ctl.specs.Control.{ControlRecord}
use Rattle.xrf_cavm.specs.declared.decisions.Decided.{Decided}
use Rattle.xrf_cavm.specs.declared.known.Known.{Known}
use Rattle.xrf_cavm.specs.Record.{is_owner as names_owner}
use Rattle.xrf_history.proofs.Decisions.{is_start}
use Rattle.xrf_history.proofs.Histories.{Comes, IsHistory, induct}
use Rattle.xrf_history.proofs.Holding.{started-granted}
use Rattle.xrf_history.proofs.PhaseLaws.{fails-work, read-phase, work-phase, write-phase}
use Rattle.xrf_history.proofs.Phases.{before_write, is_work, phase, released}
use Rattle.xrf_history.proofs.Purposes.{Suits, suited}
use Rattle.xrf_history.proofs.Writes.{Wrote, number_after, wrote}
use Rattle.xrf_history.specs.Deciding.{cause}
use Rattle.xrf_history.specs.Events.{ActFailed, ControlRead, ControlWritten, DecisionMade, Event, Released, Reserved, StartedActive, StartedStandby}
use Rattle.xrf_history.specs.Holding.{has_started_takeover, is_granted, is_owner, is_waiting, number}
use Rattle.xrf_history.specs.Next.{after_release}
use Rattle.xrf_history.specs.Notices.{epoch_number}
use Rattle.xrf_history.specs.Reserving.{Leave, Purpose, end_in, known_read, leaves, purpose, purpose_now, record_read}
use Rattle.xrf_history.specs.declared.settings.Settings.{Settings}
use Rattle.xrf_history.specs.declared.want.EndWhy.{EndWhy}
use Rattle.xrf_history.specs.declared.want.Want.{Want}
use Rattle.xrf_trace.specs.OwnHand.{has_failed}

-- a purpose to leave
abbrev pub is_leave : Purpose → Bool
is_leave (Leave reason) = true
is_leave _ = false

-- one that waits leaves since an act of it failed; one that starts a takeover does not leave; and one that leaves does
record Left (waiting early bad : Bool) (q : Purpose) (why : Option EndWhy) : Type 0 where
  failed : waiting ≡ true → is_some why ≡ true → bad ≡ true
  starts : early ≡ true → is_start q ≡ true → why ≡ None
  leaves : early ≡ true → is_leave q ≡ true → is_some why ≡ true

-- the same of a history
abbrev IsLeft : Settings → List Event → Type 0
IsLeft p h = Left (is_waiting h) (before_write (phase p h)) (has_failed h) (purpose h) (leaves h)

-- who waits decides for no leave
waiting-stays : (p : Settings) (h : List Event) (known : Known) (n : ℕ) (decision : Decided) → decision ≡ cause p h known n → is_waiting h ≡ true
    → is_some (end_in decision) ≡ true → ⊥
waiting-stays p h known n decision made waiting some = grind (arith, common_steps)

-- a RESERVE to start a takeover is of one that does not leave
start-now : (h : List Event) → is_start (purpose_now h) ≡ true → leaves h ≡ None
start-now h start = grind (arith, common_steps)

-- one to leave is of one that does
leave-now : (h : List Event) → is_leave (purpose_now h) ≡ true → is_some (leaves h) ≡ true
leave-now h leave = grind (arith, common_steps)

-- by its write an alternate waits where it waited before, or starts a takeover
begins : (p : Settings) (q : Purpose) (me n : ℕ) (c w : ControlRecord) (known : Known) (granted owner started : Bool) → Wrote p q me c known w → Suits q granted owner
    → (granted ≡ false → started ≡ false) → (not (owner || names_owner w n) && (started || (not (owner || names_owner w n) && is_some w.taking))) ≡ true
    → (granted && not owner && started) ≡ false → is_start q ≡ true
begins p q me n c w known granted owner started did suits before after waited = grind (arith, common_steps)

-- who holds no number started no takeover
fresh-start : (h : List Event) (started : Bool) → has_started_takeover h ≡ started → is_granted h ≡ false → started ≡ false
fresh-start h true is none = absurd (cc (sym (started-granted h is) ∙ none))
fresh-start h false is none = refl

-- after a RELEASE nothing is to be written
not-early : (o : Option Want) → before_write (released o) ≡ true → ⊥
not-early None is = absurd (cc)
not-early (Some w) is = absurd (cc)

-- each event keeps it
left-step : (p : Settings) (h : List Event) (e : Event) → IsHistory p h → Comes p h e → IsLeft p h → IsLeft p (e ∷ h)
left-step p h StartedActive is comes left = absurd comes
left-step p h StartedStandby is comes left = absurd comes
left-step p h Reserved is comes left = record { failed = left.failed; starts = λ early. start-now h; leaves = λ early. leave-now h }
left-step p h (ControlRead held known) is comes left =
    let early : before_write (phase p h) ≡ true = ap before_write (read-phase p h is comes) in
    record { failed = left.failed; starts = λ now. left.starts early; leaves = λ now. left.leaves early }
left-step p h (ControlWritten w) is comes left =
    record { failed = λ waiting some. by (is_waiting h) refl waiting some; starts = λ early. absurd (cc); leaves = λ early. absurd (cc) }
  where
    early : before_write (phase p h) ≡ true
    early = ap before_write (write-phase p h w is comes).0

    by : (waited : Bool) → is_waiting h ≡ waited → is_waiting (ControlWritten w ∷ h) ≡ true → is_some (leaves h) ≡ true → has_failed h ≡ true
    by true waited waiting some = left.failed waited some
    by false waited waiting some =
        let did = wrote p (purpose h) (number h) (epoch_number h) (record_read h) w (known_read h) (write-phase p h w is comes).1 in
        let start = begins p (purpose h) (number h) (number_after (is_granted h) (number h) w) (record_read h) w (known_read h) (is_granted h) (is_owner h) (has_started_takeover h) did (suited p h is early) (fresh-start h (has_started_takeover h) refl) waiting waited in
        absurd (cc (sym (ap is_some (left.starts early start)) ∙ some))
left-step p h Released is comes left =
    record { failed = left.failed; starts = λ early. absurd (not-early (after_release p h) early); leaves = λ early. absurd (not-early (after_release p h) early) }
left-step p h (DecisionMade known n decision) is comes left = record {
  failed = λ waiting some. absurd (waiting-stays p h known n decision comes.1 waiting some);
  starts = λ early. absurd (cc (sym (ap before_write (work-phase p h is (ap is_work comes.0))) ∙ early));
  leaves = λ early. absurd (cc (sym (ap before_write (work-phase p h is (ap is_work comes.0))) ∙ early));
}
left-step p h (ActFailed tried at) is comes left =
    let outside = ap before_write (work-phase p h is (ap is_work comes.0 ∙ fails-work tried comes.1)) in
    record { failed = λ waiting some. refl; starts = λ early. absurd (cc (sym outside ∙ early)); leaves = λ early. absurd (cc (sym outside ∙ early)) }
left-step p h _ is comes left = left

-- why an alternate leaves
left-of : (p : Settings) (h : List Event) → IsHistory p h → IsLeft p h
left-of p h is =
    induct IsLeft (λ p. record { failed = λ waiting. absurd (cc); starts = λ early. absurd (cc); leaves = λ early. absurd (cc) })
    (λ p. record { failed = λ waiting. absurd (cc); starts = λ early. absurd (cc); leaves = λ early. absurd (cc) }) left-step p h is

-- **an alternate that waits and writes that it leaves had a failed act**
pub leaves-failed : (p : Settings) (h : List Event) → IsHistory p h → before_write (phase p h) ≡ true → is_leave (purpose h) ≡ true → is_waiting h ≡ true → has_failed h ≡ true
leaves-failed p h is early leave waiting = let left = left-of p h is in left.failed waiting (left.leaves early leave)
