-- From DECIDE START on: the RESERVE that follows is for that start, and no other follows before the next DECIDE.
use Rattle.std.proofs.Common.{List, [], ◌∷◌, Bool, Option, false, ◌≡◌, None, true, ◌⊎◌, Some, arith, ℕ, refl, ap, subst, ◌||◌, if◌then◌else◌, ◌∙◌, sym, inl, inr, ◌&&◌}
use Rattle.std.proofs.lemmas.Grind.{common_steps}
use Rattle.xrf_ctl.specs.declared.parts.Cause.{Cause}
use Rattle.xrf_ctl.specs.Control.{ControlRecord}
use Rattle.xrf_cavm.specs.declared.decisions.Decided.{Decided}
use Rattle.xrf_cavm.specs.declared.known.Known.{Known}
use Rattle.xrf_cavm.specs.Record.{is_owner as names_owner}
use Rattle.xrf_history.proofs.Writes.{AltRule, Wrote, wrote}
use Rattle.xrf_history.specs.Events.{ControlRead, Event, ControlWritten, Reserved, Released, MessageRead, ActFailed, DecisionMade, StartedActive, StartedStandby}
use Rattle.xrf_history.specs.Reserving.{record_read, Purpose, StartTakeover, purpose, last_decision, leaves, open_decision, start_in, end_in, purpose_now, start_due, known_read, is_through_decision}
use Rattle.xrf_history.proofs.Phases.{Outside, Phase, phase, may_release, is_work}
use Rattle.xrf_history.specs.Progress.{has_read, has_read_since_decision}
use Rattle.xrf_history.specs.declared.want.EndWhy.{EndWhy}
use Rattle.xrf_history.specs.Holding.{is_granted, is_owner, number}
use Rattle.xrf_history.specs.declared.settings.Settings.{Settings}
use Rattle.xrf_history.specs.Rows.{reading_due, lets_read}
use Rattle.xrf_history.specs.Deciding.{cause}
use Rattle.xrf_history.proofs.Histories.{IsHistory, Comes, induct}
use Rattle.xrf_history.specs.Notices.{epoch_number}
use Rattle.xrf_history.specs.Next.{next}
use Rattle.xrf_history.proofs.PhaseLaws.{write-phase, read-phase, releases-phase, work-phase}
use Rattle.xrf_history.proofs.Purposes.{start-boundary}
use Rattle.xrf_history.specs.Taking.{gives}
use Rattle.xrf_history.specs.declared.want.Want.{Want}
use Rattle.xrf_history.proofs.OwnersWork.{is_owner_act, owner_acts}
use Rattle.xrf_history.proofs.Rounds.{is_reading, reads-due, decides-granted}
use Rattle.xrf_history.specs.Answers.{may_fail}
use Rattle.xrf_history.specs.declared.want.Want.TheVariants as want

-- each record that it was handed under the reserve keeps the rule
abbrev pub AreRuled : List Event → Type 0
AreRuled [] = Unit {0}
AreRuled (ControlRead held known ∷ h) = AreRuled h × AltRule held.owner held.alt
AreRuled (_ ∷ h) = AreRuled h

-- so does the last
pub ruled-read : (h : List Event) → AreRuled h → AltRule (record_read h).owner (record_read h).alt
ruled-read [] ruled = tt
ruled-read (ControlRead held known ∷ h) ruled = ruled.1
ruled-read (_ ∷ h) ruled = ruled-read h ruled

-- before the RESERVE of the start, and from it on
pub record Before (opened last : Option Decided) (since : Bool) (f : Phase) : Type 0 where
  pub same : opened ≡ last
  pub unread : since ≡ false
  pub outside : f ≡ Outside

-- from the RESERVE on: its purpose is the start
pub record Since (opened : Option Decided) (since read : Bool) (q : Purpose) (why : Cause) : Type 0 where
  pub none : opened ≡ None
  pub purpose : q ≡ StartTakeover why
  pub has_read : since ≡ true → read ≡ true

-- a job that decided to start
pub record Starting (granted owner : Bool) (stays : Option EndWhy) (reading : Bool) (opened last : Option Decided) (since read : Bool) (q : Purpose)
    (f : Phase) (why : Cause) : Type 0 where
  pub is_granted : granted ≡ true
  pub no_owner : owner ≡ false
  pub none_left : stays ≡ None
  pub not_reading : reading ≡ false
  pub at : Before opened last since f ⊎ Since opened since read q why

-- of a history, by its cause
abbrev pub StartsAt : Settings → List Event → Cause → Type 0
StartsAt p h why =
    Starting (is_granted h) (is_owner h) (leaves h) (reading_due h) (open_decision h) (last_decision h) (has_read_since_decision h) (has_read h)
    (purpose h) (phase p h) why

-- after DECIDE START
abbrev pub IsStarting : Settings → List Event → Type 0
IsStarting p h = AreRuled h → (why : Cause) → start_in (last_decision h) ≡ Some why → StartsAt p h why

-- the decision
owner-starts : (p : Settings) (h : List Event) (known : Known) (n : ℕ) (decision : Decided) (why : Cause) → is_owner h ≡ true → decision ≡ cause p h known n
    → start_in (Some decision) ≡ Some why → ⊥
owner-starts p h known n decision why owner made is = grind (arith, common_steps)

-- who decides START is no owner
pub start-cause : (p : Settings) (h : List Event) (known : Known) (n : ℕ) (decision : Decided) (why : Cause) → decision ≡ cause p h known n
    → start_in (Some decision) ≡ Some why
    → is_owner h ≡ false
start-cause p h known n decision why made is = by (is_owner h) refl
  where
    by : (b : Bool) → is_owner h ≡ b → b ≡ false
    by false owner = refl
    by true owner = absurd (owner-starts p h known n decision why owner made is)

-- a START lets nothing be read, and does not end the job
pub start-reads : (decision : Decided) (why : Cause) → start_in (Some decision) ≡ Some why → (lets_read decision ≡ false) × (end_in decision ≡ None)
start-reads decision why is = grind (arith, common_steps)

-- the purpose of the RESERVE
purpose-start : (h : List Event) (why : Cause) → is_granted h ≡ true → is_owner h ≡ false → leaves h ≡ None → start_due h ≡ Some why
    → purpose_now h ≡ StartTakeover why
purpose-start h why granted no_owner stays due = grind (arith, common_steps)

-- the write of a start keeps the writer an alternate
written-start : (p : Settings) (why : Cause) (me : ℕ) (c w : ControlRecord) (known : Known) → Wrote p (StartTakeover why) me c known w → AltRule c.owner c.alt
    → names_owner w me ≡ false
written-start p why me c w known did rule = grind (arith, common_steps)

-- a start keeps its writer an alternate
start-written : (p : Settings) (h : List Event) (w : ControlRecord) (why : Cause) → IsHistory p h → next p h ≡ want.CtlWrite w → AreRuled h
    → purpose h ≡ StartTakeover why
    → is_granted h ≡ true → is_owner h ≡ false → is_owner (ControlWritten w ∷ h) ≡ false
start-written p h w why is comes ruled purposed granted no_owner =
    let wrote_it = write-phase p h w is comes in
    let did = wrote p (purpose h) (number h) (epoch_number h) (record_read h) w (known_read h) wrote_it.1 in
    let not_named = written-start p why (number h) (record_read h) w (known_read h)
    (subst (λ (q : Purpose). Wrote p q (number h) (record_read h) (known_read h) w) purposed did) (ruled-read h ruled) in
    ap (λ (b : Bool). b || names_owner w (if is_granted h then number h else w.last)) no_owner
    ∙ ap (λ (b : Bool). names_owner w (if b then number h else w.last)) granted ∙ not_named

-- no RESERVE is due once the start's is made
pub nothing-due : (p : Settings) (h : List Event) (why : Cause) → IsHistory p h → next p h ≡ want.Reserve → StartsAt p h why → open_decision h ≡ None → ⊥
nothing-due p h why is comes starting none =
    absurd (cc (sym (start-boundary p h is comes starting.is_granted starting.no_owner starting.none_left (ap start_in none)) ∙ ap is_through_decision none))

-- RESERVE, CTLREAD, CTLWRITE, RELEASE and a message read
start-reserved : (p : Settings) (h : List Event) (why : Cause) → IsHistory p h → next p h ≡ want.Reserve → start_in (last_decision h) ≡ Some why
    → StartsAt p h why
    → StartsAt p (Reserved ∷ h) why
start-reserved p h why is comes last starting = by starting.at
  where
    by : (Before (open_decision h) (last_decision h) (has_read_since_decision h) (phase p h) ⊎ Since (open_decision h) (has_read_since_decision h)
        (has_read h) (purpose h) why)
        → StartsAt p (Reserved ∷ h) why
    by (inl before) = record {
      is_granted = starting.is_granted;
      no_owner = starting.no_owner;
      none_left = starting.none_left;
      not_reading = starting.not_reading;
      at = inr (record {
        none = refl;
        purpose = purpose-start h why starting.is_granted starting.no_owner starting.none_left (ap start_in before.same ∙ last);
        has_read = λ since. absurd (cc (sym before.unread ∙ since));
      });
    }
    by (inr since) = absurd (nothing-due p h why is comes starting since.none)

-- after the CTLREAD
start-read-step : (p : Settings) (h : List Event) (held : ControlRecord) (known : Known) (why : Cause) → IsHistory p h → next p h ≡ want.CtlRead
    → StartsAt p h why
    → StartsAt p (ControlRead held known ∷ h) why
start-read-step p h held known why is comes starting = by starting.at
  where
    by : (Before (open_decision h) (last_decision h) (has_read_since_decision h) (phase p h) ⊎ Since (open_decision h) (has_read_since_decision h)
        (has_read h) (purpose h) why)
        → StartsAt p (ControlRead held known ∷ h) why
    by (inl before) = absurd (cc (sym before.outside ∙ read-phase p h is comes))
    by (inr since) = record {
      is_granted = starting.is_granted;
      no_owner = starting.no_owner;
      none_left = starting.none_left;
      not_reading = starting.not_reading;
      at = inr (record { none = since.none; purpose = since.purpose; has_read = λ read. refl });
    }

-- after the CTLWRITE
start-write-step : (p : Settings) (h : List Event) (w : ControlRecord) (why : Cause) → IsHistory p h → next p h ≡ want.CtlWrite w → AreRuled h
    → StartsAt p h why
    → StartsAt p (ControlWritten w ∷ h) why
start-write-step p h w why is comes ruled starting = by starting.at
  where
    by : (Before (open_decision h) (last_decision h) (has_read_since_decision h) (phase p h) ⊎ Since (open_decision h) (has_read_since_decision h)
        (has_read h) (purpose h) why)
        → StartsAt p (ControlWritten w ∷ h) why
    by (inl before) = absurd (cc (sym before.outside ∙ (write-phase p h w is comes).0))
    by (inr since) = record {
      is_granted = refl;
      no_owner = start-written p h w why is comes ruled since.purpose starting.is_granted starting.no_owner;
      none_left = starting.none_left;
      not_reading = starting.not_reading;
      at = inr (record { none = since.none; purpose = since.purpose; has_read = since.has_read });
    }

-- outside the reserve no RELEASE comes
outside-releases : (f : Phase) → f ≡ Outside → may_release f ≡ true → ⊥
outside-releases f is may = absurd (cc (sym (ap may_release is) ∙ may))

-- after the RELEASE
start-release-step : (p : Settings) (h : List Event) (why : Cause) → IsHistory p h → next p h ≡ want.Release → StartsAt p h why → StartsAt p (Released ∷ h) why
start-release-step p h why is comes starting = by starting.at
  where
    by : (Before (open_decision h) (last_decision h) (has_read_since_decision h) (phase p h) ⊎ Since (open_decision h) (has_read_since_decision h)
        (has_read h) (purpose h) why)
        → StartsAt p (Released ∷ h) why
    by (inl before) = absurd (outside-releases (phase p h) before.outside (releases-phase p h is comes))
    by (inr since) = record {
      is_granted = starting.is_granted;
      no_owner = starting.no_owner;
      none_left = starting.none_left;
      not_reading = starting.not_reading;
      at = inr (record { none = since.none; purpose = since.purpose; has_read = since.has_read });
    }

-- a MSGREAD keeps it
start-message-step : (p : Settings) (h : List Event) (k : ℕ) (slot : List ℕ) (why : Cause) → StartsAt p h why → StartsAt p (MessageRead k slot ∷ h) why
start-message-step p h k slot why starting = record {
  is_granted = starting.is_granted;
  no_owner = starting.no_owner;
  none_left = starting.none_left;
  not_reading = ap (λ (b : Bool). b && gives slot h) starting.not_reading;
  at = starting.at;
}

-- an act that may fail, but a MSGREAD, is an owner's
fails-owners : (w : Want) → is_reading w ≡ false → may_fail w ≡ true → is_owner_act w ≡ true
fails-owners w no_read may = grind (arith, common_steps)

-- a failed act of it would be a read that is due
no-failure : (p : Settings) (h : List Event) (tried : Want) → IsHistory p h → next p h ≡ tried → may_fail tried ≡ true → is_owner h ≡ false
    → reading_due h ≡ false → ⊥
no-failure p h (want.MsgRead k) is comes may no_owner quiet = absurd (cc (sym (reads-due p h k is comes no_owner) ∙ quiet))
no-failure p h tried is comes may no_owner quiet = absurd (cc (sym (owner_acts p h is (ap is_owner_act comes ∙ fails-owners tried refl may)) ∙ no_owner))

-- each event keeps it
start-step : (p : Settings) (h : List Event) (e : Event) → IsHistory p h → Comes p h e → IsStarting p h → IsStarting p (e ∷ h)
start-step p h StartedActive is comes starting = absurd comes
start-step p h StartedStandby is comes starting = absurd comes
start-step p h (DecisionMade known n decision) is comes starting = λ ruled why last.
    let reads = start-reads decision why last in
    record {
      is_granted = decides-granted p h is comes.0;
      no_owner = start-cause p h known n decision why comes.1 last;
      none_left = reads.1;
      not_reading = reads.0;
      at = inl (record { same = refl; unread = refl; outside = work-phase p h is (ap is_work comes.0) });
    }
start-step p h Reserved is comes starting = λ ruled why last. start-reserved p h why is comes last (starting ruled why last)
start-step p h (ControlRead held known) is comes starting = λ ruled why last. start-read-step p h held known why is comes (starting ruled.0 why last)
start-step p h (ControlWritten w) is comes starting = λ ruled why last. start-write-step p h w why is comes ruled (starting ruled why last)
start-step p h Released is comes starting = λ ruled why last. start-release-step p h why is comes (starting ruled why last)
start-step p h (MessageRead k slot) is comes starting = λ ruled why last. start-message-step p h k slot why (starting ruled why last)
start-step p h (ActFailed tried n) is comes starting = λ ruled why last.
    absurd (no-failure p h tried is comes.0 comes.1 (starting ruled why last).no_owner (starting ruled why last).not_reading)
start-step p h _ is comes starting = starting

-- after DECIDE START the RESERVE that follows is for that start, and no other follows
pub starts : (p : Settings) (h : List Event) → IsHistory p h → IsStarting p h
starts p h is = induct IsStarting (λ p. λ ruled why last. absurd (cc)) (λ p. λ ruled why last. absurd (cc)) start-step p h is
