-- Each event of a round, and where an alternate rests, leads on in its course.
use Rattle.std.proofs.Common.{◌==◌, ◌≡◌, ℕ, ◌+◌, ◌≤◌, ◌&&◌, not, Bool, true, false, ◌⊎◌, inl, inr, List, ◌∷◌, Option, Some, None, max, refl, ap, ◌∙◌, sym, subst, arith, if◌then◌else◌}
use Rattle.std.proofs.lemmas.Grind.{common_steps}
use Rattle.xrf_ctl.specs.Control.{ControlRecord}
use Rattle.xrf_ctl.specs.Signal.{SignalRecord}
use Rattle.xrf_cavm.specs.Watch.{Look, Looked, last_look, changes, latest, is_news, same_signal}
use Rattle.xrf_cavm.specs.Record.{owner_may_run}
use Rattle.xrf_cavm.specs.declared.known.Known.{Known}
use Rattle.xrf_cavm.specs.declared.decisions.Decision.{Decision}
use Rattle.xrf_cavm.specs.declared.decisions.Decided.{Decided}
use Rattle.xrf_cavm.specs.declared.decisions.Decided.TheVariants.{Alternate, Waiting}
use Rattle.xrf_cavm.specs.declared.decisions.Decision.TheVariants as decision
use Rattle.xrf_cavm.specs.declared.decisions.Waiting.TheVariants as waiting
use Rattle.xrf_history.specs.declared.settings.Settings.{Settings}
use Rattle.xrf_history.specs.Events.{Event, Ticked, Signalled1, Signalled2, Looked1, Looked2, DecisionMade, MessageRead, LineIssued}
use Rattle.xrf_history.specs.Holding.{is_restarted}
use Rattle.xrf_history.specs.Looking.{change, record_seen, signal_seen, told_to_watch}
use Rattle.xrf_history.specs.Reserving.{leaves, open_decision, start_in, is_through_decision}
use Rattle.xrf_history.specs.Rows.{has_signalled, rounds, signal_of}
use Rattle.xrf_history.specs.Next.{inside}
use Rattle.xrf_history.specs.Deciding.{cause, is_asked, mode_of}
use Rattle.xrf_progress.proofs.Course.{Way, ByItself, Commanded, Given, Asking, Ground, Goes, lag, leads_way, Kept, kept, IsAlternate, IsNamed, IsSet, IsSoon, HasLooked, HasSeen, SawSignal, Looks, Idle, InSequence, InRound, Course, Rests, AtSignal1, AtSignal2, AtLook1, AtLook2, AtDecide, StartDue, ThroughDue}
use Rattle.xrf_progress.proofs.Potential.{decided_left, round_left}
use Rattle.xrf_progress.proofs.Decisions.{Starts, is_asking, is_patient, tracking-starts, waiting-goes, waiting-waits}

-- a look by the tick of a round is one before its look
pub looks-of : (g : Ground) (n : ℕ) (last : Option Look) → HasLooked g n last → Looks g n last
looks-of g n last (inl early) = inl (omega (arith, early))
looks-of g n last (inr is) = inr is

-- after a TICK a round is due
looked-ticks : (g : Ground) (n : ℕ) (last : Option Look) → HasLooked g n last → Looks g (n + 1) last
looked-ticks g n last (inl early) = inl (omega (arith, early))
looked-ticks g n last (inr is) = inr is

-- where it rests a TICK leads to a round
pub tick-idle : (p : Settings) (g : Ground) (waits : Bool) (n : ℕ) (c : ControlRecord) (h : List Event) → Idle p g waits n h
    → Course p g (n + 1) c waits (Ticked ∷ h)
tick-idle p g waits n c h idle =
    AtSignal1 (record {
      alternate = idle.alternate;
      goes = idle.goes;
      looked = looked-ticks g n (last_look (told_to_watch h)) idle.looked;
      few = omega (arith, idle.few);
    }) idle.at refl idle.stays_on idle.no_start idle.no_through

-- a line of the command list leaves it at rest
pub line-idle : (p : Settings) (g : Ground) (waits : Bool) (n : ℕ) (c : ControlRecord) (h : List Event) (line : ℕ) → Idle p g waits n h
    → Course p g n c waits (LineIssued line ∷ h)
line-idle p g waits n c h line idle = Rests (record {
  alternate = idle.alternate;
  goes = idle.goes;
  at = refl;
  signalled = idle.signalled;
  stays_on = idle.stays_on;
  no_start = idle.no_start;
  no_through = idle.no_through;
  looked = idle.looked;
  few = idle.few;
})

-- one before a round leaves it there
pub line-round : (p : Settings) (g : Ground) (waits : Bool) (n : ℕ) (c : ControlRecord) (h : List Event) (line : ℕ) → InRound p g waits n h
    → has_signalled h ≡ false → leaves h ≡ None → start_in (open_decision h) ≡ None → is_through_decision (open_decision h) ≡ false
    → Course p g n c waits (LineIssued line ∷ h)
line-round p g waits n c h line r signalled stays no_start no_through =
    AtSignal1 (record { alternate = r.alternate; goes = r.goes; looked = r.looked; few = r.few }) refl signalled stays no_start no_through

-- and so does one before a through
pub line-through : (p : Settings) (g : Ground) (n : ℕ) (c : ControlRecord) (h : List Event) (line : ℕ) → InSequence g true n h
    → open_decision h ≡ Some (Waiting waiting.Through) → Course p g n c true (LineIssued line ∷ h)
line-through p g n c h line q opened =
    ThroughDue (record { alternate = q.alternate; stays_on = q.stays_on; looked = q.looked; few = q.few }) refl refl opened

-- after the read of a message nothing is inside before RESTARTED
pub read-inside : (p : Settings) (h : List Event) (k : ℕ) (slot : List ℕ) → is_restarted h ≡ false → inside p (MessageRead k slot ∷ h) ≡ None
read-inside p h k slot fresh = grind (arith, common_steps)

-- a read of a message leaves it at rest
pub read-idle : (p : Settings) (g : Ground) (waits : Bool) (n : ℕ) (c : ControlRecord) (h : List Event) (k : ℕ) (slot : List ℕ) → Idle p g waits n h
    → Course p g n c waits (MessageRead k slot ∷ h)
read-idle p g waits n c h k slot idle = Rests (record {
  alternate = idle.alternate;
  goes = idle.goes;
  at = read-inside p h k slot idle.alternate.fresh;
  signalled = idle.signalled;
  stays_on = idle.stays_on;
  no_start = idle.no_start;
  no_through = idle.no_through;
  looked = idle.looked;
  few = idle.few;
})

-- the SIGNAL1 of a round
pub signal1-step : (p : Settings) (g : Ground) (waits : Bool) (n : ℕ) (c : ControlRecord) (h : List Event) (signal : SignalRecord) → InRound p g waits n h
    → Course p g n c waits (Signalled1 signal ∷ h)
signal1-step p g waits n c h signal r =
    AtSignal2 (record { alternate = r.alternate; goes = r.goes; looked = r.looked; few = r.few }) (signal_of h (rounds h + 1)) refl

-- its SIGNAL2
pub signal2-step : (p : Settings) (g : Ground) (waits : Bool) (n : ℕ) (c : ControlRecord) (h : List Event) (signal : SignalRecord) → InRound p g waits n h
    → Course p g n c waits (Signalled2 signal ∷ h)
signal2-step p g waits n c h signal r = AtLook1 (record { alternate = r.alternate; goes = r.goes; looked = r.looked; few = r.few }) refl

-- its LOOK1, which sees the record that stands
pub look1-step : (p : Settings) (g : Ground) (waits : Bool) (n : ℕ) (c : ControlRecord) (h : List Event) → InRound p g waits n h → IsNamed g.me waits c
    → Course p g n c waits (Looked1 c g.one ∷ h)
look1-step p g waits n c h r named =
    AtLook2 (record { alternate = r.alternate; goes = r.goes; looked = r.looked; few = r.few }) refl
    (record { named = λ tracks. named.named; owned = λ tracks. named.owned; not_normal = named.not_normal; same = λ waiting. inr refl }) (inr refl)

-- a number is itself
same-number : (n : ℕ) → (n == n) ≡ true
same-number n = grind arith

-- a signal is the same as itself
same-self : (signal : Option SignalRecord) → same_signal signal signal ≡ true
same-self None = refl
same-self (Some signal) = and-three (signal.inc == signal.inc) (signal.counter == signal.counter) (signal.cursor == signal.cursor)
    (same-number signal.inc) (same-number signal.counter) (same-number signal.cursor)
  where
    and-three : (a b c : Bool) → a ≡ true → b ≡ true → c ≡ true → (a && b && c) ≡ true
    and-three true true true one two three = refl
    and-three _ _ _ one two three = grind (arith, common_steps)

-- a look like the last is no news
no-news : (g : Ground) (last : Option Look) → last ≡ Some (g.one, g.two) → is_news (g.one, g.two) last ≡ false
no-news g last is =
    ap (is_news (g.one, g.two)) is ∙ ap (λ (b : Bool). not (b && same_signal g.two g.two)) (same-self g.one) ∙ ap not (same-self g.two)

-- the larger of two is within what both are
pub larger-within : (a b n : ℕ) → a ≤ n → b ≤ n → max a b ≤ n
larger-within a b n first second = grind (arith, first, second)

-- a look that is news is a change at its tick
look-changed : (news : Bool) (at m : ℕ) (ts : List ℕ) → (news ≡ true → at ≤ m) → latest 0 ts ≤ m → latest 0 (if news then at ∷ ts else ts) ≤ m
look-changed true at m ts now before = larger-within at (latest 0 ts) m (now refl) before
look-changed false at m ts now before = before

-- a look is news only by the tick by which it saw the last change
news-early : (g : Ground) (n at : ℕ) (last : Option Look) → Looks g n last → at ≡ g.from + n → is_news (g.one, g.two) last ≡ true → at ≤ g.late
news-early g n at last (inl early) same news = omega (arith, early, same)
news-early g n at last (inr is) same news = absurd (cc (sym (no-news g last is) ∙ news))

-- so after the LOOK2 the last change is by then
look2-changed : (g : Ground) (n at : ℕ) (h : List Event) → Looks g n (last_look (told_to_watch h)) → at ≡ g.from + n → SawSignal g n (signal_seen h)
    → change h ≤ g.late → change (Looked2 g.two at ∷ h) ≤ g.late
look2-changed g n at h looks same (inl first) before =
    look-changed (is_news (signal_seen h, g.two) (last_look (told_to_watch h))) at g.late (changes (told_to_watch h)) (λ news. omega (arith, same, first)) before
look2-changed g n at h looks same (inr seen) before =
    subst (λ (one : Option SignalRecord). latest 0 (changes (Looked (one, g.two) at ∷ told_to_watch h)) ≤ g.late) (sym seen)
    (look-changed (is_news (g.one, g.two) (last_look (told_to_watch h))) at g.late (changes (told_to_watch h))
    (news-early g n at (last_look (told_to_watch h)) looks same) before)

-- an alternate with another last change
changed-view : (g : Ground) (waits : Bool) (v : Kept) (at : ℕ) → IsAlternate g waits v → at ≤ g.late → IsAlternate g waits (record v { change = at })
changed-view g waits v at is by_then = record {
  granted = is.granted;
  no_owner = is.no_owner;
  started = is.started;
  mine = is.mine;
  no_off = is.no_off;
  no_told = is.no_told;
  no_drop = is.no_drop;
  fresh = is.fresh;
  changed = by_then;
}

-- after the LOOK2 the look is of the signals that stand
looked-now : (g : Ground) (n : ℕ) (signal : Option SignalRecord) → SawSignal g n signal → HasLooked g n (Some (signal, g.two))
looked-now g n signal (inl first) = inl first
looked-now g n signal (inr seen) = inr (ap (λ (one : Option SignalRecord). Some (one, g.two)) seen)

-- its LOOK2
pub look2-step : (p : Settings) (g : Ground) (waits : Bool) (n : ℕ) (c : ControlRecord) (h : List Event) (at : ℕ) → InRound p g waits n h
    → HasSeen g waits n c (record_seen h) → SawSignal g n (signal_seen h) → at ≡ g.from + n → Course p g n c waits (Looked2 g.two at ∷ h)
look2-step p g waits n c h at r saw seen same =
    let last : HasLooked g n (last_look (told_to_watch (Looked2 g.two at ∷ h))) = looked-now g n (signal_seen h) seen in
    AtDecide (record {
      alternate = changed-view g waits (kept h) (change (Looked2 g.two at ∷ h)) r.alternate (look2-changed g n at h r.looked same seen r.alternate.changed);
      goes = r.goes;
      looked = looks-of g n (last_look (told_to_watch (Looked2 g.two at ∷ h))) last;
      few = r.few;
    }) refl saw last

-- at a boundary where nothing is due under the reserve it rests, or a round is due in this tick
pub rests-course : (p : Settings) (g : Ground) (waits : Bool) (n : ℕ) (c : ControlRecord) (h : List Event) → IsAlternate g waits (kept h) → Goes p g waits h
    → inside p h ≡ None → leaves h ≡ None → start_in (open_decision h) ≡ None → is_through_decision (open_decision h) ≡ false
    → HasLooked g n (last_look (told_to_watch h)) → n + lag waits + 1 ≤ g.by → (b : Bool) → has_signalled h ≡ b → Course p g n c waits h
rests-course p g waits n c h alternate goes at stays no_start no_through last few true signalled =
    Rests (record {
      alternate = alternate;
      goes = goes;
      at = at;
      signalled = signalled;
      stays_on = stays;
      no_start = no_start;
      no_through = no_through;
      looked = last;
      few = few;
    })
rests-course p g waits n c h alternate goes at stays no_start no_through last few false signalled =
    AtSignal1 (record { alternate = alternate; goes = goes; looked = looks-of g n (last_look (told_to_watch h)) last; few = omega (arith, few) })
    at signalled stays no_start no_through

-- a patient way is led by what a decision leaves
same-will : (p : Settings) (h : List Event) (known : Known) (at : ℕ) (d : Decision) (way : Way) → is_patient way ≡ true
    → leads_way way (mode_of p h) ≡ true → leads_way way (mode_of p (DecisionMade known at (Alternate d) ∷ h)) ≡ true
same-will p h known at d ByItself patient will = will
same-will p h known at d Asking patient will = will
same-will p h known at d Commanded patient will = absurd (cc)
same-will p h known at d Given patient will = absurd (cc)

-- a patient way is in time
patient-soon : (adi : ℕ) (g : Ground) (way : Way) → is_patient way ≡ true → IsSoon adi g way → g.late + adi + 1 ≤ g.from + g.by
patient-soon adi g ByItself patient soon = soon
patient-soon adi g Asking patient soon = soon
patient-soon adi g Commanded patient soon = absurd (cc)
patient-soon adi g Given patient soon = absurd (cc)

-- the way stays the same
same-soon : (p : Settings) (g : Ground) (h : List Event) (known : Known) (at : ℕ) (d : Decision) → is_patient g.way ≡ true → IsSet p g (mode_of p h)
    → IsSet p g (mode_of p (DecisionMade known at (Alternate d) ∷ h))
same-soon p g h known at d patient set = record { will = same-will p h known at d g.way patient set.will; stays = set.stays; soon = set.soon }

-- The course goes on, with so much left of the round; or the operator is asked.
abbrev pub Decides : Settings → Ground → ℕ → ControlRecord → (waits : Bool) → List Event → Known → ℕ → Decided → Type 0
Decides p g n c waits h known at d =
    (Course p g n c waits (DecisionMade known at d ∷ h) × (decided_left p (DecisionMade known at d ∷ h) ≤ 5 + round_left (has_signalled h)))
    ⊎ ((is_asking g.way ≡ true) × (is_asked p (DecisionMade known at d ∷ h) ≡ true))

-- the DECIDE of one that tracks
pub decide-tracks : (p : Settings) (g : Ground) (n : ℕ) (c : ControlRecord) (h : List Event) (known : Known) (at : ℕ) (d : Decided) → InRound p g false n h
    → HasSeen g false n c (record_seen h) → HasLooked g n (last_look (told_to_watch h)) → at ≡ g.from + n
    → d ≡ cause p h known at
    → Decides p g n c false h known at d
decide-tracks p g n c h known at d r saw last same made =
    let a = r.alternate in
    let set = r.goes refl in
    let found = tracking-starts p g h known at a.no_owner a.started a.mine set a.changed (omega (arith, same))
    (saw.named refl) (saw.owned refl) (saw.not_normal refl) in
    subst (λ (e : Decided). Decides p g n c false h known at e) (sym (made ∙ found.1)) (by found.0 found.2)
  where
    by : (e : Decision) → Starts g.way (is_asked p (DecisionMade known at (Alternate e) ∷ h)) e at g.late p.adi → Decides p g n c false h known at (Alternate e)
    by e (inl (why, is)) =
        subst (λ (f : Decision). Decides p g n c false h known at (Alternate f)) (sym is)
        (inl (StartDue (record { alternate = r.alternate; stays_on = refl; looked = last; few = r.few }) refl why refl refl, omega arith))
    by e (inr (inl (is, patient, early))) =
        subst (λ (f : Decision). Decides p g n c false h known at (Alternate f)) (sym is)
        (inl (
          rests-course p g false n c (DecisionMade known at (Alternate decision.Nothing) ∷ h) r.alternate
              (λ tracks. same-soon p g h known at decision.Nothing patient (r.goes refl)) refl refl refl refl last few (has_signalled h) refl,
          omega arith,
        ))
      where
        few : n + 1 + 1 ≤ g.by
        few = let soon = patient-soon p.adi g g.way patient (r.goes refl).soon in omega (arith, soon, same, early)
    by e (inr (inr asked)) = inr asked

-- and of one that waits: it goes through by the record that stands, and by an older one it may wait
pub decide-waits : (p : Settings) (g : Ground) (n : ℕ) (c : ControlRecord) (h : List Event) (known : Known) (at : ℕ) (d : Decided) → InRound p g true n h
    → HasSeen g true n c (record_seen h) → HasLooked g n (last_look (told_to_watch h))
    → (record_seen h ≡ c → owner_may_run (record_seen h) known ≡ false)
    → d ≡ cause p h known at
    → Decides p g n c true h known at d
decide-waits p g n c h known at d r saw last over made = by (owner_may_run (record_seen h) known) refl (saw.same refl)
  where
    a : IsAlternate g true (kept h)
    a = r.alternate

    goes : owner_may_run (record_seen h) known ≡ false → Decides p g n c true h known at d
    goes over_it =
        subst (λ (e : Decided). Decides p g n c true h known at e) (sym (made ∙ waiting-goes p h known at a.no_owner a.granted a.started over_it))
        (inl (ThroughDue (record { alternate = r.alternate; stays_on = refl; looked = last; few = r.few }) refl refl refl, omega arith))

    by : (b : Bool) → owner_may_run (record_seen h) known ≡ b → (n + 1 ≤ g.by) ⊎ (record_seen h ≡ c) → Decides p g n c true h known at d
    by false over_it when = goes over_it
    by true runs (inr same) = absurd (cc (sym runs ∙ over same))
    by true runs (inl first) =
        subst (λ (e : Decided). Decides p g n c true h known at e) (sym (made ∙ waiting-waits p h known at a.no_owner a.granted a.started runs))
        (inl (
          rests-course p g true n c (DecisionMade known at (Waiting waiting.Wait) ∷ h) r.alternate (λ tracks. absurd (cc)) refl refl refl refl last
              (omega (arith, first)) (has_signalled h) refl,
          omega arith,
        ))
