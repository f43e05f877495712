-- What an alternate does next that is served, and where that leads: on in its course, to the taking, or to the through.
use Rattle.std.proofs.Common.{◌≡◌, ℕ, ◌+◌, ◌≤◌, Bool, true, false, inl, inr, List, ◌∷◌, Option, Some, None, is_some, refl, ap, ◌∙◌, sym, subst, arith}
use Rattle.std.proofs.lemmas.Grind.{common_steps}
use Rattle.xrf_base.specs.declared.site.Site.{Site}
use Rattle.xrf_ctl.specs.declared.parts.OwnerState.TheVariants.{Running}
use Rattle.xrf_ctl.specs.declared.parts.Cause.{Cause}
use Rattle.xrf_ctl.specs.Control.{ControlRecord}
use Rattle.xrf_ctl.specs.Signal.{SignalRecord}
use Rattle.xrf_cavm.specs.Record.{owner_is, owner_may_run}
use Rattle.xrf_cavm.specs.declared.known.Known.{Known}
use Rattle.xrf_cavm.specs.declared.decisions.Decided.{Decided}
use Rattle.xrf_cavm.specs.declared.decisions.Decided.TheVariants.{Waiting}
use Rattle.xrf_cavm.specs.declared.decisions.Waiting.TheVariants as waiting
use Rattle.xrf_gated.specs.Slots.{bytes_of}
use Rattle.xrf_history.specs.declared.settings.Settings.{Settings}
use Rattle.xrf_history.specs.declared.want.Want.{Want}
use Rattle.xrf_history.specs.declared.want.Want.TheVariants as want
use Rattle.xrf_history.specs.Events.{Event, Looked1, Looked2, ControlRead, Released}
use Rattle.xrf_history.specs.Holding.{has_started_takeover}
use Rattle.xrf_history.specs.Looking.{record_seen}
use Rattle.xrf_history.specs.Deciding.{cause, is_asked}
use Rattle.xrf_history.specs.Reserving.{purpose, open_decision, leaves, start_in, is_through_decision}
use Rattle.xrf_history.specs.Notices.{epoch_number}
use Rattle.xrf_history.specs.Holding.{number}
use Rattle.xrf_history.specs.Rows.{has_signalled, lines_issued, lines_left, reading_place, rounds, signal_of}
use Rattle.xrf_history.specs.Next.{next, inside}
use Rattle.xrf_history.proofs.PhaseLaws.{next-inside}
use Rattle.xrf_trace.specs.declared.entry.Entry.{Entry}
use Rattle.xrf_trace.specs.declared.entry.Act.{Act}
use Rattle.xrf_trace.specs.declared.entry.Act.TheVariants as act
use Rattle.xrf_trace.specs.declared.entry.Land.TheVariants as land
use Rattle.xrf_trace.specs.Scenario.{Scen, settings, other}
use Rattle.xrf_trace.specs.Words.{now, confirmed}
use Rattle.xrf_trace.specs.Devices.{control, control_after, sector1, sector2, message_slot}
use Rattle.xrf_trace.specs.Jobs.{handed, known_of}
use Rattle.xrf_trace.specs.Acts.{act_of}
use Rattle.xrf_progress.proofs.Entries.{is_ended, writes_message}
use Rattle.xrf_progress.proofs.Course.{Ground, lag, IsNamed, IsAlone, IsOver, Idle, InRound, InSequence, Course, Rests, AtSignal1, AtSignal2, AtLook1, AtLook2, AtDecide, StartDue, StartHeld, StartRead, AtRelease, ThroughDue, ThroughHeld, ThroughRead, Restart}
use Rattle.xrf_progress.proofs.Decisions.{is_asking}
use Rattle.xrf_progress.proofs.Rests.{Idles, Line, Read, Still, idles, lines-boundary, signal-boundary, start-boundary, through-boundary, next-boundary}
use Rattle.xrf_progress.proofs.Rounds.{Decides, line-idle, line-round, line-through, read-idle, signal1-step, signal2-step, look1-step, look2-step, decide-tracks, decide-waits}
use Rattle.xrf_progress.proofs.Sequences.{taken, start-reserve, through-reserve, start-read, through-read, start-write, release-step, through-write, start-writes, through-writes}
use Rattle.xrf_progress.proofs.Potential.{alternate_left, restart_left, is_due, round_left, Less}
use Rattle.xrf_progress.proofs.Lefts.{stages, stage_of, stage-outer, stage-inside, not-due, line-less, read-less, decide-less, taking-less, through-less}

-- what stands beside the job: the other site's signals, and the ticks since it is served
pub record Same (t : List Entry) (x : Site) (g : Ground) (n : ℕ) : Type 0 where
  pub first : sector1 t (other x) ≡ g.one
  pub second : sector2 t (other x) ≡ g.two
  pub at : now t ≡ g.from + n

-- Where an act leads: on in the course, beside the same owner; to asking the operator; to the taking; or to the through.
pub data Leads (s : Scen) (t : List Entry) (x : Site) (g : Ground) (n : ℕ) (h : List Event) (waits : Bool) (a : Act) : Type 0 where
  On : is_ended a ≡ false → writes_message a ≡ false → control_after a land.Full (control t) ≡ control t
      → Course (settings s x) g n (control t) waits (handed s t x (now t) h a ∷ h)
      → Less (settings s x) (alternate_left (message_slot t) (settings s x) waits h)
      (alternate_left (message_slot t) (settings s x) waits (handed s t x (now t) h a ∷ h))
      → Leads s t x g n h waits a
  Asks : is_asking g.way ≡ true → is_ended a ≡ false → is_asked (settings s x) (handed s t x (now t) h a ∷ h) ≡ true → Leads s t x g n h waits a
  Takes : waits ≡ false → (why : Cause) → a ≡ act.CtlWrite (taken (control t) g.me why)
      → Course (settings s x) g n (taken (control t) g.me why) true (handed s t x (now t) h a ∷ h)
      → Less (settings s x) (alternate_left (message_slot t) (settings s x) waits h)
      (alternate_left (message_slot t) (settings s x) true (handed s t x (now t) h a ∷ h))
      → Leads s t x g n h waits a
  Through : waits ≡ true → (w : ControlRecord) → a ≡ act.CtlWrite w → IsAlone w → Restart (settings s x) g n (handed s t x (now t) h a ∷ h)
      → Less (settings s x) (alternate_left (message_slot t) (settings s x) waits h)
      (restart_left (message_slot t) (settings s x) (handed s t x (now t) h a ∷ h))
      → Leads s t x g n h waits a

-- what comes next: it rests, or makes an act that leads there
pub data Moves (s : Scen) (t : List Entry) (x : Site) (g : Ground) (n : ℕ) (waits : Bool) (h : List Event) : Type 0 where
  StandsStill : Idle (settings s x) g waits n h → act_of s t x h (next (settings s x) h) ≡ None → Moves s t x g n waits h
  Makes : (a : Act) → act_of s t x h (next (settings s x) h) ≡ Some a → Leads s t x g n h waits a → Moves s t x g n waits h

-- by the want that is next
makes : (s : Scen) (t : List Entry) (x : Site) (g : Ground) (n : ℕ) (waits : Bool) (h : List Event) (w : Want) (a : Act) → next (settings s x) h ≡ w
    → act_of s t x h w ≡ Some a → Leads s t x g n h waits a → Moves s t x g n waits h
makes s t x g n waits h w a is of leads = Makes a (ap (act_of s t x h) is ∙ of) leads

-- no lines are left to one that does not wait
no-lines : (p : Settings) (h : List Event) → has_started_takeover h ≡ false → lines_left p h ≡ false
no-lines p h no_start = grind (arith, common_steps)

-- an owner that is over may not run
pub may-not : (t : List Entry) (r : ControlRecord) → is_some r.owner ≡ true → IsOver (confirmed t) r → owner_may_run r (known_of t r) ≡ false
may-not t r owned over = by (owner_is r Running) refl
  where
    by : (b : Bool) → owner_is r Running ≡ b → owner_may_run r (known_of t r) ≡ false
    by true is = let gone = over is in grind (arith, common_steps)
    by false is = grind (arith, common_steps)

-- where it rests
rest-moves : (s : Scen) (t : List Entry) (x : Site) (g : Ground) (n : ℕ) (waits : Bool) (h : List Event) → Idle (settings s x) g waits n h
    → Moves s t x g n waits h
rest-moves s t x g n waits h i = by (idles p h i.at i.alternate.no_owner i.signalled i.stays_on i.no_start i.no_through)
  where
    p : Settings
    p = settings s x

    by : Idles p h → Moves s t x g n waits h
    by (Line is left) =
        let k = lines_issued h + 1 in
        makes s t x g n waits h (want.Clt k) (act.Clt k) is refl
        (On refl refl refl (line-idle p g waits n (control t) h k i) (λ whole. line-less (message_slot t) p waits h k i.at left))
    by (Read is none due) =
        let k = reading_place p h in
        makes s t x g n waits h (want.MsgRead k) (act.MsgRead k) is refl
        (On refl refl refl (read-idle p g waits n (control t) h k (bytes_of (message_slot t k)) i)
        (λ whole. read-less (message_slot t) p waits h whole.ring i.at i.alternate.fresh due))
    by (Still is none) = StandsStill i (ap (act_of s t x h) is)

-- before a round
round-moves : (s : Scen) (t : List Entry) (x : Site) (g : Ground) (n : ℕ) (waits : Bool) (h : List Event) → InRound (settings s x) g waits n h
    → inside (settings s x) h ≡ None → has_signalled h ≡ false → leaves h ≡ None → start_in (open_decision h) ≡ None
    → is_through_decision (open_decision h) ≡ false → Moves s t x g n waits h
round-moves s t x g n waits h r inner signalled stays no_start no_through = by (lines_left p h) refl
  where
    p : Settings
    p = settings s x

    by : (b : Bool) → lines_left p h ≡ b → Moves s t x g n waits h
    by true left =
        let k = lines_issued h + 1 in
        makes s t x g n waits h (want.Clt k) (act.Clt k) (next-boundary p h (want.Clt k) inner (lines-boundary p h r.alternate.no_owner left)) refl
        (On refl refl refl (line-round p g waits n (control t) h k r signalled stays no_start no_through)
        (λ whole. line-less (message_slot t) p waits h k inner left))
    by false left =
        let signal = signal_of h (rounds h + 1) in
        let is = next-boundary p h (want.Signal1 signal) inner (signal-boundary p h r.alternate.granted r.alternate.no_owner signalled stays no_start no_through left) in
        makes s t x g n waits h (want.Signal1 signal) (act.Signal1 signal) is refl
        (On refl refl refl (signal1-step p g waits n (control t) h signal r)
        (λ whole. stages (message_slot t) p waits h 10 9 (stage-outer p h false false inner signalled (not-due (open_decision h) no_start no_through)) (omega arith)))

-- where a decision leads
decided-leads : (s : Scen) (t : List Entry) (x : Site) (g : Ground) (n : ℕ) (waits : Bool) (h : List Event) (known : Known) (d : Decided)
    → known ≡ known_of t (record_seen h) → inside (settings s x) h ≡ Some want.Decide
    → Decides (settings s x) g n (control t) waits h known (now t) d → Leads s t x g n h waits (act.Decide d)
decided-leads s t x g n waits h known d is inner decides =
    by (subst (λ (k : Known). Decides (settings s x) g n (control t) waits h k (now t) d) is decides)
  where
    by : Decides (settings s x) g n (control t) waits h (known_of t (record_seen h)) (now t) d → Leads s t x g n h waits (act.Decide d)
    by (inl goes) =
        On refl refl refl goes.0
        (λ whole. decide-less (message_slot t) (settings s x) waits h (known_of t (record_seen h)) (now t) d inner goes.1)
    by (inr asked) = Asks asked.0 refl asked.1

-- at the through
through-moves : (s : Scen) (t : List Entry) (x : Site) (g : Ground) (n : ℕ) (h : List Event) → InSequence g true n h → inside (settings s x) h ≡ None
    → open_decision h ≡ Some (Waiting waiting.Through) → Moves s t x g n true h
through-moves s t x g n h q inner opened = by (lines_left p h) refl
  where
    p : Settings
    p = settings s x

    by : (b : Bool) → lines_left p h ≡ b → Moves s t x g n true h
    by true left =
        let k = lines_issued h + 1 in
        makes s t x g n true h (want.Clt k) (act.Clt k) (next-boundary p h (want.Clt k) inner (lines-boundary p h q.alternate.no_owner left)) refl
        (On refl refl refl (line-through p g n (control t) h k q opened) (λ whole. line-less (message_slot t) p true h k inner left))
    by false left =
        makes s t x g n true h want.Reserve act.Reserve (next-boundary p h want.Reserve inner (through-boundary p h q.alternate.no_owner q.stays_on left opened)) refl
        (On refl refl refl (through-reserve p g n (control t) h q opened)
        (λ whole. stages (message_slot t) p true h (5 + round_left (has_signalled h)) (4 + round_left (has_signalled h))
        (stage-outer p h (has_signalled h) true inner refl (ap is_due opened)) (omega arith)))

-- **where an alternate stands, what comes next leads on**
pub moves : (s : Scen) (t : List Entry) (x : Site) (g : Ground) (n : ℕ) (waits : Bool) (h : List Event) → Same t x g n → IsNamed g.me waits (control t)
    → (waits ≡ true → IsOver (confirmed t) (control t)) → Course (settings s x) g n (control t) waits h → Moves s t x g n waits h
moves s t x g n waits h same named over (Rests i) = rest-moves s t x g n waits h i
moves s t x g n waits h same named over (AtSignal1 r inner signalled stays no_start no_through) =
    round-moves s t x g n waits h r inner signalled stays no_start no_through
moves s t x g n waits h same named over (AtSignal2 r signal inner) =
    let p = settings s x in
    makes s t x g n waits h (want.Signal2 signal) (act.Signal2 signal) (next-inside p h (want.Signal2 signal) inner) refl
    (On refl refl refl (signal2-step p g waits n (control t) h signal r)
    (λ whole. stages (message_slot t) p waits h (9 + round_left (has_signalled h)) (8 + round_left (has_signalled h)) (stage-inside p h (want.Signal2 signal) inner) (omega arith)))
moves s t x g n waits h same named over (AtLook1 r inner) =
    let p = settings s x in
    makes s t x g n waits h want.Look1 act.Look1 (next-inside p h want.Look1 inner) refl
    (On refl refl refl
    (subst (λ (o : Option SignalRecord). Course p g n (control t) waits (Looked1 (control t) o ∷ h)) (sym same.first) (look1-step p g waits n (control t) h r named))
    (λ whole. stages (message_slot t) p waits h (8 + round_left (has_signalled h)) (7 + round_left (has_signalled h)) (stage-inside p h want.Look1 inner) (omega arith)))
moves s t x g n waits h same named over (AtLook2 r inner saw seen) =
    let p = settings s x in
    makes s t x g n waits h want.Look2 act.Look2 (next-inside p h want.Look2 inner) refl
    (On refl refl refl
    (subst (λ (o : Option SignalRecord). Course p g n (control t) waits (Looked2 o (now t) ∷ h)) (sym same.second)
    (look2-step p g waits n (control t) h (now t) r saw seen same.at))
    (λ whole. stages (message_slot t) p waits h (7 + round_left (has_signalled h)) (6 + round_left (has_signalled h)) (stage-inside p h want.Look2 inner) (omega arith)))
moves s t x g n false h same named over (AtDecide r inner saw last) =
    let p = settings s x in
    let known = known_of t (record_seen h) in
    let d = cause p h known (now t) in
    makes s t x g n false h want.Decide (act.Decide d) (next-inside p h want.Decide inner) refl
    (decided-leads s t x g n false h known d refl inner (decide-tracks p g n (control t) h known (now t) d r saw last same.at refl))
moves s t x g n true h same named over (AtDecide r inner saw last) =
    let p = settings s x in
    let known = known_of t (record_seen h) in
    let d = cause p h known (now t) in
    makes s t x g n true h want.Decide (act.Decide d) (next-inside p h want.Decide inner) refl
    (decided-leads s t x g n true h known d refl inner
    (decide-waits p g n (control t) h known (now t) d r saw last
    (λ is. subst (λ (q : ControlRecord). owner_may_run q (known_of t q) ≡ false) (sym is) (may-not t (control t) named.owned (over refl))) refl))
moves s t x g n false h same named over (StartDue q w why inner opened) =
    let p = settings s x in
    let is = next-boundary p h want.Reserve inner (start-boundary p h why q.alternate.no_owner q.stays_on (no-lines p h q.alternate.started) opened) in
    makes s t x g n false h want.Reserve act.Reserve is refl
    (On refl refl refl (start-reserve p g n (control t) h why q opened)
    (λ whole. stages (message_slot t) p false h (5 + round_left (has_signalled h)) (4 + round_left (has_signalled h)) (stage-outer p h (has_signalled h) true inner refl (ap is_due opened)) (omega arith)))
moves s t x g n false h same named over (StartHeld q w why inner closed purposed) =
    let p = settings s x in
    let known = known_of t (control t) in
    let after = stage-inside p (ControlRead (control t) known ∷ h) (want.CtlWrite (taken (control t) g.me why))
    (ap (λ (v : Want). Some v) (start-writes p (purpose h) (number h) g.me (epoch_number h) (control t) known why purposed q.alternate.mine named.named (named.not_normal refl))) in
    makes s t x g n false h want.CtlRead act.CtlRead (next-inside p h want.CtlRead inner) refl
    (On refl refl refl (start-read p g n (control t) h known why q closed purposed named)
    (λ whole. stages (message_slot t) p false h (4 + round_left (has_signalled h)) (stage_of p (ControlRead (control t) known ∷ h)) (stage-inside p h want.CtlRead inner) (omega (arith, after))))
moves s t x g n false h same named over (StartRead q w why inner closed purposed read) =
    let p = settings s x in
    let written = taken (control t) g.me why in
    makes s t x g n false h (want.CtlWrite written) (act.CtlWrite written) (next-inside p h (want.CtlWrite written) inner) refl
    (Takes refl why refl (start-write p g n (control t) h why q closed purposed read named)
    (λ whole. taking-less (message_slot t) p h written q.alternate.granted inner))
moves s t x g n waits h same named over (AtRelease q goes few inner ends no_drop closed) =
    let p = settings s x in
    let after = stage-outer p (Released ∷ h) (has_signalled h) false ends refl (ap is_due closed) in
    makes s t x g n waits h want.Release act.Release (next-inside p h want.Release inner) refl
    (On refl refl refl (release-step p g waits n (control t) h q goes few ends no_drop closed)
    (λ whole. stages (message_slot t) p waits h (4 + round_left (has_signalled h)) (stage_of p (Released ∷ h)) (stage-inside p h want.Release inner) (omega (arith, after))))
moves s t x g n true h same named over (ThroughDue q w inner opened) = through-moves s t x g n h q inner opened
moves s t x g n true h same named over (ThroughHeld q w inner purposed) =
    let p = settings s x in
    let known = known_of t (control t) in
    let may = may-not t (control t) named.owned (over refl) in
    let writes = through-writes p (purpose h) (number h) g.me (epoch_number h) (control t) known purposed q.alternate.mine named.named (named.taking refl) may in
    let after = stage-inside p (ControlRead (control t) known ∷ h) (want.CtlWrite writes.0) (ap (λ (v : Want). Some v) writes.1) in
    makes s t x g n true h want.CtlRead act.CtlRead (next-inside p h want.CtlRead inner) refl
    (On refl refl refl (through-read p g n (control t) h known q purposed named may)
    (λ whole. stages (message_slot t) p true h (4 + round_left (has_signalled h)) (stage_of p (ControlRead (control t) known ∷ h)) (stage-inside p h want.CtlRead inner) (omega (arith, after))))
moves s t x g n true h same named over (ThroughRead q w written inner purposed names alone) =
    let p = settings s x in
    makes s t x g n true h (want.CtlWrite written) (act.CtlWrite written) (next-inside p h (want.CtlWrite written) inner) refl
    (Through refl written refl alone (through-write p g n h written q purposed names) (λ whole. through-less (message_slot t) p h written q.alternate.granted inner))
moves s t x g n true h same named over (StartDue q w why inner opened) = absurd (cc)
moves s t x g n true h same named over (StartHeld q w why inner closed purposed) = absurd (cc)
moves s t x g n true h same named over (StartRead q w why inner closed purposed read) = absurd (cc)
moves s t x g n false h same named over (ThroughDue q w inner opened) = absurd (cc)
moves s t x g n false h same named over (ThroughHeld q w inner purposed) = absurd (cc)
moves s t x g n false h same named over (ThroughRead q w written inner purposed names alone) = absurd (cc)

-- by which TICK one stands there
few-of : (b : Bool) (n m : ℕ) → n + lag b ≤ m → n ≤ m
few-of true n m few = omega (arith, few)
few-of false n m few = omega (arith, few)

-- by one that its ground allows
pub course-few : (p : Settings) (g : Ground) (n : ℕ) (c : ControlRecord) (waits : Bool) (h : List Event) → Course p g n c waits h → n ≤ g.by
course-few p g n c waits h (Rests i) = few-of waits n g.by (omega (arith, i.few))
course-few p g n c waits h (AtSignal1 r inner signalled stays no_start no_through) = few-of waits n g.by r.few
course-few p g n c waits h (AtSignal2 r signal inner) = few-of waits n g.by r.few
course-few p g n c waits h (AtLook1 r inner) = few-of waits n g.by r.few
course-few p g n c waits h (AtLook2 r inner saw seen) = few-of waits n g.by r.few
course-few p g n c waits h (AtDecide r inner saw last) = few-of waits n g.by r.few
course-few p g n c waits h (StartDue q w why inner opened) = omega (arith, q.few)
course-few p g n c waits h (StartHeld q w why inner closed purposed) = omega (arith, q.few)
course-few p g n c waits h (StartRead q w why inner closed purposed read) = omega (arith, q.few)
course-few p g n c waits h (AtRelease q goes few inner ends no_drop closed) = few-of waits n g.by q.few
course-few p g n c waits h (ThroughDue q w inner opened) = omega (arith, q.few)
course-few p g n c waits h (ThroughHeld q w inner purposed) = omega (arith, q.few)
course-few p g n c waits h (ThroughRead q w written inner purposed names alone) = omega (arith, q.few)

-- and one that does not wait a TICK earlier
pub tracking-few : (p : Settings) (g : Ground) (n : ℕ) (c : ControlRecord) (h : List Event) → Course p g n c false h → n + 1 ≤ g.by
tracking-few p g n c h (Rests i) = omega (arith, i.few)
tracking-few p g n c h (AtSignal1 r inner signalled stays no_start no_through) = omega (arith, r.few)
tracking-few p g n c h (AtSignal2 r signal inner) = omega (arith, r.few)
tracking-few p g n c h (AtLook1 r inner) = omega (arith, r.few)
tracking-few p g n c h (AtLook2 r inner saw seen) = omega (arith, r.few)
tracking-few p g n c h (AtDecide r inner saw last) = omega (arith, r.few)
tracking-few p g n c h (StartDue q w why inner opened) = omega (arith, q.few)
tracking-few p g n c h (StartHeld q w why inner closed purposed) = omega (arith, q.few)
tracking-few p g n c h (StartRead q w why inner closed purposed read) = omega (arith, q.few)
tracking-few p g n c h (AtRelease q goes few inner ends no_drop closed) = omega (arith, q.few)
tracking-few p g n c h (ThroughDue q w inner opened) = absurd (cc)
tracking-few p g n c h (ThroughHeld q w inner purposed) = absurd (cc)
tracking-few p g n c h (ThroughRead q w written inner purposed names alone) = absurd (cc)
