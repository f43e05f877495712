-- The takeover comes: where the course of an alternate begins, and what comes of it.
use Rattle.std.proofs.Common.{◌==◌, ◌≡◌, ℕ, zero, suc, ◌+◌, ◌-◌, ◌*◌, ◌/◌, ◌%◌, ◌≤◌, ◌&&◌, ◌||◌, not, Bool, true, false, ◌⊎◌, inl, inr, List, [], ◌∷◌, ◌++◌, Option, Some, None, is_some, refl, ap, ◌∙◌, sym, subst, arith, if◌then◌else◌}
use Rattle.std.proofs.lemmas.Grind.{common_steps}
use Rattle.xrf_base.specs.declared.site.Site.{Site}
use Rattle.xrf_ctl.specs.declared.parts.OwnerState.TheVariants.{Running}
use Rattle.xrf_ctl.specs.Control.{ControlRecord}
use Rattle.xrf_cavm.specs.Record.{owner_is, inc_of_owner}
use Rattle.xrf_cavm.specs.Watch.{last_look, is_lost}
use Rattle.xrf_gated.specs.declared.gated.Slot.{Slot}
use Rattle.xrf_gated.specs.Slots.{bytes_of}
use Rattle.xrf_msg.specs.Numbers.{given}
use Rattle.xrf_setup.specs.declared.choice.Choice.TheVariants as choice
use Rattle.xrf_history.specs.declared.settings.Settings.{Settings}
use Rattle.xrf_history.specs.declared.want.Want.{Want}
use Rattle.xrf_history.specs.declared.want.Want.TheVariants as want
use Rattle.xrf_history.specs.Events.{Event}
use Rattle.xrf_history.specs.Holding.{number, is_granted, is_owner}
use Rattle.xrf_history.specs.Deciding.{mode_of, takeovr, surveillance, has_go}
use Rattle.xrf_cavm.specs.Decisions.{is_manual}
use Rattle.xrf_history.specs.declared.want.EndWhy.{EndWhy}
use Rattle.xrf_history.specs.Next.{end_for}
use Rattle.xrf_history.specs.Rows.{boundary}
use Rattle.xrf_history.proofs.Histories.{IsHistory}
use Rattle.xrf_progress.proofs.Resting.{is_still}
use Rattle.xrf_history.specs.Looking.{change, signal_seen, told_to_watch}
use Rattle.xrf_history.specs.Reserving.{open_decision, leaves, has_abandoned}
use Rattle.xrf_history.specs.Rows.{has_signalled, lines_issued, reading_due}
use Rattle.xrf_history.specs.Taking.{expected}
use Rattle.xrf_history.specs.Next.{inside}
use Rattle.xrf_history.proofs.Phases.{Phase, phase, NextIn, HasRead, HasWritten, Over, may_release, is_end_of}
use Rattle.xrf_history.proofs.PhaseLaws.{phase-next}
use Rattle.xrf_trace.specs.declared.entry.Entry.{Entry}
use Rattle.xrf_trace.specs.declared.entry.Act.{Act}
use Rattle.xrf_trace.specs.Scenario.{Scen, settings}
use Rattle.xrf_trace.specs.Words.{now, confirmed}
use Rattle.xrf_trace.specs.Devices.{control, message_slot}
use Rattle.xrf_trace.specs.Entries.{entry}
use Rattle.xrf_trace.specs.Jobs.{hist}
use Rattle.xrf_trace.specs.Acts.{next_act}
use Rattle.xrf_trace.specs.Runs.{IsRun}
use Rattle.xrf_trace.specs.ThroughByProof.{may_run}
use Rattle.xrf_trace.proofs.Paths.{history-at}
use Rattle.xrf_progress.specs.Serving.{Serves, has_taking_write, was_asked}
use Rattle.xrf_progress.specs.Takeovers.{TakingsCome, AsksCome, ThroughsCome, TakeoversCome, ThroughsEnd, TakeoversEnd, CanDecide, CanStart, CanAsk, CanGo, most_acts, before_rest}
use Rattle.xrf_progress.specs.Operator.{IsTold, TakingsFollow, TakeoversFollow, TakeoversFollowEnd, ConfirmsFollow}
use Rattle.xrf_progress.specs.Staying.{WhoRestsStays}
use Rattle.xrf_progress.proofs.Course.{Way, ByItself, Commanded, Given, Asking, IsOver, IsSet, HasLooked, SawSignal}
use Rattle.xrf_progress.proofs.Anywhere.{ground_at, tracks-anywhere, waits-anywhere, tracks-named, waits-named}
use Rattle.xrf_progress.proofs.Decisions.{is_asking}
use Rattle.xrf_progress.proofs.Leading.{Same}
use Rattle.xrf_progress.proofs.Leaving.{leaving-of}
use Rattle.xrf_progress.proofs.Lefts.{stage-outer, not-due}
use Rattle.xrf_progress.proofs.Potential.{unread, ready, one_if, is_due, round_left, inner_stage, stage, ahead, alternate_left}
use Rattle.xrf_progress.proofs.Resting.{rests-outside, still-signalled, still-stays, still-start, still-through, tracks-granted, tracks-no_owner, waits-granted, waits-no_owner}
use Rattle.xrf_progress.proofs.Served.{All, HasStopped, served-all, sure-comes, sure-ends, unsure-comes}
use Rattle.xrf_progress.proofs.Standing.{Stands, InCourse, next-of, same-number}
use Rattle.xrf_progress.proofs.Times.{time-of}

-- a part of a run comes after a run
pub run-before : (s : Scen) (part t : List Entry) → IsRun s (part ++ t) → IsRun s t
run-before s [] t is = is
run-before s (e ∷ part) t is = run-before s part t is.0

-- an owner that may not run is over
pub over-runs : (t : List Entry) (c : ControlRecord) → may_run t c ≡ false → IsOver (confirmed t) c
over-runs t c over runs = by (owner_is c Running) (confirmed t (inc_of_owner c.owner)) runs over
  where
    by : (a b : Bool) → a ≡ true → (a && not b) ≡ false → b ≡ true
    by a b first second = grind (arith, common_steps)

-- no more messages stand ready than the ring has slots
ready-few : (slot : ℕ → Slot) (ring n count q : ℕ) → ready slot ring n count q ≤ count
ready-few slot ring n zero q = omega arith
ready-few slot ring n (suc count) q = by (is_some (given (bytes_of (slot (q % ring))) n q)) (ready-few slot ring n count (q + 1))
  where
    by : (b : Bool) → ready slot ring n count (q + 1) ≤ count → (if b then suc (ready slot ring n count (q + 1)) else 0) ≤ suc count
    by true less = omega (arith, less)
    by false less = omega arith

-- one for a test is at most one
one-most : (b : Bool) → one_if b ≤ 1
one-most true = omega arith
one-most false = omega arith

-- a stage is at most 16
stage-most : (o : Option Want) (signalled due : Bool) → stage o signalled due ≤ 16
stage-most (Some w) signalled due = let few = inner-most w in let round = round-most signalled in omega (arith, few, round)
  where
    inner-most : (w : Want) → inner_stage w ≤ 9
    inner-most (want.Signal2 signal) = omega arith
    inner-most want.Look1 = omega arith
    inner-most want.Look2 = omega arith
    inner-most want.Decide = omega arith
    inner-most want.CtlRead = omega arith
    inner-most (want.CtlWrite written) = omega arith
    inner-most want.Release = omega arith
    inner-most _ = omega arith

    round-most : (b : Bool) → round_left b ≤ 7
    round-most true = omega arith
    round-most false = omega arith
stage-most None true true = omega arith
stage-most None true false = omega arith
stage-most None false true = omega arith
stage-most None false false = omega arith

-- and at rest it is 3
stage-at : (s : Scen) (t : List Entry) (x : Site) (h : List Event) → hist s t x ≡ Some h → is_granted h ≡ true → is_owner h ≡ false → (o : Option Act)
    → next_act s t x ≡ o → stage (inside (settings s x) h) (has_signalled h) (is_due (open_decision h)) ≤ 3 + before_rest o
stage-at s t x h there granted no_owner (Some a) is = stage-most (inside (settings s x) h) (has_signalled h) (is_due (open_decision h))
stage-at s t x h there granted no_owner None is =
    let p = settings s x in
    let outside = rests-outside s t x h (next-of s t x h there is) in
    let stage_is = stage-outer p h true false outside.0 (still-signalled p h granted no_owner outside.1)
    (not-due (open_decision h) (still-start p h no_owner outside.1) (still-through p h no_owner outside.1)) in
    omega (arith, stage_is)

-- so many acts are left at most, but for those after further TICKs
abbrev pub left_at : Scen → List Entry → Site → Bool → ℕ
left_at s t x waits = most_acts s x + before_rest (next_act s t x) + 6 + ahead waits

-- so it is of what is left
most-left : (s : Scen) (t : List Entry) (x : Site) (waits : Bool) (h : List Event) → hist s t x ≡ Some h → is_granted h ≡ true → is_owner h ≡ false
    → alternate_left (message_slot t) (settings s x) waits h ≤ left_at s t x waits
most-left s t x waits h there granted no_owner =
    let p = settings s x in
    counts (unread (message_slot t) p h) s.settings.ring p.clt_lines (lines_issued h) (one_if (reading_due h))
    (stage (inside p h) (has_signalled h) (is_due (open_decision h))) (ahead waits) s.settings.log (before_rest (next_act s t x))
    (ready-few (message_slot t) p.limits.ring (number h) p.limits.ring (expected h)) (one-most (reading_due h))
    (stage-at s t x h there granted no_owner (next_act s t x) refl)
  where
    counts : (u r c i d t w l b : ℕ) → u ≤ r → d ≤ 1 → t ≤ 3 + b
        → u + (c - i) + d + t + w + (5 * l + l / 64 + 4) ≤ r + c + 5 * l + l / 64 + 2 + b + 6 + w
    counts u r c i d t w l b first second third = omega (arith, first, second, third)

-- where one that tracks begins
begins-tracks : (s : Scen) (t : List Entry) (x : Site) (h : List Event) (way : Way) (late till : ℕ) (sure : Bool) → IsRun s t → CanDecide s t x h
    → IsSet (settings s x) (ground_at t x h way late till) (mode_of (settings s x) h) → change h ≤ late
    → HasLooked (ground_at t x h way late till) 0 (last_look (told_to_watch h)) → SawSignal (ground_at t x h way late till) 0 (signal_seen h) → 2 ≤ till
    → (sure ≡ true → is_asking way ≡ false) → (sure ≡ true → may_run t (control t) ≡ false)
    → Stands s t x (ground_at t x h way late till) 0 sure (left_at s t x false)
begins-tracks s t x h way late till sure is can set changed looked saw early sets over =
    InCourse false h can.there (tracks-named s t x h is can) (λ certain. over-runs t (control t) (over certain)) (λ unsure. refl) sets
    (tracks-anywhere s t x h (ground_at t x h way late till) is can refl set changed looked saw early)
    (λ certain. most-left s t x false h can.there (tracks-granted h can.tracks) (tracks-no_owner h can.tracks))

-- and where one that waits does
begins-waits : (s : Scen) (t : List Entry) (x : Site) (h : List Event) → IsRun s t → CanGo s t x h
    → Stands s t x (ground_at t x h ByItself (now t + 1) 1) 0 true (left_at s t x true)
begins-waits s t x h is can =
    let time = time-of s t x h is can.there in
    InCourse true h can.there (waits-named s t x h is can) (λ certain. over-runs t (control t) can.over) (λ unsure. absurd (cc)) (λ certain. refl)
    (waits-anywhere s t x h (ground_at t x h ByItself (now t + 1) 1) is can refl (omega (arith, time.change_is)) (inl (omega arith)) (inl (omega arith)) (omega arith))
    (λ certain. most-left s t x true h can.there (waits-granted h can.waits) (waits-no_owner h can.waits))

-- what stands beside it there
same-at : (t : List Entry) (x : Site) (h : List Event) (way : Way) (late till : ℕ) → Same t x (ground_at t x h way late till) 0
same-at t x h way late till = record { first = refl; second = refl; at = omega arith }

-- all through a part that serves one that decides, within ADI + 2 TICKs
all-patient : (s : Scen) (t part : List Entry) (x : Site) (h : List Event) (way : Way) (sure : Bool) → IsRun s (part ++ t) → CanDecide s t x h
    → IsSet (settings s x) (ground_at t x h way (now t + 1) ((settings s x).adi + 2)) (mode_of (settings s x) h)
    → (sure ≡ true → is_asking way ≡ false) → (sure ≡ true → may_run t (control t) ≡ false) → Serves s t x part
    → All s t part x (ground_at t x h way (now t + 1) ((settings s x).adi + 2)) sure (left_at s t x false)
all-patient s t part x h way sure is can set sets over served =
    let before = run-before s part t is in
    let time = time-of s t x h before can.there in
    served-all s t part x (ground_at t x h way (now t + 1) ((settings s x).adi + 2)) sure (left_at s t x false) is served
    (same-at t x h way (now t + 1) ((settings s x).adi + 2))
    (begins-tracks s t x h way (now t + 1) ((settings s x).adi + 2) sure before can set (omega (arith, time.change_is)) (inl (omega arith)) (inl (omega arith))
    (omega arith) sets over)

-- one that can start goes its way by itself
set-start : (s : Scen) (t : List Entry) (x : Site) (h : List Event) → CanStart s t x h
    → IsSet (settings s x) (ground_at t x h ByItself (now t + 1) ((settings s x).adi + 2)) (mode_of (settings s x) h)
set-start s t x h can = record { will = can.will; stays = can.decides.stays; soon = omega arith }

-- one that can ask goes its way to the question
set-ask : (s : Scen) (t : List Entry) (x : Site) (h : List Event) → CanAsk s t x h
    → IsSet (settings s x) (ground_at t x h Asking (now t + 1) ((settings s x).adi + 2)) (mode_of (settings s x) h)
set-ask s t x h can = record { will = can.asks; stays = can.decides.stays; soon = omega arith }

-- **what is lost is noticed**
pub takings-come : TakingsCome
takings-come s t part x h is can served late =
    by (unsure-comes s t part x (ground_at t x h ByItself (now t + 1) ((settings s x).adi + 2)) (left_at s t x false) (omega (arith, late))
    (all-patient s t part x h ByItself false is can.decides (set-start s t x h can) (λ certain. absurd (cc)) (λ certain. absurd (cc)) served))
  where
    by : HasStopped s t part x (ground_at t x h ByItself (now t + 1) ((settings s x).adi + 2)) → has_taking_write x (number h) part ≡ true
    by (inl takes) = takes
    by (inr asked) = absurd (cc (asked.0))

-- **and the operator is asked**
pub asks-come : AsksCome
asks-come s t part x h is can served late =
    by (unsure-comes s t part x (ground_at t x h Asking (now t + 1) ((settings s x).adi + 2)) (left_at s t x false) (omega (arith, late))
    (all-patient s t part x h Asking false is can.decides (set-ask s t x h can) (λ certain. absurd (cc)) (λ certain. absurd (cc)) served))
  where
    by : HasStopped s t part x (ground_at t x h Asking (now t + 1) ((settings s x).adi + 2))
        → (has_taking_write x (number h) part ≡ true) ⊎ (was_asked s t x part ≡ true)
    by (inl takes) = inl takes
    by (inr asked) = inr asked.1

-- all through a part that serves one that can go through
all-go : (s : Scen) (t part : List Entry) (x : Site) (h : List Event) → IsRun s (part ++ t) → CanGo s t x h → Serves s t x part
    → All s t part x (ground_at t x h ByItself (now t + 1) 1) true (left_at s t x true)
all-go s t part x h is can served =
    served-all s t part x (ground_at t x h ByItself (now t + 1) 1) true (left_at s t x true) is served (same-at t x h ByItself (now t + 1) 1)
    (begins-waits s t x h (run-before s part t is) can)

-- **what is started goes through, and the restart is done**
pub throughs-come : ThroughsCome
throughs-come s t part x h is can served late =
    sure-comes s t part x (ground_at t x h ByItself (now t + 1) 1) (left_at s t x true) (omega (arith, late)) (all-go s t part x h is can served)

-- **within so many acts**
pub throughs-end : ThroughsEnd
throughs-end s t part x h ranges is can served many =
    sure-ends s t part x (ground_at t x h ByItself (now t + 1) 1) (left_at s t x true) ranges (omega (arith, many)) (all-go s t part x h is can served)

-- all through a part that serves one that can start, beside an owner that is over
all-start : (s : Scen) (t part : List Entry) (x : Site) (h : List Event) → IsRun s (part ++ t) → CanStart s t x h → may_run t (control t) ≡ false → Serves s t x part
    → All s t part x (ground_at t x h ByItself (now t + 1) ((settings s x).adi + 2)) true (left_at s t x false)
all-start s t part x h is can over served =
    all-patient s t part x h ByItself true is can.decides (set-start s t x h can) (λ certain. refl) (λ certain. over) served

-- **the takeover comes**
pub takeovers-come : TakeoversCome
takeovers-come s t part x h is can over served late =
    sure-comes s t part x (ground_at t x h ByItself (now t + 1) ((settings s x).adi + 2)) (left_at s t x false) (omega (arith, late))
    (all-start s t part x h is can over served)

-- **within so many acts**
pub takeovers-end : TakeoversEnd
takeovers-end s t part x h ranges is can over served many =
    sure-ends s t part x (ground_at t x h ByItself (now t + 1) ((settings s x).adi + 2)) (left_at s t x false) ranges (omega (arith, many))
    (all-start s t part x h is can over served)

-- by which way one is told to start
abbrev told_way : {s : Scen} → {t : List Entry} → {x : Site} → {h : List Event} → IsTold s t x h → Way
told_way (inl commanded) = Commanded
told_way (inr go) = Given

-- and by when it saw the last change
abbrev told_late : {s : Scen} → {t : List Entry} → {x : Site} → {h : List Event} → IsTold s t x h → ℕ
told_late {t = t} (inl commanded) = now t + 1
told_late {h = h} (inr go) = change h

-- what has been lost for ADI ticks
lost-since : (changed adi at : ℕ) → is_lost changed adi at ≡ true → changed ≤ at → changed + adi ≤ at
lost-since changed adi at is by_then = grind (arith, is, by_then)

-- three tests that are met
go-led : (a b c : Bool) → (a && b) ≡ true → c ≡ true → (a && b && c) ≡ true
go-led a b c first second = grind (arith, common_steps)

-- where one that is told begins
begins-told : (s : Scen) (t : List Entry) (x : Site) (h : List Event) (told : IsTold s t x h) (sure : Bool) → IsRun s t → CanDecide s t x h
    → (sure ≡ true → may_run t (control t) ≡ false) → Stands s t x (ground_at t x h (told_way told) (told_late told) 2) 0 sure (left_at s t x false)
begins-told s t x h (inl commanded) sure is can over =
    let time = time-of s t x h is can.there in
    begins-tracks s t x h Commanded (now t + 1) 2 sure is can (record { will = commanded; stays = can.stays; soon = tt }) (omega (arith, time.change_is))
    (inl (omega arith)) (inl (omega arith)) (omega arith) (λ certain. refl) over
begins-told s t x h (inr go) sure is can over =
    let p = settings s x in
    let time = time-of s t x h is can.there in
    begins-tracks s t x h Given (change h) 2 sure is can
    (record {
      will = go-led (is_manual (takeovr p h)) (surveillance h) (has_go p h) go.asks go.go;
      stays = can.stays;
      soon = lost-since (change h) p.adi (now t) go.lost time.change_is;
    }) (omega arith) (inr go.looked) (inr go.saw) (omega arith) (λ certain. refl) over

-- nobody who is told asks
told-asks : {s : Scen} {t : List Entry} {x : Site} {h : List Event} (told : IsTold s t x h) → is_asking (told_way told) ≡ false
told-asks (inl commanded) = refl
told-asks (inr go) = refl

-- all through a part that serves one that is told
all-told : (s : Scen) (t part : List Entry) (x : Site) (h : List Event) (told : IsTold s t x h) (sure : Bool) → IsRun s (part ++ t) → CanDecide s t x h
    → (sure ≡ true → may_run t (control t) ≡ false) → Serves s t x part
    → All s t part x (ground_at t x h (told_way told) (told_late told) 2) sure (left_at s t x false)
all-told s t part x h told sure is can over served =
    served-all s t part x (ground_at t x h (told_way told) (told_late told) 2) sure (left_at s t x false) is served
    (same-at t x h (told_way told) (told_late told) 2) (begins-told s t x h told sure (run-before s part t is) can over)

-- **what is told is done**
pub takings-follow : TakingsFollow
takings-follow s t part x h is can told served late =
    by (unsure-comes s t part x (ground_at t x h (told_way told) (told_late told) 2) (left_at s t x false) (omega (arith, late))
    (all-told s t part x h told false is can (λ certain. absurd (cc)) served))
  where
    by : HasStopped s t part x (ground_at t x h (told_way told) (told_late told) 2) → has_taking_write x (number h) part ≡ true
    by (inl takes) = takes
    by (inr asked) = absurd (cc (sym (told-asks told) ∙ asked.0))

-- **and it comes to its restart**
pub takeovers-follow : TakeoversFollow
takeovers-follow s t part x h is can told over served late =
    sure-comes s t part x (ground_at t x h (told_way told) (told_late told) 2) (left_at s t x false) (omega (arith, late))
    (all-told s t part x h told true is can (λ certain. over) served)

-- **within so many acts**
pub takeovers-follow-end : TakeoversFollowEnd
takeovers-follow-end s t part x h ranges is can told over served many =
    sure-ends s t part x (ground_at t x h (told_way told) (told_late told) 2) (left_at s t x false) ranges (omega (arith, many))
    (all-told s t part x h told true is can (λ certain. over) served)

-- **a CONFIRM that comes late leads on**
pub confirms-follow : ConfirmsFollow
confirms-follow s t part x h is there waits on served late =
    throughs-come s (entry s t (choice.Confirm (inc_of_owner (control t).owner)) ∷ t) part x h is
    (record { there = there; waits = waits; on = on; over = over (owner_is (control t) Running) }) served late
  where
    over : (runs : Bool) → (runs && not (inc_of_owner (control t).owner == inc_of_owner (control t).owner || confirmed t (inc_of_owner (control t).owner))) ≡ false
    over runs = gone runs (inc_of_owner (control t).owner == inc_of_owner (control t).owner) (confirmed t (inc_of_owner (control t).owner)) (same-number (inc_of_owner (control t).owner))
      where
        gone : (a b c : Bool) → b ≡ true → (a && not (b || c)) ≡ false
        gone a b c is = grind (arith, common_steps)

-- one that rests has abandoned nothing
rests-on : (p : Settings) (h : List Event) (f : Phase) (some : Bool) → NextIn p h f → inside p h ≡ None → (f ≡ Over) ⊎ ((may_release f ≡ true) × (some ≡ true)) → ⊥
rests-on p h f some at none (inl over) = absurd (cc (sym (ap is_end_of none) ∙ subst (NextIn p h) over at))
rests-on p h HasRead some at none (inr may) = absurd (cc (sym none ∙ at))
rests-on p h HasWritten some at none (inr may) = absurd (cc (sym none ∙ at))
rests-on p h _ some at none (inr may) = absurd (cc (may.0))

-- **who rests does not leave**
pub who-rests-stays : WhoRestsStays
who-rests-stays s t x h is there alternate rests =
    neither (leaves h) (has_abandoned h) (still-stays p h no_owner outside.1) (λ gone. rests-on p h (phase p h) (is_some (end_for p h)) (phase-next p h path) outside.0 ((leaving-of p h path).ending gone))
  where
    p : Settings
    p = settings s x

    no_owner : is_owner h ≡ false
    no_owner = by (is_granted h) (is_owner h) alternate
      where
        by : (a b : Bool) → (a && not b) ≡ true → b ≡ false
        by a b is = grind (arith, common_steps)

    path : IsHistory p h
    path = history-at s t x h is there

    outside : (inside p h ≡ None) × (is_still (boundary p h) ≡ true)
    outside = rests-outside s t x h (next-of s t x h there rests)

    neither : (o : Option EndWhy) (b : Bool) → o ≡ None → (b ≡ true → ⊥) → (is_some o || b) ≡ false
    neither o false none gone = ap (λ (e : Option EndWhy). is_some e || false) none
    neither o true none gone = absurd (gone refl)
