-- Where the job of a site stands that is served, with the record as it is; and what each entry makes of that.
use Rattle.std.proofs.Common.{◌==◌, ◌≡◌, ℕ, zero, suc, ◌+◌, ◌-◌, ◌%◌, ◌≤◌, ◌&&◌, Bool, true, false, ◌⊎◌, inl, inr, List, ◌∷◌, Option, Some, None, is_some, refl, ap, ◌∙◌, sym, subst, arith, if◌then◌else◌}
use Rattle.std.specs.Option.{option_map, option_map_or}
use Rattle.std.proofs.lemmas.Grind.{common_steps}
use Rattle.xrf_base.specs.declared.site.Site.{Site}
use Rattle.xrf_ctl.specs.declared.parts.Cause.{Cause}
use Rattle.xrf_ctl.specs.Control.{ControlRecord}
use Rattle.xrf_cavm.specs.Record.{inc_of_owner, inc_of_alt}
use Rattle.xrf_ctl.specs.declared.parts.Level.{Level}
use Rattle.xrf_progress.proofs.SignOns.{IsFree, SignOn, sign_left, Signs, OnInIt, Granted, signs}
use Rattle.xrf_gated.specs.declared.gated.Slot.{Slot}
use Rattle.xrf_gated.specs.Slots.{bytes_of}
use Rattle.xrf_msg.specs.Numbers.{given}
use Rattle.xrf_history.specs.declared.settings.Settings.{Settings}
use Rattle.xrf_history.specs.declared.want.Want.{Want}
use Rattle.xrf_history.specs.Events.{Event, Ticked}
use Rattle.xrf_history.specs.Deciding.{is_asked}
use Rattle.xrf_history.specs.Holding.{number, starts_active}
use Rattle.xrf_history.specs.Reserving.{open_decision}
use Rattle.xrf_history.specs.Rows.{has_signalled, lines_issued, reading_due}
use Rattle.xrf_history.specs.Taking.{expected, is_draining}
use Rattle.xrf_history.specs.Next.{inside, next}
use Rattle.xrf_history.proofs.Tests.{not-both}
use Rattle.xrf_trace.specs.declared.entry.Entry.{Entry}
use Rattle.xrf_trace.specs.declared.entry.Act.{Act}
use Rattle.xrf_trace.specs.declared.entry.Act.TheVariants as act
use Rattle.xrf_trace.specs.declared.entry.Land.{Land}
use Rattle.xrf_trace.specs.declared.entry.Land.TheVariants as land
use Rattle.xrf_trace.specs.Scenario.{Scen, settings}
use Rattle.xrf_trace.specs.Landing.{lands, is_in_full}
use Rattle.xrf_trace.specs.Words.{is_of, now, tick_after, confirmed}
use Rattle.xrf_trace.specs.Devices.{control, control_after, message_slot, message_slot_after}
use Rattle.xrf_trace.specs.Jobs.{hist, handed, after_other}
use Rattle.xrf_trace.specs.Acts.{act_of, act_by, next_act, is_act}
use Rattle.xrf_trace.specs.Entries.{inc_of_act}
use Rattle.xrf_trace.specs.FileIsBook.{is_restart}
use Rattle.xrf_trace.specs.Runs.{IsRun}
use Rattle.xrf_progress.specs.Serving.{is_tick, is_restart_of, is_taking_write_of, writes_taking_of, is_asked_at}
use Rattle.xrf_progress.proofs.Course.{Ground, IsAlone, IsNamed, IsOver, Course, Restart}
use Rattle.xrf_progress.proofs.Decisions.{is_asking}
use Rattle.xrf_progress.proofs.Entries.{writes_message, is_ended, Own, own, Quiet, Keeps, ticked, tick-is}
use Rattle.xrf_progress.proofs.Leading.{Same, Leads, On, Asks, Takes, Through, Moves, StandsStill, Makes, moves}
use Rattle.xrf_progress.proofs.Others.{over-quiet, owner-quiet}
use Rattle.xrf_progress.proofs.Potential.{unread, ready, one_if, is_due, stage, ahead, most_of_restart, alternate_left, left_by, restart_left, own_round, inner_done, AreWhole}
use Rattle.xrf_progress.proofs.Restoring.{Restores, GoesOn, Done, restores}
use Rattle.xrf_progress.proofs.Rounds.{tick-idle}
use Rattle.xrf_progress.proofs.Scanning.{scan_left}
use Rattle.xrf_progress.proofs.Sequences.{taken, taken-named}

-- Where the job stands: in its course, in a sign-on as active, or in a restart. Where it is sure that the owner is over the
-- course goes on to the restart, within so many acts but for those after further TICKs; and else to the taking.
pub data Stands (s : Scen) (t : List Entry) (x : Site) (g : Ground) (n : ℕ) (sure : Bool) (left : ℕ) : Type 0 where
  InCourse : (waits : Bool) → (h : List Event) → hist s t x ≡ Some h → IsNamed g.me waits (control t) → (sure ≡ true → IsOver (confirmed t) (control t))
      → (sure ≡ false → waits ≡ false) → (sure ≡ true → is_asking g.way ≡ false) → Course (settings s x) g n (control t) waits h
      → (sure ≡ true → alternate_left (message_slot t) (settings s x) waits h ≤ left) → Stands s t x g n sure left
  InSignOn : sure ≡ true → (h : List Event) → hist s t x ≡ Some h → IsFree (settings s x).level (confirmed t) (control t) → (control t).last + 1 ≡ g.me
      → n ≤ g.by → SignOn (settings s x) g h → sign_left (settings s x) h ≤ left → Stands s t x g n sure left
  InRestart : sure ≡ true → (h : List Event) → hist s t x ≡ Some h → IsAlone (control t) → Restart (settings s x) g n h
      → restart_left (message_slot t) (settings s x) h ≤ left → Stands s t x g n sure left

-- the signals and the ticks after an entry
pub same-after : (t : List Entry) (e : Entry) (x : Site) (g : Ground) (n m : ℕ) → Keeps t e x → Same t x g n
    → tick_after e.act (now t) ≡ g.from + m → Same (e ∷ t) x g m
same-after t e x g n m keeps same at = record { first = keeps.one ∙ same.first; second = keeps.two ∙ same.second; at = at }

-- the next act of a site is that of its job
pub next-of : (s : Scen) (t : List Entry) (x : Site) (h : List Event) → hist s t x ≡ Some h → next_act s t x ≡ None → act_of s t x h (next (settings s x) h) ≡ None
next-of s t x h there none = sym (ap (act_by s t x) there) ∙ none

-- an owner that is over stays so, with more that is confirmed
over-after : (t : List Entry) (e : Entry) (c : ControlRecord) → ((n : ℕ) → confirmed t n ≡ true → confirmed (e ∷ t) n ≡ true) → control (e ∷ t) ≡ c
    → IsOver (confirmed t) c → IsOver (confirmed (e ∷ t)) (control (e ∷ t))
over-after t e c more same over = subst (IsOver (confirmed (e ∷ t))) (sym same) (λ runs. more (inc_of_owner c.owner) (over runs))

-- the slots of messages stay where no entry writes one
slots-stay : (a : Act) (l : Land) (i : ℕ) (before : Slot) → writes_message a ≡ false → message_slot_after a l i before ≡ before
slots-stay (act.MsgClose k) l i before none = absurd (cc)
slots-stay (act.MsgBody k m) l i before none = absurd (cc)
slots-stay (act.MsgOpen k m) l i before none = absurd (cc)
slots-stay _ l i before none = refl

-- so as many messages stand ready
ready-same : (f g : ℕ → Slot) → ((i : ℕ) → f i ≡ g i) → (ring n count q : ℕ) → ready f ring n count q ≡ ready g ring n count q
ready-same f g same ring n zero q = refl
ready-same f g same ring n (suc count) q =
    ap (λ (slot : Slot). if is_some (given (bytes_of slot) n q) then suc (ready f ring n count (q + 1)) else 0) (same (q % ring))
    ∙ ap (λ (m : ℕ). if is_some (given (bytes_of (g (q % ring))) n q) then suc m else 0) (ready-same f g same ring n count (q + 1))

-- and as much is left to an alternate
alternate-same : (f g : ℕ → Slot) → ((i : ℕ) → f i ≡ g i) → (p : Settings) (waits : Bool) (h : List Event) → alternate_left f p waits h ≡ alternate_left g p waits h
alternate-same f g same p waits h =
    ap (λ (u : ℕ). u + (p.clt_lines - lines_issued h) + one_if (reading_due h) + stage (inside p h) (has_signalled h) (is_due (open_decision h)) + ahead waits + most_of_restart p)
    (ready-same f g same p.limits.ring (number h) p.limits.ring (expected h))

-- and to one that became the owner
restart-same : (f g : ℕ → Slot) → ((i : ℕ) → f i ≡ g i) → (p : Settings) (h : List Event) → restart_left f p h ≡ restart_left g p h
restart-same f g same p h =
    ap (λ (u : ℕ). left_by (inside p h) (has_signalled h) ((if starts_active h then 0 else u + 1) + most_of_restart p + 1 + own_round (has_signalled h))
    ((if is_draining h then u + 1 else 0) + (scan_left p h - inner_done (inside p h))))
    (ready-same f g same p.limits.ring (number h) p.limits.ring (expected h))

-- what is the same is as few
least : (a b left : ℕ) → a ≡ b → b ≤ left → a ≤ left
least a b left same few = omega (arith, same, few)

-- the course goes on in the trace with the entry
on-stands : (s : Scen) (t : List Entry) (e : Entry) (x : Site) (g : Ground) (n : ℕ) (sure waits : Bool) (left : ℕ) (h : List Event) (c : ControlRecord)
    → hist s (e ∷ t) x ≡ Some h → ((n : ℕ) → confirmed t n ≡ true → confirmed (e ∷ t) n ≡ true) → control (e ∷ t) ≡ c → IsNamed g.me waits c
    → (sure ≡ true → IsOver (confirmed t) c) → (sure ≡ false → waits ≡ false) → (sure ≡ true → is_asking g.way ≡ false) → Course (settings s x) g n c waits h
    → (sure ≡ true → writes_message e.act ≡ false) → (sure ≡ true → alternate_left (message_slot t) (settings s x) waits h ≤ left)
    → Stands s (e ∷ t) x g n sure left
on-stands s t e x g n sure waits left h c after more same named over tracks sets course quiet most =
    InCourse waits h after (subst (IsNamed g.me waits) (sym same) named) (λ is. over-after t e c more same (over is)) tracks sets
    (subst (λ (r : ControlRecord). Course (settings s x) g n r waits h) (sym same) course)
    (λ is.
    let few = most is in
    let same_left = alternate-same (message_slot (e ∷ t)) (message_slot t) (λ i. slots-stay e.act e.land i (message_slot t i) (quiet is)) (settings s x) waits h in
    least (alternate_left (message_slot (e ∷ t)) (settings s x) waits h) (alternate_left (message_slot t) (settings s x) waits h) left same_left few)

-- and so does the restart
restart-stands : (s : Scen) (t : List Entry) (e : Entry) (x : Site) (g : Ground) (n : ℕ) (sure : Bool) (left : ℕ) (h : List Event) (c : ControlRecord)
    → sure ≡ true → hist s (e ∷ t) x ≡ Some h → control (e ∷ t) ≡ c → IsAlone c → Restart (settings s x) g n h → writes_message e.act ≡ false
    → restart_left (message_slot t) (settings s x) h ≤ left → Stands s (e ∷ t) x g n sure left
restart-stands s t e x g n sure left h c certain after same alone restart quiet most =
    InRestart certain h after (subst IsAlone (sym same) alone) restart
    (least (restart_left (message_slot (e ∷ t)) (settings s x) h) (restart_left (message_slot t) (settings s x) h) left
    (restart-same (message_slot (e ∷ t)) (message_slot t) (λ i. slots-stay e.act e.land i (message_slot t i) quiet) (settings s x) h) most)

-- a sign-on that the record grants is granted still
free-after : (level : Level) (t : List Entry) (e : Entry) (c : ControlRecord) → ((n : ℕ) → confirmed t n ≡ true → confirmed (e ∷ t) n ≡ true)
    → control (e ∷ t) ≡ c → IsFree level (confirmed t) c → IsFree level (confirmed (e ∷ t)) (control (e ∷ t))
free-after level t e c more same free =
    subst (IsFree level (confirmed (e ∷ t))) (sym same)
    (record { known = free.known; over = λ runs. more (inc_of_owner c.owner) (free.over runs); gone = λ some. more (inc_of_alt c.alt) (free.gone some) })

-- so the sign-on goes on
sign-stands : (s : Scen) (t : List Entry) (e : Entry) (x : Site) (g : Ground) (n : ℕ) (sure : Bool) (left : ℕ) (h : List Event)
    → sure ≡ true → hist s (e ∷ t) x ≡ Some h → ((n : ℕ) → confirmed t n ≡ true → confirmed (e ∷ t) n ≡ true) → control (e ∷ t) ≡ control t
    → IsFree (settings s x).level (confirmed t) (control t) → (control t).last + 1 ≡ g.me → n ≤ g.by → SignOn (settings s x) g h
    → sign_left (settings s x) h ≤ left → Stands s (e ∷ t) x g n sure left
sign-stands s t e x g n sure left h certain after more same free mine few sign most =
    InSignOn certain h after (free-after (settings s x).level t e (control t) more same free) (ap (λ (c : ControlRecord). c.last + 1) same ∙ mine) few sign most

-- a TICK adds a round
tick-stage : (o : Option Want) (signalled due : Bool) → stage o false due ≤ stage o signalled due + 7
tick-stage (Some w) true due = omega arith
tick-stage (Some w) false due = omega arith
tick-stage None true due = omega arith
tick-stage None false due = omega arith

-- so seven acts more are left
tick-left : (slot : ℕ → Slot) (p : Settings) (waits : Bool) (h : List Event) (left : ℕ) → alternate_left slot p waits h ≤ left
    → alternate_left slot p waits (Ticked ∷ h) ≤ left + 7
tick-left slot p waits h left most =
    let more = tick-stage (inside p h) (has_signalled h) (is_due (open_decision h)) in
    counts (unread slot p h) (p.clt_lines - lines_issued h) (one_if (reading_due h)) (stage (inside p h) (has_signalled h) (is_due (open_decision h)))
    (stage (inside p h) false (is_due (open_decision h))) (ahead waits) (most_of_restart p) left more most
  where
    counts : (u l r s v a m left : ℕ) → v ≤ s + 7 → u + l + r + s + a + m ≤ left → u + l + r + v + a + m ≤ left + 7
    counts u l r s v a m left more most = omega (arith, more, most)

-- a TICK writes no message
tick-quiet : (a : Act) → is_tick a ≡ true → writes_message a ≡ false
tick-quiet a is = ap writes_message (tick-is a is)

-- of two that are not both so, where one is the other is
pub sure-waits : (a b : Bool) → b ≡ true → (a ≡ false → b ≡ false) → a ≡ true
sure-waits true b waiting off = refl
sure-waits false b waiting off = absurd (not-both b waiting (off refl))

-- where a TICK serves it rests, and a round is due after it
idle-ticks : (s : Scen) (t : List Entry) (x : Site) (g : Ground) (n : ℕ) (waits : Bool) (h : List Event) → Moves s t x g n waits h
    → act_of s t x h (next (settings s x) h) ≡ None → Course (settings s x) g (n + 1) (control t) waits (Ticked ∷ h)
idle-ticks s t x g n waits h (StandsStill i still) none = tick-idle (settings s x) g waits n (control t) h i
idle-ticks s t x g n waits h (Makes a is leads) none = absurd (cc (sym none ∙ is))

-- where an act is next none is not
busy : (s : Scen) (t : List Entry) (x : Site) (h : List Event) (a : Act) → act_of s t x h (next (settings s x) h) ≡ None
    → act_of s t x h (next (settings s x) h) ≡ Some a → ⊥
busy s t x h a none is = absurd (cc (sym none ∙ is))

-- after a TICK
pub tick-stands : (s : Scen) (t : List Entry) (e : Entry) (x : Site) (g : Ground) (n : ℕ) (sure : Bool) (left : ℕ) → is_of e.who x ≡ false
    → is_tick e.act ≡ true → next_act s t x ≡ None → Same t x g n → Stands s t x g n sure left → Stands s (e ∷ t) x g (n + 1) sure (left + 7)
tick-stands s t e x g n sure left away tick rests same (InRestart is h there alone restart most) =
    let r = restores s t x g n h alone restart in absurd (busy s t x h r.0 (next-of s t x h there rests) r.1)
tick-stands s t e x g n sure left away tick rests same (InSignOn is h there free mine few sign most) =
    let r = signs s t x g n h free mine few sign in absurd (busy s t x h r.0 (next-of s t x h there rests) r.1)
tick-stands s t e x g n sure left away tick rests same (InCourse waits h there named over tracks sets course most) =
    let q = ticked s t e x away tick in
    on-stands s t e x g (n + 1) sure waits (left + 7) (Ticked ∷ h) (control t)
    (q.after ∙ ap (λ (a : Act). after_other a (hist s t x)) (tick-is e.act tick) ∙ ap (λ (job : Option (List Event)). option_map (λ f. Ticked ∷ f) job) there)
    q.confirmed_after q.record_after named over tracks sets
    (idle-ticks s t x g n waits h (moves s t x g n waits h same named (λ waiting. over (sure-waits sure waits waiting tracks)) course) (next-of s t x h there rests))
    (λ is. tick-quiet e.act tick)
    (λ is. tick-left (message_slot t) (settings s x) waits h left (most is))

-- after an entry beside it
pub silent-stands : (s : Scen) (t : List Entry) (e : Entry) (x : Site) (g : Ground) (n : ℕ) (sure : Bool) (left : ℕ) → Quiet s t e x
    → hist s (e ∷ t) x ≡ hist s t x → (sure ≡ true → writes_message e.act ≡ false) → Stands s t x g n sure left → Stands s (e ∷ t) x g n sure left
silent-stands s t e x g n sure left q still quiet (InRestart is h there alone restart most) =
    restart-stands s t e x g n sure left h (control t) is (still ∙ there) q.record_after alone restart (quiet is) most
silent-stands s t e x g n sure left q still quiet (InSignOn is h there free mine few sign most) =
    sign-stands s t e x g n sure left h is (still ∙ there) q.confirmed_after q.record_after free mine few sign most
silent-stands s t e x g n sure left q still quiet (InCourse waits h there named over tracks sets course most) =
    on-stands s t e x g n sure waits left h (control t) (still ∙ there) q.confirmed_after q.record_after named over tracks sets course quiet most

-- After an act of its own it stands on with less left; or it has restarted; or where it is not sure its taking is written, or
-- the operator is asked.
abbrev pub Stops : Scen → List Entry → Entry → Site → Ground → Type 0
Stops s t e x g = (is_taking_write_of x g.me e ≡ true) ⊎ ((is_asking g.way ≡ true) × (is_asked_at s (e ∷ t) x ≡ true))

-- it stands on, with less left
abbrev Onward : Scen → List Entry → Entry → Site → Ground → (m : ℕ) → (sure : Bool) → (left : ℕ) → Type 0
Onward s t e x g m sure left =
    (after : ℕ) × Stands s (e ∷ t) x g m sure after × (sure ≡ true → AreWhole (settings s x) → after + 1 ≤ left)

-- one of these
abbrev pub Next : Scen → List Entry → Entry → Site → Ground → (m : ℕ) → (sure : Bool) → (left : ℕ) → Type 0
Next s t e x g m sure left =
    ((sure ≡ true) × (is_restart_of x g.me e ≡ true))
    ⊎ (((sure ≡ false) × Stops s t e x g) ⊎ Onward s t e x g m sure left)

-- three tests that are met
three : (a b c : Bool) → a ≡ true → b ≡ true → c ≡ true → (a && b && c) ≡ true
three a b c first second third = grind (arith, common_steps)

-- a number is itself
pub same-number : (m : ℕ) → (m == m) ≡ true
same-number m = grind arith

-- a taking that is written is one of its number
takes-is : (t : List Entry) (e : Entry) (x : Site) (me : ℕ) (why : Cause) → is_of e.who x ≡ true → lands e.land ≡ true → e.act ≡ act.CtlWrite (taken (control t) me why)
    → is_taking_write_of x me e ≡ true
takes-is t e x me why mine lands_it is =
    three (is_of e.who x) (lands e.land) (writes_taking_of e.act me) mine lands_it (ap (λ (a : Act). writes_taking_of a me) is ∙ same-number me)

-- less of what is few is less
less-left : (a b left : ℕ) → a + 1 ≤ b → b ≤ left → a + 1 ≤ left
less-left a b left less few = omega (arith, less, few)

-- a number is as few as itself
few-self : (a : ℕ) → a ≤ a
few-self a = omega arith

-- where an act of its own leads it stands
own-next : (s : Scen) (t : List Entry) (e : Entry) (x : Site) (h : List Event) (g : Ground) (n : ℕ) (sure waits : Bool) (left : ℕ)
    → is_of e.who x ≡ true → lands e.land ≡ true → Own s t e x h → IsNamed g.me waits (control t) → (sure ≡ true → IsOver (confirmed t) (control t))
    → (sure ≡ false → waits ≡ false) → (sure ≡ true → is_asking g.way ≡ false) → (sure ≡ true → alternate_left (message_slot t) (settings s x) waits h ≤ left)
    → Leads s t x g n h waits e.act → Next s t e x g n sure left
own-next s t e x h g n sure waits left mine lands_it o named over tracks sets most (On goes quiet same course less) =
    let after = handed s t x (now t) h e.act ∷ h in
    let rest = alternate_left (message_slot t) (settings s x) waits after in
    inr (inr (
      rest,
      on-stands s t e x g n sure waits rest after (control t) (o.after goes)
          (λ m is. o.confirmed_after m ∙ is) (o.record_after ∙ same) named over tracks sets course (λ is. quiet) (λ is. few-self rest),
      λ is whole. less-left rest (alternate_left (message_slot t) (settings s x) waits h) left (less whole) (most is),
    ))
own-next s t e x h g n false waits left mine lands_it o named over tracks sets most (Asks asking goes asked) =
    inr (inl (refl, inr (asking, ap (λ (job : Option (List Event)). option_map_or (is_asked (settings s x)) job false) (o.after goes) ∙ asked)))
own-next s t e x h g n true waits left mine lands_it o named over tracks sets most (Asks asking goes asked) =
    absurd (not-both (is_asking g.way) asking (sets refl))
own-next s t e x h g n false waits left mine lands_it o named over tracks sets most (Takes tracking why is course less) =
    inr (inl (refl, inl (takes-is t e x g.me why mine lands_it is)))
own-next s t e x h g n true waits left mine lands_it o named over tracks sets most (Takes tracking why is course less) =
    let after = handed s t x (now t) h e.act ∷ h in
    let rest = alternate_left (message_slot t) (settings s x) true after in
    inr (inr (
      rest,
      on-stands s t e x g n true true rest after (taken (control t) g.me why) (o.after (ap is_ended is))
          (λ m is. o.confirmed_after m ∙ is) (o.record_after ∙ ap (λ (a : Act). control_after a land.Full (control t)) is)
          (taken-named g.me (control t) why (subst (λ (b : Bool). IsNamed g.me b (control t)) tracking named)) (λ is. over refl) (λ is. absurd (cc)) sets course
          (λ sure_it. ap writes_message is) (λ sure_it. few-self rest),
      λ sure_it whole. less-left rest (alternate_left (message_slot t) (settings s x) waits h) left (less whole) (most refl),
    ))
own-next s t e x h g n false waits left mine lands_it o named over tracks sets most (Through waiting w is alone restart less) =
    absurd (not-both waits waiting (tracks refl))
own-next s t e x h g n true waits left mine lands_it o named over tracks sets most (Through waiting w is alone restart less) =
    let after = handed s t x (now t) h e.act ∷ h in
    let rest = restart_left (message_slot t) (settings s x) after in
    inr (inr (
      rest,
      restart-stands s t e x g n true rest after w refl (o.after (ap is_ended is)) (o.record_after ∙ ap (λ (a : Act). control_after a land.Full (control t)) is)
          alone restart (ap writes_message is) (few-self rest),
      λ sure_it whole. less-left rest (alternate_left (message_slot t) (settings s x) waits h) left (less whole) (most refl),
    ))

-- what lands in full lands
full-lands : (l : Land) → is_in_full l ≡ true → lands l ≡ true
full-lands land.Full is = refl
full-lands land.Lost is = absurd (cc)
full-lands (land.Stop cut) is = absurd (cc)
full-lands (land.Fail cut) is = absurd (cc)

-- two acts that are one
some-same : (a b : Act) → ◌≡◌ {A = Option Act} (Some a) (Some b) → a ≡ b
some-same a b is = grind (arith, common_steps)

-- the act that is made is the one that comes next
made-leads : (s : Scen) (t : List Entry) (x : Site) (g : Ground) (n : ℕ) (waits : Bool) (h : List Event) (a : Act) → Moves s t x g n waits h
    → act_of s t x h (next (settings s x) h) ≡ Some a → Leads s t x g n h waits a
made-leads s t x g n waits h a (Makes b is leads) made = subst (Leads s t x g n h waits) (some-same b a (sym is ∙ made)) leads
made-leads s t x g n waits h a (StandsStill i none) made = absurd (cc (sym none ∙ made))

-- after an act of its own
pub own-stands : (s : Scen) (t : List Entry) (e : Entry) (x : Site) (g : Ground) (n : ℕ) (sure : Bool) (left : ℕ) → IsRun s (e ∷ t)
    → is_of e.who x ≡ true → is_act e.act ≡ true → is_in_full e.land ≡ true → Same t x g n → Stands s t x g n sure left
    → Next s t e x g n sure left × Keeps t e x × ((m : ℕ) → tick_after e.act m ≡ m)
own-stands s t e x g n sure left is mine acts full same (InCourse waits h there named over tracks sets course most) =
    let o = own s t e x h is mine acts full there in
    let m = moves s t x g n waits h same named (λ waiting. over (sure-waits sure waits waiting tracks)) course in (
      own-next s t e x h g n sure waits left mine (full-lands e.land full) o named over tracks sets most (made-leads s t x g n waits h e.act m o.made),
      o.keeps,
      o.ticks,
    )
own-stands s t e x g n sure left is mine acts full same (InRestart certain h there alone restart most) =
    let r = restores s t x g n h alone restart in (
      restored (subst (Restores s t x g n h) (some-same r.0 e.act (sym r.1 ∙ o.made)) r.2),
      o.keeps,
      o.ticks,
    )
  where
    o : Own s t e x h
    o = own s t e x h is mine acts full there

    restored : Restores s t x g n h e.act → Next s t e x g n sure left
    restored (GoesOn goes quiet unchanged on less) =
        let after = handed s t x (now t) h e.act ∷ h in
        let rest = restart_left (message_slot t) (settings s x) after in
        inr (inr (
          rest,
          restart-stands s t e x g n sure rest after (control t) certain (o.after goes) (o.record_after ∙ unchanged) alone on quiet (few-self rest),
          λ sure_it whole. less-left rest (restart_left (message_slot t) (settings s x) h) left (less whole) most,
        ))
    restored (Done acts_it is_mine) =
        inl (
          certain,
          three (is_of e.who x) (is_restart e.act) (e.inc == g.me) mine (ap is_restart acts_it)
              (ap (λ (i : ℕ). i == g.me) (o.inc ∙ ap (λ (a : Act). inc_of_act a h) acts_it ∙ is_mine) ∙ same-number g.me),
        )
own-stands s t e x g n sure left is mine acts full same (InSignOn certain h there free given few sign most) =
    let r = signs s t x g n h free given few sign in (
      signed (subst (Signs s t x g n h) (some-same r.0 e.act (sym r.1 ∙ o.made)) r.2),
      o.keeps,
      o.ticks,
    )
  where
    o : Own s t e x h
    o = own s t e x h is mine acts full there

    signed : Signs s t x g n h e.act → Next s t e x g n sure left
    signed (OnInIt goes quiet unchanged on less) =
        let after = handed s t x (now t) h e.act ∷ h in
        inr (inr (
          sign_left (settings s x) after,
          sign-stands s t e x g n sure (sign_left (settings s x) after) after certain (o.after goes) (λ m is. o.confirmed_after m ∙ is) (o.record_after ∙ unchanged)
              free given few on (few-self (sign_left (settings s x) after)),
          λ sure_it whole. less-left (sign_left (settings s x) after) (sign_left (settings s x) h) left less most,
        ))
    signed (Granted w acts_it alone restart less) =
        let after = handed s t x (now t) h e.act ∷ h in
        let rest = restart_left (message_slot t) (settings s x) after in
        inr (inr (
          rest,
          restart-stands s t e x g n sure rest after w certain (o.after (ap is_ended acts_it))
              (o.record_after ∙ ap (λ (a : Act). control_after a land.Full (control t)) acts_it) alone restart (ap writes_message acts_it) (few-self rest),
          λ sure_it whole. less-left rest (sign_left (settings s x) h) left (less whole) most,
        ))

-- beside it no message is written
pub beside-quiet : (s : Scen) (t : List Entry) (e : Entry) (x : Site) (g : Ground) (n : ℕ) (left : ℕ) → IsRun s (e ∷ t) → is_of e.who x ≡ false
    → Stands s t x g n true left → writes_message e.act ≡ false
beside-quiet s t e x g n left is away (InCourse waits h there named over tracks sets course most) = over-quiet s t e x is away (over refl)
beside-quiet s t e x g n left is away (InSignOn certain h there free given few sign most) = over-quiet s t e x is away free.over
beside-quiet s t e x g n left is away (InRestart certain h there alone restart most) = owner-quiet s t e x g n h is away there restart
