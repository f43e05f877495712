-- Each act of a served alternate leaves less.
use Rattle.std.proofs.Common.{◌≡◌, ℕ, ◌+◌, ◌-◌, ◌%◌, ◌≤◌, ◌||◌, nat_lt, Bool, true, false, List, ◌∷◌, Option, Some, None, is_some, ap, ◌∙◌, sym, subst, arith, if◌then◌else◌, ◌&&◌, not}
use Rattle.std.proofs.lemmas.Grind.{common_steps}
use Rattle.xrf_ctl.specs.declared.parts.Cause.{Cause}
use Rattle.xrf_ctl.specs.Control.{ControlRecord}
use Rattle.xrf_cavm.specs.declared.known.Known.{Known}
use Rattle.xrf_cavm.specs.declared.decisions.Decided.{Decided}
use Rattle.xrf_gated.specs.declared.gated.Slot.{Slot}
use Rattle.xrf_gated.specs.Slots.{bytes_of}
use Rattle.xrf_history.specs.declared.settings.Settings.{Settings}
use Rattle.xrf_history.specs.declared.want.Want.{Want}
use Rattle.xrf_history.specs.declared.want.Want.TheVariants as want
use Rattle.xrf_history.specs.Events.{Event, ControlWritten, Released, DecisionMade, MessageRead, LineIssued}
use Rattle.xrf_history.specs.Holding.{number, is_granted, is_owner, starts_active, is_restarted}
use Rattle.xrf_history.specs.Taking.{is_drained}
use Rattle.xrf_history.specs.Taking.{expected}
use Rattle.xrf_history.specs.Reserving.{open_decision, start_in, is_through_decision}
use Rattle.xrf_history.specs.Rows.{has_signalled, lines_left, lines_issued, reading_due, reading_place}
use Rattle.xrf_history.specs.Next.{inside}
use Rattle.xrf_progress.proofs.Course.{Place, Outer, AtClose, AtBody, AtOpen}
use Rattle.xrf_progress.proofs.Scanning.{scan_left, left-few}
use Rattle.xrf_progress.proofs.Potential.{unread, undrained, ready, one_if, is_due, round_left, own_round, reads_left, stage, ahead, most_of_restart, alternate_left, owner_left, written_left, left_by, restart_left, inner_done, decided_left}
use Rattle.xrf_progress.proofs.Reading.{reads-less}
use Rattle.xrf_progress.proofs.Rounds.{read-inside}

-- the stage of a history
abbrev pub stage_of : Settings → List Event → ℕ
stage_of p h = stage (inside p h) (has_signalled h) (is_due (open_decision h))

-- one inside a sequence
pub stage-inside : (p : Settings) (h : List Event) (w : Want) → inside p h ≡ Some w → stage_of p h ≡ stage (Some w) (has_signalled h) (is_due (open_decision h))
stage-inside p h w is = ap (λ (o : Option Want). stage o (has_signalled h) (is_due (open_decision h))) is

-- and at a boundary
pub stage-outer : (p : Settings) (h : List Event) (signalled due : Bool) → inside p h ≡ None → has_signalled h ≡ signalled → is_due (open_decision h) ≡ due
    → stage_of p h ≡ (if due then 5 else 3) + round_left signalled
stage-outer p h signalled due is made open_it =
    ap (λ (o : Option Want). stage o (has_signalled h) (is_due (open_decision h))) is
    ∙ ap (λ (b : Bool). (if is_due (open_decision h) then 5 else 3) + round_left b) made
    ∙ ap (λ (b : Bool). (if b then 5 else 3) + round_left signalled) open_it

-- no start and no through is due
pub not-due : (o : Option Decided) → start_in o ≡ None → is_through_decision o ≡ false → is_due o ≡ false
not-due o no_start no_through = ap (λ (q : Option Cause). is_some q || is_through_decision o) no_start ∙ no_through

-- what is left by an act that takes nothing but its stage
pub stage-counts : (u l r a m s t : ℕ) → t + 1 ≤ s → u + l + r + t + a + m + 1 ≤ u + l + r + s + a + m
stage-counts u l r a m s t less = omega (arith, less)

-- the same, of the same history otherwise
abbrev pub Stages : (ℕ → Slot) → Settings → Bool → List Event → (after : ℕ) → Type 0
Stages slot p waits h after =
    unread slot p h + (p.clt_lines - lines_issued h) + one_if (reading_due h) + after + ahead waits + most_of_restart p + 1 ≤ alternate_left slot p waits h

-- so an act that leads to a lower stage leaves less
pub stages : (slot : ℕ → Slot) (p : Settings) (waits : Bool) (h : List Event) (s t : ℕ) → stage_of p h ≡ s → t + 1 ≤ s → Stages slot p waits h t
stages slot p waits h s t is less =
    stage-counts (unread slot p h) (p.clt_lines - lines_issued h) (one_if (reading_due h)) (ahead waits) (most_of_restart p) (stage_of p h) t
    (omega (arith, is, less))

-- a line of the command list
line-counts : (u c i r s a m t : ℕ) → nat_lt i c ≡ true → t ≡ s → u + (c - (i + 1)) + r + t + a + m + 1 ≤ u + (c - i) + r + s + a + m
line-counts u c i r s a m t less same = let some = below i c less in omega (arith, some, same)
  where
    below : (i c : ℕ) → nat_lt i c ≡ true → i + 1 ≤ c
    below i c less = grind (arith, less)

-- lines are left to one that has issued fewer
line-some : (p : Settings) (h : List Event) → lines_left p h ≡ true → nat_lt (lines_issued h) p.clt_lines ≡ true
line-some p h left = grind (arith, common_steps)

-- it leaves less
pub line-less : (slot : ℕ → Slot) (p : Settings) (waits : Bool) (h : List Event) (k : ℕ) → inside p h ≡ None → lines_left p h ≡ true
    → alternate_left slot p waits (LineIssued k ∷ h) + 1 ≤ alternate_left slot p waits h
line-less slot p waits h k at left =
    line-counts (unread slot p h) p.clt_lines (lines_issued h) (one_if (reading_due h)) (stage_of p h) (ahead waits) (most_of_restart p)
    (stage_of p (LineIssued k ∷ h)) (line-some p h left)
    (sym (ap (λ (o : Option Want). stage o (has_signalled h) (is_due (open_decision h))) at))

-- a read of a message
read-counts : (u r v q l s a m t : ℕ) → v + q + 1 ≤ u + r → t ≡ s → v + l + q + t + a + m + 1 ≤ u + l + r + s + a + m
read-counts u r v q l s a m t less same = omega (arith, less, same)

-- it leaves less
pub read-less : (slot : ℕ → Slot) (p : Settings) (waits : Bool) (h : List Event) → 1 ≤ p.limits.ring → inside p h ≡ None → is_restarted h ≡ false
    → reading_due h ≡ true
    → alternate_left slot p waits (MessageRead (reading_place p h) (bytes_of (slot (reading_place p h))) ∷ h) + 1 ≤ alternate_left slot p waits h
read-less slot p waits h some at fresh due =
    let k = reading_place p h in
    let bytes = bytes_of (slot k) in
    read-counts (unread slot p h) (one_if (reading_due h)) (unread slot p (MessageRead k bytes ∷ h)) (one_if (reading_due (MessageRead k bytes ∷ h)))
    (p.clt_lines - lines_issued h) (stage_of p h) (ahead waits) (most_of_restart p) (stage_of p (MessageRead k bytes ∷ h)) (reads-less slot p h some fresh due)
    (ap (λ (o : Option Want). stage o (has_signalled h) (is_due (open_decision h))) (read-inside p h k bytes fresh)
    ∙ sym (ap (λ (o : Option Want). stage o (has_signalled h) (is_due (open_decision h))) at))

-- a decision
decide-counts : (u l r a m s q t : ℕ) → q + t + 1 ≤ s → u + l + q + t + a + m + 1 ≤ u + l + r + s + a + m
decide-counts u l r a m s q t less = omega (arith, less)

-- it leaves less
pub decide-less : (slot : ℕ → Slot) (p : Settings) (waits : Bool) (h : List Event) (known : Known) (at : ℕ) (d : Decided) → inside p h ≡ Some want.Decide
    → decided_left p (DecisionMade known at d ∷ h) ≤ 5 + round_left (has_signalled h)
    → alternate_left slot p waits (DecisionMade known at d ∷ h) + 1 ≤ alternate_left slot p waits h
decide-less slot p waits h known at d is few =
    let before = stage-inside p h want.Decide is in
    decide-counts (unread slot p h) (p.clt_lines - lines_issued h) (one_if (reading_due h)) (ahead waits) (most_of_restart p) (stage_of p h)
    (one_if (reading_due (DecisionMade known at d ∷ h))) (stage_of p (DecisionMade known at d ∷ h)) (omega (arith, before, few))

-- a CTLWRITE of one that holds a number leaves the number
written-number : (h : List Event) (w : ControlRecord) → is_granted h ≡ true → number (ControlWritten w ∷ h) ≡ number h
written-number h w granted = grind (arith, common_steps)

-- so what is unread is as before
written-unread : (slot : ℕ → Slot) (p : Settings) (h : List Event) (w : ControlRecord) → is_granted h ≡ true
    → unread slot p (ControlWritten w ∷ h) ≡ unread slot p h
written-unread slot p h w granted = ap (λ (n : ℕ). ready slot p.limits.ring n p.limits.ring (expected h)) (written-number h w granted)

-- the CTLWRITE of the taking
taking-counts : (u v l r m s t : ℕ) → v ≡ u → t + 1 ≤ s + 2 → v + l + r + t + 0 + m + 1 ≤ u + l + r + s + 2 + m
taking-counts u v l r m s t same less = omega (arith, same, less)

-- it leaves less
pub taking-less : (slot : ℕ → Slot) (p : Settings) (h : List Event) (w : ControlRecord) → is_granted h ≡ true → inside p h ≡ Some (want.CtlWrite w)
    → alternate_left slot p true (ControlWritten w ∷ h) + 1 ≤ alternate_left slot p false h
taking-less slot p h w granted is =
    let before = stage-inside p h (want.CtlWrite w) is in
    taking-counts (unread slot p h) (unread slot p (ControlWritten w ∷ h)) (p.clt_lines - lines_issued h) (one_if (reading_due h)) (most_of_restart p)
    (stage_of p h) (4 + round_left (has_signalled h)) (written-unread slot p h w granted) (omega (arith, before))

-- the reads that are left to one that goes through are what is unread, and the read that gives none
reads-few : (slot : ℕ → Slot) (p : Settings) (h : List Event) → reads_left slot p h ≤ unread slot p h + 1
reads-few slot p h = by (starts_active h)
  where
    by : (b : Bool) → (if b then 0 else unread slot p h + 1) ≤ unread slot p h + 1
    by true = omega arith
    by false = omega arith

-- its round is no more than one of an alternate
own-few : (b : Bool) → own_round b ≤ round_left b
own-few true = omega arith
own-few false = omega arith

-- the CTLWRITE of the through
through-counts : (u v l r m s e o d : ℕ) → v ≡ u → d ≤ v + 1 → o ≤ e → s ≡ 3 + e → d + m + 1 + o + 1 ≤ u + l + r + s + 0 + m
through-counts u v l r m s e o d same reads few is = omega (arith, same, reads, few, is)

-- it leaves less
pub through-less : (slot : ℕ → Slot) (p : Settings) (h : List Event) (w : ControlRecord) → is_granted h ≡ true → inside p h ≡ Some (want.CtlWrite w)
    → restart_left slot p (ControlWritten w ∷ h) + 1 ≤ alternate_left slot p true h
through-less slot p h w granted is =
    let before = stage-inside p h (want.CtlWrite w) is in
    through-counts (unread slot p h) (unread slot p (ControlWritten w ∷ h)) (p.clt_lines - lines_issued h) (one_if (reading_due h)) (most_of_restart p) (stage_of p h)
    (round_left (has_signalled h)) (own_round (has_signalled h)) (reads_left slot p (ControlWritten w ∷ h)) (written-unread slot p h w granted)
    (reads-few slot p (ControlWritten w ∷ h)) (own-few (has_signalled h)) before

-- what is left to drain is no more than the reads that are left
undrained-few : (slot : ℕ → Slot) (p : Settings) (h : List Event) → undrained slot p h ≤ reads_left slot p h
undrained-few slot p h = by (is_owner h) (starts_active h) (is_drained h)
  where
    by : (o b d : Bool) → (if (o && not b) && not d then unread slot p h + 1 else 0) ≤ (if b then 0 else unread slot p h + 1)
    by true true d = omega arith
    by true false true = omega arith
    by true false false = omega arith
    by false true d = omega arith
    by false false d = omega arith

-- a RELEASE after which nothing is inside leaves less, of a restart
pub release-less : (slot : ℕ → Slot) (p : Settings) (h : List Event) → p.limits.log % 64 ≡ 0 → inside p h ≡ Some want.Release → inside p (Released ∷ h) ≡ None
    → restart_left slot p (Released ∷ h) + 1 ≤ restart_left slot p h
release-less slot p h whole before after =
    subst (λ (o : Option Want). left_by o (has_signalled h) (written_left slot p (Released ∷ h)) (undrained slot p h + (scan_left p h - inner_done o)) + 1 ≤ restart_left slot p h) (sym after)
    (subst (λ (o : Option Want). left_by None (has_signalled h) (written_left slot p (Released ∷ h)) (undrained slot p h + (scan_left p h - 0)) + 1 ≤ left_by o (has_signalled h) (written_left slot p h) (owner_left slot p h)) (sym before)
    (by (has_signalled h)))
  where
    by : (b : Bool)
        → left_by None b (written_left slot p (Released ∷ h)) (undrained slot p h + (scan_left p h - 0)) + 1 ≤ reads_left slot p h + most_of_restart p + 1 + own_round b
    by true = let drains = undrained-few slot p h in let few = left-few p h whole in counts (undrained slot p h) (reads_left slot p h) (scan_left p h) (most_of_restart p) drains few
      where
        counts : (d u s m : ℕ) → d ≤ u → s ≤ m → d + (s - 0) + 1 ≤ u + m + 1 + 0
        counts d u s m drains few = omega (arith, drains, few)
    by false = let drains = undrained-few slot p h in let few = left-few p h whole in counts (undrained slot p h) (reads_left slot p h) (scan_left p h) (most_of_restart p) drains few
      where
        counts : (d u s m : ℕ) → d ≤ u → s ≤ m → d + (s - 0) + 5 + 1 ≤ u + m + 1 + 5
        counts d u s m drains few = omega (arith, drains, few)

-- at the places of a restart what is left is that of the restart
pub place-left : (slot : ℕ → Slot) (p : Settings) (h : List Event) → has_signalled h ≡ true → Place p h → restart_left slot p h ≡ owner_left slot p h
place-left slot p h signalled (Outer is) =
    ap (λ (o : Option Want). left_by o (has_signalled h) (written_left slot p h) (owner_left slot p h)) is
    ∙ ap (λ (b : Bool). left_by None b (written_left slot p h) (owner_left slot p h)) signalled
place-left slot p h signalled (AtClose k unit units is ended left) = ap (λ (o : Option Want). left_by o (has_signalled h) (written_left slot p h) (owner_left slot p h)) is
place-left slot p h signalled (AtBody k unit units is ended left) = ap (λ (o : Option Want). left_by o (has_signalled h) (written_left slot p h) (owner_left slot p h)) is
place-left slot p h signalled (AtOpen k unit units is ended left) = ap (λ (o : Option Want). left_by o (has_signalled h) (written_left slot p h) (owner_left slot p h)) is

-- inside a sequence what is left is by the want there
pub inner-left : (slot : ℕ → Slot) (p : Settings) (h : List Event) (w : Want) → inside p h ≡ Some w
    → restart_left slot p h ≡ left_by (Some w) (has_signalled h) (written_left slot p h) (undrained slot p h + (scan_left p h - inner_done (Some w)))
inner-left slot p h w is =
    ap (λ (o : Option Want). left_by o (has_signalled h) (written_left slot p h) (undrained slot p h + (scan_left p h - inner_done o))) is

-- and where a round is due it is the round and the restart
pub round-left : (slot : ℕ → Slot) (p : Settings) (h : List Event) → inside p h ≡ None → has_signalled h ≡ false
    → restart_left slot p h ≡ undrained slot p h + (scan_left p h - 0) + 5
round-left slot p h is signalled =
    ap (λ (o : Option Want). left_by o (has_signalled h) (written_left slot p h) (undrained slot p h + (scan_left p h - inner_done o))) is
    ∙ ap (λ (b : Bool). left_by None b (written_left slot p h) (undrained slot p h + (scan_left p h - 0))) signalled
