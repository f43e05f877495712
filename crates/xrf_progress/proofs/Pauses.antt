-- An owner sees a taking in its round; and told to end it signs off.
use Rattle.std.proofs.Common.{◌≡◌, ℕ, ◌+◌, ◌≤◌, not, Bool, true, false, inl, inr, List, ◌∷◌, Option, Some, None, is_some, refl, ap, ◌∙◌, sym, subst, arith}
use Rattle.std.proofs.lemmas.Grind.{common_steps}
use Rattle.xrf_base.specs.declared.site.Site.{Site}
use Rattle.xrf_ctl.specs.declared.parts.OwnerState.{OwnerState}
use Rattle.xrf_ctl.specs.declared.parts.OwnerState.TheVariants.{Running, OffAbend}
use Rattle.xrf_ctl.specs.Control.{ControlRecord}
use Rattle.xrf_ctl.specs.Signal.{SignalRecord}
use Rattle.xrf_cavm.specs.Record.{owner_is}
use Rattle.xrf_cavm.specs.Writes.{sign_off}
use Rattle.xrf_cavm.specs.declared.known.Known.{Known}
use Rattle.xrf_cavm.specs.declared.decisions.Acting.TheVariants as acting
use Rattle.xrf_cavm.specs.declared.decisions.Decided.{Decided}
use Rattle.xrf_cavm.specs.declared.decisions.Decided.TheVariants.{Owner}
use Rattle.xrf_exit.specs.declared.ExitAnswer.TheVariants as exit
use Rattle.xrf_history.specs.declared.settings.Settings.{Settings}
use Rattle.xrf_history.specs.declared.want.Want.{Want}
use Rattle.xrf_history.specs.declared.want.Want.TheVariants as want
use Rattle.xrf_history.specs.Events.{Event, Exited, ControlRead, DecisionMade}
use Rattle.xrf_history.specs.Holding.{number, is_granted, is_owner}
use Rattle.xrf_history.specs.Deciding.{cause}
use Rattle.xrf_history.specs.Looking.{record_seen}
use Rattle.xrf_history.specs.Notices.{notice, epoch_number}
use Rattle.xrf_history.specs.Reserving.{Purpose, SignOff, purpose, purpose_now, sign_off_due, record_by_purpose, or_else}
use Rattle.xrf_history.specs.Rows.{boundary, rounds, signal_of}
use Rattle.xrf_history.specs.Next.{inside, next, write_next}
use Rattle.xrf_history.proofs.Holding.{owner-granted}
use Rattle.xrf_history.proofs.PhaseLaws.{next-inside}
use Rattle.xrf_history.proofs.SigningOff.{IsOffFor, is_off_state, purpose-off}
use Rattle.xrf_trace.specs.declared.entry.Entry.{Entry}
use Rattle.xrf_trace.specs.declared.entry.Act.{Act}
use Rattle.xrf_trace.specs.declared.entry.Act.TheVariants as act
use Rattle.xrf_trace.specs.declared.entry.Land.TheVariants as land
use Rattle.xrf_trace.specs.Scenario.{Scen, settings}
use Rattle.xrf_trace.specs.Words.{now}
use Rattle.xrf_trace.specs.Devices.{control, control_after}
use Rattle.xrf_trace.specs.Jobs.{hist, handed, known_of, after_own, after_other}
use Rattle.xrf_trace.specs.Acts.{act_of, act_by}
use Rattle.xrf_trace.specs.ThroughByProof.{may_run}
use Rattle.xrf_trace.proofs.TraceActs.{tells}
use Rattle.xrf_owner_law.proofs.RuleLaw.{sign-off-gives}
use Rattle.xrf_progress.specs.Pausing.{is_seen, told_to_end, TakeoversAreSeen, SignOffsFollow}
use Rattle.xrf_progress.proofs.Busy.{Leaves, Keeps, comes-to}
use Rattle.xrf_progress.proofs.Entries.{is_ended, Own}
use Rattle.xrf_progress.proofs.Reached.{of-own}
use Rattle.xrf_progress.proofs.Rests.{next-boundary}
use Rattle.xrf_progress.proofs.Resting.{rests-outside}
use Rattle.xrf_progress.proofs.Standing.{next-of}

-- where an owner stands in its round, beside a record with a taking
data Sees (p : Settings) (t : List Entry) (left : ℕ) (h : List Event) : Type 0 where
  ToSignal1 : is_owner h ≡ true → is_some (control t).taking ≡ true → (signal : SignalRecord) → next p h ≡ want.Signal1 signal → 5 ≤ left → Sees p t left h
  ToSignal2 : is_owner h ≡ true → is_some (control t).taking ≡ true → (signal : SignalRecord) → inside p h ≡ Some (want.Signal2 signal) → 4 ≤ left → Sees p t left h
  ToLook1 : is_owner h ≡ true → is_some (control t).taking ≡ true → inside p h ≡ Some want.Look1 → 3 ≤ left → Sees p t left h
  ToLook2 : is_owner h ≡ true → is_some (record_seen h).taking ≡ true → inside p h ≡ Some want.Look2 → 2 ≤ left → Sees p t left h
  ToDecide : is_owner h ≡ true → is_some (record_seen h).taking ≡ true → inside p h ≡ Some want.Decide → 1 ≤ left → Sees p t left h

-- the taking stands while the record does
taking-after : (t : List Entry) (e : Entry) → control (e ∷ t) ≡ control t → is_some (control t).taking ≡ true → is_some (control (e ∷ t)).taking ≡ true
taking-after t e same taking = ap (λ (c : ControlRecord). is_some c.taking) same ∙ taking

-- an act that is no CTLWRITE leaves the record
pub own-record : (s : Scen) (t : List Entry) (e : Entry) (x : Site) (h : List Event) (a : Act) → Own s t e x h → e.act ≡ a → control_after a land.Full (control t) ≡ control t
    → control (e ∷ t) ≡ control t
own-record s t e x h a o same leaves = o.record_after ∙ ap (λ (b : Act). control_after b land.Full (control t)) same ∙ leaves

-- an owner that saw a taking is told so
seen-told : (p : Settings) (h : List Event) (known : Known) (at : ℕ) → is_owner h ≡ true → is_some (record_seen h).taking ≡ true
    → is_seen (notice (DecisionMade known at (cause p h known at) ∷ h)) ≡ true
seen-told p h known at owner taking = by (decides owner taking)
  where
    decides : is_owner h ≡ true → is_some (record_seen h).taking ≡ true → cause p h known at ≡ Owner acting.Seen
    decides owns takes = grind (arith, common_steps)

    by : cause p h known at ≡ Owner acting.Seen → is_seen (notice (DecisionMade known at (cause p h known at) ∷ h)) ≡ true
    by is = ap (λ (d : Decided). is_seen (notice (DecisionMade known at d ∷ h))) is

-- each act of the round leads on, or tells it
sees-leave : (s : Scen) (x : Site) → Leaves s x (Sees (settings s x)) (λ r g. is_seen (notice g))
sees-leave s x t h left is there (ToSignal1 owner taking signal at few) = (
  act.Signal1 signal,
  ap (act_of s t x h) at,
  refl,
  omega (arith, few),
  λ e runs o same.
      inr (
        4,
        ToSignal2 owner (taking-after t e (own-record s t e x h (act.Signal1 signal) o same refl) taking) (signal_of h (rounds h + 1)) refl (omega arith),
        omega (arith, few),
      ),
)
sees-leave s x t h left is there (ToSignal2 owner taking signal at few) = (
  act.Signal2 signal,
  ap (act_of s t x h) (next-inside (settings s x) h (want.Signal2 signal) at),
  refl,
  omega (arith, few),
  λ e runs o same.
      inr (3, ToLook1 owner (taking-after t e (own-record s t e x h (act.Signal2 signal) o same refl) taking) refl (omega arith), omega (arith, few)),
)
sees-leave s x t h left is there (ToLook1 owner taking at few) = (
  act.Look1,
  ap (act_of s t x h) (next-inside (settings s x) h want.Look1 at),
  refl,
  omega (arith, few),
  λ e runs o same. inr (2, ToLook2 owner taking refl (omega arith), omega (arith, few)),
)
sees-leave s x t h left is there (ToLook2 owner taking at few) = (
  act.Look2,
  ap (act_of s t x h) (next-inside (settings s x) h want.Look2 at),
  refl,
  omega (arith, few),
  λ e runs o same. inr (1, ToDecide owner taking refl (omega arith), omega (arith, few)),
)
sees-leave s x t h left is there (ToDecide owner taking at few) =
    let p = settings s x in
    let known = known_of t (record_seen h) in (
      act.Decide (cause p h known (now t)),
      ap (act_of s t x h) (next-inside p h want.Decide at),
      refl,
      few,
      λ e runs o same. inl (seen-told p h known (now t) owner taking),
    )

-- an entry beside it leaves it
sees-keep : (s : Scen) (x : Site) → Keeps s x (Sees (settings s x))
sees-keep s x t e h left away ticks q (ToSignal1 owner taking signal at few) = ToSignal1 owner (taking-after t e q.record_after taking) signal at few
sees-keep s x t e h left away ticks q (ToSignal2 owner taking signal at few) = ToSignal2 owner (taking-after t e q.record_after taking) signal at few
sees-keep s x t e h left away ticks q (ToLook1 owner taking at few) = ToLook1 owner (taking-after t e q.record_after taking) at few
sees-keep s x t e h left away ticks q (ToLook2 owner taking at few) = ToLook2 owner taking at few
sees-keep s x t e h left away ticks q (ToDecide owner taking at few) = ToDecide owner taking at few

-- **a takeover is seen**
pub takeovers-are-seen : TakeoversAreSeen
takeovers-are-seen s t part x h signal is there owner taking next_is served many =
    comes-to s t part x (Sees (settings s x)) (λ r g. is_seen (notice g)) 5 (sees-leave s x) (sees-keep s x) is served h there
    (ToSignal1 owner taking signal (tells s t x h (next (settings s x) h) (act.Signal1 signal) (sym (ap (act_by s t x) there) ∙ next_is)) (omega arith)) many

-- where an owner stands that signs off
data SignsOff (p : Settings) (t : List Entry) (left : ℕ) (h : List Event) : Type 0 where
  ToReserve : is_owner h ≡ true → inside p h ≡ None → is_some (sign_off_due h) ≡ true → 3 ≤ left → SignsOff p t left h
  ToRead : (state : OwnerState) → inside p h ≡ Some want.CtlRead → purpose h ≡ SignOff state → 2 ≤ left → SignsOff p t left h
  ToWrite : (w : ControlRecord) → inside p h ≡ Some (want.CtlWrite w) → owner_is w Running ≡ false → 1 ≤ left → SignsOff p t left h

-- a sign-off that is due comes next
off-boundary : (p : Settings) (h : List Event) → is_owner h ≡ true → is_some (sign_off_due h) ≡ true → boundary p h ≡ want.Reserve
off-boundary p h owner due = grind (arith, common_steps)

-- the RESERVE is for it
off-purpose : (h : List Event) → is_granted h ≡ true → is_owner h ≡ true → (o : Option OwnerState) → sign_off_due h ≡ o → is_some o ≡ true
    → (state : OwnerState) × (purpose_now h ≡ SignOff state)
off-purpose h granted owner None due some = absurd (cc)
off-purpose h granted owner (Some state) due some = (state, is granted owner due)
  where
    is : is_granted h ≡ true → is_owner h ≡ true → sign_off_due h ≡ Some state → purpose_now h ≡ SignOff state
    is g o d = grind (arith, common_steps)

-- what it writes has an owner that is not Running
off-written : (c w : ControlRecord) (n : ℕ) (state : OwnerState) → is_off_state state ≡ true → sign_off c n state ≡ Some w → owner_is w Running ≡ false
off-written c w n state off is = grind (arith, common_steps)

-- a record that is there is written
off-writes : (p : Settings) (q : Purpose) (me epoch : ℕ) (c : ControlRecord) (known : Known) (state : OwnerState) → q ≡ SignOff state → is_off_state state ≡ true
    → is_some (sign_off c me state) ≡ true
    → (w : ControlRecord) × (write_next (record_by_purpose p q me epoch c known) ≡ want.CtlWrite w) × (owner_is w Running ≡ false)
off-writes p q me epoch c known state is off some = by (sign_off c me state) refl some
  where
    by : (o : Option ControlRecord) → sign_off c me state ≡ o → is_some o ≡ true
        → (w : ControlRecord) × (write_next (record_by_purpose p q me epoch c known) ≡ want.CtlWrite w) × (owner_is w Running ≡ false)
    by None same there = absurd (cc)
    by (Some w) same there = (
      w,
      ap (λ (r : Purpose). write_next (record_by_purpose p r me epoch c known)) is ∙ ap write_next same,
      off-written c w me state off same,
    )

-- a record whose owner is not Running has none that may run
off-over : (t : List Entry) (w : ControlRecord) → owner_is w Running ≡ false → not (may_run t w) ≡ true
off-over t w off = grind (arith, common_steps)

-- each act of the sign-off leads on, or ends it
offs-leave : (s : Scen) (x : Site) → Leaves s x (SignsOff (settings s x)) (λ r g. not (may_run r (control r)))
offs-leave s x t h left is there (ToReserve owner at due few) =
    let p = settings s x in
    let purposed = off-purpose h (owner-granted h owner) owner (sign_off_due h) refl due in (
      act.Reserve,
      ap (act_of s t x h) (next-boundary p h want.Reserve at (off-boundary p h owner due)),
      refl,
      omega (arith, few),
      λ e runs o same. inr (2, ToRead purposed.0 refl purposed.1 (omega arith), omega (arith, few)),
    )
offs-leave s x t h left is there (ToRead state at purposed few) =
    let p = settings s x in
    let known = known_of t (control t) in (
      act.CtlRead,
      ap (act_of s t x h) (next-inside p h want.CtlRead at),
      refl,
      omega (arith, few),
      λ e runs o same.
          let after = ControlRead (control t) known ∷ h in
          let stands = o.after (ap is_ended same) ∙ ap (λ (b : Act). Some (handed s t x (now t) h b ∷ h)) same in
          let some = sign-off-gives s (e ∷ t) x after state runs stands refl purposed in
          let off = subst (λ (q : Purpose). IsOffFor q) purposed (purpose-off h) in
          let writes = off-writes p (purpose h) (number h) (epoch_number h) (control t) known state purposed off some in
          inr (1, ToWrite writes.0 (ap (λ (v : Want). Some v) writes.1) writes.2 (omega arith), omega (arith, few)),
    )
offs-leave s x t h left is there (ToWrite w at off few) = (
  act.CtlWrite w,
  ap (act_of s t x h) (next-inside (settings s x) h (want.CtlWrite w) at),
  refl,
  few,
  λ e runs o same.
      inl (ap (λ (c : ControlRecord). not (may_run (e ∷ t) c)) (o.record_after ∙ ap (λ (b : Act). control_after b land.Full (control t)) same) ∙ off-over (e ∷ t) w off),
)

-- an entry beside it leaves it
offs-keep : (s : Scen) (x : Site) → Keeps s x (SignsOff (settings s x))
offs-keep s x t e h left away ticks q (ToReserve owner at due few) = ToReserve owner at due few
offs-keep s x t e h left away ticks q (ToRead state at purposed few) = ToRead state at purposed few
offs-keep s x t e h left away ticks q (ToWrite w at off few) = ToWrite w at off few

-- the job that is told to end
told-job : (s : Scen) (t : List Entry) (x : Site) (h : List Event) → hist s t x ≡ Some h → hist s (told_to_end s t x ∷ t) x ≡ Some (Exited exit.Abend (now t) ∷ h)
told-job s t x h there =
    ap (λ (b : Bool). elim b [ true ↦ after_own s t x (now t) (act.Exit exit.Abend) land.Full (hist s t x) | false ↦ after_other (act.Exit exit.Abend) (hist s t x) ]) (of-own x)
    ∙ ap (λ (job : Option (List Event)). after_own s t x (now t) (act.Exit exit.Abend) land.Full job) there

-- its sign-off is due
told-due : (o : Option OwnerState) → is_some (or_else o (Some OffAbend)) ≡ true
told-due None = refl
told-due (Some state) = refl

-- **told to end an owner signs off**
pub sign-offs-follow : SignOffsFollow
sign-offs-follow s t part x h is there owner seen rests served many =
    let outside = rests-outside s t x h (next-of s t x h there rests) in
    comes-to s (told_to_end s t x ∷ t) part x (SignsOff (settings s x)) (λ r g. not (may_run r (control r))) 3 (offs-leave s x) (offs-keep s x) is served
    (Exited exit.Abend (now t) ∷ h) (told-job s t x h there) (ToReserve owner outside.0 (told-due (sign_off_due h)) (omega arith)) many
