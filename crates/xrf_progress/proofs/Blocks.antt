-- Steps never block, and where a job rests.
use Rattle.std.proofs.Common.{◌≡◌, ◌+◌, ◌≤◌, ◌%◌, ◌&&◌, not, nat_lt, Bool, true, false, ◌⊎◌, inl, inr, List, length, Option, Some, None, refl, ap, ◌∙◌, sym, subst, arith, if◌then◌else◌}
use Rattle.std.proofs.lemmas.Grind.{common_steps}
use Rattle.xrf_base.specs.declared.site.Site.{Site}
use Rattle.xrf_base.specs.declared.site.Site.TheVariants as site
use Rattle.xrf_ctl.specs.declared.parts.OwnerState.{OwnerState}
use Rattle.xrf_ctl.specs.Control.{ControlRecord}
use Rattle.xrf_exit.specs.declared.Notice.{Notice}
use Rattle.xrf_msg.specs.declared.messages.Message.{Message}
use Rattle.xrf_msg.specs.Messages.{number_of}
use Rattle.std.specs.Option.{option_map}
use Rattle.xrf_setup.specs.declared.choice.Choice.TheVariants as choice
use Rattle.xrf_history.specs.declared.settings.Settings.{Settings}
use Rattle.xrf_history.specs.declared.want.Want.{Want}
use Rattle.xrf_history.specs.declared.want.Want.TheVariants as want
use Rattle.xrf_history.specs.Events.{Event}
use Rattle.xrf_history.specs.Holding.{is_owner, is_granted, is_restarted}
use Rattle.xrf_history.specs.Notices.{notice}
use Rattle.xrf_history.specs.Reserving.{sign_off_due, drop_due}
use Rattle.xrf_history.specs.Sending.{message_due, may_write}
use Rattle.xrf_history.specs.Taking.{is_draining}
use Rattle.xrf_history.specs.Working.{keypoint_due, next_keypoint}
use Rattle.xrf_history.specs.Rows.{has_signalled, boundary, owner_works, restart_next, active_next, round_due, rounds, signal_of, reading_place}
use Rattle.xrf_history.specs.Next.{inside, next, or_boundary, record_for, write_next, after_control_read}
use Rattle.xrf_history.proofs.Histories.{IsHistory}
use Rattle.xrf_history.proofs.Holding.{owner-granted}
use Rattle.xrf_history.proofs.Phases.{Phase, phase, NextIn, Held, HasRead, HasWritten, Fresh, Outside, has_reserve, may_reserve}
use Rattle.xrf_history.proofs.PhaseLaws.{next-inside, phase-next, reserve-phase}
use Rattle.xrf_trace.specs.declared.entry.Entry.{Entry}
use Rattle.xrf_trace.specs.declared.entry.Act.{Act}
use Rattle.xrf_trace.specs.declared.entry.Act.TheVariants as act
use Rattle.xrf_trace.specs.Scenario.{Scen, settings, other, work}
use Rattle.xrf_trace.specs.Words.{holds_reserve, items_taken, reserve_is_free}
use Rattle.xrf_trace.specs.Jobs.{hist}
use Rattle.xrf_trace.specs.Acts.{next_act, act_by, act_of, next_item}
use Rattle.xrf_trace.specs.Refusals.{refusal, may_step, is_next, unless}
use Rattle.xrf_trace.specs.declared.entry.Refused.TheVariants.{NotEnabled}
use Rattle.xrf_trace.specs.Runs.{IsRun}
use Rattle.xrf_trace.proofs.Paths.{history-at}
use Rattle.xrf_trace.proofs.TraceActs.{tells}
use Rattle.xrf_owner_law.proofs.Invariant.{reserve-at, holds-at}
use Rattle.xrf_owner_law.specs.Owner.{reserves_of}
use Rattle.xrf_owner_law.specs.Views.{view}
use Rattle.xrf_progress.specs.Blocking.{StepsNeverBlock, WaitsForReserve, RestsWhere, WaitsFor, OwnerWaits}
use Rattle.xrf_history.proofs.Tests.{not-both}
use Rattle.xrf_progress.proofs.Resting.{rests-outside, is_still, still-of, still-signalled}
use Rattle.xrf_progress.proofs.Fresh.{control-next, control-still, fresh-inside}

-- the job that is there
abbrev pub HasJob : Scen → List Entry → Site → Act → Type 0
HasJob s t x a = (h : List Event) × (hist s t x ≡ Some h) × (act_of s t x h (next (settings s x) h) ≡ Some a)

-- a next act is that of a job
pub job-of : (s : Scen) (t : List Entry) (x : Site) (a : Act) → next_act s t x ≡ Some a → HasJob s t x a
job-of s t x a is = by (hist s t x) refl is
  where
    by : (job : Option (List Event)) → hist s t x ≡ job → act_by s t x job ≡ Some a → HasJob s t x a
    by None there of = absurd (cc)
    by (Some h) there of = (h, there, of)

-- a STEP is accepted where the act may be made
step-accepted : (s : Scen) (t : List Entry) (x : Site) (a : Act) → next_act s t x ≡ Some a → may_step t a ≡ true → refusal s t (choice.Step x) ≡ None
step-accepted s t x a is may = ap (λ (o : Option Act). unless (is_next (may_step t) o) NotEnabled) is ∙ ap (λ (b : Bool). unless b NotEnabled) may

-- who holds the reserve has a next act, which is no RESERVE
abbrev is_reserve : Act → Bool
is_reserve act.Reserve = true
is_reserve _ = false

-- an act that is no RESERVE may be made
no-reserve : (t : List Entry) (a : Act) → is_reserve a ≡ false → may_step t a ≡ true
no-reserve t act.Reserve is = absurd (cc)
no-reserve t _ is = refl

-- a want that is an act, and no RESERVE
abbrev HasAct : Scen → List Entry → Site → List Event → Want → Type 0
HasAct s t x h w = (b : Act) × (act_of s t x h w ≡ Some b) × (is_reserve b ≡ false)

-- what is written under the reserve is one
write-acts : (s : Scen) (t : List Entry) (x : Site) (h : List Event) (o : Option ControlRecord) → HasAct s t x h (write_next o)
write-acts s t x h None = (act.Release, refl, refl)
write-acts s t x h (Some w) = (act.CtlWrite w, refl, refl)

-- so is what comes next there
holder-acts : (s : Scen) (t : List Entry) (x : Site) (h : List Event) (f : Phase) → NextIn (settings s x) h f → has_reserve f ≡ true
    → HasAct s t x h (next (settings s x) h)
holder-acts s t x h Held at holds =
    subst (HasAct s t x h) (sym (next-inside (settings s x) h want.CtlRead at)) (act.CtlRead, refl, refl)
holder-acts s t x h HasRead at holds =
    let p = settings s x in
    subst (HasAct s t x h) (sym (next-inside p h (after_control_read p h) at)) (write-acts s t x h (record_for p h))
holder-acts s t x h HasWritten at holds =
    subst (HasAct s t x h) (sym (next-inside (settings s x) h want.Release at)) (act.Release, refl, refl)
holder-acts s t x h _ at holds = absurd (cc)

-- the job that holds the reserve
pub holder-of : (s : Scen) (t : List Entry) (x : Site) → IsRun s t → holds_reserve t x ≡ true → (h : List Event) × (hist s t x ≡ Some h)
holder-of s t x is holds = by (hist s t x) refl (sym (holds-at s t x is).reserve ∙ holds)
  where
    by : (job : Option (List Event)) → hist s t x ≡ job → reserves_of (option_map (view (settings s x)) job) ≡ true → (h : List Event) × (hist s t x ≡ Some h)
    by None there has = absurd (cc)
    by (Some h) there has = (h, there)

-- so a step of the holder is accepted
holder-steps : (s : Scen) (t : List Entry) (x : Site) → IsRun s t → holds_reserve t x ≡ true → refusal s t (choice.Step x) ≡ None
holder-steps s t x is holds =
    let job = holder-of s t x is holds in
    let h = job.0 in
    let p = settings s x in
    let acts = holder-acts s t x h (phase p h) (phase-next p h (history-at s t x h is job.1)) (sym (reserve-at s t x h is job.1) ∙ holds) in
    step-accepted s t x acts.0 (ap (act_by s t x) job.1 ∙ acts.1) (no-reserve t acts.0 acts.2)

-- who reserves does not hold the reserve
reserver-not : (f : Phase) → may_reserve f ≡ true → has_reserve f ≡ false
reserver-not Fresh may = refl
reserver-not Outside may = refl
reserver-not _ may = absurd (cc)

-- the reserve is free where neither site holds it
free-of : (t : List Entry) (x : Site) → holds_reserve t x ≡ false → holds_reserve t (other x) ≡ false → reserve_is_free t ≡ true
free-of t site.A own beside = grind (arith, common_steps)
free-of t site.B own beside = grind (arith, common_steps)

-- **steps never block**
pub steps-never-block : StepsNeverBlock
steps-never-block s t x a is of = by (is_reserve a) refl
  where
    reserving : a ≡ act.Reserve → (b : Bool) → holds_reserve t (other x) ≡ b → (refusal s t (choice.Step x) ≡ None) ⊎ WaitsForReserve s t x a
    reserving same true holds = inr (same, holds, holder-steps s t (other x) is holds)
    reserving same false free =
        let job = job-of s t x a of in
        let h = job.0 in
        let p = settings s x in
        let wants = tells s t x h (next p h) act.Reserve (job.2 ∙ ap (λ (b : Act). Some b) same) in
        let own = reserve-at s t x h is job.1 ∙ reserver-not (phase p h) (reserve-phase p h (history-at s t x h is job.1) wants) in
        inl (step-accepted s t x a of (ap (may_step t) same ∙ free-of t x own free))

    by : (b : Bool) → is_reserve a ≡ b → (refusal s t (choice.Step x) ≡ None) ⊎ WaitsForReserve s t x a
    by false other_act = inl (step-accepted s t x a of (no-reserve t a other_act))
    by true same = reserving (reserve-is a same) (holds_reserve t (other x)) refl
      where
        reserve-is : (b : Act) → is_reserve b ≡ true → b ≡ act.Reserve
        reserve-is act.Reserve is = refl
        reserve-is _ is = absurd (cc)

-- where a job rests
item-none : (s : Scen) (t : List Entry) (x : Site) → next_item s t x ≡ None → length (work s x) ≤ items_taken t x
item-none s t x none = by (nat_lt (items_taken t x) (length (work s x))) refl
  where
    by : (b : Bool) → nat_lt (items_taken t x) (length (work s x)) ≡ b → length (work s x) ≤ items_taken t x
    by true more = absurd (some-none (act.Item (items_taken t x + 1)) (sym (ap (λ (c : Bool). if c then Some (act.Item (items_taken t x + 1)) else None) more) ∙ none))
      where
        some-none : (a : Act) → ◌≡◌ {A = Option Act} (Some a) None → ⊥
        some-none a is = absurd (cc)
    by false used = grind (arith, used)

-- an owner without a next act
restart-acts : (p : Settings) (h : List Event) → is_still (restart_next p h) ≡ false
restart-acts p h = grind (arith, common_steps)

-- its message waits for room, or an item is next
abbrev Works : Settings → List Event → Type 0
Works p h = ((message : Message) × (message_due p h ≡ Some message) × (may_write p h ≡ false)) ⊎ (active_next p h (message_due p h) ≡ want.Item)

-- where no act is next its message waits, or an item is next
active-still : (p : Settings) (h : List Event) → is_still (active_next p h (message_due p h)) ≡ true → Works p h
active-still p h still = by (message_due p h) refl still
  where
    sends : (m : Message) → message_due p h ≡ Some m → (b : Bool) → may_write p h ≡ b
        → is_still (elim b [ true ↦ want.MsgRead (number_of m % p.limits.ring) | false ↦ want.Nothing ]) ≡ true → Works p h
    sends m due true may is = absurd (cc)
    sends m due false may is = inl (m, due, may)

    working : (b : Bool) → keypoint_due p h ≡ b → is_still (elim b [ true ↦ want.KpRead ((next_keypoint p h).number % 2) | false ↦ want.Item ]) ≡ true
        → message_due p h ≡ None → Works p h
    working true due is none = absurd (cc)
    working false due is none = inr (ap (active_next p h) none ∙ ap (λ (b : Bool). elim b [ true ↦ want.KpRead ((next_keypoint p h).number % 2) | false ↦ want.Item ]) due)

    by : (o : Option Message) → message_due p h ≡ o → is_still (active_next p h o) ≡ true → Works p h
    by (Some m) due is = sends m due (may_write p h) refl is
    by None due is = working (keypoint_due p h) refl is due

-- so it is of an owner
record Stills (p : Settings) (h : List Event) : Type 0 where
  pub round : round_due h ≡ false
  pub works : Works p h
  pub same : owner_works p h ≡ active_next p h (message_due p h)

-- of one that works and has no next act
works-still : (p : Settings) (h : List Event) → is_still (owner_works p h) ≡ true → Stills p h
works-still p h still = by (drop_due h) (round_due h) (is_draining h) (is_restarted h) refl refl refl refl still
  where
    by : (b c d e : Bool) → drop_due h ≡ b → round_due h ≡ c → is_draining h ≡ d → is_restarted h ≡ e
        → is_still (if b then want.Reserve else (if c then want.Signal1 (signal_of h (rounds h + 1)) else
        (if d then want.MsgRead (reading_place p h) else (if e then active_next p h (message_due p h) else restart_next p h)))) ≡ true → Stills p h
    by true c d e is_b is_c is_d is_e is = absurd (cc)
    by false true d e is_b is_c is_d is_e is = absurd (cc)
    by false false true e is_b is_c is_d is_e is = absurd (cc)
    by false false false false is_b is_c is_d is_e is = absurd (cc (sym (restart-acts p h) ∙ is))
    by false false false true is_b is_c is_d is_e is =
        record { round = is_c; works = active-still p h is; same = same is_b is_c is_d is_e }
      where
        same : drop_due h ≡ false → round_due h ≡ false → is_draining h ≡ false → is_restarted h ≡ true
            → owner_works p h ≡ active_next p h (message_due p h)
        same b c d e = grind (arith, common_steps)

-- one that has no round due has made its SIGNAL1
signalled-of : (granted signalled : Bool) → (granted && not signalled) ≡ false → granted ≡ true → signalled ≡ true
signalled-of granted signalled is has = grind (arith, common_steps)

-- one that signs off has a next act
off-acts : (p : Settings) (h : List Event) (state : OwnerState) → is_owner h ≡ true → sign_off_due h ≡ Some state → is_still (boundary p h) ≡ false
off-acts p h state owner off = grind (arith, common_steps)

-- **an owner without a next act has made its round, and its message waits, or an item is next**
owner-still : (p : Settings) (h : List Event) → is_owner h ≡ true → notice h ≡ None → (off : Option OwnerState) → sign_off_due h ≡ off → is_still (boundary p h) ≡ true
    → (has_signalled h ≡ true) × (((message : Message) × (message_due p h ≡ Some message) × (may_write p h ≡ false)) ⊎ (boundary p h ≡ want.Item))
owner-still p h owner no_told (Some state) off still = absurd (cc (sym (off-acts p h state owner off) ∙ still))
owner-still p h owner no_told None off still = by (works-still p h (sym (ap is_still (row p h owner no_told off)) ∙ still))
  where
    row : (p : Settings) (h : List Event) → is_owner h ≡ true → notice h ≡ None → sign_off_due h ≡ None → boundary p h ≡ owner_works p h
    row p h owner no_told off = grind (arith, common_steps)

    by : Stills p h
        → (has_signalled h ≡ true) × (((message : Message) × (message_due p h ≡ Some message) × (may_write p h ≡ false)) ⊎ (boundary p h ≡ want.Item))
    by is = (signalled-of (is_granted h) (has_signalled h) is.round (owner-granted h owner), either is.works)
      where
        either : Works p h → ((message : Message) × (message_due p h ≡ Some message) × (may_write p h ≡ false)) ⊎ (boundary p h ≡ want.Item)
        either (inl full) = inl full
        either (inr item) = inr (row p h owner no_told off ∙ is.same ∙ item)

-- a job that holds no number is on its way to its sign-on, or to its end
fresh-acts : (s : Scen) (t : List Entry) (x : Site) (h : List Event) → IsHistory (settings s x) h → is_granted h ≡ false
    → act_of s t x h (next (settings s x) h) ≡ None → ⊥
fresh-acts s t x h is granted none =
    let p = settings s x in
    not-both (is_still (next p h)) (still-of s t x h (next p h) none) (control-still (next p h) (control-next p h (inside p h) (fresh-inside p h is granted)))

-- **a job rests only where it waits**
pub rests-where : RestsWhere
rests-where s t x h is there none = by (is_owner h) refl
  where
    p : Settings
    p = settings s x

    at : act_of s t x h (next p h) ≡ None
    at = sym (ap (act_by s t x) there) ∙ none

    outside : (inside p h ≡ None) × (is_still (boundary p h) ≡ true)
    outside = rests-outside s t x h at

    works : (has_signalled h ≡ true) × (((message : Message) × (message_due p h ≡ Some message) × (may_write p h ≡ false)) ⊎ (boundary p h ≡ want.Item))
        → OwnerWaits s t x h
    works (signalled, inl full) = inr (signalled, inl full)
    works (signalled, inr item) =
        inr (signalled, inr (item-none s t x (sym (ap (act_of s t x h) (ap (or_boundary p h) outside.0 ∙ item)) ∙ at)))

    owning : is_owner h ≡ true → (o : Option Notice) → notice h ≡ o → OwnerWaits s t x h
    owning owner (Some told) is_told = inl (told, is_told)
    owning owner None no_told = works (owner-still p h owner no_told (sign_off_due h) refl outside.1)

    granted-by : is_owner h ≡ false → (b : Bool) → is_granted h ≡ b → (is_granted h ≡ true) × (has_signalled h ≡ true)
    granted-by no_owner true granted = (granted, still-signalled p h granted no_owner outside.1)
    granted-by no_owner false granted = absurd (fresh-acts s t x h (history-at s t x h is there) granted at)

    by : (b : Bool) → is_owner h ≡ b → WaitsFor s t x h b
    by true owner = owning owner (notice h) refl
    by false no_owner = granted-by no_owner (is_granted h) refl
