-- Each entry of a run is a move.
use Rattle.std.proofs.Common.{List, refl, Bool, Some, ap, false, not, ◌≡◌, ℕ, ◌&&◌, ◌||◌, ◌∷◌, ◌∙◌, true, None, Option, ◌+◌, IfSome, length, nat_lt, if◌then◌else◌, ◌⊎◌, inl, arith, inr, subst, sym, []}
use Rattle.std.proofs.lemmas.Grind.{common_steps}
use Rattle.xrf_base.specs.declared.site.Site.{Site}
use Rattle.xrf_base.specs.declared.items.Item.{Item}
use Rattle.xrf_ctl.specs.Control.{ControlRecord}
use Rattle.xrf_gated.specs.Slots.{bytes_of}
use Rattle.xrf_setup.specs.declared.choice.Landing.{Landing}
use Rattle.xrf_setup.specs.declared.choice.Choice.TheVariants as choice
use Rattle.xrf_history.proofs.Histories.{Comes, is_started}
use Rattle.xrf_history.specs.Events.{Event, BlockRead, FirstBlockRead, Given, Ticked, ControlRead, DecisionMade, Looked1, Looked2, MessageRead, Reserved, Signalled1, Signalled2, ActFailed, StartedActive, StartedStandby, Abended, Commanded, Exited, Replied}
use Rattle.xrf_history.specs.Restarting.{has_read_block}
use Rattle.xrf_history.specs.Next.{next}
use Rattle.xrf_history.specs.declared.want.Want.{Want}
use Rattle.xrf_history.specs.Deciding.{cause}
use Rattle.xrf_history.specs.Looking.{record_seen}
use Rattle.xrf_history.specs.Answers.{may_fail as wants_may_fail}
use Rattle.xrf_history.specs.declared.want.Want.TheVariants as want
use Rattle.xrf_trace.specs.declared.entry.Entry.{Entry}
use Rattle.xrf_trace.proofs.Moves.{Move, Tick, IsHanded, Made, control_by, reserve_by, Gone, Started, Confirmed}
use Rattle.xrf_trace.specs.Scenario.{Scen, other, settings, item_at, work}
use Rattle.xrf_trace.specs.Entries.{entry, entry_at, act_or_none, start_at}
use Rattle.xrf_trace.specs.declared.entry.Act.{Act}
use Rattle.xrf_trace.specs.declared.entry.Land.{Land}
use Rattle.xrf_trace.specs.Jobs.{after_other, after_own, handed, hist, block_event, item_event, known_of, tried}
use Rattle.xrf_trace.specs.Words.{confirmed, confirms, holds_after, holds_reserve, now, items_taken, is_of, who_at}
use Rattle.xrf_trace.specs.Devices.{control, control_after, key_slots, log_block, message_slot, sector1, sector2, written_if}
use Rattle.xrf_trace.proofs.Sites.{if-other, if-own, pick-other, pick-own}
use Rattle.xrf_trace.specs.Landing.{is_stop, is_all}
use Rattle.xrf_trace.specs.Acts.{next_item, act_of, is_signal, may_fail, is_write}
use Rattle.xrf_trace.specs.Refusals.{may_step}
use Rattle.xrf_trace.proofs.Steps.{CanLand, IsStart, Reaches, OfAct, OfChoice, OfConfirm, OfStart, OfStop, OfTick, Step, run-step}
use Rattle.xrf_trace.proofs.JobSteps.{want-tried}
use Rattle.xrf_trace.specs.Runs.{IsRun}
use Rattle.xrf_trace.specs.declared.entry.Land.TheVariants as land
use Rattle.xrf_trace.specs.declared.entry.Act.TheVariants as act

-- a TICK is a move
pub tick-moves : (s : Scen) (t : List Entry) → Move s t (entry s t choice.Tick)
tick-moves s t = Tick (record { after = λ x. refl; record_after = refl; confirmed_after = λ n. refl; reserve_after = λ y. refl })

-- an event of a job, from an act that is made or fails
pub made-move : (s : Scen) (t : List Entry) (x : Site) (h : List Event) (made : Event) (a : Act) (l : Land) → hist s t x ≡ Some h
    → after_own s t x (now t) a l (Some h) ≡ Some (made ∷ h) → after_other a (hist s t (other x)) ≡ hist s t (other x)
    → Comes (settings s x) h made → IsHanded s t x h made
    → control_after a l (control t) ≡ control_by made (control t) → ((n : ℕ) → confirms a n ≡ false)
    → is_stop l ≡ false → ((r : Bool) → holds_after a r ≡ reserve_by made r)
    → Move s t (entry_at s t x a l)
made-move s t x h made a l there after same comes given written no_confirm goes_on reserve = Made x h made (record {
  before = there;
  after = pick-own x (after_own s t x (now t) a l (hist s t x)) (after_other a (hist s t x)) ∙ ap (after_own s t x (now t) a l) there ∙ after;
  beside = pick-other x (after_own s t (other x) (now t) a l (hist s t (other x))) (after_other a (hist s t (other x))) ∙ same;
  comes = comes;
  handed = given;
  record_after = written;
  confirmed_after = λ n. ap (λ (b : Bool). b || confirmed t n) (no_confirm n);
  reserve_after =
      if-own x (not (is_stop l) && holds_after a (holds_reserve t x)) (holds_reserve t x) ∙ ap
      (λ (b : Bool). not b && holds_after a (holds_reserve t x)) goes_on ∙ reserve (holds_reserve t x);
  reserve_beside = if-other x (not (is_stop l) && holds_after a (holds_reserve t (other x))) (holds_reserve t (other x));
})

-- one of an act that is made in full
pub full-move : (s : Scen) (t : List Entry) (x : Site) (h : List Event) (made : Event) (a : Act) → hist s t x ≡ Some h
    → after_own s t x (now t) a land.Full (Some h) ≡ Some (made ∷ h) → after_other a (hist s t (other x)) ≡ hist s t (other x)
    → Comes (settings s x) h made → IsHanded s t x h made
    → control_after a land.Full (control t) ≡ control_by made (control t) → ((n : ℕ) → confirms a n ≡ false)
    → ((r : Bool) → holds_after a r ≡ reserve_by made r)
    → Move s t (entry_at s t x a land.Full)
full-move s t x h made a there after same comes given written no_confirm reserve =
    made-move s t x h made a land.Full there after same comes given written no_confirm refl reserve

-- a LOGREAD, the first with the keypoint slots
block-step : (s : Scen) (t : List Entry) (x : Site) (h : List Event) (b : ℕ) (has : Bool) → has_read_block h ≡ has → hist s t x ≡ Some h
    → next (settings s x) h ≡ want.LogRead b
    → Move s t (entry_at s t x (act.LogRead b) land.Full)
block-step s t x h b true has there is =
    full-move s t x h (BlockRead (log_block s t b)) (act.LogRead b) there (ap (λ (y : Bool). Some (block_event s t b y ∷ h)) has) refl
    (b, is) tt refl (λ n. refl) (λ r. refl)
block-step s t x h b false has there is =
    full-move s t x h (FirstBlockRead (log_block s t b) (key_slots t)) (act.LogRead b) there
    (ap (λ (y : Bool). Some (block_event s t b y ∷ h)) has) refl (b, is) tt refl (λ n. refl) (λ r. refl)

-- an ITEM, where it is there
item-step : (s : Scen) (t : List Entry) (x : Site) (h : List Event) (item : Option Item) → item_at s x (items_taken t x + 1) ≡ item → hist s t x ≡ Some h
    → next (settings s x) h ≡ want.Item → Move s t (entry_at s t x (act.Item (items_taken t x + 1)) land.Full)
item-step s t x h (Some item) found there is =
    full-move s t x h (Given item) (act.Item (items_taken t x + 1)) there
    (ap (λ (o : Option Item). Some (item_event o ∷ h)) found) refl is found refl (λ n. refl) (λ r. refl)
item-step s t x h None found there is =
    full-move s t x h Ticked (act.Item (items_taken t x + 1)) there (ap (λ (o : Option Item). Some (item_event o ∷ h)) found) refl tt tt refl
    (λ n. refl) (λ r. refl)

-- what is said of the next item is said where one is left
item-if : (s : Scen) (t : List Entry) (x : Site) (P : Act → Type 0) → P (act.Item (items_taken t x + 1)) → IfSome (next_item s t x) P
item-if s t x P holds = by (nat_lt (items_taken t x) (length (work s x)))
  where
    by : (b : Bool) → IfSome (if b then Some (act.Item (items_taken t x + 1)) else None) P
    by true = holds
    by false = tt

-- a job stops or ends
pub gone-move : (s : Scen) (t : List Entry) (x : Site) (a : Act) (l : Land) → after_own s t x (now t) a l (hist s t x) ≡ None
    → after_other a (hist s t (other x)) ≡ hist s t (other x)
    → (control_after a l (control t) ≡ control t) ⊎
    ((h : List Event) × (w : ControlRecord) × (hist s t x ≡ Some h) × (next (settings s x) h ≡ want.CtlWrite w) × (control_after a l (control t) ≡ w))
    → ((n : ℕ) → confirms a n ≡ false)
    → ((r : Bool) → (not (is_stop l) && holds_after a r) ≡ false)
    → Move s t (entry_at s t x a l)
gone-move s t x a l after same written no_confirm reserve = Gone x (record {
  after = pick-own x (after_own s t x (now t) a l (hist s t x)) (after_other a (hist s t x)) ∙ after;
  beside = pick-other x (after_own s t (other x) (now t) a l (hist s t (other x))) (after_other a (hist s t (other x))) ∙ same;
  record_after = written;
  confirmed_after = λ n. ap (λ (b : Bool). b || confirmed t n) (no_confirm n);
  reserve_after = if-own x (not (is_stop l) && holds_after a (holds_reserve t x)) (holds_reserve t x) ∙ reserve (holds_reserve t x);
  reserve_beside = if-other x (not (is_stop l) && holds_after a (holds_reserve t (other x))) (holds_reserve t (other x));
})

-- an act that is made in full
abbrev Full : Scen → List Entry → Site → Act → Type 0
Full s t x a = may_step t a ≡ true → Move s t (entry_at s t x a land.Full)

-- each act that is made in full is a move
full-act : (s : Scen) (t : List Entry) (x : Site) (h : List Event) (w : Want) → hist s t x ≡ Some h → next (settings s x) h ≡ w
    → IfSome (act_of s t x h w) (Full s t x)
full-act s t x h want.Nothing there is = tt
full-act s t x h (want.Exit told) there is = tt
full-act s t x h want.Reserve there is = λ may. full-move s t x h Reserved act.Reserve there refl refl is may refl (λ n. refl) (λ r. refl)
full-act s t x h want.CtlRead there is =
    λ may. full-move s t x h (ControlRead (control t) (known_of t (control t))) act.CtlRead there refl refl is (refl, refl) refl (λ n. refl) (λ r. refl)
full-act s t x h want.Look1 there is =
    λ may. full-move s t x h (Looked1 (control t) (sector1 t (other x))) act.Look1 there refl refl is (refl, refl) refl (λ n. refl) (λ r. refl)
full-act s t x h want.Look2 there is =
    λ may. full-move s t x h (Looked2 (sector2 t (other x)) (now t)) act.Look2 there refl refl is refl refl (λ n. refl) (λ r. refl)
full-act s t x h want.Decide there is =
    let known = known_of t (record_seen h) in
    let decision = cause (settings s x) h known (now t) in
    λ may. full-move s t x h (DecisionMade known (now t) decision) (act.Decide decision) there refl refl (is, refl) refl refl (λ n. refl) (λ r. refl)
full-act s t x h (want.MsgRead k) there is =
    λ may. full-move s t x h (MessageRead k (bytes_of (message_slot t k))) (act.MsgRead k) there refl refl is refl refl (λ n. refl) (λ r. refl)
full-act s t x h (want.LogRead b) there is = λ may. block-step s t x h b (has_read_block h) refl there is
full-act s t x h want.Item there is = item-if s t x (Full s t x) (λ may. item-step s t x h (item_at s x (items_taken t x + 1)) refl there is)
full-act s t x h (want.Ended reason) there is = λ may. gone-move s t x (act.Ended reason) land.Full refl refl (inl refl) (λ n. refl) (λ r. refl)
full-act s t x h w there is =
    let a = act_or_none (act_of s t x h w) in
    λ may. full-move s t x h (handed s t x (now t) h a) a there refl refl is tt refl (λ n. refl) (λ r. refl)

-- a signal that is lost
abbrev Lost : Scen → List Entry → Site → Act → Type 0
Lost s t x a = is_signal a ≡ true → Move s t (entry_at s t x a land.Lost)

-- a lost signal is a move
lost-act : (s : Scen) (t : List Entry) (x : Site) (h : List Event) (w : Want) → hist s t x ≡ Some h → next (settings s x) h ≡ w
    → IfSome (act_of s t x h w) (Lost s t x)
lost-act s t x h want.Nothing there is = tt
lost-act s t x h (want.Exit told) there is = tt
lost-act s t x h (want.Signal1 signal) there is =
    λ may. made-move s t x h (Signalled1 signal) (act.Signal1 signal) land.Lost there refl refl is tt refl (λ n. refl) refl (λ r. refl)
lost-act s t x h (want.Signal2 signal) there is =
    λ may. made-move s t x h (Signalled2 signal) (act.Signal2 signal) land.Lost there refl refl is tt refl (λ n. refl) refl (λ r. refl)
lost-act s t x h want.Item there is = item-if s t x (Lost s t x) (λ may. absurd (cc))
lost-act s t x h _ there is = λ may. absurd (cc)

-- an act that may fail leaves the control record
fail-record : (a : Act) (l : Land) (c : ControlRecord) → may_fail a ≡ true → control_after a l c ≡ c
fail-record a l c may = grind (arith, common_steps)

-- it confirms nothing
fail-confirm : (a : Act) (n : ℕ) → may_fail a ≡ true → confirms a n ≡ false
fail-confirm a n may = grind (arith, common_steps)

-- it leaves the reserve
fail-reserve : (a : Act) (r : Bool) → may_fail a ≡ true → holds_after a r ≡ r
fail-reserve a r may = grind (arith, common_steps)

-- it leaves the job of the other site
fail-other : (a : Act) (job : Option (List Event)) → may_fail a ≡ true → after_other a job ≡ job
fail-other a job may = grind (arith, common_steps)

-- what is tried may fail
fail-want : (a : Act) → may_fail a ≡ true → wants_may_fail (tried a) ≡ true
fail-want a may = grind (arith, common_steps)

-- a failed act is a move
failed-act : (s : Scen) (t : List Entry) (x : Site) (h : List Event) (a : Act) (cut : Landing) → hist s t x ≡ Some h → may_fail a ≡ true
    → next (settings s x) h ≡ tried a → Move s t (entry_at s t x a (land.Fail cut))
failed-act s t x h a cut there may wants =
    made-move s t x h (ActFailed (tried a) (now t)) a (land.Fail cut) there refl (fail-other a (hist s t (other x)) may) (wants, fail-want a may) tt
    (fail-record a (land.Fail cut) (control t) may) (λ n. fail-confirm a n may) refl (λ r. fail-reserve a r may)

-- an act that a stop cuts off
abbrev Cut : Scen → List Entry → Site → Landing → Act → Type 0
Cut s t x cut a = is_write a ≡ true → Move s t (entry_at s t x a (land.Stop cut))

-- the record after a cut CTLWRITE is the one before or the one written
cut-write : (b : Bool) (w c : ControlRecord) → (written_if b w c ≡ c) ⊎ (written_if b w c ≡ w)
cut-write true w c = inr refl
cut-write false w c = inl refl

-- a CTLWRITE that a stop cuts off
stop-write : (s : Scen) (t : List Entry) (x : Site) (h : List Event) (cut : Landing) (w : ControlRecord) → hist s t x ≡ Some h
    → next (settings s x) h ≡ want.CtlWrite w
    → Move s t (entry_at s t x (act.CtlWrite w) (land.Stop cut))
stop-write s t x h cut w there is = by (cut-write (is_all cut) w (control t))
  where
    by : ((written_if (is_all cut) w (control t) ≡ control t) ⊎ (written_if (is_all cut) w (control t) ≡ w))
        → Move s t (entry_at s t x (act.CtlWrite w) (land.Stop cut))
    by (inl same) = gone-move s t x (act.CtlWrite w) (land.Stop cut) refl refl (inl same) (λ n. refl) (λ r. refl)
    by (inr landed) = gone-move s t x (act.CtlWrite w) (land.Stop cut) refl refl (inr (h, w, there, is, landed)) (λ n. refl) (λ r. refl)

-- a stop in a write is a move
stop-act : (s : Scen) (t : List Entry) (x : Site) (h : List Event) (cut : Landing) (w : Want) → hist s t x ≡ Some h → next (settings s x) h ≡ w
    → IfSome (act_of s t x h w) (Cut s t x cut)
stop-act s t x h cut want.Nothing there is = tt
stop-act s t x h cut (want.Exit told) there is = tt
stop-act s t x h cut (want.CtlWrite w) there is = λ may. stop-write s t x h cut w there is
stop-act s t x h cut want.Item there is = item-if s t x (Cut s t x cut) (λ may. absurd (cc))
stop-act s t x h cut w there is = λ may. gone-move s t x (act_or_none (act_of s t x h w)) (land.Stop cut) refl refl (inl refl) (λ n. refl) (λ r. refl)

-- an act of a job is a move, by how it lands
act-moves : (s : Scen) (t : List Entry) (x : Site) (h : List Event) (a : Act) (l : Land) → hist s t x ≡ Some h
    → act_of s t x h (next (settings s x) h) ≡ Some a → CanLand t a l
    → Move s t (entry_at s t x a l)
act-moves s t x h a land.Full there wants can =
    subst (λ (o : Option Act). IfSome o (Full s t x)) wants (full-act s t x h (next (settings s x) h) there refl) can
act-moves s t x h a land.Lost there wants can =
    subst (λ (o : Option Act). IfSome o (Lost s t x)) wants (lost-act s t x h (next (settings s x) h) there refl) can
act-moves s t x h a (land.Stop cut) there wants can =
    subst (λ (o : Option Act). IfSome o (Cut s t x cut)) wants (stop-act s t x h cut (next (settings s x) h) there refl) can.0
act-moves s t x h a (land.Fail cut) there wants can =
    failed-act s t x h a cut there can.0 (sym (want-tried s t x h (next (settings s x) h) a wants can.0))

-- a choice of the same
if-same : {X : Type 0} (b : Bool) (a r : X) → a ≡ r → (if b then a else r) ≡ r
if-same true a r same = same
if-same false a r same = refl

-- a START that says what it makes
start-move : (s : Scen) (t : List Entry) (x : Site) (made : Event) (a : Act) → hist s t x ≡ None → is_started made ≡ true
    → after_own s t x (now t) a land.Full (hist s t x) ≡ Some (made ∷ []) → after_other a (hist s t (other x)) ≡ hist s t (other x)
    → control_after a land.Full (control t) ≡ control t → ((n : ℕ) → confirms a n ≡ false) → ((r : Bool) → holds_after a r ≡ r)
    → Move s t (start_at t x a)
start-move s t x made a there started after same written no_confirm reserve = Started x made (record {
  started = started;
  before = there;
  after = pick-own x (after_own s t x (now t) a land.Full (hist s t x)) (after_other a (hist s t x)) ∙ after;
  beside = pick-other x (after_own s t (other x) (now t) a land.Full (hist s t (other x))) (after_other a (hist s t (other x))) ∙ same;
  record_after = written;
  confirmed_after = λ n. ap (λ (b : Bool). b || confirmed t n) (no_confirm n);
  reserve_after = λ y. if-same (is_of (who_at x) y) (holds_after a (holds_reserve t y)) (holds_reserve t y) (reserve (holds_reserve t y));
})

-- each START is a move
start-moves : (s : Scen) (t : List Entry) (x : Site) (a : Act) → IsStart a → hist s t x ≡ None → Move s t (start_at t x a)
start-moves s t x act.StartActive start there = start-move s t x StartedActive act.StartActive there refl refl refl refl (λ n. refl) (λ r. refl)
start-moves s t x act.StartStandby start there = start-move s t x StartedStandby act.StartStandby there refl refl refl refl (λ n. refl) (λ r. refl)
start-moves s t x _ start there = absurd start

-- a choice that reaches a job is a move
reach-moves : (s : Scen) (t : List Entry) (x : Site) (h : List Event) (a : Act) → hist s t x ≡ Some h → Reaches s x h a → Move s t (entry_at s t x a land.Full)
reach-moves s t x h act.Abend there may = full-move s t x h Abended act.Abend there refl refl may tt refl (λ n. refl) (λ r. refl)
reach-moves s t x h (act.Reply go) there may = full-move s t x h (Replied go (now t)) (act.Reply go) there refl refl may tt refl (λ n. refl) (λ r. refl)
reach-moves s t x h (act.Cebt command reply) there may =
    full-move s t x h (Commanded command (now t)) (act.Cebt command reply) there refl refl may tt refl (λ n. refl) (λ r. refl)
reach-moves s t x h (act.Exit said) there may = full-move s t x h (Exited said (now t)) (act.Exit said) there refl refl may tt refl (λ n. refl) (λ r. refl)
reach-moves s t x h _ there may = absurd may

-- a stop without an act is a move
stop-moves : (s : Scen) (t : List Entry) (x : Site) (cut : Landing) → Move s t (entry_at s t x act.NoAct (land.Stop cut))
stop-moves s t x cut = gone-move s t x act.NoAct (land.Stop cut) refl refl (inl refl) (λ n. refl) (λ r. refl)

-- each way in which an entry comes is a move
step-move : (s : Scen) (t : List Entry) (e : Entry) → Step s t e → Move s t e
step-move s t e (OfTick same) = subst (Move s t) same (tick-moves s t)
step-move s t e (OfConfirm n may same) =
    subst (Move s t) same (Confirmed n (record { may = may; after = λ x. refl; record_after = refl; confirmed_after = λ m. refl; reserve_after = λ y. refl }))
step-move s t e (OfStart x a start none same) = subst (Move s t) same (start-moves s t x a start none)
step-move s t e (OfChoice x h a there reach same) = subst (Move s t) same (reach-moves s t x h a there reach)
step-move s t e (OfAct x h a l there wants can same) = subst (Move s t) same (act-moves s t x h a l there wants can)
step-move s t e (OfStop x h cut there same) = subst (Move s t) same (stop-moves s t x cut)

-- each entry of a run is a move
pub moves : (s : Scen) (t : List Entry) (e : Entry) → IsRun s (e ∷ t) → Move s t e
moves s t e is = step-move s t e (run-step s t e is)
