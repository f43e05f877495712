-- The acts of a run: what each tells of what its job wanted, and what is said by them.
use Rattle.std.proofs.Common.{Bool, List, false, true, ℕ, None, Option, Some, ◌≡◌, IfSome, length, nat_lt, refl, ◌+◌, if◌then◌else◌, subst, sym, ap, ◌∷◌}
use Rattle.xrf_base.specs.declared.items.Item.{Item}
use Rattle.xrf_base.specs.declared.site.Site.{Site}
use Rattle.xrf_ctl.specs.Control.{ControlRecord}
use Rattle.xrf_cavm.specs.declared.decisions.Decided.{Decided}
use Rattle.xrf_logrec.specs.declared.records.LogRec.{LogRec}
use Rattle.xrf_setup.specs.declared.choice.Choice.TheVariants as choice
use Rattle.xrf_history.proofs.Inside.{IsOff}
use Rattle.xrf_history.specs.Events.{Event}
use Rattle.xrf_history.specs.Restarting.{has_read_block}
use Rattle.xrf_history.specs.declared.want.Want.{Want}
use Rattle.xrf_history.specs.Deciding.{cause}
use Rattle.xrf_history.specs.Looking.{record_seen}
use Rattle.xrf_history.specs.Next.{next}
use Rattle.xrf_history.proofs.Tests.{not-both}
use Rattle.xrf_history.specs.declared.want.Want.TheVariants as want
use Rattle.xrf_trace.specs.declared.entry.Act.{Act}
use Rattle.xrf_trace.specs.declared.entry.Entry.{Entry}
use Rattle.xrf_trace.specs.Scenario.{Scen, item_at, work, settings, other}
use Rattle.xrf_trace.specs.Jobs.{block_event, item_event, handed, known_of, hist}
use Rattle.xrf_trace.specs.Words.{items_taken, now, who_at}
use Rattle.xrf_trace.specs.Acts.{next_item, act_of, is_act}
use Rattle.xrf_trace.proofs.Steps.{Reaches, IsStart, CanLand, OfAct, OfChoice, OfConfirm, OfStart, OfStop, OfTick, Step, run-step}
use Rattle.xrf_trace.specs.declared.entry.Land.{Land}
use Rattle.xrf_trace.specs.Entries.{entry_at, entry, start_at, inc_of_act, inc_at}
use Rattle.xrf_trace.proofs.JobSteps.{IsElsewhere}
use Rattle.xrf_trace.proofs.Sites.{other-site, other-twice}
use Rattle.xrf_trace.specs.Runs.{IsRun}
use Rattle.xrf_trace.specs.declared.entry.Act.TheVariants as act
use Rattle.xrf_trace.specs.declared.entry.Land.TheVariants as land

-- an act that is not on the slots
abbrev pub IsApart : Act → Type 0
IsApart (act.MsgRead k) = ⊥
IsApart (act.MsgClose k) = ⊥
IsApart (act.MsgBody k m) = ⊥
IsApart (act.MsgOpen k m) = ⊥
IsApart _ = Unit {0}

-- a LOGREAD hands nothing on messages
block-off : (s : Scen) (t : List Entry) (b : ℕ) (has : Bool) → IsOff (block_event s t b has)
block-off s t b true = tt
block-off s t b false = tt

-- nor does an ITEM
item-off : (item : Option Item) → IsOff (item_event item)
item-off None = tt
item-off (Some item) = tt

-- an act that is not on the slots hands nothing on messages
pub handed-off : (s : Scen) (t : List Entry) (x : Site) (at : ℕ) (h : List Event) (a : Act) → IsApart a → IsOff (handed s t x at h a)
handed-off s t x at h (act.MsgRead k) apart = absurd apart
handed-off s t x at h (act.MsgClose k) apart = absurd apart
handed-off s t x at h (act.MsgBody k m) apart = absurd apart
handed-off s t x at h (act.MsgOpen k m) apart = absurd apart
handed-off s t x at h (act.LogRead b) apart = block-off s t b (has_read_block h)
handed-off s t x at h (act.Item k) apart = item-off (item_at s x k)
handed-off s t x at h _ apart = tt

-- the act of a message tells the want
abbrev pub Tells : Act → Want → Type 0
Tells (act.MsgRead k) w = w ≡ want.MsgRead k
Tells (act.MsgClose k) w = w ≡ want.MsgClose k
Tells (act.MsgBody k m) w = w ≡ want.MsgBody k m
Tells (act.MsgOpen k m) w = w ≡ want.MsgOpen k m
Tells (act.CtlWrite written) w = w ≡ want.CtlWrite written
Tells (act.Signal1 signal) w = w ≡ want.Signal1 signal
Tells (act.Signal2 signal) w = w ≡ want.Signal2 signal
Tells act.Look1 w = w ≡ want.Look1
Tells act.Look2 w = w ≡ want.Look2
Tells act.Release w = w ≡ want.Release
Tells act.CtlRead w = w ≡ want.CtlRead
Tells act.Reserve w = w ≡ want.Reserve
Tells (act.Decide decision) w = w ≡ want.Decide
Tells act.Restarted w = w ≡ want.Restarted
Tells (act.Item k) w = w ≡ want.Item
Tells (act.LogOpen place rec) w = w ≡ want.LogOpen place rec
Tells _ w = Unit {0}

-- an ITEM tells that an item was wanted
item-tells : (s : Scen) (t : List Entry) (x : Site) → IfSome (next_item s t x) (λ a. Tells a want.Item)
item-tells s t x = by (nat_lt (items_taken t x) (length (work s x)))
  where
    by : (b : Bool) → IfSome (if b then Some (act.Item (items_taken t x + 1)) else None) (λ a. Tells a want.Item)
    by true = refl
    by false = tt

-- each act tells what its job wanted
act_of-tells : (s : Scen) (t : List Entry) (x : Site) (h : List Event) (w : Want) → IfSome (act_of s t x h w) (λ a. Tells a w)
act_of-tells s t x h (want.MsgRead k) = refl
act_of-tells s t x h (want.MsgClose k) = refl
act_of-tells s t x h (want.MsgBody k m) = refl
act_of-tells s t x h (want.MsgOpen k m) = refl
act_of-tells s t x h (want.CtlWrite written) = refl
act_of-tells s t x h (want.Signal1 signal) = refl
act_of-tells s t x h (want.Signal2 signal) = refl
act_of-tells s t x h want.Look1 = refl
act_of-tells s t x h want.Look2 = refl
act_of-tells s t x h want.Release = refl
act_of-tells s t x h want.CtlRead = refl
act_of-tells s t x h want.Reserve = refl
act_of-tells s t x h want.Decide = refl
act_of-tells s t x h want.Restarted = refl
act_of-tells s t x h want.Item = item-tells s t x
act_of-tells s t x h (want.LogOpen place rec) = refl
act_of-tells s t x h _ = tt

-- each act tells what its job wanted
pub tells : (s : Scen) (t : List Entry) (x : Site) (h : List Event) (w : Want) (a : Act) → act_of s t x h w ≡ Some a → Tells a w
tells s t x h w a is = subst (λ (o : Option Act). IfSome o (λ one. Tells one w)) is (act_of-tells s t x h w)

-- a choice that reaches a job hands nothing on messages
pub reach-off : (s : Scen) (t : List Entry) (x : Site) (at : ℕ) (h : List Event) (a : Act) → Reaches s x h a → IsOff (handed s t x at h a)
reach-off s t x at h act.Abend reach = tt
reach-off s t x at h (act.Reply go) reach = tt
reach-off s t x at h (act.Cebt command reply) reach = tt
reach-off s t x at h (act.Exit said) reach = tt
reach-off s t x at h _ reach = absurd reach

-- a decision is that of its cause
abbrev pub Decides : Scen → List Entry → Site → List Event → Act → Type 0
Decides s t x h (act.Decide decision) = cause (settings s x) h (known_of t (record_seen h)) (now t) ≡ decision
Decides s t x h _ = Unit {0}

-- an ITEM is no decision
item-decides : (s : Scen) (t : List Entry) (x : Site) (h : List Event) → IfSome (next_item s t x) (Decides s t x h)
item-decides s t x h = by (nat_lt (items_taken t x) (length (work s x)))
  where
    by : (b : Bool) → IfSome (if b then Some (act.Item (items_taken t x + 1)) else None) (Decides s t x h)
    by true = tt
    by false = tt

-- a DECIDE has the decision of its cause
act_of-decides : (s : Scen) (t : List Entry) (x : Site) (h : List Event) (w : Want) → IfSome (act_of s t x h w) (Decides s t x h)
act_of-decides s t x h want.Decide = refl
act_of-decides s t x h want.Item = item-decides s t x h
act_of-decides s t x h _ = tt

-- a decision is that of its cause
pub decides : (s : Scen) (t : List Entry) (x : Site) (h : List Event) (w : Want) (a : Act) → act_of s t x h w ≡ Some a → Decides s t x h a
decides s t x h w a is = subst (λ (o : Option Act). IfSome o (Decides s t x h)) is (act_of-decides s t x h w)

-- what is no act of a job is on no slot
pub inert-apart : (a : Act) → is_act a ≡ false → IsApart a
inert-apart (act.MsgRead k) inert = absurd (cc)
inert-apart (act.MsgClose k) inert = absurd (cc)
inert-apart (act.MsgBody k m) inert = absurd (cc)
inert-apart (act.MsgOpen k m) inert = absurd (cc)
inert-apart _ inert = tt

-- a START is no act of a job
start-inert : (a : Act) → IsStart a → is_act a ≡ false
start-inert act.StartActive is = refl
start-inert act.StartStandby is = refl
start-inert _ is = absurd is

-- a choice that reaches a job is no act of it
reach-inert : (s : Scen) (x : Site) (h : List Event) (a : Act) → Reaches s x h a → is_act a ≡ false
reach-inert s x h act.Abend reach = refl
reach-inert s x h (act.Reply go) reach = refl
reach-inert s x h (act.Cebt command reply) reach = refl
reach-inert s x h (act.Exit said) reach = refl
reach-inert s x h _ reach = absurd reach

-- it is on no slot
pub reach-apart : (s : Scen) (x : Site) (h : List Event) (a : Act) → Reaches s x h a → IsApart a
reach-apart s x h a reach = inert-apart a (reach-inert s x h a reach)

-- What is said of an entry: of one with no act of a job, and of each act of a job.
pub record Acts (s : Scen) (t : List Entry) (K : Entry → Type 0) : Type 0 where
  pub inert : (e : Entry) → is_act e.act ≡ false → K e
  pub made : (x : Site) (h : List Event) (a : Act) (l : Land) → hist s t x ≡ Some h → act_of s t x h (next (settings s x) h) ≡ Some a → CanLand t a l
      → K (entry_at s t x a l)

-- what is said of each act of a job and of entries without one holds of each entry
pub by_act : (s : Scen) (t : List Entry) (e : Entry) (K : Entry → Type 0) → Step s t e → Acts s t K → K e
by_act s t e K (OfTick same) acts = subst K same (acts.inert (entry s t choice.Tick) refl)
by_act s t e K (OfConfirm n ok same) acts = subst K same (acts.inert (entry s t (choice.Confirm n)) refl)
by_act s t e K (OfStart x a start none same) acts = subst K same (acts.inert (start_at t x a) (start-inert a start))
by_act s t e K (OfChoice x h a there reach same) acts = subst K same (acts.inert (entry_at s t x a land.Full) (reach-inert s x h a reach))
by_act s t e K (OfAct x h a l there wants can same) acts = subst K same (acts.made x h a l there wants can)
by_act s t e K (OfStop x h cut there same) acts = subst K same (acts.inert (entry_at s t x act.NoAct (land.Stop cut)) refl)

-- the same of an entry that is not of a site: its act is one of the other site's job
pub record ActsBeside (s : Scen) (t : List Entry) (z : Site) (K : Entry → Type 0) : Type 0 where
  pub inert : (e : Entry) → is_act e.act ≡ false → K e
  pub made : (h : List Event) (a : Act) (l : Land) → hist s t (other z) ≡ Some h → act_of s t (other z) h (next (settings s (other z)) h) ≡ Some a
      → CanLand t a l
      → K (entry_at s t (other z) a l)

-- the same of an entry of the other site
pub by_other : (s : Scen) (t : List Entry) (e : Entry) (z : Site) (K : Entry → Type 0) → Step s t e → IsElsewhere e z → ActsBeside s t z K → K e
by_other s t e z K step away beside = by_act s t e (λ one. IsElsewhere one z → K one) step (record {
  inert = λ one inert far. beside.inert one inert;
  made = λ x h a l there wants can far.
      let here : x ≡ other z = other-twice x z (other-site x z far) in
      subst (λ (y : Site). hist s t y ≡ Some h → act_of s t y h (next (settings s y) h) ≡ Some a → K (entry_at s t y a l)) (sym here)
      (λ also next_is. beside.made h a l also next_is can) there wants;
}) away

-- an entry that is the next act of the job at a site
pub record IsMade (s : Scen) (t : List Entry) (e : Entry) (x : Site) (h : List Event) : Type 0 where
  pub there : hist s t x ≡ Some h
  pub made : act_of s t x h (next (settings s x) h) ≡ Some e.act
  pub tick : e.tick ≡ now t
  pub who : e.who ≡ who_at x
  pub inc : e.inc ≡ inc_of_act e.act h

-- an act is the next one of the job at its site
abbrev pub ActIsNext : Scen → List Entry → Entry → Type 0
ActIsNext s t e = is_act e.act ≡ true → (x : Site) × (h : List Event) × IsMade s t e x h

-- each act of a run is the next one of the job at its site
pub act-next : (s : Scen) (t : List Entry) (e : Entry) → IsRun s (e ∷ t) → ActIsNext s t e
act-next s t e is = by_act s t e (ActIsNext s t) (run-step s t e is) (record {
  inert = λ one inert acts. absurd (not-both (is_act one.act) acts inert);
  made = λ x h a l there wants can acts. (x, h, record { there = there; made = wants; tick = refl; who = refl; inc = ap (inc_at a) there });
})

-- a CTLWRITE tells that it was wanted
pub writes-want : (s : Scen) (t : List Entry) (x : Site) (h : List Event) (w : Want) (written : ControlRecord) → act_of s t x h w ≡ Some (act.CtlWrite written)
    → w ≡ want.CtlWrite written
writes-want s t x h w written is = tells s t x h w (act.CtlWrite written) is

-- a DECIDE tells so, and its decision is that of its cause
pub decides-want : (s : Scen) (t : List Entry) (x : Site) (h : List Event) (w : Want) (decision : Decided) → act_of s t x h w ≡ Some (act.Decide decision)
    → (w ≡ want.Decide) × (decision ≡ cause (settings s x) h (known_of t (record_seen h)) (now t))
decides-want s t x h w decision is = (tells s t x h w (act.Decide decision) is, sym (decides s t x h w (act.Decide decision) is))

-- a CTLREAD tells so
pub reads-want : (s : Scen) (t : List Entry) (x : Site) (h : List Event) (w : Want) → act_of s t x h w ≡ Some act.CtlRead → w ≡ want.CtlRead
reads-want s t x h w is = tells s t x h w act.CtlRead is

-- a LOOK1 tells so
pub looks-want : (s : Scen) (t : List Entry) (x : Site) (h : List Event) (w : Want) → act_of s t x h w ≡ Some act.Look1 → w ≡ want.Look1
looks-want s t x h w is = tells s t x h w act.Look1 is
