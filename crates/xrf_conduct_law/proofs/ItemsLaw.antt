-- In every run items are taken in the order of the list, each once, and each only once the one before is answered.
use Rattle.std.proofs.Common.{◌≡◌, ◌≤◌, ◌<◌, ℕ, zero, suc, ◌+◌, ◌-◌, Bool, true, false, ◌&&◌, not, nat_lt, List, [], ◌∷◌, length, slice_get, Option, Some, None, IfSome, is_some, is_none, refl, sym, ap, ◌∙◌, subst, arith, if◌then◌else◌}
use Rattle.std.proofs.lemmas.Grind.{common_steps}
use Rattle.xrf_base.specs.declared.site.Site.{Site}
use Rattle.xrf_base.specs.declared.site.Site.TheVariants as site
use Rattle.xrf_base.specs.declared.items.Item.{Item}
use Rattle.xrf_base.specs.declared.items.ItemAnswer.{ItemAnswer}
use Rattle.xrf_setup.specs.declared.choice.Landing.{Landing}
use Rattle.xrf_setup.specs.declared.ranges.TheConstants.{CHOICES_MOST}
use Rattle.xrf_history.specs.declared.settings.Settings.{Settings}
use Rattle.xrf_history.specs.declared.want.Want.{Want}
use Rattle.xrf_history.specs.declared.want.Want.TheVariants as want
use Rattle.xrf_history.specs.Events.{Event}
use Rattle.xrf_history.specs.Restarting.{has_read_block}
use Rattle.xrf_history.specs.Working.{item_answer}
use Rattle.xrf_history.specs.Next.{next}
use Rattle.xrf_trace.specs.declared.entry.Entry.{Entry}
use Rattle.xrf_trace.specs.declared.entry.Act.{Act}
use Rattle.xrf_trace.specs.declared.entry.Act.TheVariants as act
use Rattle.xrf_trace.specs.declared.entry.Land.{Land}
use Rattle.xrf_trace.specs.declared.entry.Land.TheVariants as land
use Rattle.xrf_trace.specs.Scenario.{Scen, IsScen, settings, work, item_at}
use Rattle.xrf_trace.specs.Words.{who_at, items_taken, now}
use Rattle.xrf_trace.specs.Jobs.{hist, handed, item_event, block_event, after_act, after_own, after_other}
use Rattle.xrf_trace.specs.Items.{answer_by, answer_at_item}
use Rattle.xrf_trace.specs.Acts.{is_act, is_signal, may_fail, act_of, next_item}
use Rattle.xrf_trace.specs.Entries.{entry_at}
use Rattle.xrf_trace.specs.Laws.{AnswersAlike}
use Rattle.xrf_trace.specs.Runs.{IsRun}
use Rattle.xrf_trace.specs.Each.{Each, OfJob}
use Rattle.xrf_trace.proofs.Steps.{Step, OfTick, OfConfirm, OfStart, OfChoice, OfAct, OfStop, IsStart, Reaches, CanLand, run-step}
use Rattle.xrf_trace.proofs.Paths.{history-at}
use Rattle.xrf_trace.proofs.AtSites.{at-site, made-at}
use Rattle.xrf_log_law.proofs.JobActs.{of-item}
use Rattle.xrf_log_law.proofs.LogLaw.{jobs-answer-alike}
use Rattle.xrf_trace.specs.ItemsInOrder.{waits_after, waits_for_answer, IsInOrder, ItemsInOrder}
use Rattle.xrf_conduct_law.proofs.Waits.{waits, item-waits}

-- the job at a site, if there is one, waits
abbrev waits_of : Settings → Option (List Event) → Bool
waits_of p None = false
waits_of p (Some h) = waits p h

abbrev WaitsAs : Scen → List Entry → Site → Type 0
WaitsAs s t x = waits_for_answer s t x ≡ waits_of (settings s x) (hist s t x)

-- tests
kept : (b : Bool) → (not false && b && not (true && false)) ≡ b
kept true = refl
kept false = refl

answered : (b : Bool) → (not false && b && not (true && true)) ≡ false
answered true = refl
answered false = refl

joined : (b : Bool) (o : Option ItemAnswer) → (not false && b && not (true && is_some o)) ≡ (b && is_none o)
joined true None = refl
joined true (Some a) = refl
joined false o = refl

missed : (b : Bool) (o : Option ItemAnswer) → (not false && b && not (false && is_some o)) ≡ b
missed true o = refl
missed false o = refl

-- an item that is taken is there
abbrev There : Scen → Site → Act → Type 0
There s x (act.Item k) = item_at s x k ≡ None → ⊥
There s x _ = Unit {0}

-- after an act that is made in full
full : (s : Scen) (t : List Entry) (x : Site) (at : ℕ) (h : List Event) (a : Act) → There s x a
    → answer_by s t x a ≡ item_answer (settings s x) (handed s t x at h a ∷ h)
    → waits_after s t x a land.Full (waits (settings s x) h) ≡ waits_of (settings s x) (after_act s t x at a (Some h))
full s t x at h act.StartActive there alike = refl
full s t x at h act.StartStandby there alike = refl
full s t x at h (act.Ended reason) there alike = refl
full s t x at h (act.Item k) there alike = by (item_at s x k) there alike
  where
    by : (o : Option Item) → (o ≡ None → ⊥) → answer_at_item s t x o ≡ item_answer (settings s x) (item_event o ∷ h)
        → (not false && is_none (answer_at_item s t x o)) ≡ waits (settings s x) (item_event o ∷ h)
    by None there alike = absurd (there refl)
    by (Some item) there alike = ap (λ (o : Option ItemAnswer). is_none o) alike
full s t x at h (act.FileRead k) there alike =
    joined (waits (settings s x) h) (answer_by s t x (act.FileRead k)) ∙ ap (λ (o : Option ItemAnswer). waits (settings s x) h && is_none o) alike
full s t x at h (act.FileWrite unit k value) there alike = answered (waits (settings s x) h)
full s t x at h (act.LogOpen place rec) there alike =
    joined (waits (settings s x) h) (answer_by s t x (act.LogOpen place rec)) ∙ ap (λ (o : Option ItemAnswer). waits (settings s x) h && is_none o) alike
full s t x at h (act.LogRead b) there alike = by (has_read_block h)
  where
    by : (has : Bool) → (not false && waits (settings s x) h && not (true && false)) ≡ waits (settings s x) (block_event s t b has ∷ h)
    by true = kept (waits (settings s x) h)
    by false = kept (waits (settings s x) h)
full s t x at h _ there alike = kept (waits (settings s x) h)

-- after a signal that is lost
lost : (s : Scen) (t : List Entry) (x : Site) (at : ℕ) (h : List Event) (a : Act) → is_signal a ≡ true
    → waits_after s t x a land.Lost (waits (settings s x) h) ≡ waits_of (settings s x) (after_act s t x at a (Some h))
lost s t x at h (act.Signal1 signal) is = missed (waits (settings s x) h) None
lost s t x at h (act.Signal2 signal) is = missed (waits (settings s x) h) None
lost s t x at h _ is = absurd (cc)

-- after an act that fails
fails : (s : Scen) (t : List Entry) (x : Site) (a : Act) (cut : Landing) (b : Bool) → may_fail a ≡ true → waits_after s t x a (land.Fail cut) b ≡ b
fails s t x act.StartActive cut b may = absurd (cc)
fails s t x act.StartStandby cut b may = absurd (cc)
fails s t x (act.Ended reason) cut b may = absurd (cc)
fails s t x (act.Item k) cut b may = absurd (cc)
fails s t x a cut b may = missed b (answer_by s t x a)

-- after a stop
stops : (s : Scen) (t : List Entry) (x : Site) (a : Act) (cut : Landing) (b : Bool) → waits_after s t x a (land.Stop cut) b ≡ false
stops s t x act.StartActive cut b = refl
stops s t x act.StartStandby cut b = refl
stops s t x (act.Ended reason) cut b = refl
stops s t x (act.Item k) cut b = refl
stops s t x _ cut b = refl

-- of the site of the entry, and of the other
abbrev Own : Scen → List Entry → Site → Act → Land → Type 0
Own s t x a l = waits_after s t x a l (waits_for_answer s t x) ≡ waits_of (settings s x) (after_own s t x (now t) a l (hist s t x))

own-by : (s : Scen) (t : List Entry) (x : Site) (h : List Event) (a : Act) (l : Land) → WaitsAs s t x → hist s t x ≡ Some h
    → waits_after s t x a l (waits (settings s x) h) ≡ waits_of (settings s x) (after_own s t x (now t) a l (Some h)) → Own s t x a l
own-by s t x h a l before here after =
    ap (λ (b : Bool). waits_after s t x a l b) (before ∙ ap (λ (job : Option (List Event)). waits_of (settings s x) job) here)
    ∙ after ∙ sym (ap (λ (job : Option (List Event)). waits_of (settings s x) (after_own s t x (now t) a l job)) here)

other-job : (p : Settings) (a : Act) (job : Option (List Event)) → waits_of p job ≡ waits_of p (after_other a job)
other-job p act.Tick None = refl
other-job p act.Tick (Some h) = refl
other-job p _ job = refl

entry-of : (s : Scen) (t : List Entry) (y x : Site) (inc : ℕ) (a : Act) (l : Land) → ((z : Site) → WaitsAs s t z) → Own s t y a l
    → WaitsAs s (record { tick = now t; who = who_at y; inc = inc; act = a; land = l } ∷ t) x
entry-of s t site.A site.A inc a l before own = own
entry-of s t site.B site.B inc a l before own = own
entry-of s t site.A site.B inc a l before own = before site.B ∙ other-job (settings s site.B) a (hist s t site.B)
entry-of s t site.B site.A inc a l before own = before site.A ∙ other-job (settings s site.A) a (hist s t site.A)

-- an item that is next is there
found : (items : List Item) (k : ℕ) → k < length items → slice_get items k ≡ None → ⊥
found [] k less none = absurd (omega (arith, less))
found (item ∷ items) zero less none = absurd (cc)
found (item ∷ items) (suc k) less none = found items k (omega (arith, less)) none

next-found : (items : List Item) (k : ℕ) → nat_lt k (length items) ≡ true → slice_get items (k + 1 - 1) ≡ None → ⊥
next-found items k less none =
    let same : k + 1 - 1 ≡ k = omega arith in
    found items k (grind (arith, common_steps)) (subst (λ (n : ℕ). slice_get items n ≡ None) same none)

item-there : (s : Scen) (t : List Entry) (x : Site) → IfSome (next_item s t x) (There s x)
item-there s t x = by (nat_lt (items_taken t x) (length (work s x))) refl
  where
    by : (b : Bool) → nat_lt (items_taken t x) (length (work s x)) ≡ b → IfSome (if b then Some (act.Item (items_taken t x + 1)) else None) (There s x)
    by true less = next-found (work s x) (items_taken t x) less
    by false less = tt

act-there : (s : Scen) (t : List Entry) (x : Site) (h : List Event) (w : Want) → IfSome (act_of s t x h w) (There s x)
act-there s t x h want.Nothing = tt
act-there s t x h (want.Exit told) = tt
act-there s t x h want.Item = item-there s t x
act-there s t x h _ = tt

reach-there : (s : Scen) (x : Site) (h : List Event) (a : Act) → Reaches s x h a → There s x a
reach-there s x h act.Abend reach = tt
reach-there s x h (act.Reply go) reach = tt
reach-there s x h (act.Cebt command reply) reach = tt
reach-there s x h (act.Exit said) reach = tt
reach-there s x h _ reach = absurd reach

-- what an act that is made in full answers
alike-at : (s : Scen) (t : List Entry) (x : Site) (h : List Event) (a : Act) → AnswersAlike s t (entry_at s t x a land.Full) → hist s t x ≡ Some h
    → answer_by s t x a ≡ item_answer (settings s x) (handed s t x (now t) h a ∷ h)
alike-at s t site.A h a alike here =
    subst (λ (job : Option (List Event)). OfJob job (λ h. answer_by s t site.A a ≡ item_answer (settings s site.A) (handed s t site.A (now t) h a ∷ h))) here alike
alike-at s t site.B h a alike here =
    subst (λ (job : Option (List Event)). OfJob job (λ h. answer_by s t site.B a ≡ item_answer (settings s site.B) (handed s t site.B (now t) h a ∷ h))) here alike

lands-own : (s : Scen) (t : List Entry) (x : Site) (h : List Event) (a : Act) (l : Land) → There s x a → CanLand t a l → WaitsAs s t x → hist s t x ≡ Some h
    → AnswersAlike s t (entry_at s t x a l) → Own s t x a l
lands-own s t x h a land.Full there can before here alike =
    own-by s t x h a land.Full before here (full s t x (now t) h a there (alike-at s t x h a alike here))
lands-own s t x h a land.Lost there can before here alike = own-by s t x h a land.Lost before here (lost s t x (now t) h a can)
lands-own s t x h a (land.Stop cut) there can before here alike = stops s t x a cut (waits_for_answer s t x)
lands-own s t x h a (land.Fail cut) there can before here alike =
    own-by s t x h a (land.Fail cut) before here (fails s t x a cut (waits (settings s x) h) can.0)

starts-own : (s : Scen) (t : List Entry) (x : Site) (a : Act) → IsStart a → Own s t x a land.Full
starts-own s t x act.StartActive start = refl
starts-own s t x act.StartStandby start = refl
starts-own s t x _ start = absurd start

-- each entry
abbrev After : Scen → List Entry → Site → Entry → Type 0
After s t x e = AnswersAlike s t e → WaitsAs s (e ∷ t) x

of-step : (s : Scen) (t : List Entry) (x : Site) (e : Entry) → Step s t e → ((z : Site) → WaitsAs s t z) → After s t x e
of-step s t site.A e (OfTick made) before = subst (After s t site.A) made (λ alike. before site.A ∙ other-job (settings s site.A) act.Tick (hist s t site.A))
of-step s t site.B e (OfTick made) before = subst (After s t site.B) made (λ alike. before site.B ∙ other-job (settings s site.B) act.Tick (hist s t site.B))
of-step s t site.A e (OfConfirm n may made) before = subst (After s t site.A) made (λ alike. before site.A)
of-step s t site.B e (OfConfirm n may made) before = subst (After s t site.B) made (λ alike. before site.B)
of-step s t x e (OfStart y a start none made) before =
    subst (After s t x) made (λ alike. entry-of s t y x 0 a land.Full before (starts-own s t y a start))
of-step s t x e (OfChoice y h a is reach made) before =
    subst (After s t x) made (λ alike. entry-of s t y x (entry_at s t y a land.Full).inc a land.Full before
    (own-by s t y h a land.Full (before y) is (full s t y (now t) h a (reach-there s y h a reach) (alike-at s t y h a alike is))))
of-step s t x e (OfAct y h a l is next_is can made) before =
    subst (After s t x) made (λ alike. entry-of s t y x (entry_at s t y a l).inc a l before
    (lands-own s t y h a l (subst (λ (o : Option Act). IfSome o (There s y)) next_is (act-there s t y h (next (settings s y) h))) can (before y) is alike))
of-step s t x e (OfStop y h cut is made) before =
    subst (After s t x) made (λ alike. entry-of s t y x (entry_at s t y act.NoAct (land.Stop cut)).inc act.NoAct (land.Stop cut) before
    (stops s t y act.NoAct cut (waits_for_answer s t y)))

-- the trace waits as the job does
wait-alike : (s : Scen) (t : List Entry) → IsRun s t → Each (AnswersAlike s) t → (x : Site) → WaitsAs s t x
wait-alike s [] is alike x = refl
wait-alike s (e ∷ t) is alike x = of-step s t x e (run-step s t e is) (wait-alike s t is.0 alike.0) alike.1

-- an ITEM is the next of the list, and nothing waits
next-order : (s : Scen) (t : List Entry) (x : Site) (h : List Event) (w : Want) → IsRun s t → Each (AnswersAlike s) t → hist s t x ≡ Some h → next (settings s x) h ≡ w
    → IfSome (act_of s t x h w) (IsInOrder s t x)
next-order s t x h want.Nothing is alike here told = tt
next-order s t x h (want.Exit why) is alike here told = tt
next-order s t x h want.Item is alike here told =
    of-item s t x (IsInOrder s t x) (
      refl,
      wait-alike s t is alike x ∙ ap (λ (job : Option (List Event)). waits_of (settings s x) job) here
          ∙ item-waits (settings s x) h (history-at s t x h is here) told,
    )
next-order s t x h _ is alike here told = tt

inert-order : (s : Scen) (t : List Entry) (x : Site) (a : Act) → is_act a ≡ false → IsInOrder s t x a
inert-order s t x (act.Item k) inert = absurd (cc)
inert-order s t x _ inert = tt

order-at : (s : Scen) (t : List Entry) (e : Entry) (x : Site) (h : List Event) → IsRun s (e ∷ t) → Each (AnswersAlike s) t → e.who ≡ who_at x → hist s t x ≡ Some h
    → IsInOrder s t x e.act
order-at s t e x h is alike who here = by (is_act e.act) refl
  where
    by : (b : Bool) → is_act e.act ≡ b → IsInOrder s t x e.act
    by false inert = inert-order s t x e.act inert
    by true acts =
        subst (λ (o : Option Act). IfSome o (IsInOrder s t x)) (made-at s t e x h is acts who here).made
        (next-order s t x h (next (settings s x) h) is.0 alike here refl)

in-order : (s : Scen) (t : List Entry) → IsRun s t → Each (AnswersAlike s) t → ItemsInOrder s t
in-order s [] is alike = tt
in-order s (e ∷ t) is alike =
    (in-order s t is.0 alike.0, at-site s t e.who (λ x h. IsInOrder s t x e.act) (λ x h who here. order-at s t e x h is alike.0 who here))

-- **items are in order, in every run**
pub items-in-order : (s : Scen) (t : List Entry) → IsScen s → IsRun s t → length t ≤ CHOICES_MOST → ItemsInOrder s t
items-in-order s t scen is few = in-order s t is (jobs-answer-alike s t scen is few)
