-- An answer of Done to a COMMIT or a ROLL means the same in every later log.
use Rattle.std.proofs.Common.{Bool, IfSome, List, None, Option, Some, arith, false, refl, subst, sym, true, ◌&&◌, ◌≡◌, ◌≤◌, ◌∙◌, ◌∷◌, ℕ}
use Rattle.xrf_base.specs.declared.items.Item.{Item}
use Rattle.xrf_base.specs.declared.items.UnitId.{UnitId}
use Rattle.xrf_base.specs.declared.site.Site.{Site}
use Rattle.xrf_logrec.specs.declared.records.LogRec.{LogRec}
use Rattle.xrf_history.specs.Events.{Event}
use Rattle.xrf_history.specs.Holding.{is_granted, number}
use Rattle.xrf_history.specs.Next.{next}
use Rattle.xrf_trace.specs.AtHand.{OfItem, item_at_hand, open_unit}
use Rattle.xrf_trace.specs.Each.{AtSite, Where}
use Rattle.xrf_trace.specs.Entries.{inc_at}
use Rattle.xrf_trace.specs.Items.{answer_by}
use Rattle.xrf_trace.specs.UnitsAreItems.{AnswersMean, EndsAs, IsNeverCommitted, StaysCommitted, answers_done, has_put}
use Rattle.xrf_trace.specs.declared.entry.Act.{Act}
use Rattle.xrf_trace.specs.declared.entry.Entry.{Entry}
use Rattle.xrf_trace.specs.declared.entry.Land.{Land}
use Rattle.xrf_trace.specs.declared.entry.Who.{Who}
use Rattle.xrf_trace.specs.Acts.{act_of}
use Rattle.xrf_trace.specs.Devices.{control, control_after}
use Rattle.xrf_trace.specs.Jobs.{handed, hist}
use Rattle.xrf_trace.specs.Landing.{is_in_full}
use Rattle.xrf_trace.specs.Log.{is_committed, log}
use Rattle.xrf_trace.specs.Scenario.{Scen, other, settings}
use Rattle.xrf_trace.specs.Words.{now}
use Rattle.xrf_trace.proofs.AtSites.{at-site, of-job}
use Rattle.xrf_trace.proofs.ByKind.{Kinds, by_kind, is_quiet, made}
use Rattle.xrf_trace.proofs.JobSteps.{is-own}
use Rattle.xrf_trace.proofs.Steps.{Step}
use Rattle.xrf_log_law.specs.ClosedUnits.{IsClosed, ShutFor}
use Rattle.xrf_log_law.specs.Serving.{site_after}
use Rattle.xrf_log_law.proofs.ClosedUnitsLaw.{keeps, last-after, stays-closed}
use Rattle.xrf_log_law.proofs.AnswersLaw.{Means, OfEnd, ShutAt, means-done}
use Rattle.xrf_log_law.proofs.RangeEntries.{at-own}
use Rattle.xrf_log_law.proofs.SitesAfter.{OwnAfter, full-after, unless-gone, own-other, sites-after}
use Rattle.xrf_log_law.proofs.InvariantActs.{before-next}
use Rattle.xrf_log_law.specs.Invariant.{Invariant}
use Rattle.xrf_log_law.proofs.Tests.{where-later, where-none}
use Rattle.xrf_base.specs.declared.items.Item.TheVariants as items
use Rattle.xrf_base.specs.declared.site.Site.TheVariants as site
use Rattle.xrf_trace.specs.declared.entry.Act.TheVariants as act
use Rattle.xrf_trace.specs.declared.entry.Land.TheVariants as land

-- an end, as it is in a log, of a unit that is closed
pub record Ended (s : Scen) (t : List Entry) (unit_now : List ℕ → Option UnitId) (item : Item) : Type 0 where
  pub says : EndsAs (log t) unit_now item
  pub closed : OfEnd unit_now item (IsClosed s t)

-- where an entry answers Done, its item has ended its unit so, as the later trace has it
abbrev pub EndedBy : Scen → (later before : List Entry) → Entry → Site → Type 0
EndedBy s later before e x =
    Where (is_in_full e.land && answers_done (answer_by s before x e.act)) (OfItem (item_at_hand s (e ∷ before) x) (Ended s later (open_unit s before x)))

-- it stays so
where-same : (b c d f : Bool) → c ≡ b → f ≡ d → Where b (d ≡ true) → Where c (f ≡ true)
where-same true true d f same is holds = is ∙ holds
where-same true false d f same is holds = tt
where-same false true d f same is holds = absurd (cc)
where-same false false d f same is holds = tt

-- a fact of a log and a closed unit holds after an entry
abbrev LaterOf : Scen → List Entry → Entry → (List LogRec → Option UnitId → Type 0) → Option UnitId → Type 0
LaterOf s t e fact o = fact (log t) o → IfSome o (IsClosed s t) → fact (log (e ∷ t)) o × IfSome o (IsClosed s (e ∷ t))

-- what was committed is
commit-later : (s : Scen) (t : List Entry) (e : Entry) → Invariant s t → Step s t e → (o : Option UnitId) → LaterOf s t e StaysCommitted o
commit-later s t e k step None says closed = absurd says
commit-later s t e k step (Some unit) says closed =
    let same = keeps s t e k step unit closed in (
      where-same (has_put (log t) unit) (has_put (log (e ∷ t)) unit) (is_committed (log t) unit) (is_committed (log (e ∷ t)) unit) same.put same.committed says,
      stays-closed s t e k step unit closed,
    )

-- what was rolled is never committed
roll-later : (s : Scen) (t : List Entry) (e : Entry) → Invariant s t → Step s t e → (o : Option UnitId) → LaterOf s t e IsNeverCommitted o
roll-later s t e k step None says closed = absurd says
roll-later s t e k step (Some unit) says closed = ((keeps s t e k step unit closed).committed ∙ says, stays-closed s t e k step unit closed)

-- so the end of an item stays
ended-later : (s : Scen) (t : List Entry) (e : Entry) → Invariant s t → Step s t e → (unit_now : List ℕ → Option UnitId) (item : Item)
    → Ended s t unit_now item → Ended s (e ∷ t) unit_now item
ended-later s t e k step unit_now (items.Commit name) ended =
    let later = commit-later s t e k step (unit_now name) ended.says ended.closed in record { says = later.0; closed = later.1 }
ended-later s t e k step unit_now (items.Roll name) ended =
    let later = roll-later s t e k step (unit_now name) ended.says ended.closed in record { says = later.0; closed = later.1 }
ended-later s t e k step unit_now _ ended = record { says = tt; closed = tt }

-- a fact of the item at hand that follows from another
of-item-later : (o : Option Item) (fact later : Item → Type 0) → ((item : Item) → fact item → later item) → OfItem o fact → OfItem o later
of-item-later None fact later on holds = holds
of-item-later (Some item) fact later on holds = on item holds

-- so what an earlier entry ended stays
ended-by-later : (s : Scen) (t : List Entry) (e : Entry) → Invariant s t → Step s t e → (before : List Entry) (old : Entry) (x : Site)
    → EndedBy s t before old x → EndedBy s (e ∷ t) before old x
ended-by-later s t e k step before old x =
    where-later (is_in_full old.land && answers_done (answer_by s before x old.act)) _ _
    (of-item-later (item_at_hand s (old ∷ before) x) (Ended s t (open_unit s before x)) (Ended s (e ∷ t) (open_unit s before x))
    (ended-later s t e k step (open_unit s before x)))

-- an entry that ends a unit closes it
other-shut : (s : Scen) (t : List Entry) (x : Site) (unit : UnitId) (job : Option (List Event))
    → ((g : List Event) → job ≡ Some g → is_granted g ≡ true → number g ≡ unit.inc → ⊥) → IfSome job (ShutFor (settings s (other x)) unit)
other-shut s t x unit None apart = tt
other-shut s t x unit (Some g) apart = λ granted same. absurd (apart g refl granted same)

-- its unit is closed at both sites
closes : (s : Scen) (t : List Entry) (x : Site) (h : List Event) (a : Act) (unit : UnitId) → Invariant s t
    → hist s t x ≡ Some h → act_of s t x h (next (settings s x) h) ≡ Some a
    → ShutAt (settings s x) h (handed s t x (now t) h a ∷ h) unit → IsClosed s (made t x (inc_at a (Some h)) a land.Full ∷ t) unit
closes s t x h a unit k job is shut =
    let b = before-next s t x h k job in
    let last : (control t).last ≤ (control_after a land.Full (control t)).last =
    subst (λ (o : Option Act). IfSome o (λ c. (control t).last ≤ (control_after c land.Full (control t)).last)) is
    (last-after s t x h (next (settings s x) h) land.Full b) in
    record {
      used = omega (arith, shut.own, (b.held shut.granted).given, last);
      jobs = sites-after s t x (inc_at a (Some h)) a land.Full (λ y. ShutFor (settings s y) unit)
          (subst (λ (o : Option (List Event)). OwnAfter s t x a land.Full o (ShutFor (settings s x) unit)) (sym job)
          (full-after s t x h a (ShutFor (settings s x) unit) (is-own s t x h (next (settings s x) h) a is)
          (unless-gone a _ (λ granted same. (shut.restarted, shut.shut)))))
          (own-other s t x h a (hist s t (other x)) is)
          (other-shut s t x unit (hist s t (other x)) (λ g there granted same. k.known.apart x h g job there shut.granted granted (sym shut.own ∙ sym same)));
    }

-- a fact of a unit that follows from another
if-closes : (o : Option UnitId) (fact later : UnitId → Type 0) → ((unit : UnitId) → fact unit → later unit) → IfSome o fact → IfSome o later
if-closes None fact later on holds = tt
if-closes (Some unit) fact later on holds = on unit holds

-- and of the unit that an item ends
end-closes : (unit_now : List ℕ → Option UnitId) (item : Item) (fact later : UnitId → Type 0) → ((unit : UnitId) → fact unit → later unit)
    → OfEnd unit_now item fact → OfEnd unit_now item later
end-closes unit_now (items.Commit name) fact later on holds = if-closes (unit_now name) fact later on holds
end-closes unit_now (items.Roll name) fact later on holds = if-closes (unit_now name) fact later on holds
end-closes unit_now _ fact later on holds = tt

-- by how the act lands
abbrev EndsNow : Scen → List Entry → Site → List Event → Act → Land → Type 0
EndsNow s t x h a l =
    Where (is_in_full l && answers_done (answer_by s t x a))
    (OfItem (site_after s t x a l).item (Ended s (made t x (inc_at a (Some h)) a l ∷ t) (open_unit s t x)))

-- an act in full ends its unit so, and no other act answers
ends-now : (s : Scen) (t : List Entry) (x : Site) (h : List Event) (a : Act) (l : Land) → Invariant s t → hist s t x ≡ Some h
    → act_of s t x h (next (settings s x) h) ≡ Some a → EndsNow s t x h a l
ends-now s t x h a land.Lost k job is = tt
ends-now s t x h a (land.Stop cut) k job is = tt
ends-now s t x h a (land.Fail cut) k job is = tt
ends-now s t x h a land.Full k job is =
    let b = before-next s t x h k job in
    let means : Means s t x h a = subst (λ (o : Option Act). IfSome o (Means s t x h)) is (means-done s t x h (next (settings s x) h) b) in
    where-later (answers_done (answer_by s t x a)) _ _
    (of-item-later (site_after s t x a land.Full).item _ _
    (λ item ends. record {
      says = ends.says;
      closed =
          end-closes (open_unit s t x) item (ShutAt (settings s x) h (handed s t x (now t) h a ∷ h))
          (IsClosed s (made t x (inc_at a (Some h)) a land.Full ∷ t)) (λ unit shut. closes s t x h a unit k job is shut) ends.shut;
    }))
    means

-- by site
abbrev pub EndedHere : Scen → List Entry → Entry → Type 0
EndedHere s t e = AtSite s t e.who (λ x h. EndedBy s (e ∷ t) t e x)

-- an act of a job, seen from its site
entry-ends : (s : Scen) (t : List Entry) (x : Site) (h : List Event) (a : Act) (l : Land) → hist s t x ≡ Some h → EndsNow s t x h a l
    → EndedHere s t (made t x (inc_at a (Some h)) a l)
entry-ends s t site.A h a l job ends =
    of-job (hist s t site.A) (λ g. EndedBy s (made t site.A (inc_at a (Some h)) a l ∷ t) t (made t site.A (inc_at a (Some h)) a l) site.A)
    (λ g e. ends)
entry-ends s t site.B h a l job ends =
    of-job (hist s t site.B) (λ g. EndedBy s (made t site.B (inc_at a (Some h)) a l ∷ t) t (made t site.B (inc_at a (Some h)) a l) site.B)
    (λ g e. ends)

-- an entry that answers nothing ends nothing
none-ends : (s : Scen) (t : List Entry) (x : Site) (i : ℕ) (a : Act) (l : Land) → answers_done (answer_by s t x a) ≡ false → EndedHere s t (made t x i a l)
none-ends s t site.A i a l none =
    of-job (hist s t site.A) (λ g. EndedBy s (made t site.A i a l ∷ t) t (made t site.A i a l) site.A)
    (λ g e. where-none (is_in_full l) (answers_done (answer_by s t site.A a)) _ none)
none-ends s t site.B i a l none =
    of-job (hist s t site.B) (λ g. EndedBy s (made t site.B i a l ∷ t) t (made t site.B i a l) site.B)
    (λ g e. where-none (is_in_full l) (answers_done (answer_by s t site.B a)) _ none)

-- a choice that reaches a job answers nothing
quiet-none : (s : Scen) (t : List Entry) (x : Site) (a : Act) → is_quiet a ≡ true → answers_done (answer_by s t x a) ≡ false
quiet-none s t x act.Abend quiet = refl
quiet-none s t x (act.Reply go) quiet = refl
quiet-none s t x (act.Cebt command reply) quiet = refl
quiet-none s t x (act.Exit said) quiet = refl
quiet-none s t x act.NoAct quiet = refl
quiet-none s t x _ quiet = absurd (cc)

-- of each kind of entry
ended-kinds : (s : Scen) (t : List Entry) → Invariant s t → Kinds s t (λ e. EndedHere s t e)
ended-kinds s t k = record {
  tick = tt;
  confirm = λ n. tt;
  acts = λ x h a l job is fits may. entry-ends s t x h a l job (ends-now s t x h a l k job is);
  quiet = λ x i a quiet. none-ends s t x i a land.Full (quiet-none s t x a quiet);
  stop = λ x i cut. none-ends s t x i act.NoAct (land.Stop cut) refl;
  active = λ x. none-ends s t x 0 act.StartActive land.Full refl;
  standby = λ x. none-ends s t x 0 act.StartStandby land.Full refl;
}

-- of each entry
pub ends-here : (s : Scen) (t : List Entry) (e : Entry) → Invariant s t → Step s t e → EndedHere s t e
ends-here s t e k step = by_kind s t e (λ e. EndedHere s t e) step (ended-kinds s t k)

-- an earlier end is one still
pub ends-still : (s : Scen) (t : List Entry) (e : Entry) → Invariant s t → Step s t e → (before : List Entry) (old : Entry)
    → AtSite s before old.who (λ x h. EndedBy s t before old x) → AtSite s before old.who (λ x h. EndedBy s (e ∷ t) before old x)
ends-still s t e k step before old all =
    at-site s before old.who (λ x h. EndedBy s (e ∷ t) before old x)
    (λ x h who there. ended-by-later s t e k step before old x
    (at-own s before x h (λ y g. EndedBy s t before old y) there (subst (λ (w : Who). AtSite s before w (λ y g. EndedBy s t before old y)) who all)))

-- so each answer means what it says
pub answer-means : (s : Scen) (t before : List Entry) (e : Entry) → AtSite s before e.who (λ x h. EndedBy s t before e x)
    → AtSite s before e.who (λ x h. AnswersMean s (log t) before e x)
answer-means s t before e all =
    at-site s before e.who (λ x h. AnswersMean s (log t) before e x)
    (λ x h who there.
    where-later (is_in_full e.land && answers_done (answer_by s before x e.act)) _ _
    (of-item-later (item_at_hand s (e ∷ before) x) (Ended s t (open_unit s before x)) (EndsAs (log t) (open_unit s before x)) (λ item ended. ended.says))
    (at-own s before x h (λ y g. EndedBy s t before e y) there (subst (λ (w : Who). AtSite s before w (λ y g. EndedBy s t before e y)) who all)))
