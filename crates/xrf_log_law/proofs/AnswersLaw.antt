-- What an answer of Done means for the unit of a COMMIT or ROLL, and that the trace answers as the job does.
use Rattle.std.proofs.Common.{List, Bool, Some, false, refl, sym, true, ◌≡◌, ℕ, ◌∷◌, ◌∙◌, IfSome, Option, subst, ◌+◌, None, ap, if◌then◌else◌}
use Rattle.xrf_base.specs.declared.site.Site.{Site}
use Rattle.xrf_base.specs.declared.items.Item.{Item}
use Rattle.xrf_logrec.specs.declared.records.LogRec.{LogRec}
use Rattle.xrf_file.specs.declared.answers.Plan.{Plan}
use Rattle.xrf_file.specs.Ledger.{Ledger, plan_of, ended, after_end, commit_plan, roll_plan}
use Rattle.xrf_history.specs.Events.{Event, LogOpened, RecordWritten, Given}
use Rattle.xrf_history.specs.Holding.{is_restarted, is_granted, is_owner, number}
use Rattle.xrf_history.specs.Working.{last_plan as plan_of_job, item_answer, answer_of_read, answer_of_plan, answer_of_record, ledger, answer_of_slot, after_record}
use Rattle.xrf_history.specs.Next.{record_of_plan, slot_read}
use Rattle.xrf_history.specs.declared.want.Want.{Want}
use Rattle.xrf_history.specs.Restarting.{has_read_block}
use Rattle.xrf_trace.specs.declared.entry.Act.{Act}
use Rattle.xrf_trace.specs.declared.entry.Entry.{Entry}
use Rattle.xrf_trace.specs.Scenario.{Scen, settings, item_at}
use Rattle.xrf_trace.specs.Log.{log, log_after, is_committed}
use Rattle.xrf_trace.specs.Each.{Where}
use Rattle.xrf_trace.specs.Items.{answer_of_end, is_working, last_plan, answer_by, answer_at_item, answer_of_terminals, ledger_at}
use Rattle.xrf_trace.specs.Acts.{act_of}
use Rattle.xrf_trace.specs.Devices.{image}
use Rattle.xrf_trace.specs.Words.{items_taken, now}
use Rattle.xrf_trace.specs.Jobs.{handed, item_event, block_event}
use Rattle.xrf_log_law.specs.Serving.{site_after, OfPlan, IsRead, Serving, given_last, Serves, site_view, IsWrite}
use Rattle.xrf_log_law.proofs.JobActs.{of-item}
use Rattle.xrf_log_law.proofs.ReadsLaw.{at-work, item-at, AtWork, of-now}
use Rattle.xrf_log_law.proofs.DueInSequence.{plan-hand}
use Rattle.xrf_log_law.proofs.ActsOfPlans.{next-of}
use Rattle.xrf_trace.specs.UnitsAreItems.{EndsAs, IsNeverCommitted, StaysCommitted, answers_done, has_put}
use Rattle.xrf_trace.specs.AtHand.{OfItem, item_at_hand, open_unit}
use Rattle.xrf_log_law.specs.ClosedUnits.{IsShut}
use Rattle.xrf_log_law.proofs.AskedLaw.{cold-put, open-here, open-named}
use Rattle.xrf_log_law.proofs.ShutUnits.{cold-shut, ended-shut}
use Rattle.xrf_log_law.proofs.EndsInLog.{commit-commits, open-uncommitted}
use Rattle.xrf_log_law.proofs.BeforeActs.{Before}
use Rattle.xrf_log_law.proofs.ServingActs.{item-joined}
use Rattle.xrf_log_law.proofs.OwnRanges.{units-of}
use Rattle.xrf_history.proofs.Holding.{owner-granted}
use Rattle.xrf_history.specs.Progress.{is_active}
use Rattle.xrf_log_law.specs.AtWork.{PlanNamed, IsOpenUnit}
use Rattle.xrf_base.specs.Values.{slot_reading}
use Rattle.xrf_logrec.specs.declared.records.LogRec.TheVariants.{Commit, Backout, Put}
use Rattle.xrf_history.specs.declared.settings.Settings.{Settings}
use Rattle.xrf_base.specs.declared.items.UnitId.{UnitId}
use Rattle.xrf_file.specs.Rows.{is_hot}
use Rattle.xrf_base.specs.declared.items.ItemAnswer.TheVariants.{Done}
use Rattle.xrf_log_law.proofs.SameRecords.{same-backout, same-commit}
use Rattle.xrf_log_law.proofs.Tests.{and-left, where-is, where-not}
use Rattle.xrf_base.specs.declared.items.Item.TheVariants as items
use Rattle.xrf_file.specs.declared.answers.Plan.TheVariants as plans
use Rattle.xrf_history.specs.declared.want.Want.TheVariants as want
use Rattle.xrf_trace.specs.declared.entry.Land.TheVariants as land

-- what an answer of Done means for the unit of its item, by the log and the history after the act
abbrev pub OfEnd : (List ℕ → Option UnitId) → Item → (UnitId → Type 0) → Type 0
OfEnd unit_now (items.Commit name) fact = IfSome (unit_now name) fact
OfEnd unit_now (items.Roll name) fact = IfSome (unit_now name) fact
OfEnd unit_now _ fact = Unit {0}

-- a unit of the job that made the act, which is shut after it
pub record ShutAt (p : Settings) (h later : List Event) (unit : UnitId) : Type 0 where
  pub own : unit.inc ≡ number h
  pub granted : is_granted h ≡ true
  pub restarted : is_restarted later ≡ true
  pub shut : IsShut (ledger p later) unit

-- the end of a unit, in the log and in the history after the act
pub record Ends (p : Settings) (log : List LogRec) (h later : List Event) (unit_now : List ℕ → Option UnitId) (item : Item) : Type 0 where
  pub says : EndsAs log unit_now item
  pub shut : OfEnd unit_now item (ShutAt p h later)

-- where the act answers Done, its item has ended its unit so
abbrev pub Means : Scen → List Entry → Site → List Event → Act → Type 0
Means s t x h a =
    Where (answers_done (answer_by s t x a))
    (OfItem (site_after s t x a land.Full).item (Ends (settings s x) (log_after a land.Full (log t)) h (handed s t x (now t) h a ∷ h) (open_unit s t x)))

-- the unit of a name is of the job's incarnation, and one of those that it began
open-own : (s : Scen) (t : List Entry) (x : Site) (h : List Event) (w : Want) (unit : UnitId) → AtWork s t x h w
    → IsOpenUnit unit (ledger (settings s x) h).units
    → unit.inc ≡ number h
open-own s t x h w unit at here = (units-of (settings s x) h unit here).0 ∙ at.serves.1

-- a job at work holds a number
pub work-granted : (h : List Event) → is_active h ≡ true → is_granted h ≡ true
work-granted h there = owner-granted h (and-left (is_owner h) _ there)

-- an item of another kind promises nothing at its end
abbrev is_end : Item → Bool
is_end (items.Commit name) = true
is_end (items.Roll name) = true
is_end _ = false

-- an item that is neither COMMIT nor ROLL ends no unit
ends-other : (p : Settings) (records : List LogRec) (h later : List Event) (unit_now : List ℕ → Option UnitId) (item : Item) → is_end item ≡ false
    → Ends p records h later unit_now item
ends-other p records h later unit_now (items.Commit name) e = absurd (cc)
ends-other p records h later unit_now (items.Roll name) e = absurd (cc)
ends-other p records h later unit_now _ e = record { says = tt; shut = tt }

-- an item that is answered at its ITEM
item-means : (s : Scen) (t : List Entry) (x : Site) (h : List Event) → Before s t x h want.Item → (o : Option Item)
    → Where (answers_done (answer_at_item s t x o)) (OfItem o (Ends (settings s x) (log t) h (item_event o ∷ h) (open_unit s t x)))
item-means s t x h b None = tt
item-means s t x h b (Some (items.Commit name)) = by (open_unit s t x name) refl
  where
    at : AtWork s t x h want.Item
    at = at-work s t x h want.Item b refl b.due.0

    cold : (unit : UnitId) → is_hot unit (ledger_at s t x).puts ≡ false → is_hot unit (ledger (settings s x) h).puts ≡ false
    cold unit e = sym (ap (λ (l : Ledger). is_hot unit l.puts) (item-joined s t x h b)) ∙ e

    hot : (unit : UnitId) (c : Bool) → open_unit s t x name ≡ Some unit → is_hot unit (ledger_at s t x).puts ≡ c
        → Where (answers_done (answer_of_plan (if c then plans.Commit unit (ledger_at s t x).next else plans.Answer Done)))
        (Ends (settings s x) (log t) h (Given (items.Commit name) ∷ h) (open_unit s t x) (items.Commit name))
    hot unit true is e = tt
    hot unit false is e =
        let here : IsOpenUnit unit (ledger (settings s x) h).units = open-here s t x h want.Item name unit at is in
        record {
          says = subst (StaysCommitted (log t)) (sym is)
              (where-not (has_put (log t) unit) _
              (cold-put unit (log t) (at.ledgers.unended unit here) (sym (ap (is_hot unit) at.ledgers.puts) ∙ cold unit e)));
          shut = subst (λ (o : Option UnitId). IfSome o (ShutAt (settings s x) h (Given (items.Commit name) ∷ h))) (sym is)
              (record {
                own = open-own s t x h want.Item unit at here;
                granted = work-granted h at.there;
                restarted = b.due.0;
                shut = subst (λ (o : Option UnitId). IsShut (after_end (ledger (settings s x) h) o) unit) (sym is ∙ open-named s t x h want.Item name at)
                    (cold-shut (ledger (settings s x) h) unit (at.ledgers.small unit here) (cold unit e));
              });
        }

    by : (q : Option UnitId) → open_unit s t x name ≡ q
        → Where (answers_done (answer_of_plan (commit_plan (ledger_at s t x) q)))
        (Ends (settings s x) (log t) h (Given (items.Commit name) ∷ h) (open_unit s t x) (items.Commit name))
    by None is = tt
    by (Some unit) is = hot unit (is_hot unit (ledger_at s t x).puts) is refl
item-means s t x h b (Some (items.Roll name)) = by (open_unit s t x name) refl
  where
    at : AtWork s t x h want.Item
    at = at-work s t x h want.Item b refl b.due.0

    cold : (unit : UnitId) → is_hot unit (ledger_at s t x).puts ≡ false → is_hot unit (ledger (settings s x) h).puts ≡ false
    cold unit e = sym (ap (λ (l : Ledger). is_hot unit l.puts) (item-joined s t x h b)) ∙ e

    hot : (unit : UnitId) (c : Bool) → open_unit s t x name ≡ Some unit → is_hot unit (ledger_at s t x).puts ≡ c
        → Where (answers_done (answer_of_plan (if c then plans.Roll unit (ledger_at s t x).next else plans.Answer Done)))
        (Ends (settings s x) (log t) h (Given (items.Roll name) ∷ h) (open_unit s t x) (items.Roll name))
    hot unit true is e = tt
    hot unit false is e =
        let here : IsOpenUnit unit (ledger (settings s x) h).units = open-here s t x h want.Item name unit at is in
        record {
          says = subst (IsNeverCommitted (log t)) (sym is) (open-uncommitted unit (log t) (at.ledgers.unended unit here));
          shut = subst (λ (o : Option UnitId). IfSome o (ShutAt (settings s x) h (Given (items.Roll name) ∷ h))) (sym is)
              (record {
                own = open-own s t x h want.Item unit at here;
                granted = work-granted h at.there;
                restarted = b.due.0;
                shut = subst (λ (o : Option UnitId). IsShut (after_end (ledger (settings s x) h) o) unit) (sym is ∙ open-named s t x h want.Item name at)
                    (cold-shut (ledger (settings s x) h) unit (at.ledgers.small unit here) (cold unit e));
              });
        }

    by : (q : Option UnitId) → open_unit s t x name ≡ q
        → Where (answers_done (answer_of_plan (roll_plan (ledger_at s t x) q)))
        (Ends (settings s x) (log t) h (Given (items.Roll name) ∷ h) (open_unit s t x) (items.Roll name))
    by None is = tt
    by (Some unit) is = hot unit (is_hot unit (ledger_at s t x).puts) is refl
item-means s t x h b (Some item) = where-is _ _ (ends-other (settings s x) (log t) h (Given item ∷ h) (open_unit s t x) item refl)

-- a GET is not answered Done
get-done : (fact : Type 0) (plan : Plan) (slot : List ℕ) → Where (answers_done (answer_of_read plan slot)) fact
get-done fact (plans.Get k) slot = by (slot_reading slot)
  where
    by : (o : Option (Option (List ℕ))) → Where (answers_done (Some (answer_of_slot o))) fact
    by None = tt
    by (Some None) = tt
    by (Some (Some value)) = tt
get-done fact (plans.Put u k value place) slot = tt
get-done fact (plans.Commit u place) slot = tt
get-done fact (plans.Roll u place) slot = tt
get-done fact (plans.Answer a) slot = tt

-- the write of a PUT ends no unit
put-means : (s : Scen) (t : List Entry) (x : Site) (h : List Event) (unit : UnitId) (rrn : ℕ) (value : List ℕ) (plan : Plan)
    → Serves (settings s x) h (site_view s t x)
    → Serving (given_last h) (ledger (settings s x) h) plan → IsWrite plan unit rrn value
    → OfItem (item_at_hand s t x) (Ends (settings s x) (log t) h (RecordWritten unit rrn value ∷ h) (open_unit s t x))
put-means s t x h unit rrn value (plans.Put u k v place) serves serving same =
    of-now (Ends (settings s x) (log t) h (RecordWritten unit rrn value ∷ h) (open_unit s t x)) (item_at_hand s t x) (items.Put serving.0 k v)
    (item-at s t x h _ serves serving.1).0
    (ends-other (settings s x) (log t) h (RecordWritten unit rrn value ∷ h) (open_unit s t x) (items.Put serving.0 k v) refl)
put-means s t x h unit rrn value (plans.Get k) serves serving same = absurd same
put-means s t x h unit rrn value (plans.Commit u place) serves serving same = absurd same
put-means s t x h unit rrn value (plans.Roll u place) serves serving same = absurd same
put-means s t x h unit rrn value (plans.Answer a) serves serving same = absurd same

-- the record that ends a unit
-- it shuts its unit
shut-here : (s : Scen) (t : List Entry) (x : Site) (h : List Event) (w : Want) (place : ℕ) (rec : LogRec) (unit : UnitId) → AtWork s t x h w
    → is_restarted h ≡ true
    → IsOpenUnit unit (ledger (settings s x) h).units → IsShut (after_record rec (ledger (settings s x) h)) unit
    → ShutAt (settings s x) h (LogOpened place rec ∷ h) unit
shut-here s t x h w place rec unit at working here is =
    record { own = open-own s t x h w unit at here; granted = work-granted h at.there; restarted = working; shut = is }

-- where the record of a plan joins the log
end-means : (s : Scen) (t : List Entry) (x : Site) (h : List Event) (w : Want) (slot : List ℕ) (place : ℕ) (rec : LogRec) (plan : Plan)
    → Before s t x h w → AtWork s t x h w → is_restarted h ≡ true
    → record_of_plan plan slot ≡ Some rec → PlanNamed (ledger (settings s x) h).units plan → Serving (given_last h) (ledger (settings s x) h) plan
    → Where (answers_done (answer_of_record rec)) (OfItem (item_at_hand s t x)
    (Ends (settings s x) (rec ∷ log t) h (LogOpened place rec ∷ h) (open_unit s t x)))
end-means s t x h w slot place (Put unit rrn before) plan b at working hand named serving = tt
end-means s t x h w slot place (Commit unit) (plans.Commit u number) b at working hand named serving =
    let is : open_unit s t x serving.0 ≡ Some u = open-named s t x h w serving.0 at ∙ serving.2 named in
    let same : u ≡ unit = same-commit u unit hand in
    of-now (Ends (settings s x) (Commit unit ∷ log t) h (LogOpened place (Commit unit) ∷ h) (open_unit s t x)) (item_at_hand s t x)
    (items.Commit serving.0) (item-at s t x h _ b.serves serving.1).0
    (record {
      says = subst (StaysCommitted (Commit unit ∷ log t)) (sym is)
          (where-is (has_put (Commit unit ∷ log t) u) _ (subst (λ (q : UnitId). is_committed (Commit q ∷ log t) u ≡ true) same (commit-commits u (log t))));
      shut = subst (λ (o : Option UnitId). IfSome o (ShutAt (settings s x) h (LogOpened place (Commit unit) ∷ h))) (sym is)
          (shut-here s t x h w place (Commit unit) u at working named
          (subst (λ (q : UnitId). IsShut (ended (ledger (settings s x) h) q) u) same (ended-shut (ledger (settings s x) h) u (at.ledgers.small u named))));
    })
end-means s t x h w slot place (Backout unit) (plans.Roll u number) b at working hand named serving =
    let is : open_unit s t x serving.0 ≡ Some u = open-named s t x h w serving.0 at ∙ serving.2 named in
    let same : u ≡ unit = same-backout u unit hand in
    of-now (Ends (settings s x) (Backout unit ∷ log t) h (LogOpened place (Backout unit) ∷ h) (open_unit s t x)) (item_at_hand s t x)
    (items.Roll serving.0) (item-at s t x h _ b.serves serving.1).0
    (record {
      says = subst (IsNeverCommitted (Backout unit ∷ log t)) (sym is) (open-uncommitted u (log t) (at.ledgers.unended u named));
      shut = subst (λ (o : Option UnitId). IfSome o (ShutAt (settings s x) h (LogOpened place (Backout unit) ∷ h))) (sym is)
          (shut-here s t x h w place (Backout unit) u at working named
          (subst (λ (q : UnitId). IsShut (ended (ledger (settings s x) h) q) u) same (ended-shut (ledger (settings s x) h) u (at.ledgers.small u named))));
    })
end-means s t x h w slot place (Commit unit) (plans.Roll u number) b at working hand named serving = absurd (cc)
end-means s t x h w slot place (Commit unit) (plans.Put u k value number) b at working hand named serving = absurd (cc)
end-means s t x h w slot place (Commit unit) (plans.Get k) b at working hand named serving = absurd (cc)
end-means s t x h w slot place (Commit unit) (plans.Answer a) b at working hand named serving = absurd (cc)
end-means s t x h w slot place (Backout unit) (plans.Commit u number) b at working hand named serving = absurd (cc)
end-means s t x h w slot place (Backout unit) (plans.Put u k value number) b at working hand named serving = absurd (cc)
end-means s t x h w slot place (Backout unit) (plans.Get k) b at working hand named serving = absurd (cc)
end-means s t x h w slot place (Backout unit) (plans.Answer a) b at working hand named serving = absurd (cc)

-- so of each LOGOPEN
log-means : (s : Scen) (t : List Entry) (x : Site) (h : List Event) (place : ℕ) (rec : LogRec) → Before s t x h (want.LogOpen place rec)
    → (restarted : Bool) → is_restarted h ≡ restarted
    → Where (answers_done (answer_of_end restarted rec)) (OfItem (item_at_hand s t x)
    (Ends (settings s x) (rec ∷ log t) h (LogOpened place rec ∷ h) (open_unit s t x)))
log-means s t x h place rec b false is = tt
log-means s t x h place rec b true is =
    let at = at-work s t x h (want.LogOpen place rec) b refl is in
    let hand : record_of_plan (plan_of_job (settings s x) h) (slot_read h) ≡ Some rec = sym (plan-hand (settings s x) h is) ∙ b.due.3 in
    end-means s t x h (want.LogOpen place rec) (slot_read h) place rec (plan_of_job (settings s x) h) b at is hand (b.named at.there at.sound is) at.serves.2

-- each act
pub means-done : (s : Scen) (t : List Entry) (x : Site) (h : List Event) (w : Want) → Before s t x h w → IfSome (act_of s t x h w) (Means s t x h)
means-done s t x h want.Nothing b = tt
means-done s t x h (want.Exit told) b = tt
means-done s t x h want.Item b = of-item s t x (Means s t x h) (item-means s t x h b (item_at s x (items_taken t x + 1)))
means-done s t x h (want.FileRead k) b = get-done _ (last_plan s t x) (image s t k)
means-done s t x h (want.FileWrite unit rrn value) b =
    let at = at-work s t x h (want.FileWrite unit rrn value) b refl b.due.2 in
    put-means s t x h unit rrn value (plan_of_job (settings s x) h) b.serves at.serves.2
    (subst (OfPlan (plan_of_job (settings s x) h)) b.is (next-of (settings s x) h))
means-done s t x h (want.LogOpen place rec) b =
    subst (λ (o : Option (List Event)). Where (answers_done (answer_of_end (is_working o) rec))
    (OfItem (item_at_hand s t x) (Ends (settings s x) (rec ∷ log t) h (LogOpened place rec ∷ h) (open_unit s t x)))) (sym b.job)
    (log-means s t x h place rec b (is_restarted h) refl)
means-done s t x h _ b = tt

-- the trace answers as the job does
abbrev pub Same : Scen → List Entry → Site → List Event → Act → Type 0
Same s t x h a = answer_by s t x a ≡ item_answer (settings s x) (handed s t x (now t) h a ∷ h)

-- an item is at hand where its plan reads the file
given-some : (given : Option Item) (l : Ledger) (plan : Plan) (k : ℕ) → Serving given l plan → IsRead plan k → (item : Item) × (given ≡ Some item)
given-some given l (plans.Put u n value place) k serving same = (_, serving.1)
given-some given l (plans.Get n) k serving same = (_, serving.1)
given-some given l (plans.Commit u place) k serving same = absurd same
given-some given l (plans.Roll u place) k serving same = absurd same
given-some given l (plans.Answer a) k serving same = absurd same

-- an item that is answered at its ITEM is answered alike
item-same : (s : Scen) (t : List Entry) (x : Site) (h : List Event) → Before s t x h want.Item → (o : Option Item)
    → answer_at_item s t x o ≡ item_answer (settings s x) (item_event o ∷ h)
item-same s t x h b None = refl
item-same s t x h b (Some (items.Begin name)) = ap (λ (l : Ledger). answer_of_plan (plan_of l (items.Begin name))) (item-joined s t x h b)
item-same s t x h b (Some (items.Put name k value)) = ap (λ (l : Ledger). answer_of_plan (plan_of l (items.Put name k value))) (item-joined s t x h b)
item-same s t x h b (Some (items.Get name k)) = ap (λ (l : Ledger). answer_of_plan (plan_of l (items.Get name k))) (item-joined s t x h b)
item-same s t x h b (Some (items.Commit name)) = ap (λ (l : Ledger). answer_of_plan (plan_of l (items.Commit name))) (item-joined s t x h b)
item-same s t x h b (Some (items.Roll name)) = ap (λ (l : Ledger). answer_of_plan (plan_of l (items.Roll name))) (item-joined s t x h b)
item-same s t x h b (Some item) = ap (answer_of_terminals s x item) b.job

-- so is a unit that ends
end-same : (b : Bool) (rec : LogRec) → answer_of_end b rec ≡ (elim b [ true ↦ answer_of_record rec | false ↦ None ])
end-same true rec = refl
end-same false rec = refl

-- each act answers as its job has it
pub answers-same : (s : Scen) (t : List Entry) (x : Site) (h : List Event) (w : Want) → Before s t x h w → IfSome (act_of s t x h w) (Same s t x h)
answers-same s t x h want.Nothing b = tt
answers-same s t x h (want.Exit told) b = tt
answers-same s t x h want.Item b = of-item s t x (Same s t x h) (item-same s t x h b (item_at s x (items_taken t x + 1)))
answers-same s t x h (want.LogRead n) b = by (has_read_block h)
  where
    by : (has : Bool) → None ≡ item_answer (settings s x) (block_event s t n has ∷ h)
    by true = refl
    by false = refl
answers-same s t x h (want.FileRead k) b =
    let at = at-work s t x h (want.FileRead k) b refl b.due.0 in
    let given = given-some (given_last h) (ledger (settings s x) h) (plan_of_job (settings s x) h) k at.serves.2
    (subst (OfPlan (plan_of_job (settings s x) h)) b.is (next-of (settings s x) h)) in
    ap (λ (plan : Plan). answer_of_read plan (image s t k)) (item-at s t x h given.0 b.serves given.1).1
answers-same s t x h (want.LogOpen place rec) b = ap (λ (o : Option (List Event)). answer_of_end (is_working o) rec) b.job ∙ end-same (is_restarted h) rec
answers-same s t x h _ b = refl
