-- A GET reads what its unit put last, and else the book.
use Rattle.std.proofs.Common.{List, true, ◌≡◌, false, IfSome, Option, Some, subst, sym, Bool, ap, map, refl, ℕ, ◌∙◌}
use Rattle.xrf_base.specs.declared.site.Site.{Site}
use Rattle.xrf_base.specs.declared.items.Item.{Item}
use Rattle.xrf_base.specs.declared.items.UnitId.{UnitId}
use Rattle.xrf_base.specs.Values.{slot_of}
use Rattle.xrf_log.specs.Flight.{open_puts}
use Rattle.xrf_file.specs.Ledger.{Ledger}
use Rattle.xrf_file.specs.Rows.{is_locked, unit_named}
use Rattle.xrf_file.specs.declared.answers.Plan.{Plan}
use Rattle.xrf_history.specs.Events.{Event}
use Rattle.xrf_history.specs.declared.want.Want.{Want}
use Rattle.xrf_history.specs.Working.{ledger, last_plan as plan_of_job}
use Rattle.xrf_history.specs.Progress.{is_active}
use Rattle.xrf_history.specs.Holding.{is_restarted}
use Rattle.xrf_trace.specs.declared.entry.Entry.{Entry}
use Rattle.xrf_trace.specs.Scenario.{Scen, settings, first_value}
use Rattle.xrf_trace.specs.Log.{log, committed}
use Rattle.xrf_trace.specs.Acts.{act_of}
use Rattle.xrf_trace.specs.Book.{book, puts, value_after}
use Rattle.xrf_trace.specs.Devices.{image}
use Rattle.xrf_trace.specs.Items.{Opened}
use Rattle.xrf_log_law.specs.AtWork.{Ledgers, IsOpenUnit, Last}
use Rattle.xrf_log_law.specs.Serving.{ServesWork, site_view, Serves, given_last, IsRead, Serving, OfPlan}
use Rattle.xrf_log_law.specs.Soundness.{is_sound}
use Rattle.xrf_log_law.specs.State.{view, State, value_at}
use Rattle.xrf_log_law.proofs.JobActs.{of-item}
use Rattle.xrf_log_law.proofs.ServingActs.{sound-for}
use Rattle.xrf_log_law.specs.Jobs.{is_idle}
use Rattle.xrf_trace.specs.AtHand.{OfItem, item_at_hand}
use Rattle.xrf_trace.specs.ItemsSeeBook.{IsSeenBy, ReadsBook, ReadsFor}
use Rattle.xrf_log_law.specs.BeforeImages.{has_put, other_has_put}
use Rattle.xrf_log_law.proofs.LedgerLaws.{locked-free}
use Rattle.xrf_log_law.proofs.EndsInLog.{none-covers}
use Rattle.xrf_log_law.proofs.BeforeImageLaws.{uncovered-as_is}
use Rattle.xrf_log_law.proofs.DueOfItems.{named-open}
use Rattle.xrf_log_law.proofs.ActsOfPlans.{next-of}
use Rattle.xrf_log_law.proofs.BeforeActs.{Before}
use Rattle.xrf_log_law.proofs.ValueRanges.{value_by-units}
use Rattle.xrf_base.specs.declared.items.Item.TheVariants as items
use Rattle.xrf_file.specs.declared.answers.Plan.TheVariants as plans
use Rattle.xrf_history.specs.declared.want.Want.TheVariants as want
use Rattle.xrf_trace.specs.declared.entry.Act.TheVariants as act

-- a job at work, right before an act on the data
pub record AtWork (s : Scen) (t : List Entry) (x : Site) (h : List Event) (w : Want) : Type 0 where
  pub there : is_active h ≡ true
  pub sound : is_sound h ≡ true
  pub serves : ServesWork (settings s x) h (site_view s t x)
  pub ledgers : Ledgers s.settings.log (log t) (view s t).start (ledger (settings s x) h)

-- an act on the data sets once the job is restarted
pub at-work : (s : Scen) (t : List Entry) (x : Site) (h : List Event) (w : Want) → Before s t x h w → is_idle w ≡ false → is_restarted h ≡ true
    → AtWork s t x h w
at-work s t x h w b acts working =
    let there = b.acts acts in
    let sound = sound-for h w b.idle acts in
    record { there = there; sound = sound; serves = b.serves.2 there sound working; ledgers = (b.stands.5 there sound working).0 }

-- the item at hand
pub item-at : (s : Scen) (t : List Entry) (x : Site) (h : List Event) (item : Item) → Serves (settings s x) h (site_view s t x) → given_last h ≡ Some item
    → (item_at_hand s t x ≡ Some item) × ((site_view s t x).plan ≡ plan_of_job (settings s x) h)
item-at s t x h item serves given =
    subst (λ (o : Option Item). IfSome o
    (λ i. (item_at_hand s t x ≡ Some i) × ((site_view s t x).plan ≡ plan_of_job (settings s x) h))) given serves.0

-- a fact of the item at hand
pub of-now : (fact : Item → Type 0) (o : Option Item) (item : Item) → o ≡ Some item → fact item → OfItem o fact
of-now fact o item is holds = subst (λ (q : Option Item). OfItem q fact) (sym is) holds

-- a GET
pub reads-value : (s : Scen) (t : List Entry) (l : Ledger) (unit : UnitId) (k : ℕ) → State s.settings.log (first_value s) (view s t)
    → Ledgers s.settings.log (log t) (view s t).start l → Last (first_value s) (view s t)
    → IsOpenUnit unit l.units → is_locked unit k l.puts ≡ false → image s t k ≡ slot_of (value_after k (puts t unit) (book s t k))
reads-value s t l unit k state is last here free =
    by (has_put unit k (open_puts (log t))) refl ∙ ap (λ (v : Option (List ℕ)). slot_of (value_after k (puts t unit) v)) (value_by-units t k
    (committed (log t)) (first_value s k))
  where
    others : other_has_put unit k (open_puts (log t)) ≡ false
    others = sym (locked-free (log t) unit k) ∙ sym (ap (is_locked unit k) is.puts) ∙ free

    by : (b : Bool) → has_put unit k (open_puts (log t)) ≡ b → image s t k ≡ slot_of (value_after k (puts t unit) (value_at (first_value s) (view s t) k))
    by true put = last unit k put refl
    by false none =
        sym (uncovered-as_is k (map (λ row. row.undo) (open_puts (log t))) (image s t k) (none-covers unit k (open_puts (log t)) none others))
        ∙ state.undone.back k ∙ ap slot_of (sym (state.unput unit k (is.unended unit here) none (value_at (first_value s) (view s t) k)))

-- by the plan at hand
reads-of : (s : Scen) (t : List Entry) (x : Site) (h : List Event) (k : ℕ) (plan : Plan) → Before s t x h (want.FileRead k)
    → AtWork s t x h (want.FileRead k) → is_restarted h ≡ true → Serving (given_last h) (ledger (settings s x) h) plan → IsRead plan k
    → ReadsBook s t x (act.FileRead k)
reads-of s t x h k (plans.Put u n value place) b at working serving same =
    of-now (ReadsFor s t x) (item_at_hand s t x) (items.Put serving.0 n value) (item-at s t x h _ b.serves serving.1).0 tt
reads-of s t x h k (plans.Get n) b at working serving same =
    let unit : UnitId = serving.2.0 in
    of-now (ReadsFor s t x) (item_at_hand s t x) (items.Get serving.0 n) (item-at s t x h _ b.serves serving.1).0
    (subst (IsSeenBy s t n) (sym (ap (λ (o : Opened). unit_named serving.0 o.units) at.serves.0 ∙ serving.2.1))
    (reads-value s t (ledger (settings s x) h) unit n b.state at.ledgers (b.values at.there at.sound working)
    (named-open serving.0 (ledger (settings s x) h).units unit serving.2.1) serving.2.2))
reads-of s t x h k (plans.Commit u place) b at working serving same = absurd same
reads-of s t x h k (plans.Roll u place) b at working serving same = absurd same
reads-of s t x h k (plans.Answer a) b at working serving same = absurd same

-- each act reads for its item what it must
pub reads-book : (s : Scen) (t : List Entry) (x : Site) (h : List Event) (w : Want) → Before s t x h w → IfSome (act_of s t x h w) (ReadsBook s t x)
reads-book s t x h want.Nothing b = tt
reads-book s t x h (want.Exit told) b = tt
reads-book s t x h want.Item b = of-item s t x (ReadsBook s t x) tt
reads-book s t x h (want.FileRead k) b =
    let at = at-work s t x h (want.FileRead k) b refl b.due.0 in
    reads-of s t x h k (plan_of_job (settings s x) h) b at b.due.0 at.serves.2 (subst (OfPlan (plan_of_job (settings s x) h)) b.is (next-of (settings s x) h))
reads-book s t x h _ b = tt
