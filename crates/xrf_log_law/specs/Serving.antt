-- What a job does for its item, and what the trace says of its site.
use Rattle.std.specs.Prelude.{List, None, Option, Some, [], ◌∷◌, if◌then◌else◌, ◌+◌, false, ◌≡◌, ℕ, IfSome, true}
use Rattle.xrf_base.specs.declared.items.Item.{Item}
use Rattle.xrf_base.specs.declared.site.Site.{Site}
use Rattle.xrf_base.specs.declared.items.UnitId.{UnitId}
use Rattle.xrf_base.specs.declared.items.ItemAnswer.TheVariants.{Done}
use Rattle.xrf_file.specs.declared.answers.Plan.{Plan}
use Rattle.xrf_file.specs.Ledger.{Ledger}
use Rattle.xrf_file.specs.Rows.{is_locked, unit_named}
use Rattle.xrf_history.specs.Events.{Event, Given}
use Rattle.xrf_history.specs.declared.want.Want.{Want}
use Rattle.xrf_history.specs.declared.settings.Settings.{Settings}
use Rattle.xrf_history.specs.Working.{ledger, last_plan as plan_of_job}
use Rattle.xrf_history.specs.Holding.{number, is_restarted}
use Rattle.xrf_history.specs.Next.{inside}
use Rattle.xrf_history.specs.Progress.{is_active}
use Rattle.xrf_trace.specs.Items.{Opened, opened, last_plan, opened_after, plan_after, nothing_open}
use Rattle.xrf_trace.specs.declared.entry.Entry.{Entry}
use Rattle.xrf_trace.specs.Scenario.{Scen, item_at, settings}
use Rattle.xrf_trace.specs.Words.{items_taken, is_item}
use Rattle.xrf_trace.specs.declared.entry.Act.{Act}
use Rattle.xrf_trace.specs.declared.entry.Land.{Land}
use Rattle.xrf_trace.specs.Jobs.{hist}
use Rattle.xrf_log_law.specs.AtWork.{IsOpenUnit}
use Rattle.xrf_log_law.specs.Jobs.{Idle}
use Rattle.xrf_log_law.specs.Soundness.{is_sound}
use Rattle.xrf_base.specs.declared.items.Item.TheVariants as items
use Rattle.xrf_file.specs.declared.answers.Plan.TheVariants as plans
use Rattle.xrf_history.specs.declared.want.Want.TheVariants as want

-- the item given last
abbrev pub given_last : List Event → Option Item
given_last [] = None
given_last (Given item ∷ h) = Some item
given_last (_ ∷ h) = given_last h

-- what the trace says of a site
pub record SiteView : Type 0 where
  pub item : Option Item
  pub plan : Plan
  pub opened : Opened

-- of a trace
abbrev pub site_view : Scen → List Entry → Site → SiteView
site_view s t x = record { item = item_at s x (items_taken t x); plan = last_plan s t x; opened = opened s t x }

-- after an act
abbrev pub site_after : Scen → List Entry → Site → Act → Land → SiteView
site_after s t x a l = record {
  item = item_at s x (if is_item a then items_taken t x + 1 else items_taken t x);
  plan = plan_after s t x a (last_plan s t x);
  opened = opened_after s t x a l (opened s t x);
}

-- an item that is carried out, against the units that are open
abbrev pub Serving : Option Item → Ledger → Plan → Type 0
Serving given l (plans.Put unit rrn value place) = (name : List ℕ) × (given ≡ Some (items.Put name rrn value)) × (unit_named name l.units ≡ Some unit)
Serving given l (plans.Get rrn) =
    (name : List ℕ) × (given ≡ Some (items.Get name rrn)) × ((unit : UnitId) × (unit_named name l.units ≡ Some unit)
    × (is_locked unit rrn l.puts ≡ false))
Serving given l (plans.Commit unit place) =
    (name : List ℕ) × (given ≡ Some (items.Commit name)) × (IsOpenUnit unit l.units → unit_named name l.units ≡ Some unit)
Serving given l (plans.Roll unit place) = (name : List ℕ) × (given ≡ Some (items.Roll name)) × (IsOpenUnit unit l.units → unit_named name l.units ≡ Some unit)
Serving given l (plans.Answer answer) = Unit {0}

-- an act on the file is of the plan
abbrev pub IsRead : Plan → ℕ → Type 0
IsRead (plans.Put unit k value place) rrn = k ≡ rrn
IsRead (plans.Get k) rrn = k ≡ rrn
IsRead _ rrn = ⊥

-- a write is that of the plan
abbrev pub IsWrite : Plan → UnitId → ℕ → List ℕ → Type 0
IsWrite (plans.Put u k v place) unit rrn value = (u ≡ unit) × (k ≡ rrn) × (v ≡ value)
IsWrite _ unit rrn value = ⊥

-- an act on the file is of the plan
abbrev pub OfPlan : Plan → Want → Type 0
OfPlan plan (want.FileRead rrn) = IsRead plan rrn
OfPlan plan (want.FileWrite unit rrn value) = IsWrite plan unit rrn value
OfPlan plan _ = Unit {0}

-- the units of a ledger
abbrev pub opened_of : Ledger → Opened
opened_of l = record { begun = l.begun; units = l.units }

-- of a job at work: its units are those of the trace, its ledger has its incarnation, and its plan is that of its item
abbrev pub ServesWork : Settings → List Event → SiteView → Type 0
ServesWork p h v = (v.opened ≡ opened_of (ledger p h)) × ((ledger p h).inc ≡ number h) × Serving (given_last h) (ledger p h) (plan_of_job p h)

-- of a job and its site: the item and its plan are those of the trace; it has none before it is restarted; and after a failure it does
-- nothing to the data
abbrev pub Serves : Settings → List Event → SiteView → Type 0
Serves p h v =
    IfSome (given_last h) (λ item. (v.item ≡ Some item) × (v.plan ≡ plan_of_job p h))
    × (is_restarted h ≡ false → (v.opened ≡ nothing_open) × (plan_of_job p h ≡ plans.Answer Done))
    × (is_active h ≡ true → is_sound h ≡ true → is_restarted h ≡ true → ServesWork p h v)
    × (is_sound h ≡ false → IfSome (inside p h) Idle)

-- of the job of each site
abbrev pub SitesServe : Scen → List Entry → Type 0
SitesServe s t = (x : Site) → IfSome (hist s t x) (λ h. Serves (settings s x) h (site_view s t x))
