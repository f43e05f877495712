-- Items see the book: an item is taken only once its job is restarted, and a GET reads what its unit put last, and
-- else the book.
use Rattle.std.specs.Prelude.{◌≡◌, ℕ, true, List, Option, Some, None}
use Rattle.xrf_base.specs.Values.{slot_of}
use Rattle.xrf_base.specs.declared.site.Site.{Site}
use Rattle.xrf_base.specs.declared.items.Item.{Item}
use Rattle.xrf_base.specs.declared.items.Item.TheVariants as items
use Rattle.xrf_base.specs.declared.items.UnitId.{UnitId}
use Rattle.xrf_history.specs.Events.{Event}
use Rattle.xrf_history.specs.Holding.{is_restarted}
use Rattle.xrf_trace.specs.declared.entry.Entry.{Entry}
use Rattle.xrf_trace.specs.declared.entry.Act.{Act}
use Rattle.xrf_trace.specs.declared.entry.Act.TheVariants as act
use Rattle.xrf_trace.specs.Scenario.{Scen}
use Rattle.xrf_trace.specs.Devices.{image}
use Rattle.xrf_trace.specs.Book.{book, puts, value_after}
use Rattle.xrf_trace.specs.AtHand.{item_at_hand, OfItem, open_unit}
use Rattle.xrf_trace.specs.Each.{Each, AtSite}

abbrev pub TakesRestarted : List Event → Act → Type 0
TakesRestarted h (act.Item number) = is_restarted h ≡ true
TakesRestarted h _ = Unit {0}

-- the slot of a record is that of what an open unit put there last, and else of the book
abbrev pub IsSeenBy : Scen → List Entry → (k : ℕ) → Option UnitId → Type 0
IsSeenBy s t k None = ⊥
IsSeenBy s t k (Some unit) = image s t k ≡ slot_of (value_after k (puts t unit) (book s t k))

abbrev pub ReadsFor : Scen → List Entry → Site → Item → Type 0
ReadsFor s t x (items.Get name k) = IsSeenBy s t k (open_unit s t x name)
ReadsFor s t x _ = Unit {0}

abbrev pub ReadsBook : Scen → List Entry → Site → Act → Type 0
ReadsBook s t x (act.FileRead k) = OfItem (item_at_hand s t x) (ReadsFor s t x)
ReadsBook s t x _ = Unit {0}

pub record ItemsSeeBook (s : Scen) (t : List Entry) : Type 0 where
  pub restarted : Each (λ t e. AtSite s t e.who (λ x h. TakesRestarted h e.act)) t
  pub reads : Each (λ t e. AtSite s t e.who (λ x h. ReadsBook s t x e.act)) t
