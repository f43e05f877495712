-- The item at hand of a site, and what it asks.
use Rattle.std.specs.Prelude.{ℕ, List, Option, Some, None}
use Rattle.std.specs.Option.{option_map}
use Rattle.xrf_base.specs.declared.site.Site.{Site}
use Rattle.xrf_base.specs.declared.items.Item.{Item}
use Rattle.xrf_base.specs.declared.items.Item.TheVariants as items
use Rattle.xrf_base.specs.declared.items.UnitId.{UnitId}
use Rattle.xrf_logrec.specs.declared.records.LogRec.{LogRec}
use Rattle.xrf_logrec.specs.declared.records.LogRec.TheVariants.{Put, Commit, Backout}
use Rattle.xrf_file.specs.Rows.{unit_named}
use Rattle.xrf_trace.specs.declared.entry.Entry.{Entry}
use Rattle.xrf_trace.specs.declared.entry.Act.{Act}
use Rattle.xrf_trace.specs.declared.entry.Act.TheVariants as act
use Rattle.xrf_trace.specs.Scenario.{Scen, item_at}
use Rattle.xrf_trace.specs.Words.{items_taken}
use Rattle.xrf_trace.specs.Devices.{image}
use Rattle.xrf_trace.specs.Items.{opened}

-- the item that a site took last
abbrev pub item_at_hand : Scen → List Entry → Site → Option Item
item_at_hand s t x = item_at s x (items_taken t x)

-- there is such an item, and a fact holds of it
abbrev pub OfItem : Option Item → (Item → Type 0) → Type 0
OfItem None fact = ⊥
OfItem (Some item) fact = fact item

-- the open unit of a name
abbrev pub open_unit : Scen → List Entry → Site → List ℕ → Option UnitId
open_unit s t x name = unit_named name (opened s t x).units

-- the record that an item asks to be logged: a PUT its before-image, a COMMIT and a ROLL the end of its unit
abbrev pub asked_record : Scen → List Entry → Site → Item → Option LogRec
asked_record s t x (items.Put name k value) = option_map (λ unit. Put unit k (image s t k)) (open_unit s t x name)
asked_record s t x (items.Commit name) = option_map Commit (open_unit s t x name)
asked_record s t x (items.Roll name) = option_map Backout (open_unit s t x name)
asked_record s t x _ = None

-- and the write of the file, which a PUT asks
abbrev pub asked_write : Scen → List Entry → Site → Item → Option Act
asked_write s t x (items.Put name k value) = option_map (λ unit. act.FileWrite unit k value) (open_unit s t x name)
asked_write s t x _ = None
