-- What a scenario keeps of its data sets, its first records and its work.
use Rattle.std.proofs.Common.{◌+◌, ℕ, zero, suc, List, [], ◌∷◌, IfSome, slice_get}
use Rattle.std.specs.List.{AllByRecursion}
use Rattle.xrf_base.specs.Ranges.{AreLimits}
use Rattle.xrf_base.specs.Values.{IsValue}
use Rattle.xrf_base.specs.declared.items.Item.{Item}
use Rattle.xrf_base.specs.declared.site.Site.{Site}
use Rattle.xrf_base.specs.declared.site.Site.TheVariants.{A, B}
use Rattle.xrf_setup.specs.Items.{HasItem, IsItemOf}
use Rattle.xrf_setup.specs.Scenario.{Scen, IsScen, AreRecords, limits, work}
use Rattle.xrf_setup.specs.declared.format.Format.{Format}
use Rattle.xrf_setup.specs.declared.format.Format.TheVariants.{One, Two}

-- LOG is a multiple of 64 from 64 to 1,024, RING is 2 to 64, FILE is 1 to 256
pub limits_are : (s : Scen) → IsScen s → AreLimits (limits s)
limits_are s is = record {
  log_least = is.settings.log.0;
  log_most = is.settings.log.1;
  log_blocks = is.settings.log_units;
  ring_least = is.settings.ring.0;
  ring_most = is.settings.ring.1;
  file_least = is.settings.file.0;
  file_most = is.settings.file.1;
}

-- the values of first records are values
values-are : (least most : ℕ) (rs : List (ℕ × List ℕ)) → AreRecords least most rs → AllByRecursion (λ (r : ℕ × List ℕ). IsValue r.1) rs
values-are least most [] are = tt
values-are least most (r ∷ rs) are = (are.1, values-are (r.0 + 1) most rs are.2)

pub records_are : (s : Scen) → IsScen s → AllByRecursion (λ (r : ℕ × List ℕ). IsValue r.1) s.records
records_are s is = values-are 1 s.settings.file s.records is.records

-- the names, numbers and values of an item are within their ranges, whatever the format
has-item : (format : Format) (i : Item) → IsItemOf format i → HasItem i
has-item One i is = is.0
has-item Two i is = is

all-items : (format : Format) (items : List Item) → AllByRecursion (IsItemOf format) items → AllByRecursion HasItem items
all-items format [] are = tt
all-items format (i ∷ items) are = (has-item format i are.0, all-items format items are.1)

pub items_are : (s : Scen) (x : Site) → IsScen s → AllByRecursion HasItem (work s x)
items_are s A is = all-items s.settings.format s.work_a is.work_a
items_are s B is = all-items s.settings.format s.work_b is.work_b

-- what holds of all elements holds of each
each-at : {X : Type 0} (P : X → Type 0) (xs : List X) (k : ℕ) → AllByRecursion P xs → IfSome (slice_get xs k) P
each-at P [] k are = tt
each-at P (x ∷ xs) zero are = are.0
each-at P (x ∷ xs) (suc k) are = each-at P xs k are.1

-- so of each item
pub item_is : (s : Scen) (x : Site) (k : ℕ) → IsScen s → IfSome (slice_get (work s x) k) HasItem
item_is s x k is = each-at HasItem (work s x) k (items_are s x is)
