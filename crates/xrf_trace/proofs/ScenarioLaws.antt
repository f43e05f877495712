-- What a scenario keeps, in the words of a trace: its data sets, first values and items.
use Rattle.std.proofs.Common.{◌≡◌, ◌-◌, ◌==◌, ℕ, Bool, true, false, if◌then◌else◌, List, [], ◌∷◌, Option, Some, None, IfSome, slice_get, refl}
use Rattle.std.specs.List.{AllByRecursion}
use Rattle.xrf_base.specs.Names.{IsName}
use Rattle.xrf_base.specs.Ranges.{AreLimits}
use Rattle.xrf_base.specs.Values.{IsValue}
use Rattle.xrf_base.specs.declared.items.Item.{Item}
use Rattle.xrf_base.specs.declared.items.Item.TheVariants as items
use Rattle.xrf_base.specs.declared.site.Site.{Site}
use Rattle.xrf_setup.specs.Items.{HasItem}
use Rattle.xrf_setup.proofs.ScenarioLaws.{limits_are, records_are, item_is}
use Rattle.xrf_trace.specs.Scenario.{Scen, IsScen, work, limits, item_at, value_in, first_value}

-- the names of an item are names, and its value is a value
abbrev pub IsItem : Item → Type 0
IsItem (items.Begin name) = IsName name
IsItem (items.Put name rrn value) = IsName name × IsValue value
IsItem (items.Get name rrn) = IsName name
IsItem (items.Commit name) = IsName name
IsItem (items.Roll name) = IsName name
IsItem (items.Logon term class) = IsName term
IsItem (items.Logoff term) = IsName term
IsItem items.Shutdown = Unit {0}
IsItem items.ShutdownTakeover = Unit {0}
IsItem (items.Signon term user) = IsName term × IsName user
IsItem (items.Signoff term) = IsName term

pub record IsInRanges (s : Scen) : Type 0 where
  pub limits : AreLimits (limits s)
  pub records : (k : ℕ) → IfSome (first_value s k) IsValue
  pub work : (x : Site) (k : ℕ) → IfSome (item_at s x k) IsItem

-- an item whose names, numbers and value are within their ranges
has-names : (i : Item) → HasItem i → IsItem i
has-names (items.Begin name) is = is
has-names (items.Put name rrn value) is = (is.0, is.2)
has-names (items.Get name rrn) is = is.0
has-names (items.Commit name) is = is
has-names (items.Roll name) is = is
has-names (items.Logon term class) is = is.0
has-names (items.Logoff term) is = is
has-names items.Shutdown is = tt
has-names items.ShutdownTakeover is = tt
has-names (items.Signon term user) is = is
has-names (items.Signoff term) is = is

some-named : (o : Option Item) → IfSome o HasItem → IfSome o IsItem
some-named None is = tt
some-named (Some i) is = has-names i is

-- a value among some records is a value
value-is : (records : List (ℕ × List ℕ)) (k : ℕ) → AllByRecursion (λ (r : ℕ × List ℕ). IsValue r.1) records → IfSome (value_in records k) IsValue
value-is [] k are = tt
value-is (r ∷ records) k are = by (r.0 == k) (value-is records k are.1)
  where
    by : (same : Bool) → IfSome (value_in records k) IsValue → IfSome (if same then Some r.1 else value_in records k) IsValue
    by true later = are.0
    by false later = later

-- a scenario keeps its ranges
pub in_ranges : (s : Scen) → IsScen s → IsInRanges s
in_ranges s is = record {
  limits = limits_are s is;
  records = λ k. value-is s.records k (records_are s is);
  work = λ x k. some-named (item_at s x k) (item_is s x (k - 1) is);
}
