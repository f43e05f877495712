-- Work items within their ranges.
use Rattle.std.specs.Prelude.{◌≡◌, ◌≤◌, ℕ, Bool, true, false}
use Rattle.xrf_base.specs.Names.{IsName}
use Rattle.xrf_base.specs.Values.{IsValue}
use Rattle.xrf_base.specs.declared.items.Item.{Item}
use Rattle.xrf_base.specs.declared.items.Item.TheVariants as item
use Rattle.xrf_setup.specs.Ranges.{IsIn}
use Rattle.xrf_setup.specs.declared.format.Format.{Format}
use Rattle.xrf_setup.specs.declared.format.Format.TheVariants.{One, Two}
use Rattle.xrf_setup.specs.declared.ranges.TheConstants.{NUMBER_MOST, CLASS_LEAST, CLASS_MOST}

-- the class of a terminal
abbrev pub IsClass : ℕ → Type 0
IsClass class = IsIn CLASS_LEAST CLASS_MOST class

-- an item whose names, numbers and values a line can spell
abbrev pub HasItem : Item → Type 0
HasItem (item.Begin unit) = IsName unit
HasItem (item.Put unit number value) = IsName unit × (number ≤ NUMBER_MOST) × IsValue value
HasItem (item.Get unit number) = IsName unit × (number ≤ NUMBER_MOST)
HasItem (item.Commit unit) = IsName unit
HasItem (item.Roll unit) = IsName unit
HasItem (item.Logon terminal class) = IsName terminal × IsClass class
HasItem (item.Logoff terminal) = IsName terminal
HasItem (item.Signon terminal user) = IsName terminal × IsName user
HasItem (item.Signoff terminal) = IsName terminal
HasItem _ = Unit {0}

-- XRF 1 has no users
abbrev pub has_users : Item → Bool
has_users (item.Signon terminal user) = true
has_users (item.Signoff terminal) = true
has_users _ = false

abbrev pub IsItemOf : Format → Item → Type 0
IsItemOf One i = HasItem i × (has_users i ≡ false)
IsItemOf Two i = HasItem i
