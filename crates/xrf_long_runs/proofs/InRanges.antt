-- The items of the long runs are within their ranges, by a test.
use Rattle.std.proofs.Common.{◌≡◌, ◌≤◌, ℕ, nat_le, Bool, true, false, ◌&&◌, List, [], ◌∷◌, refl, sym, arith}
use Rattle.std.proofs.lemmas.Bool.{and_parts}
use Rattle.std.proofs.lemmas.Grind.{common_steps}
use Rattle.std.specs.List.{AllByRecursion}
use Rattle.xrf_base.specs.Names.{is_name}
use Rattle.xrf_base.specs.Values.{is_value}
use Rattle.xrf_base.specs.declared.items.Item.{Item}
use Rattle.xrf_base.specs.declared.items.Item.TheVariants as items
use Rattle.xrf_setup.specs.Items.{IsItemOf}
use Rattle.xrf_setup.specs.declared.format.Format.TheVariants.{One}
use Rattle.xrf_setup.specs.declared.ranges.TheConstants.{NUMBER_MOST, CLASS_LEAST, CLASS_MOST}
use Rattle.xrf_long_runs.proofs.Tests.{clash}

-- a number within a bound
pub within : (n most : ℕ) → nat_le n most ≡ true → n ≤ most
within n most met = grind (arith, common_steps)

-- the items that these runs have
abbrev in_range : Item → Bool
in_range (items.Begin unit) = is_name unit
in_range (items.Put unit number value) = is_name unit && (nat_le number NUMBER_MOST && is_value value)
in_range (items.Commit unit) = is_name unit
in_range (items.Logon terminal class) = is_name terminal && (nat_le CLASS_LEAST class && nat_le class CLASS_MOST)
in_range _ = false

is_in : (item : Item) → in_range item ≡ true → IsItemOf One item
is_in (items.Begin unit) met = (met, refl)
is_in (items.Put unit number value) met =
    let outer = and_parts (is_name unit) (nat_le number NUMBER_MOST && is_value value) met in
    let inner = and_parts (nat_le number NUMBER_MOST) (is_value value) outer.1 in
    ((outer.0, within number NUMBER_MOST inner.0, inner.1), refl)
is_in (items.Commit unit) met = (met, refl)
is_in (items.Logon terminal class) met =
    let outer = and_parts (is_name terminal) (nat_le CLASS_LEAST class && nat_le class CLASS_MOST) met in
    let inner = and_parts (nat_le CLASS_LEAST class) (nat_le class CLASS_MOST) outer.1 in
    ((outer.0, (within CLASS_LEAST class inner.0, within class CLASS_MOST inner.1)), refl)
is_in _ met = clash (sym met)

abbrev pub all_in_range : List Item → Bool
all_in_range [] = true
all_in_range (item ∷ items) = in_range item && all_in_range items

pub are_in : (items : List Item) → all_in_range items ≡ true → AllByRecursion (IsItemOf One) items
are_in [] met = tt
are_in (item ∷ items) met = let both = and_parts (in_range item) (all_in_range items) met in (is_in item both.0, are_in items both.1)
