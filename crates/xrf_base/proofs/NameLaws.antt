-- The characters of a name, and a name that is padded to 8 bytes.
use Rattle.std.proofs.Common.{◌≡◌, ℕ, ◌-◌, ◌≤◌, ◌&&◌, Bool, true, false, cond, List, length, replicate, Some, None, refl, subst, nat_eq, nat_le, arith}
use Rattle.std.specs.List.{list_all}
use Rattle.std.specs.Cmp.Lexicographic.{pointwise, nat_list_eq_equiv}
use Rattle.std.proofs.lemmas.Bool.{leb-true, and_parts}
use Rattle.std.proofs.lemmas.List.{length-append, length-replicate}
use Rattle.xrf_base.specs.Names.{IsName, is_name, is_name_byte, padded_name}
use Rattle.xrf_base.specs.Padding.{padded, unpadded}
use Rattle.xrf_base.proofs.Texts.{name-no_blank, unpadded-padded}

-- each character of a name may stand in one
pub name-characters : (name : List ℕ) → IsName name → list_all is_name_byte name ≡ true
name-characters name is = (and_parts (nat_le 1 (length name) && nat_le (length name) 8) (list_all is_name_byte name) is).1

-- a name has 8 characters at most
pub name-short : (name : List ℕ) → IsName name → length name ≤ 8
name-short name is = leb-true (length name) 8 (and_parts (nat_le 1 (length name)) (nat_le (length name) 8) (and_parts (nat_le 1 (length name) && nat_le (length name) 8) (list_all is_name_byte name) is).0).1

-- a padded name has 8 bytes
pub length-padded_name : (name : List ℕ) → IsName name → length (padded 8 name) ≡ 8
length-padded_name name is =
    let few = name-short name is in
    let whole = length-append name (replicate (8 - length name) 32) in
    let blanks = length-replicate {A = ℕ} (8 - length name) 32 in
    omega arith

-- a padded name reads as the name
pub padded_name-padded : (name : List ℕ) → IsName name → padded_name (padded 8 name) ≡ Some name
padded_name-padded name is =
    let own : unpadded (padded 8 name) ≡ name = unpadded-padded is_name_byte name-no_blank name (8 - length name) (name-characters name is) in
    rw own (rw (is, nat_list_eq_equiv.refl (padded 8 name)) refl)

-- and what a field spells is a name
pub padded_name-IsName : (field name : List ℕ) → padded_name field ≡ Some name → IsName name
padded_name-IsName field name e = by (is_name (unpadded field)) (pointwise nat_eq (padded 8 (unpadded field)) field) refl e
  where
    by : (a b : Bool) → is_name (unpadded field) ≡ a → cond (a && b) (Some (unpadded field)) None ≡ Some name → IsName name
    by true true t s = let same : unpadded field ≡ name = cc in subst IsName same t
    by true false t s = cc
    by false b t s = cc
