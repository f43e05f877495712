-- The units of a site, and the scenario that they make.
use Rattle.std.proofs.Common.{◌≡◌, ◌≤◌, ◌<◌, ◌+◌, ◌*◌, ℕ, zero, suc, List, [], ◌∷◌, ◌++◌, length, length-append, ap, subst, sym, refl, add-one, arith}
use Rattle.std.specs.List.{AllByRecursion}
use Rattle.xrf_base.specs.declared.items.Item.{Item}
use Rattle.xrf_base.specs.declared.site.Site.{Site}
use Rattle.xrf_base.specs.declared.site.Site.TheVariants.{A, B}
use Rattle.xrf_setup.specs.Items.{IsItemOf}
use Rattle.xrf_setup.specs.Scenario.{IsScen}
use Rattle.xrf_clt.specs.Kept.{Kept}
use Rattle.xrf_setup.specs.declared.choice.Choice.{Choice}
use Rattle.xrf_setup.specs.declared.settings.Settings.{Settings}
use Rattle.xrf_setup.specs.declared.format.Format.TheVariants.{One}
use Rattle.xrf_drive.specs.Scenario.{settings, unit, units, generated}
use Rattle.xrf_drive.specs.declared.scenario.TheConstants.{UNITS}
use Rattle.xrf_drive.proofs.ValueLaws.{is_put}

pub no_units : (x : Site) → units x 0 ≡ []
unfolding units
no_units x = refl

pub one_more : (x : Site) (g : ℕ) → units x (g + 1) ≡ units x g ++ unit x g
unfolding units
one_more x g = ap (units x) (add-one g)

-- its items are within their ranges
unit-is : (x : Site) (g : ℕ) → g < 100 → AllByRecursion (IsItemOf One) (unit x g)
unit-is x g few =
    let first = is_put 86 g x refl few in
    let second = is_put 87 g x refl few in
    ((refl, refl), (((refl, omega arith, first), refl), (((refl, omega arith, second), refl), ((refl, refl), tt))))

all-both : (P : Item → Type 0) (xs ys : List Item) → AllByRecursion P xs → AllByRecursion P ys → AllByRecursion P (xs ++ ys)
all-both P [] ys all more = more
all-both P (x ∷ xs) ys all more = (all.0, all-both P xs ys all.1 more)

units-are : (x : Site) (n : ℕ) → n ≤ 100 → AllByRecursion (IsItemOf One) (units x n)
unfolding units
units-are x zero few = tt
units-are x (suc g) few = all-both (IsItemOf One) (units x g) (unit x g) (units-are x g (omega arith)) (unit-is x g (omega arith))

units-many : (x : Site) (n : ℕ) → length (units x n) ≡ 4 * n
unfolding units
units-many x zero = refl
units-many x (suc g) = omega (arith, length-append (units x g) (unit x g), units-many x g)

pub generated-is : IsScen generated
generated-is = record {
  settings = record {
    applid_a = refl;
    applid_b = refl;
    adi = (omega arith, omega arith);
    pdi = (omega arith, omega arith);
    log = (omega arith, omega arith);
    log_units = refl;
    ring = (omega arith, omega arith);
    file = (omega arith, omega arith);
    pace = (omega arith, omega arith);
    ticks = (omega arith, omega arith);
    levels = (refl, refl, refl);
  };
  records = tt;
  clt = tt;
  clt_few = omega arith;
  work_a = units-are A 100 (omega arith);
  work_a_few = omega (arith, units-many A 100);
  work_b = units-are B 100 (omega arith);
  work_b_few = omega (arith, units-many B 100);
  plan = tt;
  plan_few = omega arith;
}

-- so is what is made of parts that are those of the scenario
pub made-is : (t : Settings) (records : List (ℕ × List ℕ)) (clt : List Kept) (a b : List Item) (plan : List (ℕ × Choice)) → t ≡ settings → records ≡ [] → clt ≡ []
    → a ≡ units A UNITS → b ≡ units B UNITS → plan ≡ [] → IsScen (record { settings = t; records = records; clt = clt; work_a = a; work_b = b; plan = plan })
made-is t records clt a b plan p q r u v w =
    let same : record { settings = t; records = records; clt = clt; work_a = a; work_b = b; plan = plan } ≡ generated = grind (arith, p, q, r, u, v, w) in
    subst IsScen (sym same) generated-is
