-- The two sites: one and the other.
use Rattle.std.proofs.Common.{false, refl, true, ◌≡◌, if◌then◌else◌, Some, ℕ, None, Option, ap, sym}
use Rattle.xrf_base.specs.declared.site.Site.{Site}
use Rattle.xrf_base.specs.declared.site.Site.TheVariants as site
use Rattle.xrf_ctl.specs.declared.parts.OwnerState.TheVariants.{Running}
use Rattle.xrf_ctl.specs.declared.parts.Owner.{Owner}
use Rattle.xrf_trace.specs.Words.{is_of, who_at}
use Rattle.xrf_trace.specs.Scenario.{other}
use Rattle.xrf_trace.specs.OneUpdater.{running_owner}
use Rattle.xrf_trace.specs.declared.entry.Who.TheVariants as who

-- at the site of an entry the first of two
pub pick-own : {X : Type 0} (x : Site) (a b : X) → elim (is_of (who_at x) x) [ true ↦ a | false ↦ b ] ≡ a
pick-own site.A a b = refl
pick-own site.B a b = refl

-- at the other site the second
pub pick-other : {X : Type 0} (x : Site) (a b : X) → elim (is_of (who_at x) (other x)) [ true ↦ a | false ↦ b ] ≡ b
pick-other site.A a b = refl
pick-other site.B a b = refl

-- the same of a test
pub if-own : {X : Type 0} (x : Site) (a b : X) → (if is_of (who_at x) x then a else b) ≡ a
if-own site.A a b = refl
if-own site.B a b = refl

-- and at the other site
pub if-other : {X : Type 0} (x : Site) (a b : X) → (if is_of (who_at x) (other x) then a else b) ≡ b
if-other site.A a b = refl
if-other site.B a b = refl

-- of a site and the other one: of each
pub each : (P : Site → Type 0) (x : Site) → P x → P (other x) → (y : Site) → P y
each P site.A own beside site.A = own
each P site.A own beside site.B = beside
each P site.B own beside site.A = beside
each P site.B own beside site.B = own

-- the other of the other site
pub other-other : (x : Site) → other (other x) ≡ x
other-other site.A = refl
other-other site.B = refl

-- the running owner of a site and a number
pub running-at : (x : Site) (n : ℕ) → running_owner (who_at x) n ≡ Some (record { inc = n; site = x; state = Running })
running-at site.A n = refl
running-at site.B n = refl

-- entries of one site are of that site
pub same-site : (x y : Site) → who_at x ≡ who_at y → x ≡ y
same-site site.A site.A is = refl
same-site site.A site.B is = absurd (cc)
same-site site.B site.A is = absurd (cc)
same-site site.B site.B is = refl

-- a running owner at A is none at B
two_owners : (n m : ℕ) → running_owner who.A n ≡ running_owner who.B m → ⊥
two_owners n m same = let sites : site.A ≡ site.B = ap site_of_owner same in absurd (cc)
  where
    site_of_owner : Option Owner → Site
    site_of_owner None = site.A
    site_of_owner (Some owner) = owner.site

-- the running owner of a site is not that of the other
pub one_owner : (x : Site) (n m : ℕ) → running_owner (who_at x) n ≡ running_owner (who_at (other x)) m → ⊥
one_owner site.A n m same = two_owners n m same
one_owner site.B n m same = two_owners m n (sym same)

-- a site that is not that of an entry is the other one
pub other-site : (x z : Site) → is_of (who_at x) z ≡ false → z ≡ other x
other-site site.A site.A is = absurd (cc)
other-site site.A site.B is = refl
other-site site.B site.A is = refl
other-site site.B site.B is = absurd (cc)

-- each of two sites is the other of the other
pub other-twice : (x z : Site) → z ≡ other x → x ≡ other z
other-twice x z is = by x z is
  where
    by : (x z : Site) → z ≡ other x → x ≡ other z
    by site.A site.A is = absurd (cc)
    by site.A site.B is = refl
    by site.B site.A is = refl
    by site.B site.B is = absurd (cc)
