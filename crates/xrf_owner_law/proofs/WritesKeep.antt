-- What a write of the control record keeps of the other job, and makes of its writer.
use Rattle.std.proofs.Common.{Bool, Some, arith, false, ◌≡◌, ℕ, ◌≢◌, ◌≤◌, refl, true, ◌+◌, ◌||◌}
use Rattle.std.proofs.lemmas.Grind.{common_steps}
use Rattle.xrf_base.specs.declared.site.Site.{Site}
use Rattle.xrf_ctl.specs.Control.{ControlRecord}
use Rattle.xrf_ctl.specs.declared.parts.OwnerState.TheVariants.{Running}
use Rattle.xrf_ctl.specs.declared.parts.OwnerState.{OwnerState}
use Rattle.xrf_ctl.specs.declared.parts.Cause.{Cause}
use Rattle.xrf_cavm.specs.declared.known.Known.{Known}
use Rattle.xrf_cavm.specs.Record.{is_owner as names_owner}
use Rattle.xrf_history.specs.Reserving.{Purpose, record_by_purpose, SignOnActive, SignOnStandby, SignOff, DropAlternate, GoThrough, Leave, StartTakeover}
use Rattle.xrf_history.specs.declared.settings.Settings.{Settings}
use Rattle.xrf_history.proofs.Writes.{Wrote, of_alternate, IsRuled, number_after}
use Rattle.xrf_history.specs.declared.want.EndWhy.{EndWhy}
use Rattle.xrf_history.proofs.Purposes.{is_sign_off, Suits}
use Rattle.xrf_trace.specs.Scenario.{other}
use Rattle.xrf_owner_law.specs.Owner.{Knows, Beside, Stands}

-- the other site's running owner, whose number is neither confirmed nor the writer's
pub owner-kept : (p : Settings) (q : Purpose) (me epoch : ℕ) (c w : ControlRecord) (known : Known) (k : ℕ → Bool) (y : Site) (n : ℕ)
    → record_by_purpose p q me epoch c known ≡ Some w → Knows k known c → c.owner ≡ Some (record { inc = n; site = y; state = Running }) → k n ≡ false → n ≢ me
    → w.owner ≡ Some (record { inc = n; site = y; state = Running })
owner-kept p q me epoch c w known k y n is knows owner open_yet apart = grind (arith, common_steps)

-- two jobs are not both alternates
pub not-both : (c : ControlRecord) (x y : Site) (n me : ℕ) → x ≡ other y → Beside c y n → Beside c x me → ⊥
not-both c x y n me there beside mine = grind (arith, common_steps)

-- a sign-on as active leaves the place of the other site's alternate to it alone
beside-active : (p : Settings) (me : ℕ) (c w : ControlRecord) (known : Known) (y : Site) (n : ℕ)
    → Wrote p SignOnActive me c known w → p.site ≡ other y → n ≤ c.last → Beside c y n → Beside w y n
beside-active p me c w known y n did there given beside = grind (arith, common_steps)

-- a sign-on as standby stands beside no alternate of the other site
beside-standby : (p : Settings) (me : ℕ) (c w : ControlRecord) (known : Known) (y : Site) (n : ℕ)
    → Wrote p SignOnStandby me c known w → p.site ≡ other y → Beside c y n → ⊥
beside-standby p me c w known y n did there beside = grind (arith, common_steps)

-- a sign-off keeps it
beside-off : (p : Settings) (me : ℕ) (state : OwnerState) (c w : ControlRecord) (known : Known) (y : Site) (n : ℕ)
    → Wrote p (SignOff state) me c known w → Beside c y n → Beside w y n
beside-off p me state c w known y n did beside = grind (arith, common_steps)

-- so does a drop
beside-drop : (p : Settings) (me : ℕ) (c w : ControlRecord) (known : Known) (y : Site) (n : ℕ)
    → Wrote p DropAlternate me c known w → Beside c y n → Beside w y n
beside-drop p me c w known y n did beside = grind (arith, common_steps)

-- **whatever is written, the other site's alternate keeps its place**
pub beside-kept : (p : Settings) (q : Purpose) (me : ℕ) (c w : ControlRecord) (known : Known) (y : Site) (n : ℕ)
    → Wrote p q me c known w → p.site ≡ other y → (of_alternate q ≡ true → Beside c p.site me) → n ≤ c.last → Beside c y n
    → Beside w y n
beside-kept p SignOnActive me c w known y n did there mine given beside = beside-active p me c w known y n did there given beside
beside-kept p SignOnStandby me c w known y n did there mine given beside = absurd (beside-standby p me c w known y n did there beside)
beside-kept p (SignOff state) me c w known y n did there mine given beside = beside-off p me state c w known y n did beside
beside-kept p DropAlternate me c w known y n did there mine given beside = beside-drop p me c w known y n did beside
beside-kept p (Leave reason) me c w known y n did there mine given beside = absurd (not-both c p.site y n me there beside (mine refl))
beside-kept p (StartTakeover cause) me c w known y n did there mine given beside = absurd (not-both c p.site y n me there beside (mine refl))
beside-kept p GoThrough me c w known y n did there mine given beside = absurd (not-both c p.site y n me there beside (mine refl))

-- a sign-on as active makes its writer the Running owner, with the next number
pub own-active : (p : Settings) (me : ℕ) (c w : ControlRecord) (known : Known) → Wrote p SignOnActive me c known w
    → (names_owner w w.last ≡ true) × (w.owner ≡ Some (record { inc = w.last; site = p.site; state = Running })) × (w.last ≡ c.last + 1)
own-active p me c w known did = grind (arith, common_steps)

-- a sign-on as standby makes its writer an alternate beside the owner, with the next number
pub own-standby : (p : Settings) (me : ℕ) (c w : ControlRecord) (known : Known) → Wrote p SignOnStandby me c known w → IsRuled c
    → (names_owner w w.last ≡ false) × Beside w p.site w.last × (w.last ≡ c.last + 1)
own-standby p me c w known did rule = grind (arith, common_steps)

-- a drop leaves the owner
pub own-drop : (p : Settings) (me : ℕ) (c w : ControlRecord) (known : Known) → Wrote p DropAlternate me c known w → w.owner ≡ c.owner
own-drop p me c w known did = grind (arith, common_steps)

-- a leave keeps its writer an alternate
pub own-leave : (p : Settings) (me : ℕ) (reason : EndWhy) (c w : ControlRecord) (known : Known) → Wrote p (Leave reason) me c known w → Beside c p.site me
    → (names_owner w me ≡ false) × Beside w p.site me
own-leave p me reason c w known did beside = grind (arith, common_steps)

-- so does a start of a takeover
pub own-start : (p : Settings) (me : ℕ) (cause : Cause) (c w : ControlRecord) (known : Known) → Wrote p (StartTakeover cause) me c known w → Beside c p.site me
    → (names_owner w me ≡ false) × Beside w p.site me
own-start p me cause c w known did beside = grind (arith, common_steps)

-- a through makes its writer the Running owner
pub own-through : (p : Settings) (me : ℕ) (c w : ControlRecord) (known : Known) → Wrote p GoThrough me c known w → Beside c p.site me
    → (names_owner w me ≡ true) × (w.owner ≡ Some (record { inc = me; site = p.site; state = Running }))
own-through p me c w known did beside = grind (arith, common_steps)

-- after the write
abbrev StandsAfter : ControlRecord → Site → Purpose → (granted owner : Bool) → (me : ℕ) → Type 0
StandsAfter w x q granted owner me =
    Stands w x true (owner || names_owner w (number_after granted me w)) (is_sign_off q) (number_after granted me w)

-- what a sign-on as active makes of its writer
stands-active : (p : Settings) (granted owner : Bool) (me : ℕ) (c w : ControlRecord) (known : Known)
    → Wrote p SignOnActive me c known w → granted ≡ false → Stands c p.site granted owner false me → StandsAfter w p.site SignOnActive granted owner me
stands-active p granted owner me c w known did fresh stands =
    let own = own-active p me c w known did in
    record { is_granted = λ is. refl; runs = λ is over. grind (arith, common_steps); beside = λ is no_owner. grind (arith, common_steps) }

-- a sign-on as standby
stands-standby : (p : Settings) (granted owner : Bool) (me : ℕ) (c w : ControlRecord) (known : Known)
    → Wrote p SignOnStandby me c known w → IsRuled c → granted ≡ false → Stands c p.site granted owner false me
    → StandsAfter w p.site SignOnStandby granted owner me
stands-standby p granted owner me c w known did rule fresh stands =
    let own = own-standby p me c w known did rule in
    record { is_granted = λ is. refl; runs = λ is over. grind (arith, common_steps); beside = λ is no_owner. grind (arith, common_steps) }

-- a sign-off
stands-off : (p : Settings) (granted owner : Bool) (me : ℕ) (state : OwnerState) (c w : ControlRecord)
    → owner ≡ true → Stands c p.site granted owner false me → StandsAfter w p.site (SignOff state) granted owner me
stands-off p granted owner me state c w is_owner stands =
    record { is_granted = λ is. refl; runs = λ is over. grind (arith, common_steps); beside = λ is no_owner. grind (arith, common_steps) }

-- a drop
stands-drop : (p : Settings) (granted owner : Bool) (me : ℕ) (c w : ControlRecord) (known : Known)
    → Wrote p DropAlternate me c known w → owner ≡ true → Stands c p.site granted owner false me → StandsAfter w p.site DropAlternate granted owner me
stands-drop p granted owner me c w known did is_owner stands =
    let own = own-drop p me c w known did in
    record { is_granted = λ is. refl; runs = λ is over. grind (arith, common_steps); beside = λ is no_owner. grind (arith, common_steps) }

-- a leave
stands-leave : (p : Settings) (granted owner : Bool) (me : ℕ) (reason : EndWhy) (c w : ControlRecord) (known : Known)
    → Wrote p (Leave reason) me c known w → granted ≡ true → owner ≡ false → Stands c p.site granted owner false me
    → StandsAfter w p.site (Leave reason) granted owner me
stands-leave p granted owner me reason c w known did is_granted no_owner stands =
    let own = own-leave p me reason c w known did (stands.beside is_granted no_owner) in
    record { is_granted = λ is. refl; runs = λ is over. grind (arith, common_steps); beside = λ is no. grind (arith, common_steps) }

-- a start of a takeover
stands-start : (p : Settings) (granted owner : Bool) (me : ℕ) (cause : Cause) (c w : ControlRecord) (known : Known)
    → Wrote p (StartTakeover cause) me c known w → granted ≡ true → owner ≡ false → Stands c p.site granted owner false me
    → StandsAfter w p.site (StartTakeover cause) granted owner me
stands-start p granted owner me cause c w known did is_granted no_owner stands =
    let own = own-start p me cause c w known did (stands.beside is_granted no_owner) in
    record { is_granted = λ is. refl; runs = λ is over. grind (arith, common_steps); beside = λ is no. grind (arith, common_steps) }

-- a through
stands-through : (p : Settings) (granted owner : Bool) (me : ℕ) (c w : ControlRecord) (known : Known)
    → Wrote p GoThrough me c known w → granted ≡ true → owner ≡ false → Stands c p.site granted owner false me
    → StandsAfter w p.site GoThrough granted owner me
stands-through p granted owner me c w known did is_granted no_owner stands =
    let own = own-through p me c w known did (stands.beside is_granted no_owner) in
    record { is_granted = λ is. refl; runs = λ is over. grind (arith, common_steps); beside = λ is no. grind (arith, common_steps) }

-- **what a job is to the record stays so at its own write**
pub stands-kept : (p : Settings) (q : Purpose) (granted owner : Bool) (me : ℕ) (c w : ControlRecord) (known : Known)
    → Wrote p q me c known w → IsRuled c → Suits q granted owner → Stands c p.site granted owner false me
    → StandsAfter w p.site q granted owner me
stands-kept p SignOnActive granted owner me c w known did rule suits stands = stands-active p granted owner me c w known did suits stands
stands-kept p SignOnStandby granted owner me c w known did rule suits stands = stands-standby p granted owner me c w known did rule suits stands
stands-kept p (SignOff state) granted owner me c w known did rule suits stands = stands-off p granted owner me state c w suits stands
stands-kept p DropAlternate granted owner me c w known did rule suits stands = stands-drop p granted owner me c w known did suits stands
stands-kept p (Leave reason) granted owner me c w known did rule suits stands = stands-leave p granted owner me reason c w known did suits.0 suits.1 stands
stands-kept p (StartTakeover cause) granted owner me c w known did rule suits stands =
    stands-start p granted owner me cause c w known did suits.0 suits.1 stands
stands-kept p GoThrough granted owner me c w known did rule suits stands = stands-through p granted owner me c w known did suits.0 suits.1 stands
