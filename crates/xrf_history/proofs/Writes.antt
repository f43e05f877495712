-- What is written for each purpose, and what it keeps of the record.
use Rattle.std.proofs.Common.{Some, arith, ◌≡◌, ℕ, ◌≤◌, None, false, is_some, true, ◌+◌, ◌⊎◌, Bool, if◌then◌else◌, Option, ◌≢◌}
use Rattle.std.proofs.lemmas.Grind.{common_steps}
use Rattle.xrf_ctl.specs.declared.parts.Owner.{Owner}
use Rattle.xrf_ctl.specs.declared.parts.Alt.{Alt}
use Rattle.xrf_ctl.specs.Control.{ControlRecord, of_parts}
use Rattle.xrf_ctl.specs.declared.parts.OwnerState.TheVariants.{OffNormal, Running}
use Rattle.xrf_ctl.specs.declared.parts.OwnerState.{OwnerState}
use Rattle.xrf_ctl.specs.declared.parts.Cause.{Cause}
use Rattle.xrf_cavm.specs.Record.{inc_of_alt, inc_of_owner, alt_may_run, is_alt, is_owner as names_owner, owner_is, owner_may_run}
use Rattle.xrf_cavm.specs.declared.known.Known.{Known}
use Rattle.xrf_cavm.specs.Writes.{as_owner, with_state, sign_off, drop_alternate, leave, start_takeover, let_through}
use Rattle.xrf_cavm.specs.Grants.{is_at, is_foreign, owner_format, grant_active, grant_standby}
use Rattle.xrf_history.specs.Reserving.{Purpose, record_by_purpose, DropAlternate, GoThrough, Leave, SignOff, SignOnActive, SignOnStandby, StartTakeover, granted, dropped, or_else}
use Rattle.xrf_history.specs.declared.settings.Settings.{Settings}
use Rattle.xrf_history.specs.declared.want.EndWhy.{EndWhy}

-- the record gives no number above its last; an alternate stands beside another owner
abbrev pub OtherOwner : Option Owner → ℕ → Type 0
OtherOwner None n = ⊥
OtherOwner (Some o) n = o.inc ≢ n

-- an alternate stands beside another owner
abbrev pub AltRule : Option Owner → Option Alt → Type 0
AltRule o None = Unit {0}
AltRule o (Some a) = OtherOwner o a.inc

-- the record's own rule of places
pub record IsRuled (c : ControlRecord) : Type 0 where
  pub owner : inc_of_owner c.owner ≤ c.last
  pub alt : inc_of_alt c.alt ≤ c.last
  pub other : AltRule c.owner c.alt

-- the last number and the record's own rule
pub last-kept : (p : Settings) (q : Purpose) (me epoch : ℕ) (c w : ControlRecord) (known : Known) → record_by_purpose p q me epoch c known ≡ Some w
    → c.last ≤ w.last
last-kept p q me epoch c w known is = grind (arith, common_steps)

-- what a write is, by its purpose: its tests, and the record written
abbrev pub Wrote : Settings → Purpose → (me : ℕ) → ControlRecord → Known → ControlRecord → Type 0
Wrote p SignOnActive me c known w =
    (owner_may_run c known ≡ false)
    × (w ≡ of_parts (owner_format p.level c.format) (c.last + 1) (Some (record { inc = c.last + 1; site = p.site; state = Running })) None None)
    × (is_foreign p.level c.format ≡ false) × (alt_may_run c known ≡ false)
Wrote p SignOnStandby me c known w =
    (owner_is c Running ≡ true) × (is_at c.owner p.site ≡ false)
    × (w ≡ of_parts c.format (c.last + 1) c.owner (Some (record { inc = c.last + 1; site = p.site })) None)
    × (is_foreign p.level c.format ≡ false) × (alt_may_run c known ≡ false)
Wrote p (SignOff state) me c known w = (names_owner c me ≡ true) × (w ≡ record c { owner = with_state state c.owner })
Wrote p DropAlternate me c known w = (c.taking ≡ None) × (w ≡ record c { alt = None })
Wrote p (Leave reason) me c known w = (is_alt c me ≡ true) × (w ≡ record c { alt = None; taking = None })
Wrote p (StartTakeover cause) me c known w =
    (is_alt c me ≡ true)
    × (((owner_is c OffNormal ≡ false) × (w ≡ record c { taking = Some (record { inc = me; cause = cause }) }))
    ⊎ ((owner_is c OffNormal ≡ true) × (w ≡ record c { alt = None; taking = None })))
Wrote p GoThrough me c known w =
    (is_alt c me ≡ true) × (owner_may_run c known ≡ false) × (is_some c.taking ≡ true)
    × (w ≡ of_parts (owner_format p.level c.format) c.last (as_owner c.alt) None None)

-- a sign-on as active
wrote-active : (p : Settings) (c w : ControlRecord) (known : Known) → granted (grant_active c p.site known p.level) ≡ Some w → Wrote p SignOnActive 0 c known w
wrote-active p c w known is = grind (arith, common_steps)

-- a sign-on as standby
wrote-standby : (p : Settings) (c w : ControlRecord) (known : Known) → granted (grant_standby c p.site known p.level) ≡ Some w
    → Wrote p SignOnStandby 0 c known w
wrote-standby p c w known is = grind (arith, common_steps)

-- a sign-off
wrote-off : (p : Settings) (c w : ControlRecord) (me : ℕ) (state : OwnerState) (known : Known) → sign_off c me state ≡ Some w
    → Wrote p (SignOff state) me c known w
wrote-off p c w me state known is = grind (arith, common_steps)

-- a drop
wrote-drop : (p : Settings) (c w : ControlRecord) (me epoch : ℕ) (known : Known) → dropped (drop_alternate c epoch) ≡ Some w
    → Wrote p DropAlternate me c known w
wrote-drop p c w me epoch known is = grind (arith, common_steps)

-- a leave
wrote-leave : (p : Settings) (c w : ControlRecord) (me : ℕ) (reason : EndWhy) (known : Known) → leave c me ≡ Some w → Wrote p (Leave reason) me c known w
wrote-leave p c w me reason known is = grind (arith, common_steps)

-- a start of a takeover
wrote-start : (p : Settings) (c w : ControlRecord) (me : ℕ) (cause : Cause) (known : Known)
    → or_else (start_takeover c me cause) (leave c me) ≡ Some w → Wrote p (StartTakeover cause) me c known w
wrote-start p c w me cause known is = grind (arith, common_steps)

-- a through
wrote-through : (p : Settings) (c w : ControlRecord) (me : ℕ) (known : Known) → let_through c me known p.level ≡ Some w → Wrote p GoThrough me c known w
wrote-through p c w me known is = grind (arith, common_steps)

-- what a write is, by its purpose
pub wrote : (p : Settings) (q : Purpose) (me epoch : ℕ) (c w : ControlRecord) (known : Known) → record_by_purpose p q me epoch c known ≡ Some w
    → Wrote p q me c known w
wrote p SignOnActive me epoch c w known is = wrote-active p c w known is
wrote p SignOnStandby me epoch c w known is = wrote-standby p c w known is
wrote p (SignOff state) me epoch c w known is = wrote-off p c w me state known is
wrote p DropAlternate me epoch c w known is = wrote-drop p c w me epoch known is
wrote p (Leave reason) me epoch c w known is = wrote-leave p c w me reason known is
wrote p (StartTakeover cause) me epoch c w known is = wrote-start p c w me cause known is
wrote p GoThrough me epoch c w known is = wrote-through p c w me known is

-- the purposes of an alternate
abbrev pub of_alternate : Purpose → Bool
of_alternate (Leave reason) = true
of_alternate (StartTakeover cause) = true
of_alternate GoThrough = true
of_alternate _ = false

-- the record's own rule
rule-active : (p : Settings) (me : ℕ) (c w : ControlRecord) (known : Known) → Wrote p SignOnActive me c known w → IsRuled c → IsRuled w
rule-active p me c w known did rule = grind (arith, common_steps)

-- a sign-on as standby
rule-standby : (p : Settings) (me : ℕ) (c w : ControlRecord) (known : Known) → Wrote p SignOnStandby me c known w → IsRuled c → IsRuled w
rule-standby p me c w known did rule = grind (arith, common_steps)

-- a sign-off
rule-off : (p : Settings) (me : ℕ) (state : OwnerState) (c w : ControlRecord) (known : Known) → Wrote p (SignOff state) me c known w → IsRuled c → IsRuled w
rule-off p me state c w known did rule = grind (arith, common_steps)

-- a drop
rule-drop : (p : Settings) (me : ℕ) (c w : ControlRecord) (known : Known) → Wrote p DropAlternate me c known w → IsRuled c → IsRuled w
rule-drop p me c w known did rule = grind (arith, common_steps)

-- a leave
rule-leave : (p : Settings) (me : ℕ) (reason : EndWhy) (c w : ControlRecord) (known : Known) → Wrote p (Leave reason) me c known w → IsRuled c → IsRuled w
rule-leave p me reason c w known did rule = grind (arith, common_steps)

-- a start of a takeover
rule-start : (p : Settings) (me : ℕ) (cause : Cause) (c w : ControlRecord) (known : Known) → Wrote p (StartTakeover cause) me c known w → IsRuled c → IsRuled w
rule-start p me cause c w known did rule = grind (arith, common_steps)

-- a through
rule-through : (p : Settings) (me : ℕ) (c w : ControlRecord) (known : Known) → Wrote p GoThrough me c known w → IsRuled c → IsRuled w
rule-through p me c w known did rule = grind (arith, common_steps)

-- whatever is written keeps the rule of places
pub rule-kept : (p : Settings) (q : Purpose) (me : ℕ) (c w : ControlRecord) (known : Known) → Wrote p q me c known w → IsRuled c → IsRuled w
rule-kept p SignOnActive me c w known did rule = rule-active p me c w known did rule
rule-kept p SignOnStandby me c w known did rule = rule-standby p me c w known did rule
rule-kept p (SignOff state) me c w known did rule = rule-off p me state c w known did rule
rule-kept p DropAlternate me c w known did rule = rule-drop p me c w known did rule
rule-kept p (Leave reason) me c w known did rule = rule-leave p me reason c w known did rule
rule-kept p (StartTakeover cause) me c w known did rule = rule-start p me cause c w known did rule
rule-kept p GoThrough me c w known did rule = rule-through p me c w known did rule

-- the writer itself: whether it is an owner after its write
abbrev pub number_after : Bool → ℕ → ControlRecord → ℕ
number_after granted me w = if granted then me else w.last
