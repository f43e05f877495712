-- What the steps of a job and of the other one keep of a job that waits.
use Rattle.std.proofs.Common.{Bool, Some, false, subst, sym, true, ℕ, ◌≡◌, ◌∙◌, None, Option, refl, arith, ◌||◌, ◌==◌, ap, is_some, not, ◌&&◌, if◌then◌else◌}
use Rattle.std.proofs.lemmas.Grind.{common_steps}
use Rattle.xrf_base.specs.declared.site.Site.{Site}
use Rattle.xrf_ctl.specs.Control.{ControlRecord}
use Rattle.xrf_ctl.specs.declared.parts.Owner.{Owner}
use Rattle.xrf_ctl.specs.declared.parts.OwnerState.{OwnerState}
use Rattle.xrf_ctl.specs.declared.parts.Taking.{Taking}
use Rattle.xrf_ctl.specs.declared.parts.Alt.{Alt}
use Rattle.xrf_ctl.specs.declared.parts.Cause.{Cause}
use Rattle.xrf_cavm.specs.declared.known.Known.{Known}
use Rattle.xrf_cavm.specs.Record.{inc_of_owner, owner_may_run, is_owner as names_owner}
use Rattle.xrf_history.specs.Holding.{number}
use Rattle.xrf_history.specs.Reserving.{DropAlternate, Purpose, SignOff, SignOnActive, SignOnStandby, GoThrough, Leave, StartTakeover}
use Rattle.xrf_history.specs.declared.settings.Settings.{Settings}
use Rattle.xrf_history.proofs.Writes.{Wrote, of_alternate, number_after}
use Rattle.xrf_history.proofs.Phases.{HasWritten}
use Rattle.xrf_history.proofs.Purposes.{Suits}
use Rattle.xrf_history.proofs.Decisions.{is_start}
use Rattle.xrf_history.proofs.Tests.{or-right}
use Rattle.xrf_trace.specs.Scenario.{other}
use Rattle.xrf_owner_law.specs.Waiting.{SameOwner, WaitView, Waits, MayRun, WaitsNow, is_gone}
use Rattle.xrf_owner_law.specs.Owner.{IsOwner, Knows, Beside, AltOnly}
use Rattle.xrf_owner_law.proofs.WritesKeep.{not-both, own-active, own-through}

-- an event of its own that brings nothing new
pub own-waits : (c : ControlRecord) (k : ℕ → Bool) (x : Site) (v v' : WaitView) → v'.waiting ≡ v.waiting → v'.number ≡ v.number
    → (v'.gone ≡ false → v.gone ≡ false)
    → (v'.looking ≡ true → (v.looking ≡ true) × (v'.seen ≡ v.seen)) → (v'.decided ≡ true → v.decided ≡ true) → Waits c k x v → Waits c k x v'
own-waits c k x v v' waiting number gone looking decided waits = λ is here.
    let now = waits (sym waiting ∙ is) (gone here) in
    record {
      alt = subst (λ (n : ℕ). c.alt ≡ Some (record { inc = n; site = x })) (sym number) now.alt;
      taking = now.taking;
      saw = λ looks. subst (λ (r : ControlRecord). SameOwner r.owner c.owner) (sym (looking looks).1) (now.saw (looking looks).0);
      over = λ due. now.over (decided due);
    }

-- an owner is the one that it was
pub kept-same : (o : Option Owner) → SameOwner o o
kept-same None = tt
kept-same (Some o) = (refl, λ is. is)

-- the decision: what was seen is over, so what is there is over
pub seen-over : (c seen : ControlRecord) (k : ℕ → Bool) (known : Known) → SameOwner seen.owner c.owner
    → (known.owner ≡ true → k (inc_of_owner seen.owner) ≡ true)
    → owner_may_run seen known ≡ false → MayRun c k ≡ false
seen-over c seen k known kept knows over = grind (arith, common_steps)

-- a confirmation
pub confirm-over : (c : ControlRecord) (k : ℕ → Bool) (n : ℕ) → MayRun c k ≡ false → MayRun c (λ m. n == m || k m) ≡ false
confirm-over c k n over = grind (arith, common_steps)

-- a write of the other job
abbrev pub of_owner : Purpose → Bool
of_owner (SignOff state) = true
of_owner DropAlternate = true
of_owner _ = false

-- a sign-off leaves the alternate
off-alt : (p : Settings) (state : OwnerState) (me : ℕ) (c w : ControlRecord) (known : Known) → Wrote p (SignOff state) me c known w → w.alt ≡ c.alt
off-alt p state me c w known did = grind (arith, common_steps)

-- and the taking
off-taking : (p : Settings) (state : OwnerState) (me : ℕ) (c w : ControlRecord) (known : Known) → Wrote p (SignOff state) me c known w → w.taking ≡ c.taking
off-taking p state me c w known did = grind (arith, common_steps)

-- and the owner, in another state
off-saw : (p : Settings) (state : OwnerState) (me : ℕ) (c w : ControlRecord) (known : Known) (seen : Option Owner)
    → Wrote p (SignOff state) me c known w → IsOwner c p.site me
    → SameOwner seen c.owner → SameOwner seen w.owner
off-saw p state me c w known seen did owner kept = grind (arith, common_steps)

-- an owner that runs and is not confirmed may run
owner-over : (p : Settings) (me : ℕ) (c : ControlRecord) (k : ℕ → Bool) → IsOwner c p.site me → k me ≡ false → MayRun c k ≡ false → ⊥
owner-over p me c k owner open_yet over = grind (arith, common_steps)

-- a sign-off keeps what holds of one that waits
off-waits : (p : Settings) (state : OwnerState) (me : ℕ) (c w : ControlRecord) (known : Known) (k : ℕ → Bool) (x : Site) (v : WaitView)
    → Wrote p (SignOff state) me c known w
    → IsOwner c p.site me → k me ≡ false → WaitsNow c k x v → WaitsNow w k x v
off-waits p state me c w known k x v did owner open_yet now = record {
  alt = off-alt p state me c w known did ∙ now.alt;
  taking = ap (λ (o : Option Taking). is_some o) (off-taking p state me c w known did) ∙ now.taking;
  saw = λ looks. off-saw p state me c w known v.seen.owner did owner (now.saw looks);
  over = λ due. absurd (owner-over p me c k owner open_yet (now.over due));
}

-- a sign-on as active does not come beside one that waits
active-waits : (p : Settings) (me : ℕ) (c w : ControlRecord) (known : Known) (k : ℕ → Bool) (x : Site) (n : ℕ) → Wrote p SignOnActive me c known w
    → Knows k known c
    → c.alt ≡ Some (record { inc = n; site = x }) → k n ≡ false → ⊥
active-waits p me c w known k x n did knows alt open_yet = grind (arith, common_steps)

-- nor does a sign-on as standby
standby-waits : (p : Settings) (me : ℕ) (c w : ControlRecord) (known : Known) (x : Site) (n : ℕ) → Wrote p SignOnStandby me c known w
    → p.site ≡ other x → Beside c x n → ⊥
standby-waits p me c w known x n did there beside = grind (arith, common_steps)

-- nor does a drop write
drop-waits : (p : Settings) (me : ℕ) (c w : ControlRecord) (known : Known) → Wrote p DropAlternate me c known w → is_some c.taking ≡ true → ⊥
drop-waits p me c w known did taking = grind (arith, common_steps)

-- of the writer: what a job of a purpose is to the record
pub record Writer (p : Settings) (q : Purpose) (me : ℕ) (c : ControlRecord) (k : ℕ → Bool) : Type 0 where
  pub alternate : of_alternate q ≡ true → Beside c p.site me
  pub owner : of_owner q ≡ true → IsOwner c p.site me × (k me ≡ false)

-- **a write of the other job keeps what holds of one that waits**
pub other-waits : (p : Settings) (q : Purpose) (me : ℕ) (c w : ControlRecord) (known : Known) (k : ℕ → Bool) (x : Site) (v : WaitView)
    → Wrote p q me c known w → Knows k known c
    → Writer p q me c k → p.site ≡ other x → Beside c x v.number → k v.number ≡ false → WaitsNow c k x v → WaitsNow w k x v
other-waits p SignOnActive me c w known k x v did knows writer there beside open_yet now =
    absurd (active-waits p me c w known k x v.number did knows now.alt open_yet)
other-waits p SignOnStandby me c w known k x v did knows writer there beside open_yet now = absurd (standby-waits p me c w known x v.number did there beside)
other-waits p (SignOff state) me c w known k x v did knows writer there beside open_yet now =
    let owner = writer.owner refl in off-waits p state me c w known k x v did owner.0 owner.1 now
other-waits p DropAlternate me c w known k x v did knows writer there beside open_yet now = absurd (drop-waits p me c w known did now.taking)
other-waits p (Leave reason) me c w known k x v did knows writer there beside open_yet now =
    absurd (not-both c p.site x v.number me there beside (writer.alternate refl))
other-waits p (StartTakeover cause) me c w known k x v did knows writer there beside open_yet now =
    absurd (not-both c p.site x v.number me there beside (writer.alternate refl))
other-waits p GoThrough me c w known k x v did knows writer there beside open_yet now =
    absurd (not-both c p.site x v.number me there beside (writer.alternate refl))

-- whether it waits after a write, by what it was
abbrev pub waits_after : (owner started : Bool) → (me : ℕ) → ControlRecord → Bool
waits_after owner started me w = not (owner || names_owner w me) && (started || (not (owner || names_owner w me) && is_some w.taking))

-- the place of a job in the record
abbrev pub Named : ControlRecord → Site → ℕ → Type 0
Named w x n = (w.alt ≡ Some (record { inc = n; site = x })) × (is_some w.taking ≡ true)

-- one that waits after its write is no owner
not-owner : (owner started : Bool) (me : ℕ) (w : ControlRecord) → (owner || names_owner w me) ≡ true → waits_after owner started me w ≡ true → ⊥
not-owner owner started me w is waits = grind (arith, common_steps)

-- a standby that signs on does not wait
not-standby : (p : Settings) (me n : ℕ) (c w : ControlRecord) (known : Known) (owner started : Bool) → Wrote p SignOnStandby me c known w
    → started ≡ false → waits_after owner started n w ≡ true → ⊥
not-standby p me n c w known owner started did fresh waits = grind (arith, common_steps)

-- who begins to wait wrote a taking
taking-after : (owner started : Bool) (me : ℕ) (w : ControlRecord) → started ≡ false → waits_after owner started me w ≡ true → is_some w.taking ≡ true
taking-after owner started me w fresh waits = grind (arith, common_steps)

-- an alternate that is there and is no other is the job's
alt-only : (o : Option Alt) (x : Site) (n : ℕ) → AltOnly o x n → is_some o ≡ true → o ≡ Some (record { inc = n; site = x })
alt-only None x n only there = absurd (cc)
alt-only (Some a) x n only there = grind (arith, common_steps)

-- a start keeps the place
start-alt : (p : Settings) (why : Cause) (me : ℕ) (c w : ControlRecord) (known : Known) → Wrote p (StartTakeover why) me c known w → is_some w.taking ≡ true
    → (w.alt ≡ c.alt) × (is_some c.alt ≡ true)
start-alt p why me c w known did taking = grind (arith, common_steps)

-- and names its own taking
start-named : (p : Settings) (why : Cause) (me : ℕ) (c w : ControlRecord) (known : Known) → Wrote p (StartTakeover why) me c known w
    → Beside c p.site me → is_some w.taking ≡ true
    → Named w p.site me
start-named p why me c w known did beside taking =
    let alt = start-alt p why me c w known did taking in (alt.0 ∙ alt-only c.alt p.site me beside.alt alt.1, taking)

-- what holds of one that begins to wait by its write
pub written-waits : (p : Settings) (q : Purpose) (me : ℕ) (c w : ControlRecord) (known : Known) (granted owner started : Bool)
    → Wrote p q me c known w → Suits q granted owner
    → (granted ≡ false → started ≡ false) → (is_start q ≡ true → started ≡ false) → (granted ≡ true → owner ≡ false → Beside c p.site me)
    → waits_after owner started (number_after granted me w) w ≡ true → is_gone HasWritten q ≡ false → Named w p.site (number_after granted me w)
written-waits p SignOnActive me c w known granted owner started did suits fresh start beside waits here =
    absurd (not-owner owner started (number_after granted me w) w
    (or-right owner (names_owner w (number_after granted me w))
    (ap (λ (b : Bool). names_owner w (if b then me else w.last)) suits ∙ (own-active p me c w known did).0)) waits)
written-waits p SignOnStandby me c w known granted owner started did suits fresh start beside waits here =
    absurd (not-standby p me (number_after granted me w) c w known owner started did (fresh suits) waits)
written-waits p (SignOff state) me c w known granted owner started did suits fresh start beside waits here =
    absurd (not-owner owner started (number_after granted me w) w (ap (λ (b : Bool). b || names_owner w (number_after granted me w)) suits) waits)
written-waits p DropAlternate me c w known granted owner started did suits fresh start beside waits here =
    absurd (not-owner owner started (number_after granted me w) w (ap (λ (b : Bool). b || names_owner w (number_after granted me w)) suits) waits)
written-waits p (Leave reason) me c w known granted owner started did suits fresh start beside waits here = absurd (cc)
written-waits p (StartTakeover why) me c w known granted owner started did suits fresh start beside waits here =
    let number : number_after granted me w ≡ me = ap (λ (b : Bool). if b then me else w.last) suits.0 in
    subst (Named w p.site) (sym number)
    (start-named p why me c w known did (beside suits.0 suits.1) (taking-after owner started (number_after granted me w) w (start refl) waits))
written-waits p GoThrough me c w known granted owner started did suits fresh start beside waits here =
    absurd (not-owner owner started (number_after granted me w) w
    (or-right owner (names_owner w (number_after granted me w))
    (ap (λ (b : Bool). names_owner w (if b then me else w.last)) suits.0 ∙ (own-through p me c w known did (beside suits.0 suits.1)).0)) waits)
