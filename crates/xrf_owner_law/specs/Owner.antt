-- The law of the owner: what holds of the control record and the jobs at any time.
use Rattle.std.specs.Prelude.{Bool, true, ◌≡◌, ℕ, false, ◌≤◌, None, Option, Some, ◌≢◌, IfSome, List}
use Rattle.std.specs.Option.{option_map}
use Rattle.xrf_base.specs.declared.site.Site.{Site}
use Rattle.xrf_ctl.specs.Control.{ControlRecord}
use Rattle.xrf_ctl.specs.declared.parts.Owner.{Owner}
use Rattle.xrf_ctl.specs.declared.parts.Alt.{Alt}
use Rattle.xrf_ctl.specs.declared.parts.OwnerState.TheVariants.{Running}
use Rattle.xrf_cavm.specs.declared.known.Known.{Known}
use Rattle.xrf_cavm.specs.Record.{inc_of_alt, inc_of_owner}
use Rattle.xrf_history.proofs.Purposes.{Suits}
use Rattle.xrf_history.proofs.Phases.{before_write, HasRead, has_reserve}
use Rattle.xrf_history.proofs.Writes.{IsRuled}
use Rattle.xrf_trace.specs.Scenario.{other, Scen, settings}
use Rattle.xrf_trace.specs.declared.entry.Entry.{Entry}
use Rattle.xrf_trace.specs.Jobs.{hist}
use Rattle.xrf_trace.specs.Words.{confirmed, holds_reserve}
use Rattle.xrf_trace.specs.Devices.{control}
use Rattle.xrf_owner_law.specs.Views.{View, is_over, view}

-- what was handed as confirmed is confirmed
pub record Knows (k : ℕ → Bool) (known : Known) (c : ControlRecord) : Type 0 where
  pub owner : known.owner ≡ true → k (inc_of_owner c.owner) ≡ true
  pub alt : known.alt ≡ true → k (inc_of_alt c.alt) ≡ true

-- a number that is held
pub record IsHeld (c : ControlRecord) (k : ℕ → Bool) (n : ℕ) : Type 0 where
  pub some : 1 ≤ n
  pub given : n ≤ c.last
  pub open_yet : k n ≡ false

-- beside an alternate of a number at a site: the owner is another, at the other site; no other alternate
abbrev pub OwnerBeside : Option Owner → Site → ℕ → Type 0
OwnerBeside None x n = ⊥
OwnerBeside (Some o) x n = (o.site ≡ other x) × (o.inc ≢ n)

-- no other alternate, and at this site
abbrev pub AltOnly : Option Alt → Site → ℕ → Type 0
AltOnly None x n = Unit {0}
AltOnly (Some a) x n = (a.inc ≡ n) × (a.site ≡ x)

-- beside an alternate of a number at a site: the owner is another, at the other site; no other alternate
pub record Beside (c : ControlRecord) (x : Site) (n : ℕ) : Type 0 where
  pub owner : OwnerBeside c.owner x n
  pub alt : AltOnly c.alt x n

-- of the history alone: who holds no number has 0, and until it writes its purpose suits what it is
pub record Sound (v : View) : Type 0 where
  pub none : v.granted ≡ false → v.number ≡ 0
  pub suits : before_write v.phase ≡ true → Suits v.purpose v.granted v.owner

-- the owner that runs
abbrev pub IsOwner : ControlRecord → Site → ℕ → Type 0
IsOwner c x n = c.owner ≡ Some (record { inc = n; site = x; state = Running })

-- what a job is to the record: an owner whose sign-off is not over runs, and an alternate stands beside the owner
pub record Stands (c : ControlRecord) (x : Site) (granted owner over : Bool) (n : ℕ) : Type 0 where
  pub is_granted : owner ≡ true → granted ≡ true
  pub runs : owner ≡ true → over ≡ false → IsOwner c x n
  pub beside : granted ≡ true → owner ≡ false → Beside c x n

-- what holds of a job at a site
pub record Job (c : ControlRecord) (k : ℕ → Bool) (x : Site) (v : View) : Type 0 where
  pub read : v.phase ≡ HasRead → (v.read ≡ c) × Knows k v.known c
  pub held : v.granted ≡ true → IsHeld c k v.number
  pub stands : Stands c x v.granted v.owner (is_over v.phase v.purpose) v.number

-- What holds of the control record and both jobs, seen from a site: the record, what is confirmed, the job at the
-- site and the one at the other, and which of them holds the reserve.
abbrev pub reserves_of : Option View → Bool
reserves_of None = false
reserves_of (Some v) = has_reserve v.phase

-- two jobs that hold numbers hold two
abbrev pub Apart : Option View → Option View → Type 0
Apart (Some v) (Some u) = v.granted ≡ true → u.granted ≡ true → v.number ≢ u.number
Apart _ _ = Unit {0}

-- the record and both jobs, seen from a site: THE INVARIANT
pub record Both (c : ControlRecord) (k : ℕ → Bool) (x : Site) (own beside : Option View) (r q : Bool) : Type 0 where
  pub rule : IsRuled c
  pub given : (n : ℕ) → k n ≡ true → n ≤ c.last
  pub job : IfSome own (Job c k x)
  pub job_beside : IfSome beside (Job c k (other x))
  pub reserve : r ≡ reserves_of own
  pub reserve_beside : q ≡ reserves_of beside
  pub alone : r ≡ true → q ≡ true → ⊥
  pub apart : Apart own beside

-- what is read of the job at a site
abbrev pub view_at : Scen → List Entry → Site → Option View
view_at s t x = option_map (view (settings s x)) (hist s t x)

-- the invariant of a trace, seen from a site
abbrev pub HoldsAt : Scen → List Entry → Site → Type 0
HoldsAt s t x = Both (control t) (confirmed t) x (view_at s t x) (view_at s t (other x)) (holds_reserve t x) (holds_reserve t (other x))
