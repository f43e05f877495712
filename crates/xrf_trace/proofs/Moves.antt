-- What an entry of a run does to the jobs and the control data set: one move for each kind of entry.
use Rattle.std.specs.Prelude.{Bool, false, true, List, Some, ◌≡◌, ◌+◌, ℕ, ◌∷◌, None, ◌⊎◌, [], ◌==◌, ◌||◌}
use Rattle.std.specs.Option.{option_map}
use Rattle.xrf_base.specs.declared.site.Site.{Site}
use Rattle.xrf_ctl.specs.Control.{ControlRecord}
use Rattle.xrf_gated.specs.Slots.{bytes_of}
use Rattle.xrf_history.specs.Events.{ControlWritten, Event, Released, Reserved, ControlRead, DecisionMade, Given, Looked1, Looked2, MessageRead, Ticked}
use Rattle.xrf_history.specs.Looking.{record_seen}
use Rattle.xrf_history.proofs.Histories.{Comes, is_started}
use Rattle.xrf_history.specs.Next.{next}
use Rattle.xrf_history.specs.declared.want.Want.TheVariants as want
use Rattle.xrf_trace.specs.declared.entry.Entry.{Entry}
use Rattle.xrf_trace.specs.Scenario.{Scen, item_at, other, settings}
use Rattle.xrf_trace.specs.Devices.{control, message_slot, sector1, sector2}
use Rattle.xrf_trace.specs.Words.{items_taken, reserve_is_free, confirmed, holds_reserve}
use Rattle.xrf_trace.specs.Jobs.{known_of, hist}
use Rattle.xrf_trace.specs.Refusals.{may_confirm}

-- the record, and the reserve of its site, after an event of a job
abbrev pub control_by : Event → ControlRecord → ControlRecord
control_by (ControlWritten written) before = written
control_by _ before = before

-- the reserve of a site after an event of its job
abbrev pub reserve_by : Event → Bool → Bool
reserve_by Reserved before = true
reserve_by Released before = false
reserve_by _ before = before

-- what an event is handed
abbrev pub IsHanded : Scen → List Entry → Site → List Event → Event → Type 0
IsHanded s t x h Reserved = reserve_is_free t ≡ true
IsHanded s t x h (ControlRead held known) = (held ≡ control t) × (known ≡ known_of t (control t))
IsHanded s t x h (Looked1 held signal) = (held ≡ control t) × (signal ≡ sector1 t (other x))
IsHanded s t x h (Looked2 signal at) = signal ≡ sector2 t (other x)
IsHanded s t x h (DecisionMade known at decision) = known ≡ known_of t (record_seen h)
IsHanded s t x h (MessageRead k slot) = slot ≡ bytes_of (message_slot t k)
IsHanded s t x h (Given item) = item_at s x (items_taken t x + 1) ≡ Some item
IsHanded s t x h _ = Unit {0}

-- an event of the job at a site, which goes on
pub record Makes (s : Scen) (t : List Entry) (e : Entry) (x : Site) (h : List Event) (made : Event) : Type 0 where
  pub before : hist s t x ≡ Some h
  pub after : hist s (e ∷ t) x ≡ Some (made ∷ h)
  pub beside : hist s (e ∷ t) (other x) ≡ hist s t (other x)
  pub comes : Comes (settings s x) h made
  pub handed : IsHanded s t x h made
  pub record_after : control (e ∷ t) ≡ control_by made (control t)
  pub confirmed_after : (n : ℕ) → confirmed (e ∷ t) n ≡ confirmed t n
  pub reserve_after : holds_reserve (e ∷ t) x ≡ reserve_by made (holds_reserve t x)
  pub reserve_beside : holds_reserve (e ∷ t) (other x) ≡ holds_reserve t (other x)

-- the job at a site stops or ends; a stop may let its write of the control record land
abbrev pub CutWrite : Scen → List Entry → Entry → Site → Type 0
CutWrite s t e x = (h : List Event) × (w : ControlRecord) × (hist s t x ≡ Some h) × (next (settings s x) h ≡ want.CtlWrite w) × (control (e ∷ t) ≡ w)

-- the job at a site stops or ends
pub record Goes (s : Scen) (t : List Entry) (e : Entry) (x : Site) : Type 0 where
  pub after : hist s (e ∷ t) x ≡ None
  pub beside : hist s (e ∷ t) (other x) ≡ hist s t (other x)
  pub record_after : (control (e ∷ t) ≡ control t) ⊎ CutWrite s t e x
  pub confirmed_after : (n : ℕ) → confirmed (e ∷ t) n ≡ confirmed t n
  pub reserve_after : holds_reserve (e ∷ t) x ≡ false
  pub reserve_beside : holds_reserve (e ∷ t) (other x) ≡ holds_reserve t (other x)

-- a job starts at a site
pub record Starts (s : Scen) (t : List Entry) (e : Entry) (x : Site) (made : Event) : Type 0 where
  pub started : is_started made ≡ true
  pub before : hist s t x ≡ None
  pub after : hist s (e ∷ t) x ≡ Some (made ∷ [])
  pub beside : hist s (e ∷ t) (other x) ≡ hist s t (other x)
  pub record_after : control (e ∷ t) ≡ control t
  pub confirmed_after : (n : ℕ) → confirmed (e ∷ t) n ≡ confirmed t n
  pub reserve_after : (y : Site) → holds_reserve (e ∷ t) y ≡ holds_reserve t y

-- a tick, and a confirmation
pub record Ticks (s : Scen) (t : List Entry) (e : Entry) : Type 0 where
  pub after : (x : Site) → hist s (e ∷ t) x ≡ option_map (λ h. Ticked ∷ h) (hist s t x)
  pub record_after : control (e ∷ t) ≡ control t
  pub confirmed_after : (n : ℕ) → confirmed (e ∷ t) n ≡ confirmed t n
  pub reserve_after : (y : Site) → holds_reserve (e ∷ t) y ≡ holds_reserve t y

-- a confirmation
pub record Confirms (s : Scen) (t : List Entry) (e : Entry) (n : ℕ) : Type 0 where
  pub may : may_confirm s t n ≡ true
  pub after : (x : Site) → hist s (e ∷ t) x ≡ hist s t x
  pub record_after : control (e ∷ t) ≡ control t
  pub confirmed_after : (m : ℕ) → confirmed (e ∷ t) m ≡ (n == m || confirmed t m)
  pub reserve_after : (y : Site) → holds_reserve (e ∷ t) y ≡ holds_reserve t y

-- what an entry of a run does
pub data Move (s : Scen) (t : List Entry) (e : Entry) : Type 0 where
  Made : (x : Site) → (h : List Event) → (made : Event) → Makes s t e x h made → Move s t e
  Gone : (x : Site) → Goes s t e x → Move s t e
  Started : (x : Site) → (made : Event) → Starts s t e x made → Move s t e
  Tick : Ticks s t e → Move s t e
  Confirmed : (n : ℕ) → Confirms s t e n → Move s t e
