-- What is known of the owner, the alternate, their numbers and the record at any time, and of a write that comes next.
use Rattle.std.specs.Prelude.{List, Some, false, is_some, length, true, ◌-◌, ◌≡◌, ◌≢◌, ℕ, ◌≤◌, ◌<◌, ◌^◌, ◌+◌, ◌∷◌}
use Rattle.xrf_base.specs.declared.site.Site.{Site}
use Rattle.xrf_ctl.specs.Control.{KeepsRule, ControlRecord}
use Rattle.xrf_ctl.specs.declared.parts.OwnerState.{OwnerState}
use Rattle.xrf_cavm.specs.Record.{is_alt}
use Rattle.xrf_cavm.specs.Writes.{let_through, sign_off}
use Rattle.xrf_history.specs.Events.{Event, ControlWritten}
use Rattle.xrf_history.specs.Reserving.{GoThrough, SignOff, known_read, purpose, record_read, sign_off_due}
use Rattle.xrf_history.proofs.Phases.{HasRead, has_reserve, phase}
use Rattle.xrf_history.proofs.SigningOff.{Stays}
use Rattle.xrf_history.specs.Notices.{drop_is_made, epoch}
use Rattle.xrf_history.specs.Progress.{has_signed_off, is_active}
use Rattle.xrf_history.specs.Holding.{is_alternate, is_granted, is_owner, is_waiting, number, starts_active}
use Rattle.xrf_history.specs.Next.{next}
use Rattle.xrf_history.specs.declared.want.Want.TheVariants as want
use Rattle.xrf_trace.specs.declared.entry.Entry.{Entry}
use Rattle.xrf_trace.specs.Scenario.{Scen, other, settings}
use Rattle.xrf_trace.specs.Words.{confirmed, holds_reserve, who_at}
use Rattle.xrf_trace.specs.Devices.{control}
use Rattle.xrf_trace.specs.Jobs.{hist}
use Rattle.xrf_trace.specs.OneUpdater.{running_owner}
use Rattle.xrf_owner_law.specs.Owner.{Beside, IsHeld}
use Rattle.xrf_owner_law.specs.Waiting.{WaitsNow, is_gone, wait_view}

-- of the record and the jobs
pub record IsKnown (s : Scen) (t : List Entry) : Type 0 where
  -- the record keeps its rule; its last number is at most the number of entries, and so below 4,294,967,295
  pub rule : KeepsRule (control t)
  pub last : (control t).last ≤ length t
  pub few : (control t).last < 2 ^ 32 - 1
  -- a number that a job holds is from 1 to the last, and is not confirmed; two jobs never hold one number
  pub held : (x : Site) (h : List Event) → hist s t x ≡ Some h → is_granted h ≡ true → IsHeld (control t) (confirmed t) (number h)
  pub apart : (x : Site) (h g : List Event) → hist s t x ≡ Some h → hist s t (other x) ≡ Some g → is_granted h ≡ true → is_granted g ≡ true
      → number h ≢ number g
  -- the reserve is the job's from RESERVE to RELEASE, and never both jobs'
  pub reserve : (x : Site) (h : List Event) → hist s t x ≡ Some h → holds_reserve t x ≡ has_reserve (phase (settings s x) h)
  pub alone : (x : Site) → holds_reserve t x ≡ true → holds_reserve t (other x) ≡ false
  -- an active is the Running owner of the record at its site, and so is an owner that has not reserved for its sign-off;
  -- who has signed off has its sign-off due still
  pub active : (x : Site) (h : List Event) → hist s t x ≡ Some h → is_active h ≡ true → (control t).owner ≡ running_owner (who_at x) (number h)
  pub one_active : (x : Site) (h g : List Event) → hist s t x ≡ Some h → hist s t (other x) ≡ Some g → is_active h ≡ true → is_active g ≡ false
  pub staying : (x : Site) (h : List Event) → hist s t x ≡ Some h → Stays h → (control t).owner ≡ running_owner (who_at x) (number h)
  pub off : (x : Site) (h : List Event) → hist s t x ≡ Some h → has_signed_off h ≡ true → is_some (sign_off_due h) ≡ true
  -- a job that was started as active is an owner once it holds a number
  pub active_owns : (x : Site) (h : List Event) → hist s t x ≡ Some h → starts_active h ≡ true → is_granted h ≡ true → is_owner h ≡ true
  -- beside an alternate the owner is another, at the other site, and the record has no other alternate
  pub place : (x : Site) (h : List Event) → hist s t x ≡ Some h → is_alternate h ≡ true → Beside (control t) x (number h)
  -- while an alternate waits its place and a taking stand, and the owner is the one that it saw
  pub waiting : (x : Site) (h : List Event) → hist s t x ≡ Some h → is_waiting h ≡ true → is_gone (phase (settings s x) h) (purpose h) ≡ false
      → WaitsNow (control t) (confirmed t) x (wait_view (settings s x) h)
  -- after the CTLREAD of a sign-off, and of a through, there is a record to write
  pub gives_off : (x : Site) (h : List Event) (state : OwnerState) → hist s t x ≡ Some h → phase (settings s x) h ≡ HasRead → purpose h ≡ SignOff state
      → is_some (sign_off (record_read h) (number h) state) ≡ true
  pub gives_through : (x : Site) (h : List Event) → hist s t x ≡ Some h → phase (settings s x) h ≡ HasRead → purpose h ≡ GoThrough
      → is_some (let_through (record_read h) (number h) (known_read h) (settings s x).level) ≡ true
  -- an alternate of the record has a number that was given
  pub alt_given : (n : ℕ) → is_alt (control t) n ≡ true → (1 ≤ n) × (n ≤ (control t).last)
  -- at the RELEASE of a drop that is made the record does not name the epoch as the alternate
  pub dropped : (x : Site) (h : List Event) (n : ℕ) → hist s t x ≡ Some h → next (settings s x) h ≡ want.Release → drop_is_made h ≡ true
      → epoch h ≡ Some n → is_alt (control t) n ≡ false

-- of a write that comes next
pub record WritesAre (s : Scen) (t : List Entry) (x : Site) (h : List Event) (written : ControlRecord) : Type 0 where
  -- the last number rises by one at a grant, and else stays
  pub last_of_grant : is_granted h ≡ false → written.last ≡ (control t).last + 1
  pub last_else : is_granted h ≡ true → written.last ≡ (control t).last
  -- an alternate that it names, and that was not named, has the next number
  pub alt_new : (n : ℕ) → is_alt written n ≡ true → is_alt (control t) n ≡ false → n ≡ (control t).last + 1
  -- the other job's place, where it is named after, was named before; and so is the place of an alternate that writes
  pub place_beside : (g : List Event) → hist s t (other x) ≡ Some g → is_granted g ≡ true → is_alt written (number g) ≡ true
      → is_alt (control t) (number g) ≡ true
  pub place_own : is_granted h ≡ true → is_owner h ≡ false → is_alt (control t) (number h) ≡ true
  -- by which a job becomes the owner it names no alternate
  pub alone : (n : ℕ) → is_owner h ≡ false → is_owner (ControlWritten written ∷ h) ≡ true → is_alt written n ≡ false

-- of each write that comes next in a run
abbrev pub WritesAreKnown : Scen → List Entry → Type 0
WritesAreKnown s t =
    (x : Site) (h : List Event) (written : ControlRecord) → hist s t x ≡ Some h → next (settings s x) h ≡ want.CtlWrite written → WritesAre s t x h written
