-- What is next of a restart, and the record at hand.
use Rattle.std.proofs.Common.{◌≡◌, ℕ, ◌≤◌, true, false, List, length, drop, Some, refl, ◌∙◌, subst}
use Rattle.std.specs.Prelude.{slice_get}
use Rattle.xrf_base.specs.declared.items.UnitId.{UnitId}
use Rattle.xrf_logrec.specs.declared.records.LogRec.TheVariants.{Backout}
use Rattle.xrf_logrec.specs.declared.records.Undo.{Undo}
use Rattle.xrf_log.specs.Flight.{flight, undo_rows}
use Rattle.xrf_log.specs.Scan.{Scanned}
use Rattle.xrf_history.specs.declared.settings.Settings.{Settings}
use Rattle.xrf_history.specs.declared.want.Want.TheVariants as want
use Rattle.xrf_history.specs.Events.{Event}
use Rattle.xrf_history.specs.Holding.{is_granted, is_restarted}
use Rattle.xrf_history.specs.Restarting.{scan, undone, backouts_left, records_opened, next_record}
use Rattle.xrf_history.specs.Rows.{log_write, restart_next}
use Rattle.xrf_history.specs.Next.{record_at_hand}
use Rattle.xrf_job.specs.Stages.{AtHand}
use Rattle.xrf_active.proofs.Rows.{drop-get, drop-past}

-- what a scan and a count give, they give as words of the history
pub undo-at : (p : Settings) (h : List Event) (s : Scanned) (n : ℕ) (undo : Undo) → s ≡ scan p h → n ≡ undone h → slice_get (undo_rows s.records) n ≡ Some undo → slice_get (undo_rows (scan p h).records) (undone h) ≡ Some undo
undo-at p h s n undo taken count at =
    subst (λ (k : ℕ). slice_get (undo_rows (scan p h).records) k ≡ Some undo) count (subst (λ (x : Scanned). slice_get (undo_rows x.records) n ≡ Some undo) taken at)

pub unit-at : (p : Settings) (h : List Event) (s : Scanned) (n : ℕ) (unit : UnitId) → s ≡ scan p h → n ≡ records_opened h → slice_get (flight s.records) n ≡ Some unit → slice_get (flight (scan p h).records) (records_opened h) ≡ Some unit
unit-at p h s n unit taken count at =
    subst (λ (k : ℕ). slice_get (flight (scan p h).records) k ≡ Some unit) count (subst (λ (x : Scanned). slice_get (flight x.records) n ≡ Some unit) taken at)

pub undone-past : (p : Settings) (h : List Event) (s : Scanned) (n : ℕ) → s ≡ scan p h → n ≡ undone h → length (undo_rows s.records) ≤ n → length (undo_rows (scan p h).records) ≤ undone h
undone-past p h s n taken count past =
    subst (λ (k : ℕ). length (undo_rows (scan p h).records) ≤ k) count (subst (λ (x : Scanned). length (undo_rows x.records) ≤ n) taken past)

pub undo-next : (p : Settings) (h : List Event) (undo : Undo) → (scan p h).ended ≡ true → slice_get (undo_rows (scan p h).records) (undone h) ≡ Some undo → want.Undo undo.rrn undo.before ≡ restart_next p h
undo-next p h undo over at = let left = drop-get (undo_rows (scan p h).records) (undone h) undo at in rw (over, restart_next, left) refl

pub backout-next : (p : Settings) (h : List Event) (unit : UnitId) → (scan p h).ended ≡ true → length (undo_rows (scan p h).records) ≤ undone h
    → backouts_left p h ≡ drop (records_opened h) (flight (scan p h).records) → slice_get (flight (scan p h).records) (records_opened h) ≡ Some unit → log_write p (next_record p h) (Backout unit) ≡ restart_next p h
backout-next p h unit over past left at =
    let none = drop-past (undo_rows (scan p h).records) (undone h) past in
    let units = left ∙ drop-get (flight (scan p h).records) (records_opened h) unit at in
    rw (over, restart_next, none, units) refl

pub backout-hand : (p : Settings) (h : List Event) (unit : UnitId) → is_granted h ≡ true → is_restarted h ≡ false → (scan p h).ended ≡ true
    → backouts_left p h ≡ drop (records_opened h) (flight (scan p h).records) → slice_get (flight (scan p h).records) (records_opened h) ≡ Some unit → AtHand p h (Backout unit)
backout-hand p h unit granted running over left at =
    let units = left ∙ drop-get (flight (scan p h).records) (records_opened h) unit at in
    record { at_hand = rw (running, record_at_hand, units) refl; pending = λ e. absurd (cc); scanned = over; granted = granted }
