-- What a job knows of its restart, after each act.
use Rattle.std.proofs.Common.{Bool, List, ap, false, filter, not, refl, ◌≡◌, [], ◌∷◌, Option, arith, map, sym, ℕ, ◌*◌, ◌%◌, ◌<◌, ◌∙◌, true, ◌+◌, ◌||◌, drop, subst, ◌==◌}
use Rattle.std.specs.List.{flat_map, range_with_len}
use Rattle.xrf_base.specs.declared.items.UnitId.{UnitId}
use Rattle.xrf_gated.specs.Slots.{bytes_of}
use Rattle.xrf_gated.specs.declared.gated.Slot.{Slot}
use Rattle.xrf_logrec.specs.declared.records.Undo.{Undo}
use Rattle.xrf_logrec.specs.declared.records.LogRec.TheVariants.{Backout}
use Rattle.xrf_logrec.proofs.Lists.{filter-neither}
use Rattle.xrf_logrec.specs.LogRecords.{same_unit}
use Rattle.xrf_log.specs.Scan.{Scanned, after_block}
use Rattle.xrf_log.specs.Flight.{flight, undo_rows}
use Rattle.xrf_log.proofs.FlightLaws.{flight-backout}
use Rattle.xrf_log_law.specs.LogParts.{IsPart, IsScan}
use Rattle.xrf_log_law.specs.Due.{Restarts, open_rows, RestartView, Undoes, rows_left_of}
use Rattle.xrf_log_law.specs.State.{State, View, log_part, booked}
use Rattle.xrf_log_law.proofs.ScanLaws.{after_block-scan}
use Rattle.xrf_log_law.specs.BeforeImages.{covers, undo_at}
use Rattle.xrf_log_law.proofs.NewestParts.{scanned-all}
use Rattle.xrf_log_law.proofs.DueInSequence.{covers-rest, dropped}
use Rattle.xrf_log_law.proofs.BeforeImageLaws.{left-at}
use Rattle.xrf_log_law.proofs.Tests.{no-clash}

-- a test that none meets leaves all
filter-all : (p : UnitId → Bool) (units : List UnitId) → ((unit : UnitId) → p unit ≡ false) → filter (λ unit. not (p unit)) units ≡ units
filter-all p [] none = refl
filter-all p (unit ∷ units) none = let e : p unit ≡ false = none unit in rw e (ap (λ (l : List UnitId). unit ∷ l) (filter-all p units none))

-- after a block
pub scanned-restarts : (size : ℕ) (first : ℕ → Option (List ℕ)) (v : View) (scan : Scanned) (block : List ℕ) (opened : ℕ) (backout : UnitId → Bool)
    → 0 < size → size % 64 ≡ 0 → State size first v
    → scan.slots ≡ size → scan.anchor.start ≡ v.start → IsPart v.log v.start scan.records → opened ≡ 0 → ((unit : UnitId) → backout unit ≡ false)
    → block ≡ flat_map (λ i. bytes_of (v.slot i)) (range_with_len (64 * scan.block) 64)
    → Restarts size first v
    (record { scan = after_block scan block; last = record { number = v.number; start = v.start }; opened = opened; backout = backout; undone = 0 })
scanned-restarts size first v scan block opened backout some even state is_size anchored part none_opened none_backed are =
    let now : IsScan size v.log v.start (after_block scan block) =
    after_block-scan size (log_part v) scan block some even state.whole state.log (omega (arith, state.room)) is_size anchored part are in
    record {
      slots = is_size;
      keypoint = refl;
      scanning = λ e. record { anchor = anchored; part = now.part; opened = none_opened; backouts = none_backed };
      undoing = λ e.
          (let all = scanned-all v.log v.start (after_block scan block).records state.ordered state.over now.part (now.done e) in
          let rows : undo_rows (after_block scan block).records ≡ open_rows v = ap (map (λ row. row.undo)) all.open_ones in
          record {
            next = omega (arith, now.done e, anchored, none_opened);
            backouts = filter-all backout (flight (after_block scan block).records) none_backed ∙ all.in_flight;
            left = λ r. ap (λ (l : List Undo). undo_at r l (v.image r)) rows ∙ state.undone.back r;
            within = λ r covered. sym (ap (covers r) rows) ∙ covered;
          });
    }

-- after a Backout
pub backed-restarts : (size : ℕ) (first : ℕ → Option (List ℕ)) (v : View) (slot : ℕ → Slot) (k : RestartView) (unit : UnitId) → k.scan.ended ≡ true
    → rows_left_of k ≡ [] → Restarts size first v k
    → Restarts size first (record v { log = Backout unit ∷ v.log; slot = slot })
    (record { scan = k.scan; last = k.last; opened = k.opened + 1; backout = λ u. same_unit u unit || k.backout u; undone = k.undone })
backed-restarts size first v slot k unit ended none restarts =
    let before : Undoes first v k = restarts.undoing ended in
    record {
      slots = restarts.slots;
      keypoint = restarts.keypoint;
      scanning = λ e. no-clash k.scan.ended ended e;
      undoing = λ e. record {
        next = omega (arith, before.next);
        backouts =
            filter-neither (λ u. same_unit u unit) k.backout (flight k.scan.records) ∙ ap (filter (λ u. not (same_unit u unit))) before.backouts
            ∙ sym (flight-backout v.log unit);
        left = before.left;
        within = λ r covered. no-clash false (sym (sym covered ∙ ap (covers r) none)) refl;
      };
    }

-- after an UNDO
pub undone-restarts : (size : ℕ) (first : ℕ → Option (List ℕ)) (v : View) (k : RestartView) (rrn : ℕ) (own : List ℕ) (rest : List Undo)
    → k.scan.ended ≡ true → rows_left_of k ≡ record { rrn = rrn; before = own } ∷ rest
    → Restarts size first v k
    → Restarts size first (record v { image = λ i. elim (i == rrn) [ true ↦ own | false ↦ v.image i ] })
    (record { scan = k.scan; last = k.last; opened = k.opened; backout = k.backout; undone = k.undone + 1 })
undone-restarts size first v k rrn own rest ended head restarts =
    let before : Undoes first v k = restarts.undoing ended in
    let row : Undo = record { rrn = rrn; before = own } in
    let now : drop (k.undone + 1) (undo_rows k.scan.records) ≡ rest = dropped k.undone (undo_rows k.scan.records) rest row head in
    record {
      slots = restarts.slots;
      keypoint = restarts.keypoint;
      scanning = λ e. no-clash k.scan.ended ended e;
      undoing = λ e. record {
        next = before.next;
        backouts = before.backouts;
        left = λ r.
            ap (λ (l : List Undo). undo_at r l (elim (r == rrn) [ true ↦ own | false ↦ v.image r ])) now
            ∙ left-at row rest r (v.image r) (booked first v r) (subst (λ (l : List Undo). undo_at r l (v.image r) ≡ booked first v r) head (before.left r));
        within = λ r covered. before.within r (ap (covers r) head ∙ covers-rest r row rest (sym (ap (covers r) now) ∙ covered));
      };
    }

-- another slot of the log
pub moved-restarts : (size : ℕ) (first : ℕ → Option (List ℕ)) (v : View) (slot : ℕ → Slot) (k : RestartView) → Restarts size first v k
    → Restarts size first (record v { slot = slot }) k
moved-restarts size first v slot k restarts = record {
  slots = restarts.slots;
  keypoint = restarts.keypoint;
  scanning = λ e. (let s = restarts.scanning e in record { anchor = s.anchor; part = s.part; opened = s.opened; backouts = s.backouts });
  undoing = λ e. (let u = restarts.undoing e in record { next = u.next; backouts = u.backouts; left = u.left; within = u.within });
}
