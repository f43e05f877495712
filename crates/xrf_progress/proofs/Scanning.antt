-- How much of a restart is left.
use Rattle.std.proofs.Common.{◌==◌, ◌≡◌, ℕ, zero, suc, ◌+◌, ◌-◌, ◌*◌, ◌/◌, ◌%◌, ◌≤◌, ◌<◌, ◌||◌, not, nat_lt, nat_le, min, Bool, true, false, List, [], ◌∷◌, ◌++◌, length, filter, Option, Some, None, refl, ap, ◌∙◌, sym, arith, if◌then◌else◌}
use Rattle.std.specs.List.{list_any}
use Rattle.std.specs.Option.{option_map_or}
use Rattle.std.proofs.Math.Nat.{mod-mod_of_dvd, dvd_of_mod-eq-zero}
use Rattle.std.proofs.lemmas.Grind.{common_steps}
use Rattle.std.proofs.lemmas.List.{length-map, length-drop, length-append}
use Rattle.xrf_base.specs.declared.items.UnitId.{UnitId}
use Rattle.xrf_gated.specs.declared.gated.Slot.{Slot}
use Rattle.xrf_gated.specs.Slots.{slot_in}
use Rattle.xrf_logrec.specs.declared.records.LogRec.{LogRec}
use Rattle.xrf_logrec.specs.declared.records.LogRec.TheVariants.{Put, Commit, Backout}
use Rattle.xrf_logrec.specs.declared.records.Undo.{Undo}
use Rattle.xrf_logrec.specs.LogRecords.{same_unit}
use Rattle.xrf_logrec.proofs.Lists.{length-filter-le}
use Rattle.xrf_log.specs.Flight.{flight, put_units, puts, open_puts, undo_rows, has_ended}
use Rattle.xrf_log.specs.declared.taken.Row.{Row}
use Rattle.xrf_log.specs.Scan.{Scanned, record_at, run_of, reach_of, records_after, after_block, after_anchors, block_of_record, place_of_record, next_of}
use Rattle.xrf_history.specs.declared.settings.Settings.{Settings}
use Rattle.xrf_history.specs.Events.{Event, FirstBlockRead, BlockRead, LogOpened, RecordUndone}
use Rattle.xrf_history.specs.Restarting.{scan, has_read_block, undone, rows_left, backouts_left, has_backout}

-- the slots of the log
pub slots-kept : (p : Settings) (h : List Event) → (scan p h).slots ≡ p.limits.log
slots-kept p [] = refl
slots-kept p (FirstBlockRead block keys ∷ h) = slots-kept p h
slots-kept p (BlockRead block ∷ h) = slots-kept p h
slots-kept p (_ ∷ h) = slots-kept p h

-- after a block the next one is that of the record that is expected
pub right-block : (p : Settings) (h : List Event) → has_read_block h ≡ true → (scan p h).block ≡ block_of_record (scan p h).slots (next_of (scan p h))
right-block p [] has = absurd (cc)
right-block p (FirstBlockRead block keys ∷ h) has = refl
right-block p (BlockRead block ∷ h) has = refl
right-block p (_ ∷ h) has = right-block p h has

-- a run gives at most a record a slot
run-few : (slot : ℕ → Slot) (count k n : ℕ) (known : List LogRec) → length (run_of slot count k n known) ≤ length known + count
run-few slot zero k n known = omega arith
run-few slot (suc count) k n known = by (record_at (slot k) n) (λ rec. run-few slot count (k + 1) (n + 1) (rec ∷ known))
  where
    by : (o : Option LogRec) → ((rec : LogRec) → length (run_of slot count (k + 1) (n + 1) (rec ∷ known)) ≤ suc (length known) + count)
        → length (option_map_or (λ rec. run_of slot count (k + 1) (n + 1) (rec ∷ known)) o known) ≤ length known + suc count
    by None more = omega arith
    by (Some rec) more = let less = more rec in omega (arith, less)

-- no more are reached than are left of LOG
reach-few : (scan : Scanned) → reach_of scan ≤ scan.slots - length scan.records
reach-few scan = grind (arith, common_steps)

-- so a scan takes no more than LOG records
block-few : (scan : Scanned) (block : List ℕ) → length scan.records ≤ scan.slots → length (after_block scan block).records ≤ scan.slots
block-few scan block few =
    let run = run-few (slot_in block) (reach_of scan) (place_of_record scan.slots (next_of scan)) (next_of scan) scan.records in
    let reach = reach-few scan in
    omega (arith, run, reach, few)

-- and so does that of a job
pub few-records : (p : Settings) (h : List Event) → length (scan p h).records ≤ (scan p h).slots
few-records p [] = omega arith
few-records p (FirstBlockRead block keys ∷ h) = block-few (after_anchors (scan p h) keys) block (few-records p h)
few-records p (BlockRead block ∷ h) = block-few (scan p h) block (few-records p h)
few-records p (_ ∷ h) = few-records p h

-- the place of a record in its block
place-least : (slots n : ℕ) → place_of_record slots n < 64
place-least slots n = place (n % slots)
  where
    place : (m : ℕ) → m % 64 < 64
    place m = grind arith

-- where the block is the one of the record that is expected it is reached to its end, or up to LOG records
reach-is : (scan : Scanned) → scan.block ≡ block_of_record scan.slots (next_of scan)
    → reach_of scan ≡ min (64 - place_of_record scan.slots (next_of scan)) (scan.slots - length scan.records)
reach-is scan right =
    ap (λ (b : Bool). if b then min (64 - place_of_record scan.slots (next_of scan)) (scan.slots - length scan.records) else 0)
    (same (block_of_record scan.slots (next_of scan)) scan.block right)
  where
    same : (a b : ℕ) → b ≡ a → (a == b) ≡ true
    same a b is = grind (arith, is)

-- neither of two
not-or : (a b : Bool) → (a || b) ≡ false → (a ≡ false) × (b ≡ false)
not-or false false is = (refl, refl)
not-or false true is = absurd (cc)
not-or true b is = absurd (cc)

-- not less
not-less : (a b : ℕ) → nat_lt a b ≡ false → b ≤ a
not-less a b is = grind (arith, is)

-- not at most
not-le : (a b : ℕ) → nat_le a b ≡ false → b < a
not-le a b is = grind (arith, is)

-- a scan that goes on after a block has taken each record that was reached, and has fewer than LOG
block-more : (scan : Scanned) (block : List ℕ) → (after_block scan block).ended ≡ false
    → (length scan.records + reach_of scan ≤ length (after_block scan block).records) × (length (after_block scan block).records < scan.slots)
block-more scan block goes =
    let both = not-or (nat_lt (length (records_after scan block)) (length scan.records + reach_of scan)) (nat_le scan.slots (length (records_after scan block))) goes in (
      not-less (length (records_after scan block)) (length scan.records + reach_of scan) both.0,
      not-le scan.slots (length (records_after scan block)) both.1,
    )

-- A block that is the one of the record that is expected, and does not end the scan, is taken to its end.
block-full : (scan : Scanned) (block : List ℕ) → scan.block ≡ block_of_record scan.slots (next_of scan) → (after_block scan block).ended ≡ false
    → length (after_block scan block).records ≡ length scan.records + (64 - place_of_record scan.slots (next_of scan))
block-full scan block right goes =
    let more = block-more scan block goes in
    let most = run-few (slot_in block) (reach_of scan) (place_of_record scan.slots (next_of scan)) (next_of scan) scan.records in
    full (place_of_record scan.slots (next_of scan)) scan.slots (length scan.records) (length (after_block scan block).records) (reach_of scan)
    (place-least scan.slots (next_of scan)) (reach-is scan right) more.0 most more.1
  where
    full : (k m n r w : ℕ) → k < 64 → w ≡ min (64 - k) (m - n) → n + w ≤ r → r ≤ n + w → r < m → r ≡ n + (64 - k)
    full k m n r w place is least most few = grind (arith, place, is, least, most, few)

-- the record after it stands at the beginning of a block, where the log has whole blocks
block-begins : (slots n : ℕ) → slots % 64 ≡ 0 → place_of_record slots (n + (64 - place_of_record slots n)) ≡ 0
block-begins slots n whole =
    let first = in_blocks n in
    let second = in_blocks (n + (64 - place_of_record slots n)) in
    second ∙ ends n (place_of_record slots n) first
  where
    in_blocks : (m : ℕ) → m % slots % 64 ≡ m % 64
    in_blocks m = mod-mod_of_dvd 64 m (dvd_of_mod-eq-zero 64 whole)

    ends : (m k : ℕ) → k ≡ m % 64 → (m + (64 - k)) % 64 ≡ 0
    ends m k is = omega (arith, is)

-- How many blocks are left to read at most: at first one for each block of the log and two, since block 0 comes first and the
-- block in which the scan begins is read again at its end; and then those of the records that are left.
abbrev pub blocks_of : (slots records place : ℕ) → ℕ
blocks_of slots records place = (slots - records + place + 63) / 64

-- so it is of a job
abbrev pub blocks_left : Settings → List Event → (has : Bool) → ℕ
blocks_left p h false = p.limits.log / 64 + 2
blocks_left p h true = blocks_of p.limits.log (length (scan p h).records) (place_of_record p.limits.log (next_of (scan p h)))

-- the puts of some records are no more than they
puts-few : (log : List LogRec) → length (puts log) ≤ length log
puts-few [] = omega arith
puts-few (Put u r b ∷ log) = let more = puts-few log in omega (arith, more)
puts-few (Commit u ∷ log) = let more = puts-few log in omega (arith, more)
puts-few (Backout u ∷ log) = let more = puts-few log in omega (arith, more)

-- nor are their units
units-few : (log : List LogRec) → length (put_units log) ≤ length log
units-few [] = omega arith
units-few (Put unit r b ∷ log) = by (list_any (λ u. same_unit u unit) (put_units log)) (units-few log)
  where
    by : (c : Bool) → length (put_units log) ≤ length log → length (if c then put_units log else put_units log ++ unit ∷ []) ≤ suc (length log)
    by true more = omega (arith, more)
    by false more = let sum = length-append (put_units log) (unit ∷ []) in omega (arith, more, sum)
units-few (Commit u ∷ log) = let more = units-few log in omega (arith, more)
units-few (Backout u ∷ log) = let more = units-few log in omega (arith, more)

-- so the rows are no more than the records
pub rows-few : (log : List LogRec) → length (undo_rows log) ≤ length log
rows-few log =
    let one = length-map (open_puts log) (λ (row : Row). row.undo) in
    let two = length-filter-le (λ (row : Row). not (has_ended row.unit log)) (puts log) in
    let three = puts-few log in
    omega (arith, one, two, three)

-- nor are the units in flight
pub flight-few : (log : List LogRec) → length (flight log) ≤ length log
flight-few log =
    let two = length-filter-le (λ (unit : UnitId). not (has_ended unit log)) (put_units log) in
    let three = units-few log in
    omega (arith, two, three)

-- what is left of a restart: of the scan, and after it the rows and the Backouts, each with up to four acts
abbrev pub scan_left : Settings → List Event → ℕ
scan_left p h =
    elim (scan p h).ended [
      | false ↦ blocks_left p h (has_read_block h) + 5 * p.limits.log + 2
      | true ↦ length (rows_left p h) + 4 * length (backouts_left p h) + 1
    ]

-- the rows that are left are no more than the slots, and so are the Backouts
rows-most : (p : Settings) (h : List Event) → length (rows_left p h) ≤ p.limits.log
rows-most p h =
    let one = length-drop (undone h) (undo_rows (scan p h).records) in
    let two = rows-few (scan p h).records in
    let three = few-records p h in
    let four = slots-kept p h in
    omega (arith, one, two, three, four)

-- nor are the Backouts
backouts-most : (p : Settings) (h : List Event) → length (backouts_left p h) ≤ p.limits.log
backouts-most p h =
    let one = length-filter-le (λ (unit : UnitId). not (has_backout unit h)) (flight (scan p h).records) in
    let two = flight-few (scan p h).records in
    let three = few-records p h in
    let four = slots-kept p h in
    omega (arith, one, two, three, four)

-- the blocks that are left are no more than those of the log and two
blocks-most : (p : Settings) (h : List Event) (has : Bool) → p.limits.log % 64 ≡ 0 → blocks_left p h has ≤ p.limits.log / 64 + 2
blocks-most p h false whole = omega arith
blocks-most p h true whole =
    let place = place-least p.limits.log (next_of (scan p h)) in
    omega (arith, place, whole)

-- what is left where the scan has ended
pub done-left : (p : Settings) (h : List Event) → (scan p h).ended ≡ true
    → scan_left p h ≡ length (rows_left p h) + 4 * length (backouts_left p h) + 1
done-left p h ended =
    ap (λ (b : Bool). elim b [
      | false ↦ blocks_left p h (has_read_block h) + 5 * p.limits.log + 2
      | true ↦ length (rows_left p h) + 4 * length (backouts_left p h) + 1
    ]) ended

-- and where it goes on
going-left : (p : Settings) (h : List Event) (has : Bool) → has_read_block h ≡ has → (scan p h).ended ≡ false
    → scan_left p h ≡ blocks_left p h has + 5 * p.limits.log + 2
going-left p h has is goes =
    ap (λ (b : Bool). elim b [
      | false ↦ blocks_left p h (has_read_block h) + 5 * p.limits.log + 2
      | true ↦ length (rows_left p h) + 4 * length (backouts_left p h) + 1
    ]) goes
    ∙ ap (λ (b : Bool). blocks_left p h b + 5 * p.limits.log + 2) is

-- once it has ended it is no more than the rows and the Backouts of all slots
ended-left : (p : Settings) (h : List Event) → (scan p h).ended ≡ true → scan_left p h ≤ 5 * p.limits.log + 1
ended-left p h ended =
    let left = done-left p h ended in
    let rows = rows-most p h in
    let backouts = backouts-most p h in
    omega (arith, left, rows, backouts)

-- what is left of a restart is no more than this
pub left-few : (p : Settings) (h : List Event) → p.limits.log % 64 ≡ 0 → scan_left p h ≤ 5 * p.limits.log + p.limits.log / 64 + 4
left-few p h whole = by (scan p h).ended refl
  where
    by : (b : Bool) → (scan p h).ended ≡ b → scan_left p h ≤ 5 * p.limits.log + p.limits.log / 64 + 4
    by true ended = let left = ended-left p h ended in omega (arith, left)
    by false goes =
        let left = going-left p h (has_read_block h) refl goes in
        let blocks = blocks-most p h (has_read_block h) whole in
        omega (arith, left, blocks)

-- the first block leaves less
pub first-less : (p : Settings) (h : List Event) (block keys : List ℕ) → p.limits.log % 64 ≡ 0 → has_read_block h ≡ false → (scan p h).ended ≡ false
    → scan_left p (FirstBlockRead block keys ∷ h) + 1 ≤ scan_left p h
first-less p h block keys whole first going = by (scan p after).ended refl
  where
    after : List Event
    after = FirstBlockRead block keys ∷ h

    before : scan_left p h ≡ p.limits.log / 64 + 2 + 5 * p.limits.log + 2
    before = going-left p h false first going

    by : (b : Bool) → (scan p after).ended ≡ b → scan_left p after + 1 ≤ scan_left p h
    by true ended = let less = ended-left p after ended in omega (arith, less, before)
    by false goes =
        let left = going-left p after true refl goes in
        let place = place-least p.limits.log (next_of (scan p after)) in
        counts (length (scan p after).records) (place_of_record p.limits.log (next_of (scan p after))) (scan_left p after) (scan_left p h) p.limits.log whole place left before
      where
        counts : (r k a b l : ℕ) → l % 64 ≡ 0 → k < 64 → a ≡ (l - r + k + 63) / 64 + 5 * l + 2 → b ≡ l / 64 + 2 + 5 * l + 2 → a + 1 ≤ b
        counts r k a b l whole place one two = omega (arith, whole, place, one, two)

-- and so does each other one
pub block-less : (p : Settings) (h : List Event) (block : List ℕ) → p.limits.log % 64 ≡ 0 → has_read_block h ≡ true → (scan p h).ended ≡ false
    → scan_left p (BlockRead block ∷ h) + 1 ≤ scan_left p h
block-less p h block whole has going = by (scan p after).ended refl
  where
    after : List Event
    after = BlockRead block ∷ h

    slots : (scan p h).slots ≡ p.limits.log
    slots = slots-kept p h

    before : scan_left p h ≡ blocks_left p h true + 5 * p.limits.log + 2
    before = going-left p h true has going

    by : (b : Bool) → (scan p after).ended ≡ b → scan_left p after + 1 ≤ scan_left p h
    by true ended = let less = ended-left p after ended in omega (arith, less, before)
    by false goes =
        let left = going-left p after true has goes in
        let full = block-full (scan p h) block (right-block p h has) goes in
        let few = (block-more (scan p h) block goes).1 in
        let place = place-least p.limits.log (next_of (scan p h)) in
        counts (length (scan p h).records) (length (scan p after).records) (place_of_record p.limits.log (next_of (scan p h)))
        (place_of_record p.limits.log (next_of (scan p after))) (scan_left p after) (scan_left p h) p.limits.log place
        (full ∙ ap (λ (m : ℕ). length (scan p h).records + (64 - place_of_record m (next_of (scan p h)))) slots)
        (omega (arith, few, slots)) (begins (full ∙ ap (λ (m : ℕ). length (scan p h).records + (64 - place_of_record m (next_of (scan p h)))) slots)) left before
      where
        counts : (r q k j a b l : ℕ) → k < 64 → q ≡ r + (64 - k) → q < l → j ≡ 0 → a ≡ (l - q + j + 63) / 64 + 5 * l + 2
            → b ≡ (l - r + k + 63) / 64 + 5 * l + 2 → a + 1 ≤ b
        counts r q k j a b l place full few begins one two = omega (arith, place, full, few, begins, one, two)

        begins : length (scan p after).records ≡ length (scan p h).records + (64 - place_of_record p.limits.log (next_of (scan p h)))
            → place_of_record p.limits.log (next_of (scan p after)) ≡ 0
        begins full =
            ap (place_of_record p.limits.log) (next-is (scan p h).anchor.start (length (scan p h).records) (length (scan p after).records)
            (64 - place_of_record p.limits.log (next_of (scan p h))) full)
            ∙ block-begins p.limits.log (next_of (scan p h)) whole
          where
            next-is : (s r q k : ℕ) → q ≡ r + k → s + q ≡ s + r + k
            next-is s r q k is = omega (arith, is)

-- an UNDO leaves less
pub undo-less : (p : Settings) (h : List Event) (k : ℕ) (before : List ℕ) (row : Undo) (rows : List Undo) → (scan p h).ended ≡ true
    → rows_left p h ≡ row ∷ rows → scan_left p (RecordUndone k before ∷ h) + 1 ≤ scan_left p h
undo-less p h k before row rows ended left =
    let one = done-left p h ended in
    let two = done-left p (RecordUndone k before ∷ h) ended in
    let three = length-drop (undone h) (undo_rows (scan p h).records) in
    let four = length-drop (undone h + 1) (undo_rows (scan p h).records) in
    let five : length (rows_left p h) ≡ suc (length rows) = ap (λ (l : List Undo). length l) left in
    omega (arith, one, two, three, four, five)

-- a unit is itself
same-self : (u : UnitId) → same_unit u u ≡ true
same-self u = grind (arith, common_steps)

-- the units without a Backout are no more with one Backout more
later-le : (q : UnitId → Bool) (unit : UnitId) (us : List UnitId)
    → length (filter (λ u. not (same_unit u unit || q u)) us) ≤ length (filter (λ u. not (q u)) us)
later-le q unit [] = omega arith
later-le q unit (u ∷ us) = by (same_unit u unit) (q u) (later-le q unit us)
  where
    by : (a b : Bool) → length (filter (λ u. not (same_unit u unit || q u)) us) ≤ length (filter (λ u. not (q u)) us)
        → length (if not (a || b) then u ∷ filter (λ u. not (same_unit u unit || q u)) us else filter (λ u. not (same_unit u unit || q u)) us)
        ≤ length (if not b then u ∷ filter (λ u. not (q u)) us else filter (λ u. not (q u)) us)
    by true true less = less
    by true false less = omega (arith, less)
    by false true less = less
    by false false less = omega (arith, less)

-- the first of two lists that are the same
head-is : (a b : UnitId) (us vs : List UnitId) → ◌≡◌ {A = List UnitId} (a ∷ us) (b ∷ vs) → a ≡ b
head-is a b us vs is = grind (arith, common_steps)

-- and the first of them is one less
backout-less : (q : UnitId → Bool) (unit : UnitId) (rest us : List UnitId) → filter (λ u. not (q u)) us ≡ unit ∷ rest
    → length (filter (λ u. not (same_unit u unit || q u)) us) + 1 ≤ length (filter (λ u. not (q u)) us)
backout-less q unit rest [] is = absurd (cc)
backout-less q unit rest (u ∷ us) is = by (same_unit u unit) (q u) refl refl is (backout-less q unit rest us) (later-le q unit us)
  where
    by : (a b : Bool) → same_unit u unit ≡ a → q u ≡ b
        → (if not b then u ∷ filter (λ u. not (q u)) us else filter (λ u. not (q u)) us) ≡ unit ∷ rest
        → (filter (λ u. not (q u)) us ≡ unit ∷ rest → length (filter (λ u. not (same_unit u unit || q u)) us) + 1 ≤ length (filter (λ u. not (q u)) us))
        → length (filter (λ u. not (same_unit u unit || q u)) us) ≤ length (filter (λ u. not (q u)) us)
        → length (if not (a || b) then u ∷ filter (λ u. not (same_unit u unit || q u)) us else filter (λ u. not (same_unit u unit || q u)) us) + 1
        ≤ length (if not b then u ∷ filter (λ u. not (q u)) us else filter (λ u. not (q u)) us)
    by true true same has first more less = more first
    by true false same has first more less = omega (arith, less)
    by false true same has first more less = more first
    by false false same has first more less =
        absurd (cc (sym same ∙ ap (λ (v : UnitId). same_unit u v) (sym (head-is u unit (filter (λ u. not (q u)) us) rest first)) ∙ same-self u))

-- so the LOGOPEN of a Backout leaves less
pub open-less : (p : Settings) (h : List Event) (k : ℕ) (unit : UnitId) (units : List UnitId) → (scan p h).ended ≡ true → backouts_left p h ≡ unit ∷ units
    → scan_left p (LogOpened k (Backout unit) ∷ h) + 4 ≤ scan_left p h
open-less p h k unit units ended left =
    let one = done-left p h ended in
    let two = done-left p (LogOpened k (Backout unit) ∷ h) ended in
    let three = backout-less (λ u. has_backout u h) unit units (flight (scan p h).records) left in
    omega (arith, one, two, three)
