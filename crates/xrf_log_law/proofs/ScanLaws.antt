-- What a scan takes.
use Rattle.std.proofs.Common.{List, ap, map, refl, ◌≡◌, ℕ, [], ◌∷◌, ◌++◌, arith, suc, zero, ◌+◌, ◌<◌, ◌∙◌, length, Bool, Some, false, true, ◌==◌, if◌then◌else◌, None, ◌≤◌, sym, Option, subst, ◌-◌, ◌%◌, ◌*◌, ◌/◌, min, nat_le, nat_lt, ◌||◌}
use Rattle.std.specs.List.{flat_map, range_with_len}
use Rattle.std.proofs.lemmas.List.{length-map}
use Rattle.std.proofs.lemmas.List.FromFn.{length-range_with_len}
use Rattle.std.proofs.lemmas.Grind.{common_steps}
use Rattle.std.specs.Option.{option_map_or}
use Rattle.std.proofs.Math.Nat.{div-add-mod, mod-lt}
use Rattle.std.proofs.lemmas.Nat.{mod-mul-add}
use Rattle.xrf_gated.specs.declared.gated.Slot.{Slot}
use Rattle.xrf_gated.specs.Slots.{bytes_of, slot_of, slot_in}
use Rattle.xrf_gated.proofs.Blocks.{slot_in-flat_map}
use Rattle.xrf_logrec.specs.declared.records.LogRec.{LogRec}
use Rattle.xrf_log.specs.Scan.{record_at, run_of, place_of_record, block_of_record, Scanned, after_block, next_of, reach_of, records_after}
use Rattle.xrf_log_law.specs.LogSlots.{nth_old, LogStands, LogView}
use Rattle.xrf_log_law.specs.LogParts.{IsPart, IsScan}
use Rattle.xrf_log_law.proofs.SlotWrites.{some-within}
use Rattle.xrf_log_law.proofs.Tests.{less-of-true, most-of-true, eq-of-true}

-- the slots in the bytes of a block
mapped-flat : (f : ℕ → Slot) (xs : List ℕ) → flat_map (λ i. bytes_of (f i)) xs ≡ flat_map bytes_of (map f xs)
mapped-flat f [] = refl
mapped-flat f (x ∷ xs) = ap (λ rest. bytes_of (f x) ++ rest) (mapped-flat f xs)

-- a slot among those of a range
mapped-slot : (f : ℕ → Slot) (a n j : ℕ) → j < n → slot_of (map f (range_with_len a n)) j ≡ f (a + j)
mapped-slot f a zero j less = absurd (omega arith)
mapped-slot f a (suc n) zero less = ap f (omega arith)
mapped-slot f a (suc n) (suc j) less = mapped-slot f (a + 1) n j (omega arith) ∙ ap f (omega arith)

-- a slot in the bytes of a block
pub slot_in-range : (f : ℕ → Slot) (a n j : ℕ) → ((i : ℕ) → length (f i).body ≡ 63) → j < n
    → slot_in (flat_map (λ i. bytes_of (f i)) (range_with_len a n)) j ≡ f (a + j)
slot_in-range f a n j whole less =
    let count : length (map f (range_with_len a n)) ≡ n = length-map (range_with_len a n) f ∙ length-range_with_len a n in
    ap (λ bytes. slot_in bytes j) (mapped-flat f (range_with_len a n))
    ∙ slot_in-flat_map (map f (range_with_len a n)) j (λ i within. ap (λ (slot : Slot). length slot.body) (mapped-slot f a n i (omega (arith, count)))
    ∙ whole (a + i)) (omega (arith, count))
    ∙ mapped-slot f a n j less

-- a number that gives no record is past the log
none-past : (log : List LogRec) (k : ℕ) → nth_old log k ≡ None → length log ≤ k
none-past [] k is = omega arith
none-past (first ∷ log) k is = by (k == length log) refl is (none-past log k)
  where
    by : (b : Bool) → (k == length log) ≡ b → (if b then Some first else nth_old log k) ≡ None → (nth_old log k ≡ None → length log ≤ k)
        → length (first ∷ log) ≤ k
    by true e is rest = absurd (cc)
    by false e is rest =
        let past : length log ≤ k = rest is in let differ : k ≡ length log
        → ⊥ = λ same. (let s : (k == length log) ≡ true = grind (arith, common_steps) in absurd (cc)) in omega (arith, differ)

-- the next record joins a part
push-part : (log : List LogRec) (start p : ℕ) (known : List LogRec) (rec : LogRec) → p ≡ start + length known → nth_old log p ≡ Some rec
    → IsPart log start known → IsPart log start (rec ∷ known)
push-part log start p known rec next is part = record {
  within = let less : p < length log = some-within log p rec is in omega arith;
  same = λ j less. by j less (j == length known) refl;
}
  where
    by : (j : ℕ) → j < length (rec ∷ known) → (b : Bool) → (j == length known) ≡ b → (if b then Some rec else nth_old known j) ≡ nth_old log (start + j)
    by j less true e =
        let same : j ≡ length known = grind (arith, common_steps) in
        let place : p ≡ start + j = omega arith in
        sym is ∙ ap (nth_old log) place
    by j less false e =
        let differ : j ≡ length known → ⊥ = λ same. (let s : (j == length known) ≡ true = grind (arith, common_steps) in absurd (cc)) in
        part.same j (omega (arith, differ))

-- a run over consecutive slots
pub record IsRunOf (log : List LogRec) (start most : ℕ) (records : List LogRec) : Type 0 where
  pub part : IsPart log start records
  pub most_taken : length records ≤ most
  pub all : length records < most → start + length records ≡ length log

-- a run over slots that give the log's records is a part of it
pub run-part : (count : ℕ) (slot : ℕ → Slot) (k p : ℕ) (known log : List LogRec) (start : ℕ) → p ≡ start + length known → IsPart log start known
    → ((j : ℕ) → j < count → record_at (slot (k + j)) (p + j) ≡ nth_old log (p + j)) → IsRunOf log start (length known + count) (run_of slot count k p known)
run-part zero slot k p known log start next part reads = record { part = part; most_taken = omega arith; all = λ less. absurd (omega arith) }
run-part (suc count) slot k p known log start next part reads =
    by (record_at (slot k) p) first
    (λ rec more. run-part count slot (k + 1) (p + 1) (rec ∷ known) log start (omega arith) more
    (λ j less. let e : k + 1 + j ≡ k + suc j = omega arith in let f : p + 1 + j ≡ p + suc j = omega arith in
    rw e (rw f (reads (suc j) (omega arith)))))
  where
    first : record_at (slot k) p ≡ nth_old log p
    first =
        let e : k + 0 ≡ k = omega arith in let f : p + 0 ≡ p = omega arith in subst (λ (n : ℕ). record_at (slot n) p ≡ nth_old log p) e
        (subst (λ (m : ℕ). record_at (slot (k + 0)) m ≡ nth_old log m) f (reads 0 (omega arith)))

    by : (o : Option LogRec) → o ≡ nth_old log p
        → ((rec : LogRec) → IsPart log start (rec ∷ known) → IsRunOf log start (length (rec ∷ known) + count) (run_of slot count (k + 1) (p + 1) (rec ∷ known)))
        → IsRunOf log start (length known + suc count) (option_map_or (λ rec. run_of slot count (k + 1) (p + 1) (rec ∷ known)) o known)
    by None is more = record {
      part = part;
      most_taken = omega arith;
      all = λ less. (let past : length log ≤ p = none-past log p (sym is) in omega (arith, part.within));
    }
    by (Some rec) is more =
        let run = more rec (push-part log start p known rec next (sym is) part) in
        record { part = run.part; most_taken = omega (arith, run.most_taken); all = λ less. run.all (omega arith) }

-- the record that is j on stands j slots on, in one block
in_round : (size n j : ℕ) → 0 < size → size % 64 ≡ 0 → j < 64 - place_of_record size n → n % size + j < size
in_round size n j some even less =
    let r : ℕ = n % size in
    omega (arith, div-add-mod r 64, div-add-mod size 64, mod-lt n some)

-- a place that is some on, in one round
round_on : (size n j : ℕ) → n % size + j < size → (n + j) % size ≡ n % size + j
round_on size n j less =
    let whole : n / size * size + (n % size + j) ≡ n + j = grind (arith, common_steps, div-add-mod n size) in
    subst (λ (m : ℕ). m % size ≡ n % size + j) whole (mod-mul-add (n / size) size (n % size + j) less)

-- what a slot of a block gives is the record of the log
read-one : (size n b j : ℕ) (v : LogView) (bytes : List ℕ) → 0 < size → size % 64 ≡ 0 → ((i : ℕ) → length (v.slot i).body ≡ 63) → LogStands size v → v.start ≤ n
    → block_of_record size n ≡ b → bytes ≡ flat_map (λ i. bytes_of (v.slot i)) (range_with_len (64 * b) 64) → j < 64 - place_of_record size n
    → record_at (slot_in bytes (place_of_record size n + j)) (n + j) ≡ nth_old v.log (n + j)
read-one size n b j v bytes some even whole stands from block are less =
    let r : ℕ = n % size in
    let round : r + j < size = in_round size n j some even less in
    let place : 64 * b + (place_of_record size n + j) ≡ (n + j) % size = omega (arith, block, div-add-mod r 64, round_on size n j round) in
    ap (λ (text : List ℕ). record_at (slot_in text (place_of_record size n + j)) (n + j)) are
    ∙ ap (λ (slot : Slot). record_at slot (n + j)) (slot_in-range v.slot (64 * b) 64 (place_of_record size n + j) whole (omega arith) ∙ ap v.slot place)
    ∙ stands.slots (n + j) (omega arith)

-- so a block takes the scan on
pub after_block-scan : (size : ℕ) (v : LogView) (scan : Scanned) (bytes : List ℕ) → 0 < size → size % 64 ≡ 0 → ((i : ℕ) → length (v.slot i).body ≡ 63)
    → LogStands size v
    → length v.log ≤ v.start + size → scan.slots ≡ size → scan.anchor.start ≡ v.start → IsPart v.log v.start scan.records
    → bytes ≡ flat_map (λ i. bytes_of (v.slot i)) (range_with_len (64 * scan.block) 64) → IsScan size v.log v.start (after_block scan bytes)
after_block-scan size v scan bytes some even whole stands room is_size anchor part are = record {
  slots = is_size;
  anchor = anchor;
  part = run.part;
  done =
      by (nat_lt (length (records_after scan bytes)) (length scan.records + reach_of scan))
      (nat_le scan.slots (length (records_after scan bytes))) refl refl;
}
  where
    next : ℕ
    next = next_of scan

    reads : (j : ℕ) → j < reach_of scan → record_at (slot_in bytes (place_of_record scan.slots (next_of scan) + j)) (next_of scan + j) ≡ nth_old v.log
        (next_of scan + j)
    reads j less =
        subst (λ (m : ℕ). record_at (slot_in bytes (place_of_record m (next_of scan) + j)) (next_of scan + j) ≡ nth_old v.log (next_of scan + j)) (sym is_size)
        (inner (block_of_record scan.slots (next_of scan) == scan.block) refl less)
      where
        inner : (b : Bool) → (block_of_record scan.slots (next_of scan) == scan.block) ≡ b
            → j < (if b then min (64 - place_of_record scan.slots (next_of scan)) (scan.slots - length scan.records) else 0)
            → record_at (slot_in bytes (place_of_record size (next_of scan) + j)) (next_of scan + j) ≡ nth_old v.log (next_of scan + j)
        inner true e less =
            let same : block_of_record scan.slots (next_of scan) ≡ scan.block = eq-of-true (block_of_record scan.slots (next_of scan)) scan.block e in
            let block : block_of_record size (next_of scan) ≡ scan.block = subst (λ (m : ℕ). block_of_record m (next_of scan) ≡ scan.block) is_size same in
            let below : j < 64 - place_of_record scan.slots (next_of scan) = omega arith in
            read-one size (next_of scan) scan.block j v bytes some even whole stands (omega (arith, anchor)) block are
            (subst (λ (m : ℕ). j < 64 - place_of_record m (next_of scan)) is_size below)
        inner false e less = absurd (omega arith)

    run : IsRunOf v.log v.start (length scan.records + reach_of scan) (records_after scan bytes)
    run = run-part (reach_of scan) (slot_in bytes) (place_of_record scan.slots (next_of scan)) (next_of scan) scan.records v.log v.start
        (omega (arith, anchor)) part reads

    by : (a b : Bool) → nat_lt (length (records_after scan bytes)) (length scan.records + reach_of scan) ≡ a
        → nat_le scan.slots (length (records_after scan bytes)) ≡ b → (a || b) ≡ true
        → v.start + length (records_after scan bytes) ≡ length v.log
    by true b e f is = run.all (less-of-true (length (records_after scan bytes)) (length scan.records + reach_of scan) e)
    by false true e f is =
        let over : scan.slots ≤ length (records_after scan bytes) = most-of-true scan.slots (length (records_after scan bytes)) f in omega
        (arith, is_size, run.part.within)
    by false false e f is = absurd (cc)
