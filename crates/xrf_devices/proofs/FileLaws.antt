-- The file's slots, of which one is written, and those of the first records.
use Rattle.std.proofs.Common.{◌≡◌, ◌≢◌, ℕ, ◌+◌, ◌-◌, ◌*◌, ◌<◌, ◌≤◌, ◌==◌, Bool, true, false, List, ◌∷◌, length, take, drop, replicate, get_or, Some, None, refl, sym, ap, ◌∙◌, arith, inl, inr, if◌then◌else◌}
use Rattle.std.proofs.lemmas.Bool.{eqb-true, eqb-false, cases_lt}
use Rattle.std.proofs.lemmas.List.{drop-replicate, take-replicate, drop_all, drop_more}
use Rattle.xrf_base.specs.Values.{slot_of}
use Rattle.xrf_gated.specs.Landing.{part, landed}
use Rattle.xrf_trace.specs.Scenario.{value_in}
use Rattle.xrf_devices.specs.Places.{record_place}
use Rattle.xrf_devices.specs.Standing.{FileIs}
use Rattle.xrf_devices.proofs.Parts.{part-landed, part-before, part-behind}

-- the slot of record k is another, and the others are as they were
pub record-written : (records k : ℕ) (old new bytes : List ℕ) (image : ℕ → List ℕ)
    → length old ≡ 32 * records → length bytes ≡ 32 → 1 ≤ k → k ≤ records
    → new ≡ landed old (record_place k) bytes → FileIs records old image
    → FileIs records new (λ i. elim (i == k) [ true ↦ bytes | false ↦ image i ])
record-written records k old new bytes image size long least most is are i first last =
    ap (λ b. part b (record_place i) 32) is ∙ by (i == k) refl
  where
    away : i ≢ k → part (landed old (record_place k) bytes) (record_place i) 32 ≡ part old (record_place i) 32
    away other = elim (cases_lt i k) [
      | inl lt ↦ part-before old bytes (record_place k) (record_place i) 32 (omega arith) (omega arith)
      | inr le ↦ part-behind old bytes (record_place k) (record_place i) 32 (omega arith) (omega arith)
    ]

    by : (b : Bool) → (i == k) ≡ b → part (landed old (record_place k) bytes) (record_place i) 32 ≡ elim b [ true ↦ bytes | false ↦ image i ]
    by true e =
        ap (λ j. part (landed old (record_place k) bytes) (record_place j) 32) (eqb-true i k e)
        ∙ part-landed old bytes (record_place k) 32 (omega arith) long
    by false e = away (eqb-false i k e) ∙ are i first last

-- in zeros each is empty
pub all-empty : (records : ℕ) (file : List ℕ) → file ≡ replicate (32 * records) 0 → FileIs records file (λ k. slot_of None)
all-empty records file is k first last =
    ap (λ b. part b (record_place k) 32) is
    ∙ ap (take 32) (drop-replicate (record_place k) (32 * records) 0)
    ∙ take-replicate 32 (32 * records - record_place k) 0 (omega arith)

-- of two records of one number the first stands
value-first : (one : ℕ × List ℕ) (rest : List (ℕ × List ℕ)) (i : ℕ)
    → (elim (i == one.0) [ true ↦ slot_of (Some one.1) | false ↦ slot_of (value_in rest i) ]) ≡ slot_of (value_in (one ∷ rest) i)
value-first one rest i = by (i == one.0) (one.0 == i) refl refl
  where
    by : (b c : Bool) → (i == one.0) ≡ b → (one.0 == i) ≡ c
        → (elim b [ true ↦ slot_of (Some one.1) | false ↦ slot_of (value_in rest i) ]) ≡ slot_of (if c then Some one.1 else value_in rest i)
    by true true e f = refl
    by false false e f = refl
    by true false e f = absurd (eqb-false one.0 i f (sym (eqb-true i one.0 e)))
    by false true e f = absurd (eqb-false i one.0 e (sym (eqb-true one.0 i f)))

-- the records from a place on, one more of which is written
pub one-more : (records : ℕ) (first : List (ℕ × List ℕ)) (done : ℕ) (one : ℕ × List ℕ) (new bytes : List ℕ) → done < length first
    → one ≡ get_or first (length first - 1 - done) one → bytes ≡ slot_of (Some one.1)
    → FileIs records new (λ i. elim (i == one.0) [ true ↦ bytes | false ↦ slot_of (value_in (drop (length first - done) first) i) ])
    → FileIs records new (λ i. slot_of (value_in (drop (length first - (done + 1)) first) i))
one-more records first done one new bytes inside is spelled are i least most =
    let place : length first - (done + 1) ≡ length first - 1 - done = omega arith in
    let next : length first - 1 - done + 1 ≡ length first - done = omega arith in
    let rest : drop (length first - (done + 1)) first ≡ one ∷ drop (length first - done) first =
    ap (λ m. drop m first) place
    ∙ drop_more first (length first - 1 - done) one (omega arith)
    ∙ ap (λ (r : ℕ × List ℕ). r ∷ drop (length first - 1 - done + 1) first) (sym is)
    ∙ ap (λ m. one ∷ drop m first) next in
    are i least most
    ∙ ap (λ b. elim (i == one.0) [ true ↦ b | false ↦ slot_of (value_in (drop (length first - done) first) i) ]) spelled
    ∙ value-first one (drop (length first - done) first) i
    ∙ ap (λ rs. slot_of (value_in rs i)) (sym rest)

-- before any is written
pub none-yet : (records : ℕ) (first : List (ℕ × List ℕ)) (file : List ℕ) → file ≡ replicate (32 * records) 0
    → FileIs records file (λ i. slot_of (value_in (drop (length first - 0) first) i))
none-yet records first file is i least most =
    all-empty records file is i least most ∙ ap (λ rs. slot_of (value_in rs i)) (sym (drop_all (length first - 0) first (omega arith)))
