-- What is written of the records is said again of their places.
use Rattle.std.proofs.Common.{◌≡◌, ◌≤◌, ◌+◌, ◌-◌, ℕ, zero, suc, Bool, true, Option, Some, None, Ok, List, [], ◌∷◌, ◌++◌, append_assoc, append-nil, length, drop, get_or, set, slice_set, replicate, is_none, refl, sym, ◌∙◌, ap, arith, subst}
use Rattle.std.specs.List.{list_all}
use Rattle.std.proofs.lemmas.List.{length-replicate, length-append, set-append_right, drop-replicate}
use Rattle.xrf_text.specs.Text.{words}
use Rattle.xrf_grammar.specs.LineText.{line_text}
use Rattle.xrf_grammar.specs.declared.line.Line.TheVariants.{Record}
use Rattle.xrf_scenario.specs.Canonical.{record_lines}
use Rattle.xrf_scenario.specs.Reading.{SaysAll}
use Rattle.xrf_setup.specs.Scenario.{AreRecords}
use Rattle.xrf_scenario.specs.Settled.{by_number}
use Rattle.xrf_scenario.specs.SoFar.{SoFar}
use Rattle.xrf_scenario.specs.Taking.{take, free_record}
use Rattle.xrf_scenario.specs.declared.section.Section.TheVariants as section
use Rattle.xrf_scenario.proofs.StepLaws.{setting-written}

-- some places, and behind them as many empty ones
abbrev places : List (Option (List ℕ)) → ℕ → List (Option (List ℕ))
places front count = front ++ replicate count None

-- the front, up to a record behind some empty places
abbrev with_record : List (Option (List ℕ)) → ℕ → List ℕ → List (Option (List ℕ))
with_record front gap value = front ++ (replicate gap None ++ Some value ∷ [])

-- an empty place among others is filled
set-replicate : (gap count : ℕ) (value : List ℕ) → set (replicate (gap + 1 + count) None) gap (Some value) ≡ replicate gap None ++ Some value ∷ replicate count None
set-replicate zero count value = let e : 0 + 1 + count ≡ suc count = omega arith in rw e refl
set-replicate (suc gap) count value = let e : suc gap + 1 + count ≡ suc (gap + 1 + count) = omega arith in rw e (ap (λ (l : List (Option (List ℕ))). None ∷ l) (set-replicate gap count value))

-- a place behind the front is free
place-free : (front : List (Option (List ℕ))) (count place : ℕ) → length front ≤ place → is_none (get_or (places front count) place None) ≡ true
place-free [] count place low = empty count place
  where
    empty : (count place : ℕ) → is_none {T = List ℕ} (get_or (replicate count None) place None) ≡ true
    empty zero place = refl
    empty (suc count) zero = refl
    empty (suc count) (suc place) = empty count place
place-free (first ∷ front) count zero low = absurd (omega arith)
place-free (first ∷ front) count (suc place) low = place-free front count place (omega arith)

-- the records of two lists of places are those of the first and those of the second
numbers-both : (number : ℕ) (xs ys : List (Option (List ℕ))) → by_number number (xs ++ ys) ≡ by_number number xs ++ by_number (number + length xs) ys
numbers-both number [] ys = ap (λ (n : ℕ). by_number n ys) (omega arith)
numbers-both number (None ∷ xs) ys = numbers-both (number + 1) xs ys ∙ ap (λ (n : ℕ). by_number (number + 1) xs ++ by_number n ys) (omega arith)
numbers-both number (Some value ∷ xs) ys =
    ap (λ (rs : List (ℕ × List ℕ)). (number, value) ∷ rs) (numbers-both (number + 1) xs ys ∙ ap (λ (n : ℕ). by_number (number + 1) xs ++ by_number n ys) (omega arith))

-- empty places have no records
numbers-empty : (number count : ℕ) → by_number number (replicate count None) ≡ []
numbers-empty number zero = refl
numbers-empty number (suc count) = numbers-empty (number + 1) count

-- the front reaches up to a record
length-with_record : (front : List (Option (List ℕ))) (gap : ℕ) (value : List ℕ) → length (with_record front gap value) ≡ length front + gap + 1
length-with_record front gap value =
    let none : Option (List ℕ) = None in
    let whole = length-append front (replicate gap None ++ Some value ∷ []) in
    let back = length-append (replicate gap none) (Some value ∷ []) in
    let empty = length-replicate gap none in
    omega (arith, whole, back, empty)

-- a record behind the front is put in its place
places-set : (front : List (Option (List ℕ))) (gap left : ℕ) (value : List ℕ)
    → slice_set (places front (gap + 1 + left)) (length front + gap) (Some value) ≡ places (with_record front gap value) left
places-set front gap left value =
    let behind : length front + gap - length front ≡ gap = omega arith in
    set-append_right front (replicate (gap + 1 + left) None) (length front) (length front + gap) (Some value) refl (omega arith)
    ∙ ap (λ (n : ℕ). front ++ set (replicate (gap + 1 + left) None) n (Some value)) behind
    ∙ ap (λ (l : List (Option (List ℕ))). front ++ l) (set-replicate gap left value ∙ sym (append_assoc (replicate gap None) (Some value ∷ []) (replicate left None)))
    ∙ sym (append_assoc front (replicate gap None ++ Some value ∷ []) (replicate left None))

-- the records of the front up to a record
numbers-with_record : (front : List (Option (List ℕ))) (gap : ℕ) (value : List ℕ)
    → by_number 1 (with_record front gap value) ≡ by_number 1 front ++ (length front + gap + 1, value) ∷ []
numbers-with_record front gap value =
    let none : Option (List ℕ) = None in
    let empty = length-replicate gap none in
    let number : 1 + length front + length (replicate gap none) ≡ length front + gap + 1 = omega (arith, empty) in
    numbers-both 1 front (replicate gap None ++ Some value ∷ [])
    ∙ ap (λ (rs : List (ℕ × List ℕ)). by_number 1 front ++ rs)
    (numbers-both (1 + length front) (replicate gap None) (Some value ∷ [])
    ∙ ap (λ (rs : List (ℕ × List ℕ)). rs ++ by_number (1 + length front + length (replicate gap none)) (Some value ∷ [])) (numbers-empty (1 + length front) gap)
    ∙ ap (λ (n : ℕ). (n, value) ∷ []) number)

-- the same, with more records behind
numbers-more : (front : List (Option (List ℕ))) (gap n : ℕ) (value : List ℕ) (more last : List (ℕ × List ℕ)) → n ≡ length front + gap + 1
    → last ≡ by_number 1 (with_record front gap value) ++ more → last ≡ by_number 1 front ++ (n, value) ∷ more
numbers-more front gap n value more last at are =
    are ∙ ap (λ (rs : List (ℕ × List ℕ)). rs ++ more) (numbers-with_record front gap value) ∙ append_assoc (by_number 1 front) ((length front + gap + 1, value) ∷ []) more
    ∙ ap (λ (k : ℕ). by_number 1 front ++ (k, value) ∷ more) (sym at)

-- what is said, with other places
abbrev pub with_places : SoFar → List (Option (List ℕ)) → SoFar
with_places so places = record so { records = places }

-- what the lines of some records say behind a front: these records, and none above a number
pub record AreSaid (count : ℕ) (so : SoFar) (file : ℕ) (before : List (Option (List ℕ))) (left : ℕ) (records : List (ℕ × List ℕ)) : Type 0 where
  pub front : List (Option (List ℕ))
  pub empty : ℕ
  pub says : SaysAll count (with_places so (places before left)) (record_lines records) (with_places so (places front empty))
  pub numbers : by_number 1 front ≡ by_number 1 before ++ records
  pub within : length front ≤ file

-- a record behind the front comes into its place
record-taken : (number : ℕ) (so : SoFar) (ws : List (List ℕ)) (front : List (Option (List ℕ))) (left gap more n : ℕ) (value : List ℕ) → left ≡ gap + 1 + more → n ≡ length front + gap + 1
    → take number (with_places so (places front left)) ws (Record n value) ≡ Ok (with_places so (places (with_record front gap value) more))
record-taken number so ws front left gap more n value room at =
    let place : n - 1 ≡ length front + gap = omega (arith, at) in
    let low : length front ≤ n - 1 = omega (arith, place) in
    ap (λ (t : Bool). free_record t (with_places so (slice_set (places front left) (n - 1) (Some value)))) (place-free front left (n - 1) low)
    ∙ ap (λ (k : ℕ). Ok (with_places so (slice_set (places front k) (n - 1) (Some value)))) room
    ∙ ap (λ (k : ℕ). Ok (with_places so (slice_set (places front (gap + 1 + more)) k (Some value)))) place
    ∙ ap (λ (l : List (Option (List ℕ))). Ok (with_places so l)) (places-set front gap more value)

-- the lines of records behind a front say these
records-on : (count : ℕ) (so : SoFar) (file : ℕ) (before : List (Option (List ℕ))) (left : ℕ) (records : List (ℕ × List ℕ)) → so.section ≡ section.Settings
    → file ≤ 256 → file ≤ length before + left → length before ≤ file → AreRecords (length before + 1) file records → AreSaid count so file before left records
records-on count so file before left [] section most room within are =
    record { front = before; empty = left; says = refl; numbers = sym (append-nil (by_number 1 before)); within = within }
records-on count so file before left (r ∷ rs) section most room within are =
    let low : length before + 1 ≤ r.0 = are.0.0 in
    let high : r.0 ≤ file = are.0.1 in
    let gap : ℕ = r.0 - 1 - length before in
    let more : ℕ = left - gap - 1 in
    let at : r.0 ≡ length before + gap + 1 = omega (arith, low) in
    let taken : left ≡ gap + 1 + more = omega (arith, low, high, room) in
    let front : List (Option (List ℕ)) = with_record before gap r.1 in
    let reach : length front ≡ r.0 = length-with_record before gap r.1 ∙ sym at in
    let room' : file ≤ length front + more = omega (arith, reach, at, taken, room) in
    let within' : length front ≤ file = omega (arith, reach, high) in
    let rest = records-on (count + 1) so file front more rs section most room' within' (subst (λ (n : ℕ). AreRecords (n + 1) file rs) (sym reach) are.2) in
    let least : 1 ≤ r.0 = omega (arith, low) in
    let few : r.0 ≤ 256 = omega (arith, high, most) in
    record {
      front = rest.front;
      empty = rest.empty;
      says = (
        with_places so (places front more),
        (
          setting-written (count + 1) (with_places so (places before left)) (Record r.0 r.1) (with_places so (places front more)) section ((least, few), are.1)
              (record-taken (count + 1) so (words (line_text (Record r.0 r.1))) before left gap more r.0 r.1 taken at),
          rest.says,
        ),
      );
      numbers = numbers-more before gap r.0 r.1 rs (by_number 1 rest.front) at rest.numbers;
      within = rest.within;
    }

-- empty places have no record
all-empty : (count : ℕ) → list_all (is_none {T = List ℕ}) (replicate count None) ≡ true
all-empty zero = refl
all-empty (suc count) = all-empty count

-- behind a number that the front does not reach over there are empty places alone
behind-empty : (file : ℕ) (front : List (Option (List ℕ))) (empty : ℕ) → length front ≤ file → list_all is_none (drop file (places front empty)) ≡ true
behind-empty file [] empty within =
    let none : Option (List ℕ) = None in
    ap (list_all is_none) (drop-replicate file empty none) ∙ all-empty (empty - file)
behind-empty zero (place ∷ front) empty within = absurd (omega arith)
behind-empty (suc file) (place ∷ front) empty within = behind-empty file front empty (omega arith)

-- what the lines of all records say: places that have these records, and none above FILE
pub record AreAllSaid (count : ℕ) (so : SoFar) (file : ℕ) (records : List (ℕ × List ℕ)) : Type 0 where
  pub last : List (Option (List ℕ))
  pub says : SaysAll count (with_places so (replicate 256 None)) (record_lines records) (with_places so last)
  pub numbers : by_number 1 last ≡ records
  pub within : list_all is_none (drop file last) ≡ true

-- What is written of records says these.
pub records-say : (count : ℕ) (so : SoFar) (file : ℕ) (records : List (ℕ × List ℕ)) → so.section ≡ section.Settings → file ≤ 256 → AreRecords 1 file records
    → AreAllSaid count so file records
records-say count so file records section most are =
    let low : 0 ≤ file = omega arith in
    let all = records-on count so file [] 256 records section most most low are in
    record {
      last = places all.front all.empty;
      says = all.says;
      numbers =
          numbers-both 1 all.front (replicate all.empty None) ∙ ap (λ (rs : List (ℕ × List ℕ)). by_number 1 all.front ++ rs) (numbers-empty (1 + length all.front) all.empty)
          ∙ append-nil (by_number 1 all.front) ∙ all.numbers;
      within = behind-empty file all.front all.empty all.within;
    }
