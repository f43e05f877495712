-- The KEY slots: what each write of one leaves.
use Rattle.std.proofs.Common.{ℕ, arith, ◌≡◌, ◌+◌, ◌%◌, None, false, refl, Some, true, Bool, IfSome, List, Option, subst, sym, ◌==◌, [], ◌∷◌, ◌<◌, ◌∙◌, if◌then◌else◌, ap, length, suc, zero, ◌++◌, nat_lt}
use Rattle.std.proofs.lemmas.List.{append-nil}
use Rattle.std.proofs.lemmas.Grind.{common_steps}
use Rattle.xrf_gated.specs.declared.gated.Slot.{Slot}
use Rattle.xrf_gated.specs.Slots.{is_open, bytes_of, slot_in, slot_of}
use Rattle.xrf_gated.specs.declared.gated.TheConstants.{OPEN}
use Rattle.xrf_gated.proofs.Blocks.{slot_in-flat_map}
use Rattle.xrf_logrec.specs.declared.keypoints.Keypoint.{Keypoint}
use Rattle.xrf_logrec.specs.Keypoints.{key_reading}
use Rattle.xrf_log.specs.Scan.{keypoint_at, in_force, anchor_of}
use Rattle.xrf_trace.specs.Devices.{with_gate, close_at, body_at, with_body, open_at}
use Rattle.xrf_trace.specs.declared.entry.Land.{Land}
use Rattle.xrf_trace.specs.Landing.{landed, opens}
use Rattle.xrf_log_law.proofs.SlotWrites.{close_same, body_gate, gate_body, gate_shut, opened_gate}
use Rattle.xrf_log_law.specs.State.{KeysStand}
use Rattle.xrf_log_law.proofs.Tests.{eq-false, eq-of-false, eq-of-true}

-- a keypoint
abbrev keyed : ℕ → ℕ → Keypoint
keyed number start = record { number = number; start = start }

-- two numbers in a row have two slots
differ : (n : ℕ) → n % 2 ≡ (n + 1) % 2 → ⊥
differ n same = omega (arith, same)

-- every second number has one slot
again : (n : ℕ) → (n + 1 + 1) % 2 ≡ n % 2
again n = omega arith

-- a closed slot has no keypoint
pub closed-none : (slot : Slot) → is_open slot ≡ false → keypoint_at slot ≡ None
closed-none slot closed = rw closed refl

-- an open slot has the keypoint that it spells
pub opened-some : (slot : Slot) (keypoint : Keypoint) → is_open slot ≡ true → key_reading slot.body ≡ Some keypoint → keypoint_at slot ≡ Some keypoint
opened-some slot keypoint opened spelled = rw opened spelled

-- a CLOSE brings no keypoint
pub close_none : (P : Keypoint → Type 0) (o : Option (List ℕ)) (slot : Slot) → is_open slot ≡ true → IfSome (keypoint_at slot) P
    → IfSome (keypoint_at (with_gate o slot)) P
close_none P None slot opened before = before
close_none P (Some []) slot opened before = before
close_none P (Some (gate ∷ rest)) slot opened before = by (gate == OPEN) refl
  where
    by : (b : Bool) → (gate == OPEN) ≡ b → IfSome (keypoint_at (record { gate = gate; body = slot.body })) P
    by true e = subst (λ (found : Slot). IfSome (keypoint_at found) P) (sym (close_same gate slot opened e)) before
    by false e = subst (λ (o : Option Keypoint). IfSome o P) (sym (closed-none (record { gate = gate; body = slot.body }) e)) tt

-- another slot is changed than that of the last keypoint
changed : (number start k : ℕ) (change : Slot → Slot) (key : ℕ → Slot) → k ≡ (number + 1) % 2 → KeysStand number start key
    → IfSome (keypoint_at (change (key k))) (λ keypoint. keypoint.number < number)
    → KeysStand number start (λ i. elim (i == k) [ true ↦ change (key i) | false ↦ key i ])
changed number start k change key is stand after = record {
  here = here (number % 2 == k) refl;
  other = other ((number + 1) % 2 == k) refl;
  first = stand.first;
}
  where
    here : (b : Bool) → (number % 2 == k) ≡ b
        → keypoint_at (elim b [ true ↦ change (key (number % 2)) | false ↦ key (number % 2) ]) ≡ (if number == 0 then None else Some (keyed number start))
    here true e = absurd (differ number (eq-of-true (number % 2) k e ∙ is))
    here false e = stand.here

    other : (b : Bool) → ((number + 1) % 2 == k) ≡ b
        → IfSome (keypoint_at (elim b [ true ↦ change (key ((number + 1) % 2)) | false ↦ key ((number + 1) % 2) ])) (λ keypoint. keypoint.number < number)
    other true e = subst (λ (i : ℕ). IfSome (keypoint_at (change (key i))) (λ keypoint. keypoint.number < number)) is after
    other false e = absurd (eq-of-false ((number + 1) % 2) k e (sym is))

-- KPCLOSE leaves the keypoint in force
pub close-keys : (number start k : ℕ) (land : Land) (key : ℕ → Slot) → k ≡ (number + 1) % 2 → is_open (key k) ≡ true → KeysStand number start key
    → KeysStand number start (λ i. close_at k land i (key i))
close-keys number start k land key is opened stand =
    changed number start k (with_gate (landed land (0 ∷ []))) key is stand
    (close_none (λ keypoint. keypoint.number < number) (landed land (0 ∷ [])) (key k) opened
    (subst (λ (i : ℕ). IfSome (keypoint_at (key i)) (λ keypoint. keypoint.number < number)) (sym is) stand.other))

-- a closed slot has no greater number
shut-after : (number : ℕ) (slot : Slot) → is_open slot ≡ false → IfSome (keypoint_at slot) (λ keypoint. keypoint.number < number)
shut-after number slot closed = subst (λ (o : Option Keypoint). IfSome o (λ keypoint. keypoint.number < number)) (sym (closed-none slot closed)) tt

-- KPBODY leaves the keypoint in force
pub body-keys : (number start k : ℕ) (land : Land) (own : List ℕ) (key : ℕ → Slot) → k ≡ (number + 1) % 2 → is_open (key k) ≡ false → KeysStand number start key
    → KeysStand number start (λ i. body_at k land own i (key i))
body-keys number start k land own key is closed stand =
    changed number start k (with_body (landed land own)) key is stand
    (shut-after number (with_body (landed land own) (key k)) (body_gate (landed land own) (key k) closed))

-- the keypoint before has a smaller number
before-less : (number start : ℕ) (b : Bool) → IfSome {T = Keypoint} (if b then None else Some (keyed number start)) (λ keypoint. keypoint.number < number + 1)
before-less number start true = tt
before-less number start false = omega arith

-- KPOPEN of the full own body puts the next keypoint in force, or leaves the one before
pub open-keys : (number start k : ℕ) (land : Land) (keypoint : Keypoint) (key : ℕ → Slot) → k ≡ (number + 1) % 2 → is_open (key k) ≡ false
    → key_reading (key k).body ≡ Some keypoint
    → keypoint.number ≡ number + 1 → KeysStand number start key
    → KeysStand (if opens land then keypoint.number else number) (if opens land then keypoint.start else start) (λ i. open_at k land i (key i))
open-keys number start k land keypoint key is closed spelled next stand = by (opens land) refl
  where
    here : opens land ≡ true → (b : Bool) → ((number + 1) % 2 == k) ≡ b
        → keypoint_at (elim b [ true ↦ with_gate (landed land (OPEN ∷ [])) (key ((number + 1) % 2)) | false ↦ key ((number + 1) % 2) ]) ≡ Some keypoint
    here opened true e =
        subst (λ (i : ℕ). keypoint_at (with_gate (landed land (OPEN ∷ [])) (key i)) ≡ Some keypoint) is
        (opened-some (with_gate (landed land (OPEN ∷ [])) (key k)) keypoint (opened_gate (landed land (OPEN ∷ [])) (key k) opened)
        (ap key_reading (gate_body (landed land (OPEN ∷ [])) (key k)) ∙ spelled))
    here opened false e = absurd (eq-of-false ((number + 1) % 2) k e (sym is))

    other : (b : Bool) → (number % 2 == k) ≡ b
        → IfSome (keypoint_at (elim b [ true ↦ with_gate (landed land (OPEN ∷ [])) (key (number % 2)) | false ↦ key (number % 2) ]))
        (λ found. found.number < number + 1)
    other true e = absurd (differ number (eq-of-true (number % 2) k e ∙ is))
    other false e = subst (λ (o : Option Keypoint). IfSome o (λ found. found.number < number + 1)) (sym stand.here) (before-less number start (number == 0))

    by : (b : Bool) → opens land ≡ b → KeysStand (if b then keypoint.number else number) (if b then keypoint.start else start) (λ i. open_at k land i (key i))
    by true e =
        subst (λ (n : ℕ). KeysStand n keypoint.start (λ i. open_at k land i (key i))) (sym next)
        (record {
          here = (here e ((number + 1) % 2 == k) refl ∙ ap Some (same keypoint next)) ∙ sym (not_first number);
          other =
              subst (λ (i : ℕ). IfSome (keypoint_at (open_at k land i (key i))) (λ found. found.number < number + 1)) (sym (again number))
              (other (number % 2 == k) refl);
          first = λ zeroth. absurd (omega arith);
        })
      where
        same : (keypoint : Keypoint) → keypoint.number ≡ number + 1 → keypoint ≡ record { number = number + 1; start = keypoint.start }
        same found is_next = ap (λ (n : ℕ). record { number = n; start = found.start }) is_next

        not_first : (n : ℕ) → (if n + 1 == 0 then None else Some (keyed (n + 1) keypoint.start)) ≡ Some (keyed (n + 1) keypoint.start)
        not_first n = let e : (n + 1 == 0) ≡ false = eq-false (n + 1) 0 (λ s. omega (arith, s)) in rw e refl
    by false e =
        changed number start k (with_gate (landed land (OPEN ∷ []))) key is stand
        (shut-after number (with_gate (landed land (OPEN ∷ [])) (key k)) (gate_shut (landed land (OPEN ∷ [])) (key k) e closed))

-- the anchor that a scan takes is the keypoint in force
two_slots : (a b : Slot) (k : ℕ) → length a.body ≡ 63 → length b.body ≡ 63 → k < 2 → slot_in (bytes_of a ++ bytes_of b) k ≡ slot_of (a ∷ b ∷ []) k
two_slots a b k whole_a whole_b less =
    ap (λ (text : List ℕ). slot_in (bytes_of a ++ text) k) (sym (append-nil (bytes_of b)))
    ∙ slot_in-flat_map (a ∷ b ∷ []) k each less
  where
    each : (j : ℕ) → j < 2 → length (slot_of (a ∷ b ∷ []) j).body ≡ 63
    each zero within = whole_a
    each (suc zero) within = whole_b
    each (suc (suc j)) within = absurd (omega arith)

-- no keypoint has a number below 0
none-less : (o : Option Keypoint) → IfSome o (λ keypoint. keypoint.number < 0) → o ≡ None
none-less None less = refl
none-less (Some keypoint) less = absurd (omega arith)

-- of two slots the greater number is in force: the first
first-wins : (number start : ℕ) (a : Keypoint) (o : Option Keypoint) → a.number ≡ number → IfSome o (λ keypoint. keypoint.number < number)
    → in_force (Some a) o ≡ a
first-wins number start a None is less = refl
first-wins number start a (Some b) is less =
    let e : nat_lt a.number b.number ≡ false = grind (arith, common_steps) in rw e refl

-- or the second
second-wins : (number start : ℕ) (b : Keypoint) (o : Option Keypoint) → b.number ≡ number → IfSome o (λ keypoint. keypoint.number < number)
    → in_force o (Some b) ≡ b
second-wins number start b None is less = refl
second-wins number start b (Some a) is less =
    let e : nat_lt a.number b.number ≡ true = grind (arith, common_steps) in rw e refl

-- so the keypoint in force is found in either order
anchor-in : (number start : ℕ) (a b : Option Keypoint) (m : ℕ) → number % 2 ≡ m → (number ≡ 0 → start ≡ 0)
    → (m ≡ 0 → (a ≡ (if number == 0 then None else Some (keyed number start))) × IfSome b (λ keypoint. keypoint.number < number))
    → (m ≡ 1 → (b ≡ Some (keyed number start)) × IfSome a (λ keypoint. keypoint.number < number))
    → in_force a b ≡ record { number = number; start = start }
anchor-in number start a b zero is first even odd = by (number == 0) refl (even refl)
  where
    by : (c : Bool) → (number == 0) ≡ c → (a ≡ (if c then None else Some (keyed number start))) × IfSome b (λ keypoint. keypoint.number < number)
        → in_force a b ≡ record { number = number; start = start }
    by true e here =
        let zeroth : number ≡ 0 = eq-of-true number 0 e in
        let none : b ≡ None = none-less b (subst (λ (n : ℕ). IfSome b (λ keypoint. keypoint.number < n)) zeroth here.1) in
        let start_zero : 0 ≡ start = sym (first zeroth) in
        let no_number : 0 ≡ number = sym zeroth in
        rw here.0 (rw none (ap (λ (n : ℕ). record { number = n; start = 0 }) no_number ∙ ap (λ (n : ℕ). record { number = number; start = n }) start_zero))
    by false e here = rw here.0 (first-wins number start (record { number = number; start = start }) b refl here.1)
anchor-in number start a b (suc zero) is first even odd =
    let here = odd refl in
    rw here.0 (second-wins number start (record { number = number; start = start }) a refl here.1)
anchor-in number start a b (suc (suc m)) is first even odd = absurd (omega (arith, is))

-- the anchor that a scan takes is the keypoint in force
pub anchor : (number start : ℕ) (key : ℕ → Slot) → ((i : ℕ) → length (key i).body ≡ 63) → KeysStand number start key
    → anchor_of (bytes_of (key 0) ++ bytes_of (key 1)) ≡ record { number = number; start = start }
anchor number start key whole stand =
    ap (λ (slot : Slot). in_force (keypoint_at slot) (keypoint_at (slot_in (bytes_of (key 0) ++ bytes_of (key 1)) 1)))
    (two_slots (key 0) (key 1) 0 (whole 0) (whole 1) (omega arith))
    ∙ ap (λ (slot : Slot). in_force (keypoint_at (key 0)) (keypoint_at slot)) (two_slots (key 0) (key 1) 1 (whole 0) (whole 1) (omega arith))
    ∙ anchor-in number start (keypoint_at (key 0)) (keypoint_at (key 1)) (number % 2) refl stand.first even odd
  where
    even : number % 2 ≡ 0 → (keypoint_at (key 0) ≡ (if number == 0 then None else Some (keyed number start)))
        × IfSome (keypoint_at (key 1)) (λ keypoint. keypoint.number < number)
    even is =
        let next : (number + 1) % 2 ≡ 1 = omega (arith, is) in (
          ap (λ (i : ℕ). keypoint_at (key i)) (sym is)
              ∙ stand.here,
          subst (λ (i : ℕ). IfSome (keypoint_at (key i)) (λ keypoint. keypoint.number < number)) next stand.other,
        )

    odd : number % 2 ≡ 1 → (keypoint_at (key 1) ≡ Some (keyed number start)) × IfSome (keypoint_at (key 0)) (λ keypoint. keypoint.number < number)
    odd is =
        let next : (number + 1) % 2 ≡ 0 = omega (arith, is) in
        let some : (number == 0) ≡ false = eq-false number 0 (λ zeroth. omega (arith, is, zeroth)) in (
          ap (λ (i : ℕ). keypoint_at (key i)) (sym is) ∙ stand.here ∙ ap (λ (c : Bool). if c then None else Some (keyed number start)) some,
          subst (λ (i : ℕ). IfSome (keypoint_at (key i)) (λ keypoint. keypoint.number < number)) next stand.other,
        )
