-- What the writing of a message leaves of the messages that stand.
use Rattle.std.proofs.Common.{List, length, ◌≡◌, ℕ, ◌<◌, ◌≤◌, ◌%◌, Bool, IfSome, None, Option, Some, eqb-true, false, refl, true, ◌==◌, arith, nat_lt, ◌-◌, ap, [], ◌∷◌, eq-eqb, subst, sym, ◌∙◌, if◌then◌else◌, ◌&&◌}
use Rattle.std.proofs.lemmas.Grind.{common_steps}
use Rattle.std.proofs.lemmas.Bool.{and_parts}
use Rattle.xrf_gated.specs.declared.gated.Slot.{Slot}
use Rattle.xrf_gated.specs.declared.gated.TheConstants.{OPEN}
use Rattle.xrf_msg.specs.declared.messages.Message.{Message}
use Rattle.xrf_msg.specs.Messages.{MsgIs, HasNames, HasRanges, epoch_of, spelling}
use Rattle.xrf_trace.specs.Landing.{is_gate, landed, opens}
use Rattle.xrf_trace.specs.Devices.{with_gate, open_at}
use Rattle.xrf_trace.specs.declared.entry.Land.{Land}
use Rattle.xrf_trace.specs.Tracking.{messages_after}
use Rattle.xrf_trace.specs.declared.entry.Act.TheVariants as act
use Rattle.xrf_message_law.specs.Readers.{Standing, Stands, Reads}
use Rattle.xrf_message_law.proofs.Oldest.{nth-below, oldest-grown}
use Rattle.xrf_message_law.specs.Numbering.{nth_old}
use Rattle.xrf_message_law.proofs.RingPlaces.{places-apart}

-- a slot in which none of the messages from a number on stands
abbrev pub Away : (ring : ℕ) → List Message → ℕ → ℕ → Type 0
Away ring f from k = (q : ℕ) → from ≤ q → q < length f → q % ring ≡ k → ⊥

-- a write there leaves them
stands-away : (ring : ℕ) (slot : ℕ → Slot) (f : List Message) (from k : ℕ) (write : Slot → Slot) → Away ring f from k → Standing ring slot f from
    → Standing ring (λ i. elim (i == k) [ true ↦ write (slot i) | false ↦ slot i ]) f from
stands-away ring slot f from k write away before q above = by (nth_old f q) refl (before q above)
  where
    at : (m : Message) → q < length f → (b : Bool) → (q % ring == k) ≡ b → Stands (slot (q % ring)) m
        → Stands (elim b [ true ↦ write (slot (q % ring)) | false ↦ slot (q % ring) ]) m
    at m less true same stands = absurd (away q above less (eqb-true (q % ring) k same))
    at m less false other stands = stands

    by : (o : Option Message) → nth_old f q ≡ o → IfSome o (Stands (slot (q % ring)))
        → IfSome o (Stands (elim (q % ring == k) [ true ↦ write (slot (q % ring)) | false ↦ slot (q % ring) ]))
    by None none stands = tt
    by (Some m) some stands = at m (nth-below f q m some) (q % ring == k) refl stands

-- so a reader's messages stand
pub reads-away : (ring : ℕ) (slot : ℕ → Slot) (f : List Message) (sh : ℕ) (has : List Message) (k : ℕ) (write : Slot → Slot)
    → Away ring f (length has) k → Reads ring slot f sh has
    → Reads ring (λ i. elim (i == k) [ true ↦ write (slot i) | false ↦ slot i ]) f sh has
reads-away ring slot f sh has k write away b =
    record { taken_is = b.taken_is; few = b.few; stands = stands-away ring slot f (length has) k write away b.stands; shows = b.shows }

-- the slot of the next number is away from those that were not taken, while the sender may write
pub away-sent : (ring : ℕ) (f : List Message) (from c cursor sh : ℕ) → c ≡ length f → nat_lt (c - cursor) ring ≡ true → cursor ≤ sh → sh ≤ from
    → Away ring f from (c % ring)
away-sent ring f from c cursor sh count may heard shows q above less same =
    let near : c - cursor < ring = grind (arith, common_steps, may) in
    places-apart q c ring (omega (arith, count, less)) (omega (arith, near, heard, shows, above)) same

-- a slot is away from no messages
pub away-none : (ring : ℕ) (f : List Message) (from k : ℕ) → f ≡ [] → Away ring f from k
away-none ring f from k none q above less same = let zero : length f ≡ 0 = ap length none in omega (arith, zero, less)

-- an OPEN whose gate lands leaves its message standing
gate-lands : (slot : Slot) (bytes : Option (List ℕ)) (m : Message) → is_gate bytes ≡ true → MsgIs slot.body m → Stands (with_gate bytes slot) m
gate-lands slot None m is spelled = absurd (cc)
gate-lands slot (Some []) m is spelled = absurd (cc)
gate-lands slot (Some (gate ∷ rest)) m is spelled = record { gate = is; spelled = spelled }

-- an OPEN at a place leaves its message standing there
stands-there : (slot : ℕ → Slot) (k i : ℕ) (l : Land) (m : Message) → i ≡ k → Stands (with_gate (landed l (OPEN ∷ [])) (slot k)) m
    → Stands (open_at k l i (slot i)) m
stands-there slot k i l m same stands = by (i == k) (eq-eqb i k same)
  where
    by : (b : Bool) → b ≡ true → Stands (elim b [ true ↦ with_gate (landed l (OPEN ∷ [])) (slot i) | false ↦ slot i ]) m
    by true is = subst (λ (j : ℕ). Stands (with_gate (landed l (OPEN ∷ [])) (slot j)) m) (sym same) stands
    by false is = absurd (cc)

-- so all messages of the epoch stand after it
stands-opened : (ring : ℕ) (slot : ℕ → Slot) (f : List Message) (from k : ℕ) (l : Land) (m : Message) → k ≡ length f % ring
    → Stands (with_gate (landed l (OPEN ∷ [])) (slot k)) m
    → Standing ring (λ i. open_at k l i (slot i)) f from → Standing ring (λ i. open_at k l i (slot i)) (m ∷ f) from
stands-opened ring slot f from k l m place here before q above = by (length f == q) refl
  where
    by : (b : Bool) → (length f == q) ≡ b → IfSome (if b then Some m else nth_old f q) (Stands (open_at k l (q % ring) (slot (q % ring))))
    by true same = stands-there slot k (q % ring) l m (sym (place ∙ ap (λ (n : ℕ). n % ring) (eqb-true (length f) q same))) here
    by false other = before q above

-- **and what a reader may read stands**
pub reads-opened : (ring : ℕ) (slot : ℕ → Slot) (f : List Message) (sh : ℕ) (has : List Message) (n k : ℕ) (m : Message) (l : Land)
    → Away ring f (length has) k → (slot k).body ≡ spelling m
    → HasRanges m × HasNames m → (epoch_of m ≡ n → k ≡ length f % ring) → Reads ring slot f sh has
    → Reads ring (λ i. open_at k l i (slot i)) (messages_after n (act.MsgOpen k m) l f) sh has
reads-opened ring slot f sh has n k m l away body whole place b = by (opens l && epoch_of m == n) refl
  where
    kept : Reads ring (λ i. open_at k l i (slot i)) f sh has
    kept = reads-away ring slot f sh has k (with_gate (landed l (OPEN ∷ []))) away b

    by : (b : Bool) → (opens l && epoch_of m == n) ≡ b → Reads ring (λ i. open_at k l i (slot i)) (if b then m ∷ f else f) sh has
    by false is = kept
    by true is =
        let parts = and_parts (opens l) (epoch_of m == n) is in
        let here : Stands (with_gate (landed l (OPEN ∷ [])) (slot k)) m = gate-lands (slot k) (landed l (OPEN ∷ [])) m parts.0
        (record { ranges = whole.0; names = whole.1; spelled = body }) in
        record {
          taken_is = kept.taken_is ∙ sym (oldest-grown m f (length has) kept.few);
          few = omega (arith, kept.few);
          stands = stands-opened ring slot f (length has) k l m (place (eqb-true (epoch_of m) n parts.1)) here kept.stands;
          shows = kept.shows;
        }
