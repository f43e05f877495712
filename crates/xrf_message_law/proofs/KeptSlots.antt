-- Slots that are kept as a list stand as those of the trace after each landing.
use Rattle.std.proofs.Common.{List, ap, length, refl, suc, zero, ◌≡◌, ℕ, [], ◌∷◌, ◌<◌, ◌≢◌, Bool, eq-eqb, eqb-true, false, subst, sym, true, ◌==◌, ◌∙◌, None, Option, Some, ◌≤◌}
use Rattle.std.specs.Prelude.{slice_set}
use Rattle.std.proofs.lemmas.List.{get_or-set_same, get_or-set_other}
use Rattle.xrf_gated.specs.declared.gated.Slot.{Slot}
use Rattle.xrf_gated.specs.Slots.{slot_of, zero_slot}
use Rattle.xrf_gated.specs.declared.gated.TheConstants.{OPEN}
use Rattle.xrf_msg.specs.Messages.{spelling}
use Rattle.xrf_history.specs.declared.want.Want.{Want}
use Rattle.xrf_history.specs.Next.{next}
use Rattle.xrf_history.specs.declared.want.Want.TheVariants as want
use Rattle.xrf_trace.specs.declared.entry.Entry.{Entry}
use Rattle.xrf_trace.specs.Devices.{message_slot, message_slot_after, with_gate as gate_landed, with_body as body_landed}
use Rattle.xrf_trace.specs.declared.entry.Act.{Act}
use Rattle.xrf_trace.specs.declared.entry.Land.{Land}
use Rattle.xrf_trace.specs.Landing.{landed}
use Rattle.xrf_trace.proofs.Short.{IsShort}
use Rattle.xrf_trace.specs.Scenario.{Scen, settings}
use Rattle.xrf_trace.proofs.JobSteps.{at-job, of_job}
use Rattle.xrf_trace.specs.Jobs.{hist}
use Rattle.xrf_trace.specs.declared.entry.Act.TheVariants as act
use Rattle.xrf_message_law.specs.KeptSlots.{Stand, IsOffMessages, StandAfter}
use Rattle.xrf_message_law.specs.MayLand.{IsWhole, MayLand, ListMayLand, OpenIsWhole, SlotsMayLand}
use Rattle.xrf_message_law.specs.Names.{ItemsNamed}
use Rattle.xrf_message_law.proofs.MayLand.{slots_may_land}

-- a slot that is set leaves the count
length-set : (slots : List Slot) (k : ℕ) (slot : Slot) → length (slice_set slots k slot) ≡ length slots
length-set [] k slot = refl
length-set (first ∷ slots) zero slot = refl
length-set (first ∷ slots) (suc k) slot = ap suc (length-set slots k slot)

-- and is there
slot-set_same : (slots : List Slot) (k : ℕ) (slot : Slot) → k < length slots → slot_of (slice_set slots k slot) k ≡ slot
slot-set_same slots k slot inside = get_or-set_same slots k slot zero_slot inside

-- and leaves the others
slot-set_other : (slots : List Slot) (k i : ℕ) (slot : Slot) → i ≢ k → slot_of (slice_set slots k slot) i ≡ slot_of slots i
slot-set_other slots k i slot other = get_or-set_other slots k i slot zero_slot other

-- a slot that is written over
stand-set : (t : List Entry) (e : Entry) (ring : ℕ) (slots : List Slot) (k : ℕ) (slot : Slot) (write : Slot → Slot) → Stand t ring slots → k < ring
    → slot ≡ write (slot_of slots k)
    → ((i : ℕ) → message_slot (e ∷ t) i ≡ elim (i == k) [ true ↦ write (message_slot t i) | false ↦ message_slot t i ])
    → Stand (e ∷ t) ring (slice_set slots k slot)
stand-set t e ring slots k slot write stand inside is written = record {
  many = length-set slots k slot ∙ stand.many;
  each = λ i less. by i less (i == k) refl;
}
  where
    by : (i : ℕ) → i < ring → (b : Bool) → (i == k) ≡ b → slot_of (slice_set slots k slot) i ≡ message_slot (e ∷ t) i
    by i less true same =
        let one : i ≡ k = eqb-true i k same in
        ap (slot_of (slice_set slots k slot)) one ∙ slot-set_same slots k slot (subst (λ (n : ℕ). k < n) (sym stand.many) inside) ∙ is ∙ ap write
        (stand.each k inside)
        ∙ ap (λ (j : ℕ). write (message_slot t j)) (sym one)
        ∙ sym (written i ∙ ap (λ (b : Bool). elim b [ true ↦ write (message_slot t i) | false ↦ message_slot t i ]) same)
    by i less false other =
        slot-set_other slots k i slot (λ same. apart (i == k) (eq-eqb i k same) other) ∙ stand.each i less
        ∙ sym (written i ∙ ap (λ (b : Bool). elim b [ true ↦ write (message_slot t i) | false ↦ message_slot t i ]) other)
      where
        apart : (b : Bool) → b ≡ true → b ≡ false → ⊥
        apart b yes_it no_it = cc

-- the slots of the trace after an act
slots-stand : (t : List Entry) (e : Entry) (ring : ℕ) (slots : List Slot) → Stand t ring slots → (a : Act) → e.act ≡ a → (f : ℕ → Slot → Slot)
    → ((i : ℕ) (before : Slot) → message_slot_after a e.land i before ≡ f i before) → (i : ℕ) → message_slot (e ∷ t) i ≡ f i (message_slot t i)
slots-stand t e ring slots stand a is f same i = ap (λ (one : Act). message_slot_after one e.land i (message_slot t i)) is ∙ same i (message_slot t i)

-- an entry that changes none
stand-kept : (t : List Entry) (e : Entry) (ring : ℕ) (slots : List Slot) → Stand t ring slots
    → ((i : ℕ) (before : Slot) → message_slot_after e.act e.land i before ≡ before) → Stand (e ∷ t) ring slots
stand-kept t e ring slots stand same = record { many = stand.many; each = λ i less. stand.each i less ∙ sym (same i (message_slot t i)) }

-- where nothing lands, a slot is kept
same-either : (b : Bool) (slot : Slot) → elim b [ true ↦ slot | false ↦ slot ] ≡ slot
same-either true slot = refl
same-either false slot = refl

-- a gate on which nothing lands
kept-gate : (k : ℕ) (i : ℕ) (o : Option (List ℕ)) (before : Slot) → o ≡ None → elim (i == k) [ true ↦ gate_landed o before | false ↦ before ] ≡ before
kept-gate k i None before none = same-either (i == k) before
kept-gate k i (Some bytes) before none = absurd (cc)

-- a body on which nothing lands
kept-body : (k : ℕ) (i : ℕ) (o : Option (List ℕ)) (before : Slot) → o ≡ None → elim (i == k) [ true ↦ body_landed o before | false ↦ before ] ≡ before
kept-body k i None before none = same-either (i == k) before
kept-body k i (Some bytes) before none = absurd (cc)

-- an act of which nothing lands
none-after : (a : Act) (l : Land) (i : ℕ) (before : Slot) → ((own : List ℕ) → landed l own ≡ None) → message_slot_after a l i before ≡ before
none-after (act.MsgClose k) l i before none = kept-gate k i (landed l (0 ∷ [])) before (none (0 ∷ []))
none-after (act.MsgBody k m) l i before none = kept-body k i (landed l (spelling m)) before (none (spelling m))
none-after (act.MsgOpen k m) l i before none = kept-gate k i (landed l (OPEN ∷ [])) before (none (OPEN ∷ []))
none-after _ l i before none = refl

-- an act that writes no message slot
off-after : (a : Act) (l : Land) (i : ℕ) (before : Slot) → IsOffMessages a → message_slot_after a l i before ≡ before
off-after (act.MsgClose k) l i before off = absurd off
off-after (act.MsgBody k m) l i before off = absurd off
off-after (act.MsgOpen k m) l i before off = absurd off
off-after _ l i before off = refl

-- **slots that stand do so after each entry**
pub stand-after : (t : List Entry) (e : Entry) (ring : ℕ) (slots : List Slot) → Stand t ring slots → StandAfter t e ring slots
stand-after t e ring slots stand = record {
  closes = λ k byte inside is lands.
      stand-set t e ring slots k (record (slot_of slots k) { gate = byte }) (gate_landed (Some (byte ∷ []))) stand inside refl
      (slots-stand t e ring slots stand (act.MsgClose k) is (λ i before. elim (i == k) [ true ↦ gate_landed (Some (byte ∷ [])) before | false ↦ before ])
      (λ i before. ap (λ (o : Option (List ℕ)). elim (i == k) [ true ↦ gate_landed o before | false ↦ before ]) lands));
  opens = λ k byte m inside is lands.
      stand-set t e ring slots k (record (slot_of slots k) { gate = byte }) (gate_landed (Some (byte ∷ []))) stand inside refl
      (slots-stand t e ring slots stand (act.MsgOpen k m) is (λ i before. elim (i == k) [ true ↦ gate_landed (Some (byte ∷ [])) before | false ↦ before ])
      (λ i before. ap (λ (o : Option (List ℕ)). elim (i == k) [ true ↦ gate_landed o before | false ↦ before ]) lands));
  bodies = λ k m body inside is lands.
      stand-set t e ring slots k (record (slot_of slots k) { body = body }) (body_landed (Some body)) stand inside refl
      (slots-stand t e ring slots stand (act.MsgBody k m) is (λ i before. elim (i == k) [ true ↦ body_landed (Some body) before | false ↦ before ])
      (λ i before. ap (λ (o : Option (List ℕ)). elim (i == k) [ true ↦ body_landed o before | false ↦ before ]) lands));
  nothing = λ none. stand-kept t e ring slots stand (λ i before. none-after e.act e.land i before none);
  others = λ off. stand-kept t e ring slots stand (λ i before. off-after e.act e.land i before off);
}

-- what the writes find in them
in-list : (t : List Entry) (ring : ℕ) (slots : List Slot) (w : Want) → Stand t ring slots → MayLand (message_slot t) ring w
    → MayLand (slot_of slots) (length slots) w
in-list t ring slots (want.MsgRead k) stand may = subst (λ (n : ℕ). k < n) (sym stand.many) may
in-list t ring slots (want.MsgClose k) stand may =
    (subst (λ (n : ℕ). k < n) (sym stand.many) may.0, subst (λ (slot : Slot). slot.gate ≡ OPEN) (sym (stand.each k may.0)) may.1)
in-list t ring slots (want.MsgBody k m) stand may =
    (subst (λ (n : ℕ). k < n) (sym stand.many) may.0, subst (λ (slot : Slot). slot.gate ≡ OPEN → ⊥) (sym (stand.each k may.0)) may.1, may.2)
in-list t ring slots (want.MsgOpen k m) stand may =
    (subst (λ (n : ℕ). k < n) (sym stand.many) may.0, subst (λ (slot : Slot). IsWhole slot.body) (sym (stand.each k may.0)) may.1)
in-list t ring slots _ stand may = tt

-- **the conditions of the landings in them**
pub lists_may_land : (s : Scen) → ItemsNamed s → 1 ≤ s.settings.ring → (t : List Entry) → IsShort s t → (slots : List Slot)
    → Stand t s.settings.ring slots → ListMayLand s t slots
lists_may_land s names least t is slots stand =
    let lands : SlotsMayLand s t = slots_may_land s names least t is in
    record {
      may = λ x. of_job (λ y h. MayLand (slot_of slots) (length slots) (next (settings s y) h)) x (hist s t x)
          (λ h there. in-list t s.settings.ring slots (next (settings s x) h) stand (at-job s (λ y g. MayLand (message_slot t) s.settings.ring
          (next (settings s y) g)) t x h lands.may there));
      whole = λ i inside.
          subst OpenIsWhole (sym (stand.each i (subst (λ (n : ℕ). i < n) stand.many inside))) (lands.whole i);
    }
