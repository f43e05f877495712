use Rattle.std.proofs.Common.{◌≡◌, ℕ, ◌==◌, Bool, true, false, List, is_some, IsTrue, refl, sym, ap, subst, ◌∙◌, arith}
use Rattle.std.proofs.lemmas.Bool.{eqb-false}
use Rattle.xrf_gated.specs.declared.gated.Slot.{Slot}
use Rattle.xrf_gated.specs.Slots.{slot_of}
use Rattle.xrf_logrec.specs.LogRecords.{log_reading}
use Rattle.xrf_trace.specs.declared.entry.Land.TheVariants.{Full}
use Rattle.xrf_trace.specs.Devices.{body_at}
use Rattle.xrf_devices.proofs.tests.log_open.Goals as goal

-- the body that was written
abbrev pick : Bool → Slot → Slot → Slot
pick b one other = elim b [ true ↦ one | false ↦ other ]

landed-body : (k : ℕ) (body : List ℕ) (before : Slot) → (body_at k Full body k before).body ≡ body
landed-body k body before = by (k == k) refl
  where
    by : (b : Bool) → (k == k) ≡ b → (pick b (record { gate = before.gate; body = body }) before).body ≡ body
    by true e = refl
    by false e = absurd (eqb-false k k e refl)

pub open_slot-requires-clause-whole : goal.open_slot-requires-clause-whole
open_slot-requires-clause-whole c =
    let is : slot_of c.write_body.new.slots c.args.k ≡ body_at c.args.k Full c.args.body.now c.args.k (slot_of c.args.slots.now c.args.k) =
    c.write_body.ensures.slots (slot_of c.args.slots.now) (λ i inside. refl) c.args.k (omega (arith, c.write_body.ensures.size, c.requires.place)) in
    subst (λ (b : List ℕ). IsTrue (is_some (log_reading b))) (sym (ap (λ (s : Slot). s.body) is ∙ landed-body c.args.k c.args.body.now (slot_of c.args.slots.now c.args.k)))
    (grind (arith, c.whole.ensures, c.if-whole.true))
