-- The numbers and starts of the keypoints in open KEY slots are small.
use Rattle.std.proofs.Common.{IfSome, ℕ, None, Option, Some, arith, ◌+◌, Bool, false, refl, subst, sym, true, ◌≡◌, ◌==◌, List, length, ap, ◌≤◌, [], ◌∷◌, ◌∙◌}
use Rattle.xrf_base.specs.declared.site.Site.{Site}
use Rattle.xrf_gated.specs.declared.gated.Slot.{Slot}
use Rattle.xrf_gated.specs.Slots.{is_open}
use Rattle.xrf_gated.specs.declared.gated.TheConstants.{OPEN}
use Rattle.xrf_logrec.specs.declared.keypoints.Keypoint.{Keypoint}
use Rattle.xrf_logrec.specs.Keypoints.{key_reading, key_spelling}
use Rattle.xrf_log.specs.Scan.{keypoint_at}
use Rattle.xrf_history.specs.Events.{Event}
use Rattle.xrf_history.specs.declared.want.Want.{Want}
use Rattle.xrf_trace.specs.declared.entry.Act.{Act}
use Rattle.xrf_trace.specs.declared.entry.Entry.{Entry}
use Rattle.xrf_trace.specs.declared.entry.Land.{Land}
use Rattle.xrf_trace.specs.Devices.{key_slot, key_slot_after, with_body, with_gate}
use Rattle.xrf_trace.specs.Scenario.{Scen}
use Rattle.xrf_trace.specs.Acts.{act_of}
use Rattle.xrf_trace.specs.Landing.{landed, opens}
use Rattle.xrf_trace.proofs.ByKind.{is_quiet, Kinds, by_kind}
use Rattle.xrf_trace.proofs.Steps.{Step}
use Rattle.xrf_log_law.specs.Conditions.{IsSmall, KeysAreSmall}
use Rattle.xrf_log_law.proofs.SlotWrites.{body_gate, gate_body, gate_shut, opened_gate}
use Rattle.xrf_log_law.proofs.KeyWrites.{closed-none, close_none, opened-some}
use Rattle.xrf_log_law.proofs.JobActs.{of-item}
use Rattle.xrf_log_law.specs.State.{key_number}
use Rattle.xrf_log_law.proofs.Counts.{log-count}
use Rattle.xrf_log_law.proofs.InvariantActs.{before-next}
use Rattle.xrf_log_law.proofs.OwnRanges.{one-more}
use Rattle.xrf_log_law.proofs.BeforeActs.{Before}
use Rattle.xrf_log_law.specs.Invariant.{Invariant}
use Rattle.xrf_log_law.proofs.Tests.{eq-of-true, false-true}
use Rattle.xrf_history.specs.declared.want.Want.TheVariants as want
use Rattle.xrf_trace.specs.declared.entry.Act.TheVariants as act

-- the keypoint of a slot is small, where it is open
abbrev Few : ℕ → Slot → Type 0
Few n slot = IfSome (keypoint_at slot) (IsSmall n)

-- what is small is so of a longer trace
one-few : (n : ℕ) (o : Option Keypoint) → IfSome o (IsSmall n) → IfSome o (IsSmall (n + 1))
one-few n None few = tt
one-few n (Some keypoint) few = (omega (arith, few.0), omega (arith, few.1))

-- one slot is changed
changed-few : (n k : ℕ) (change : Slot → Slot) (key : ℕ → Slot) → ((i : ℕ) → Few n (key i)) → Few (n + 1) (change (key k)) → (i : ℕ)
    → Few (n + 1) (elim (i == k) [ true ↦ change (key i) | false ↦ key i ])
changed-few n k change key few now i = by (i == k) refl
  where
    by : (b : Bool) → (i == k) ≡ b → Few (n + 1) (elim b [ true ↦ change (key i) | false ↦ key i ])
    by true e = subst (λ (j : ℕ). Few (n + 1) (change (key j))) (sym (eq-of-true i k e)) now
    by false e = one-few n (keypoint_at (key i)) (few i)

-- a closed slot has no keypoint
shut-few : (n : ℕ) (slot : Slot) → is_open slot ≡ false → Few n slot
shut-few n slot closed = subst (λ (o : Option Keypoint). IfSome o (IsSmall n)) (sym (closed-none slot closed)) tt

-- all slots after an act
abbrev FewAfter : List Entry → Land → Act → Type 0
FewAfter t l a = (i : ℕ) → Few (length t + 1) (key_slot_after a l i (key_slot t i))

-- after each act of a job
few-after : (s : Scen) (t : List Entry) (x : Site) (h : List Event) (l : Land) (w : Want) → Before s t x h w → key_number t ≤ length t
    → KeysAreSmall t → IfSome (act_of s t x h w) (FewAfter t l)
few-after s t x h l (want.KpClose k) b counted few =
    changed-few (length t) k (with_gate (landed l (0 ∷ []))) (key_slot t) few
    (close_none (IsSmall (length t + 1)) (landed l (0 ∷ [])) (key_slot t k) b.due.2 (one-few (length t) (keypoint_at (key_slot t k)) (few k)))
few-after s t x h l (want.KpBody k keypoint) b counted few =
    changed-few (length t) k (with_body (landed l (key_spelling keypoint))) (key_slot t) few
    (shut-few _ (with_body (landed l (key_spelling keypoint)) (key_slot t k))
    (body_gate (landed l (key_spelling keypoint)) (key_slot t k) b.due.2))
few-after s t x h l (want.KpOpen k keypoint) b counted few = changed-few (length t) k (with_gate (landed l (OPEN ∷ []))) (key_slot t) few (by (opens l) refl)
  where
    by : (c : Bool) → opens l ≡ c → Few (length t + 1) (with_gate (landed l (OPEN ∷ [])) (key_slot t k))
    by true e =
        subst (λ (o : Option Keypoint). IfSome o (IsSmall (length t + 1)))
        (sym (opened-some (with_gate (landed l (OPEN ∷ [])) (key_slot t k)) keypoint (opened_gate (landed l (OPEN ∷ [])) (key_slot t k) e)
        (ap key_reading (gate_body (landed l (OPEN ∷ [])) (key_slot t k)) ∙ b.due.3)))
        (omega (arith, b.due.1.next, counted), omega (arith, b.due.1.within, log-count t))
    by false e = shut-few _ (with_gate (landed l (OPEN ∷ [])) (key_slot t k)) (gate_shut (landed l (OPEN ∷ [])) (key_slot t k) e b.due.2)
few-after s t x h l want.Nothing b counted few = tt
few-after s t x h l (want.Exit told) b counted few = tt
few-after s t x h l want.Item b counted few = of-item s t x (FewAfter t l) (λ i. one-few (length t) (keypoint_at (key_slot t i)) (few i))
few-after s t x h l _ b counted few = λ i. one-few (length t) (keypoint_at (key_slot t i)) (few i)

-- after a choice that reaches a job
quiet-few : (t : List Entry) (l : Land) (a : Act) → is_quiet a ≡ true → KeysAreSmall t → FewAfter t l a
quiet-few t l (act.KpClose k) e few = false-true e
quiet-few t l (act.KpBody k keypoint) e few = false-true e
quiet-few t l (act.KpOpen k keypoint) e few = false-true e
quiet-few t l _ e few = λ i. one-few (length t) (keypoint_at (key_slot t i)) (few i)

-- of each kind of entry
few-kinds : (s : Scen) (t : List Entry) → Invariant s t → Kinds s t (λ e. FewAfter t e.land e.act)
few-kinds s t k = record {
  tick = λ i. one-few (length t) (keypoint_at (key_slot t i)) (k.keys i);
  confirm = λ n i. one-few (length t) (keypoint_at (key_slot t i)) (k.keys i);
  acts = λ x h a l job is fits may.
      (let b = before-next s t x h k job in
      subst (λ (o : Option Act). IfSome o (FewAfter t l)) is (few-after s t x h l _ b b.counted k.keys));
  quiet = λ x i a quiet. quiet-few t _ a quiet k.keys;
  stop = λ x j cut i. one-few (length t) (keypoint_at (key_slot t i)) (k.keys i);
  active = λ x i. one-few (length t) (keypoint_at (key_slot t i)) (k.keys i);
  standby = λ x i. one-few (length t) (keypoint_at (key_slot t i)) (k.keys i);
}

-- the numbers stay small
pub few-step : (s : Scen) (t : List Entry) (e : Entry) → Invariant s t → Step s t e → KeysAreSmall (e ∷ t)
few-step s t e k step =
    let after : FewAfter t e.land e.act = by_kind s t e (λ e. FewAfter t e.land e.act) step (few-kinds s t k) in
    λ i. subst (λ (n : ℕ). Few n (key_slot (e ∷ t) i)) (one-more e t) (after i)
