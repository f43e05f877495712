-- Runs of records in consecutive slots.
use Rattle.std.proofs.Common.{◌≡◌, ℕ, suc, ◌+◌, ◌-◌, ◌<◌, List, ◌∷◌, Some, None, refl, sym, ◌∙◌, ap, arith}
use Rattle.xrf_gated.specs.declared.gated.Slot.{Slot}
use Rattle.xrf_logrec.specs.declared.records.LogRec.{LogRec}
use Rattle.xrf_log.specs.Scan.{record_at, run_of}

-- one slot gives its record, and the run goes on behind it
pub run_of-some : (slot : ℕ → Slot) (n m k p : ℕ) (known : List LogRec) (rec : LogRec) → n ≡ suc m → record_at (slot k) p ≡ Some rec → run_of slot n k p known ≡ run_of slot m (k + 1) (p + 1) (rec ∷ known)
run_of-some slot n m k p known rec more e = rw (more, e) refl

-- one slot gives none, and the run ends before it
pub run_of-none : (slot : ℕ → Slot) (n m k p : ℕ) (known : List LogRec) → n ≡ suc m → record_at (slot k) p ≡ None → run_of slot n k p known ≡ known
run_of-none slot n m k p known more e = rw (more, e) refl

-- so the rest of a run behind one record gives what the rest from it on does
pub run_of-step : (slot : ℕ → Slot) (reach i place next : ℕ) (known after : List LogRec) (rec : LogRec) → i < reach → record_at (slot (place + i)) (next + i) ≡ Some rec → after ≡ rec ∷ known → run_of slot (reach - (i + 1)) (place + (i + 1)) (next + (i + 1)) after ≡ run_of slot (reach - i) (place + i) (next + i) known
run_of-step slot reach i place next known after rec more e grown =
    let count : reach - i ≡ suc (reach - (i + 1)) = omega arith in
    let k : place + (i + 1) ≡ place + i + 1 = omega arith in
    let p : next + (i + 1) ≡ next + i + 1 = omega arith in
    ap (λ (n : ℕ). run_of slot (reach - (i + 1)) n (next + (i + 1)) after) k
    ∙ ap (λ (n : ℕ). run_of slot (reach - (i + 1)) (place + i + 1) n after) p
    ∙ ap (run_of slot (reach - (i + 1)) (place + i + 1) (next + i + 1)) grown
    ∙ sym (run_of-some slot (reach - i) (reach - (i + 1)) (place + i) (next + i) known rec count e)
