-- Of 64 bytes the first is the gate, and the others the body.
use Rattle.std.proofs.Common.{◌≡◌, ℕ, ◌-◌, List, [], ◌∷◌, ◌++◌, length, arith, ap, ◌∙◌, slice_set}
use Rattle.std.proofs.lemmas.List.{drop_all, append-nil}
use borrow.Rule.Slice.PartMut.{put_mid}
use Rattle.xrf_gated.proofs.gated.Slot.write.Goals as goal

behind-gate : (into body : List ℕ) (gate : ℕ) → length into ≡ 64
    → put_mid 1 (length (slice_set into 0 gate) - 1) (slice_set into 0 gate) body ≡ gate ∷ body
behind-gate [] body gate size = absurd (omega (arith, size))
behind-gate (first ∷ rest) body gate size =
    ap (λ (r : List ℕ). (gate ∷ []) ++ (body ++ r)) (drop_all (length (gate ∷ rest) - 1) rest (omega arith))
    ∙ ap (λ (b : List ℕ). gate ∷ b) (append-nil body)

pub returns : goal.returns
returns c =
    behind-gate c.args.into.now c.copy_from_slice.new.self c.args.self.now.gate c.requires
    ∙ ap (λ (b : List ℕ). c.args.self.now.gate ∷ b) c.copy_from_slice.ensures.after
