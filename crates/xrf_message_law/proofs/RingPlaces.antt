-- Places of the ring: two numbers less than its size apart have places of their own.
use Rattle.std.proofs.Common.{arith, ◌≡◌, ℕ, ◌+◌, ◌*◌, ◌%◌, ◌<◌, ◌≤◌, suc, Bool, false, nat_lt, refl, true, ◌/◌}
use Rattle.std.proofs.Math.Nat.{mul-le-mul_left, mul-suc, mod-add-div}
use Rattle.std.proofs.lemmas.Grind.{common_steps}

-- two numbers of one round
same-round : (q c r u v : ℕ) → q < c → u ≤ v → q % r + r * v ≡ q → c % r + r * u ≡ c → q % r ≡ c % r → ⊥
same-round q c r u v less few at_q at_c same = let le : r * u ≤ r * v = mul-le-mul_left r few in omega (arith, le)

-- or of two rounds
later-round : (q c r u v : ℕ) → c < q + r → v < u → q % r + r * v ≡ q → c % r + r * u ≡ c → q % r ≡ c % r → ⊥
later-round q c r u v near more at_q at_c same =
    let le : r * suc v ≤ r * u = mul-le-mul_left r (omega (arith, more)) in
    let split : r * suc v ≡ r * v + r = mul-suc r v in
    omega (arith, le, split)

-- two numbers with less than the ring between them have places of their own
pub places-apart : (q c r : ℕ) → q < c → c < q + r → q % r ≡ c % r → ⊥
places-apart q c r less near same = by (nat_lt (q / r) (c / r)) refl
  where
    by : (b : Bool) → nat_lt (q / r) (c / r) ≡ b → ⊥
    by true is = later-round q c r (c / r) (q / r) near (grind (arith, common_steps)) (mod-add-div q r) (mod-add-div c r) same
    by false is = same-round q c r (c / r) (q / r) less (grind (arith, common_steps)) (mod-add-div q r) (mod-add-div c r) same
