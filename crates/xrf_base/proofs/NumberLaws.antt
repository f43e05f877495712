-- Numbers of bytes, the highest first.
use Rattle.std.proofs.Common.{◌≡◌, ◌≤◌, ◌<◌, ◌+◌, ◌*◌, ◌^◌, ◌/◌, inl, inr, ℕ, zero, suc, List, [], ◌∷◌, length, take, drop, true, refl, sym, ◌∙◌, ap, arith, subst}
use Rattle.std.proofs.Math.Nat.{mul-le-mul_right, mod-lt}
use Rattle.std.proofs.lemmas.Bool.{cases_order, cases_lt}
use Rattle.std.proofs.lemmas.List.{append-nil, length-take, length-drop, get_or-take, get_or-drop, get_or_past}
use Rattle.std.specs.Int.{byte_at}
use Rattle.byteorder.specs.Endian.{big_from, big_number, big_bytes}
use Rattle.byteorder.specs.Numbers.{big_from-take, big_from-cons, big_from-lt, big_number-reads_back, length-bytes_high_first}
use Rattle.xrf_base.specs.Numbers.{AreBytes, OneSpelling, SpelledAgain}
use Rattle.xrf_base.specs.Zeros.{are_zeros}

-- a number is not made of a lower digit
no-lower : (x y m r s : ℕ) → r < m → x * m + r ≡ y * m + s → x < y → ⊥
no-lower x y m r s low same less =
    let more : (x + 1) * m ≤ y * m = mul-le-mul_right m (omega arith) in
    let next : (x + 1) * m ≡ x * m + m = omega arith in
    omega arith

-- a number is made of a digit and a lower number in one way
one-digit : (x y m r s : ℕ) → r < m → s < m → x * m + r ≡ y * m + s → x ≡ y
one-digit x y m r s low low' same = elim (cases_order x y) [ inl e ↦ e | inr other ↦ elim other [ inl less ↦ absurd (no-lower x y m r s low same less) | inr more ↦ absurd (no-lower y x m s r low' (sym same) more) ] ]

-- two byte lists of one length that spell the same number are equal
pub equal : OneSpelling
equal [] [] bytes bytes' same e = refl
equal [] (y ∷ ys) bytes bytes' same e = absurd (omega arith)
equal (x ∷ xs) [] bytes bytes' same e = absurd (omega arith)
equal (x ∷ xs) (y ∷ ys) bytes bytes' same e =
    let count : length xs ≡ length ys = omega arith in
    let low : big_from 0 (length xs) xs < 256 ^ length xs = big_from-lt 0 (length xs) xs (λ i. bytes (suc i)) in
    let low' : big_from 0 (length xs) ys < 256 ^ length xs = big_from-lt 0 (length xs) ys (λ i. bytes' (suc i)) in
    let first : x * 256 ^ length xs + big_from 0 (length xs) xs ≡ y * 256 ^ length xs + big_from 0 (length xs) ys =
    ap (λ (r : ℕ). x * 256 ^ length xs + r) (sym (big_from-cons 0 (length xs) x xs)) ∙ e
    ∙ ap (λ (n : ℕ). y * 256 ^ n + big_from 1 n (y ∷ ys)) (sym count)
    ∙ ap (λ (r : ℕ). y * 256 ^ length xs + r) (big_from-cons 0 (length xs) y ys) in
    let digit = one-digit x y (256 ^ length xs) _ _ low low' first in
    let rest : big_from 0 (length xs) xs ≡ big_from 0 (length xs) ys = let f = subst (λ (d : ℕ). x * 256 ^ length xs + big_from 0 (length xs) xs ≡ d * 256 ^ length xs + big_from 0 (length xs) ys) (sym digit) first in omega arith in
    let tails = equal xs ys (λ i. bytes (suc i)) (λ i. bytes' (suc i)) count (rest ∙ ap (λ (n : ℕ). big_from 0 n ys) count) in
    ap (λ (d : ℕ). d ∷ xs) digit ∙ ap (λ (l : List ℕ). y ∷ l) tails

-- a byte of a number is a byte
byte-fits : (n x : ℕ) → byte_at n x < 256
byte-fits zero x = mod-lt x (omega arith)
byte-fits (suc n) x = mod-lt (x / 256 ^ suc n) (omega arith)

-- the bytes of a number are bytes
pub big_bytes-bytes : (n x : ℕ) → AreBytes (big_bytes n x)
big_bytes-bytes zero x i = omega arith
big_bytes-bytes (suc n) x zero = byte-fits n x
big_bytes-bytes (suc n) x (suc i) = big_bytes-bytes n x i

-- the bytes of the number that a byte list spells are that list
pub again : SpelledAgain
again a bytes =
    let count = length-bytes_high_first (length a) (big_number (length a) a) in
    equal (big_bytes (length a) (big_number (length a) a)) a (big_bytes-bytes _ _) bytes count
    (ap (λ (n : ℕ). big_from 0 n (big_bytes (length a) (big_number (length a) a))) count
    ∙ ap (big_from 0 (length a)) (sym (append-nil (big_bytes (length a) (big_number (length a) a))))
    ∙ big_number-reads_back (length a) (big_number (length a) a) [] (big_from-lt 0 (length a) a bytes))

-- a part of bytes is bytes
pub AreBytes-part : (bytes : List ℕ) (place n : ℕ) → AreBytes bytes → AreBytes (take n (drop place bytes))
AreBytes-part bytes place n h i =
    elim (cases_lt i n) [
      | inl lt ↦ rw (get_or-take n (drop place bytes) i 0 lt, get_or-drop) (h (place + i))
      | inr le ↦ rw (get_or_past (take n (drop place bytes)) i 0 (omega (arith, length-take n (drop place bytes)))) (omega arith)
    ]

-- the bytes at a place are those of the number that they spell
pub number_part : (bytes : List ℕ) (place n : ℕ) → place + n ≤ length bytes → AreBytes bytes → take n (drop place bytes) ≡ big_bytes n (big_number n (drop place bytes))
number_part bytes place n room fits =
    let len : length (take n (drop place bytes)) ≡ n = omega (arith, length-take n (drop place bytes), length-drop place bytes) in
    let same : big_bytes n (big_number n (take n (drop place bytes))) ≡ take n (drop place bytes) =
    subst (λ (k : ℕ). big_bytes k (big_number k (take n (drop place bytes))) ≡ take n (drop place bytes)) len (again (take n (drop place bytes)) (AreBytes-part bytes place n fits)) in
    sym same ∙ ap (λ (x : ℕ). big_bytes n x) (big_from-take 0 n n (drop place bytes) (omega arith))

place_value : (n : ℕ) → 0 < 256 ^ n
place_value zero = omega arith
place_value (suc n) = let rest = place_value n in omega (arith, rest)

-- bytes that spell 0 are zero
pub zeros_of_zero : (n : ℕ) (bytes : List ℕ) → big_from 0 n bytes ≡ 0 → are_zeros (take n bytes) ≡ true
zeros_of_zero zero bytes none = refl
zeros_of_zero (suc n) [] none = refl
zeros_of_zero (suc n) (zero ∷ bytes) none = zeros_of_zero n bytes (sym (big_from-cons 0 n 0 bytes) ∙ omega (arith, none))
zeros_of_zero (suc n) (suc b ∷ bytes) none =
    let least = place_value n in
    let more : suc b * 256 ^ n ≡ 256 ^ n + b * 256 ^ n = omega arith in
    absurd (omega (arith, least, more, none))
