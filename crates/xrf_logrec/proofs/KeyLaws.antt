-- What is spelled is read.
use Rattle.std.proofs.Common.{◌≡◌, ℕ, ◌^◌, ◌<◌, List, ◌++◌, replicate, Some, refl, ◌∙◌, ap, arith}
use Rattle.std.specs.Cmp.Lexicographic.{nat_list_eq_equiv}
use Rattle.std.proofs.lemmas.Bool.{le-leb}
use Rattle.byteorder.specs.Endian.{big_bytes}
use Rattle.byteorder.specs.Numbers.{big_number-reads_back}
use Rattle.xrf_logrec.specs.declared.keypoints.Keypoint.{Keypoint}
use Rattle.xrf_logrec.specs.Keypoints.{IsKeypoint, KeyIs, key_spelling, key_fields, if_key_spelled, key_reading}

-- two keypoints with one number and one start are one
same_keypoint : (a b : Keypoint) → a.number ≡ b.number → a.start ≡ b.start → a ≡ b
same_keypoint a b g h =
    let of : ℕ → ℕ → Keypoint = λ number start. record { number = number; start = start } in
    ap (λ number. of number a.start) g ∙ ap (of b.number) h

-- the fields of a spelling are those of its keypoint
key_fields-spelling : (keypoint : Keypoint) → IsKeypoint keypoint → key_fields (key_spelling keypoint) ≡ keypoint
key_fields-spelling keypoint ok =
    let start : keypoint.start < 256 ^ 4 = omega (arith, ok.start_most) in
    same_keypoint _ keypoint
    (big_number-reads_back 4 keypoint.number (big_bytes 4 keypoint.start ++ replicate 54 0) ok.number_most)
    (big_number-reads_back 4 keypoint.start (replicate 54 0) start)

if_key_spelled-spelling : (keypoint : Keypoint) → IsKeypoint keypoint → if_key_spelled (key_spelling keypoint) keypoint ≡ Some keypoint
if_key_spelled-spelling keypoint ok = rw (le-leb 1 keypoint.number ok.number_least, le-leb keypoint.start 65535 ok.start_most, nat_list_eq_equiv.refl (key_spelling keypoint)) refl

-- what a body spells is what is read of it
pub key_reading-spelled : (body : List ℕ) (keypoint : Keypoint) → KeyIs body keypoint → key_reading body ≡ Some keypoint
key_reading-spelled body keypoint is =
    ap key_reading is.spelled
    ∙ ap (if_key_spelled (key_spelling keypoint)) (key_fields-spelling keypoint is.in_range)
    ∙ if_key_spelled-spelling keypoint is.in_range
