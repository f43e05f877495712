-- Keypoints, and the bodies that spell them.
use Rattle.std.specs.Prelude.{◌≡◌, ℕ, ◌^◌, ◌<◌, ◌≤◌, Bool, ◌&&◌, nat_eq, nat_le, if◌then◌else◌, List, ◌∷◌, ◌++◌, drop, replicate, Option, Some, None}
use Rattle.std.specs.Cmp.Lexicographic.{pointwise}
use Rattle.byteorder.specs.Endian.{big_number, big_bytes}
use Rattle.xrf_logrec.specs.declared.keypoints.Keypoint.{Keypoint}

-- a keypoint's number is a number of 4 bytes and at least 1, and its start is at most 65535
pub record IsKeypoint (keypoint : Keypoint) : Type 0 where
  pub number_least : 1 ≤ keypoint.number
  pub number_most : keypoint.number < 2 ^ 32
  pub start_most : keypoint.start ≤ 65535

-- the body of a slot that holds a keypoint: kind 4, the number and the start, and zero else
abbrev pub key_spelling : Keypoint → List ℕ
key_spelling keypoint = (4 ∷ big_bytes 4 keypoint.number ++ big_bytes 4 keypoint.start) ++ replicate 54 0

-- a body spells this keypoint
pub record KeyIs (body : List ℕ) (keypoint : Keypoint) : Type 0 where
  pub in_range : IsKeypoint keypoint
  pub spelled : body ≡ key_spelling keypoint

-- The reading of a body, as a function: the keypoint that its fields give, where that keypoint is in
-- its ranges and has exactly this spelling.
abbrev pub is_keypoint : Keypoint → Bool
is_keypoint keypoint = nat_le 1 keypoint.number && nat_le keypoint.start 65535

abbrev pub key_fields : List ℕ → Keypoint
key_fields body = record { number = big_number 4 (drop 1 body); start = big_number 4 (drop 5 body) }

abbrev pub if_key_spelled : List ℕ → Keypoint → Option Keypoint
if_key_spelled body keypoint = if is_keypoint keypoint && pointwise nat_eq (key_spelling keypoint) body then Some keypoint else None

abbrev pub key_reading : List ℕ → Option Keypoint
key_reading body = if_key_spelled body (key_fields body)
