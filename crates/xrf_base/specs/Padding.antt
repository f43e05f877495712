-- Texts that are padded with blanks up to a fixed length.
use Rattle.std.proofs.Common.{◌≡◌, ◌==◌, ℕ, ◌+◌, ◌-◌, ◌≤◌, List, ◌++◌, length, take, replicate, sym, ◌∙◌, ap, arith}
use Rattle.std.specs.List.{before_first}
use Rattle.std.proofs.lemmas.List.{length-take, length-append, length-replicate}
use Rattle.std.proofs.Math.Seq.{take-append_seam}

-- a text and blanks (byte 32) up to a length
abbrev pub padded : ℕ → List ℕ → List ℕ
padded size text = text ++ replicate (size - length text) 32

-- what stands before the first blank
abbrev pub unpadded : List ℕ → List ℕ
unpadded bytes = before_first (λ b. b == 32) bytes

-- where a list is the padding of its front, the front has the length that was taken
pub length-front : (size : ℕ) (bytes : List ℕ) (count : ℕ) → count ≤ size → bytes ≡ padded size (take count bytes) → length (take count bytes) ≡ count
length-front size bytes count few is_padded =
    let whole : length bytes ≡ length (take count bytes) + (size - length (take count bytes)) =
    ap length is_padded ∙ length-append (take count bytes) (replicate (size - length (take count bytes)) 32)
    ∙ ap (λ (n : ℕ). length (take count bytes) + n) (length-replicate (size - length (take count bytes)) 32) in
    let front = length-take count bytes in
    omega arith

-- so what is made of the padding and the length is made of the list and the count
pub made_again : {X : Type 0} → (make : List ℕ → ℕ → X) → (size : ℕ) (bytes : List ℕ) (count : ℕ) → count ≤ size → bytes ≡ padded size (take count bytes)
    → make (padded size (take count bytes)) (length (take count bytes)) ≡ make bytes count
made_again make size bytes count few is_padded =
    ap (λ (p : List ℕ). make p (length (take count bytes))) (sym is_padded) ∙ ap (make bytes) (length-front size bytes count few is_padded)

-- the front of a padding as long as the text is the text
pub take-padded : (size : ℕ) (text : List ℕ) → take (length text) (padded size text) ≡ text
take-padded size text = take-append_seam text (replicate (size - length text) 32)
