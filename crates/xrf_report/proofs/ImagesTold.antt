-- The lines of the images of data sets are lines of a report, so many bytes at most.
use Rattle.std.proofs.Common.{◌≡◌, ◌≤◌, ◌<◌, ◌+◌, ◌*◌, ◌/◌, ℕ, zero, suc, Bool, true, false, nat_le, if◌then◌else◌, List, [], ◌++◌, codes, length, take, drop, Option, Some, None, refl, arith}
use Rattle.std.specs.Fmt.{decimal}
use Rattle.std.specs.List.{list_all}
use Rattle.std.proofs.Math.Nat.{mul-suc}
use Rattle.std.proofs.lemmas.List.{length-append, length-take, length-drop, length-replicate}
use Rattle.xrf_gated.specs.Landing.{part}
use Rattle.xrf_gated.specs.Slots.{bytes_of}
use Rattle.xrf_gated.specs.declared.gated.Slot.{Slot}
use Rattle.xrf_grammar.specs.Spelling.{hex_text}
use Rattle.xrf_report.specs.Images.{is_zero, image_line, pieces_text, slot_lines, slots_text, records_text}
use Rattle.xrf_report.specs.Fits.{SlotsFit, PiecesFit}
use Rattle.xrf_report.specs.Words.{blank, line}
use Rattle.xrf_report.proofs.Lines.{IsTold, nothing, told-wider, both, one}
use Rattle.xrf_report.proofs.Parts.{IsPart, word, within, joined, behind-blank, short-number, hex}

-- a line of at most 32 bytes of a data set with a name of at most 4
line-told : (name : List ℕ) (at : ℕ) (bytes : List ℕ) → IsPart 4 name → at < 100000 → length bytes ≤ 32 → IsTold 84 (image_line name at bytes)
line-told name at bytes named low few = by (is_zero bytes)
  where
    by : (zero : Bool) → IsTold 84 (if zero then [] else line (codes "IMAGE " ++ name ++ blank (decimal at) ++ blank (hex_text bytes)))
    by true = nothing
    by false = one (joined (joined (joined (word (codes "IMAGE ") refl) named) (behind-blank (short-number at low))) (behind-blank (hex 32 bytes few)))

take-short : (n : ℕ) (bytes : List ℕ) → length (take n bytes) ≤ n
take-short n bytes = omega (arith, length-take n bytes)

pub pieces-told : (name bytes : List ℕ) (count : ℕ) → IsPart 4 name → count ≤ 3000 → IsTold (84 * count) (pieces_text name bytes count)
pieces-told name bytes zero named few = nothing
pieces-told name bytes (suc count) named few =
    let product : 84 * suc count ≡ 84 * count + 84 = mul-suc 84 count in
    told-wider (omega arith)
    (both (pieces-told name bytes count named (omega arith)) (line-told name (32 * count) (part bytes (32 * count) 32) named (omega arith) (take-short 32 (drop (32 * count) bytes))))

-- a slot of 64 bytes has two lines
slot-told : (name : List ℕ) (at : ℕ) (bytes : List ℕ) → IsPart 4 name → at < 90000 → length bytes ≡ 64 → IsTold 168 (slot_lines name at bytes)
slot-told name at bytes named low size =
    let rest : length (drop 32 bytes) ≤ 32 = omega (arith, length-drop 32 bytes, size) in
    both (line-told name at (take 32 bytes) named (omega arith) (take-short 32 bytes)) (line-told name (at + 32) (drop 32 bytes) named (omega arith) rest)

pub slots-told : (name : List ℕ) (at : ℕ) (slot : ℕ → Slot) (count : ℕ) → IsPart 4 name → at ≤ 200 → count ≤ 1300 → SlotsFit slot count → IsTold (168 * count) (slots_text name at slot count)
slots-told name at slot zero named low few fits = nothing
slots-told name at slot (suc count) named low few fits =
    let product : 168 * suc count ≡ 168 * count + 168 = mul-suc 168 count in
    told-wider (omega arith)
    (both (slots-told name at slot count named low (omega arith) fits.0) (slot-told name (at + 64 * count) (bytes_of (slot count)) named (omega arith) fits.1))

pub records-told : (image : ℕ → List ℕ) (count : ℕ) → count ≤ 1000 → PiecesFit image count → IsTold (84 * count) (records_text image count)
records-told image zero few fits = nothing
records-told image (suc count) few fits =
    let product : 84 * suc count ≡ 84 * count + 84 = mul-suc 84 count in
    let short : length (image (suc count)) ≤ 32 = omega (arith, fits.1) in
    told-wider (omega arith)
    (both (records-told image count (omega arith) fits.0) (line-told (codes "FILE") (32 * count) (image (suc count)) (word (codes "FILE") refl) (omega arith) short))
