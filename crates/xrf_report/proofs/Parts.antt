-- Parts of the lines of a report: bytes from blank on, so many at most.
use Rattle.std.proofs.Common.{◌≡◌, ◌≤◌, ◌+◌, ◌*◌, ◌/◌, ◌%◌, ◌^◌, ◌<◌, ◌&&◌, ℕ, Bool, true, false, nat_le, nat_lt, List, [], ◌∷◌, ◌++◌, length, if◌then◌else◌, refl, arith}
use Rattle.std.specs.Fmt.{decimal}
use Rattle.std.specs.List.{AllByRecursion, list_all}
use Rattle.std.proofs.lemmas.Bool.{leb-true, and_parts}
use Rattle.std.proofs.lemmas.Fmt.{decimal_by_steps, length-decimal-le}
use Rattle.std.proofs.lemmas.List.{length-append}
use Rattle.xrf_base.specs.Names.{IsName, is_name_byte}
use Rattle.xrf_base.specs.Values.{IsValue, is_value_byte}
use Rattle.xrf_grammar.specs.Spelling.{hex_digit, hex_text}
use Rattle.xrf_report.specs.Fits.{Is32}
use Rattle.xrf_report.specs.Words.{blank, dot}

-- bytes from blank (byte 32) on
abbrev pub ArePrinted : List ℕ → Type 0
ArePrinted text = AllByRecursion (λ (b : ℕ). 32 ≤ b) text

pub record IsPart (most : ℕ) (text : List ℕ) : Type 0 where
  pub printed : ArePrinted text
  pub short : length text ≤ most

-- what holds of all elements of two lists holds of those of both
pub all-both : {X : Type 0} (P : X → Type 0) (xs ys : List X) → AllByRecursion P xs → AllByRecursion P ys → AllByRecursion P (xs ++ ys)
all-both P [] ys all more = more
all-both P (x ∷ xs) ys all more = (all.0, all-both P xs ys all.1 more)

-- bytes that pass the test are printed
tested : (text : List ℕ) → list_all (nat_le 32) text ≡ true → ArePrinted text
tested [] passed = tt
tested (b ∷ bs) passed = (leb-true 32 b (and_parts (nat_le 32 b) (list_all (nat_le 32) bs) passed).0, tested bs (and_parts (nat_le 32 b) (list_all (nat_le 32) bs) passed).1)

-- a word that passes the test is a part
pub word : (text : List ℕ) → list_all (nat_le 32) text ≡ true → IsPart (length text) text
word text passed = record { printed = tested text passed; short = omega arith }

-- no byte is a part
pub no-byte : IsPart 0 []
no-byte = record { printed = tt; short = omega arith }

-- what is a part is one where more bytes are allowed
pub within : {most : ℕ} {text : List ℕ} (more : ℕ) → nat_le most more ≡ true → IsPart most text → IsPart more text
within {most} {text} more wide part =
    let low : most ≤ more = leb-true most more wide in
    let short : length text ≤ most = part.short in
    record { printed = part.printed; short = omega arith }

pub wider : {most more : ℕ} {text : List ℕ} → most ≤ more → IsPart most text → IsPart more text
wider {most} {more} {text} low part = let short : length text ≤ most = part.short in record { printed = part.printed; short = omega arith }

-- two parts make a part
pub joined : {most more : ℕ} {text next : List ℕ} → IsPart most text → IsPart more next → IsPart (most + more) (text ++ next)
joined {most} {more} {text} {next} part other =
    let short : length text ≤ most = part.short in
    let few : length next ≤ more = other.short in
    let both : length (text ++ next) ≡ length text + length next = length-append text next in
    record { printed = all-both _ text next part.printed other.printed; short = omega arith }

-- a part behind a blank is a part
pub behind-blank : {most : ℕ} {text : List ℕ} → IsPart most text → IsPart (most + 1) (blank text)
behind-blank {most} {text} part = let short : length text ≤ most = part.short in record { printed = (omega arith, part.printed); short = omega arith }

-- a part behind a full stop is a part
pub behind-dot : {most : ℕ} {text : List ℕ} → IsPart most text → IsPart (most + 1) (dot text)
behind-dot {most} {text} part = let short : length text ≤ most = part.short in record { printed = (omega arith, part.printed); short = omega arith }

-- the digits of a number are printed
decimal-printed : (n : ℕ) → n < 2 ^ 64 → ArePrinted (decimal n)
decimal-printed n fits =
    decimal_by_steps (λ (m : ℕ) (ds : List ℕ). ArePrinted ds) (λ m small. (omega arith, tt))
    (λ m ds large ih. all-both _ ds ((48 + m % 10) ∷ []) ih (omega arith, tt)) n fits

-- a number of 32 bits has at most 10 digits
pub number : (n : ℕ) → Is32 n → IsPart 10 (decimal n)
number n fits =
    let low : n < 2 ^ 64 = omega (arith, fits) in
    record { printed = decimal-printed n low; short = length-decimal-le 10 n (omega arith) (omega (arith, fits)) low }

-- a number of 64 bits has at most 20
pub long-number : (n : ℕ) → n < 2 ^ 64 → IsPart 20 (decimal n)
long-number n fits = record { printed = decimal-printed n fits; short = length-decimal-le 20 n (omega arith) (omega (arith, fits)) fits }

-- a number below 100,000 has at most 5
pub short-number : (n : ℕ) → n < 100000 → IsPart 5 (decimal n)
short-number n few =
    let low : n < 2 ^ 64 = omega (arith, few) in
    record { printed = decimal-printed n low; short = length-decimal-le 5 n (omega arith) (omega (arith, few)) low }

value-printed : (text : List ℕ) → list_all is_value_byte text ≡ true → ArePrinted text
value-printed [] passed = tt
value-printed (b ∷ bs) passed =
    let low : 33 ≤ b = leb-true 33 b (and_parts (nat_le 33 b) (nat_le b 126) (and_parts (is_value_byte b) (list_all is_value_byte bs) passed).0).0 in
    (omega arith, value-printed bs (and_parts (is_value_byte b) (list_all is_value_byte bs) passed).1)

-- a value is a part
pub value : (text : List ℕ) → IsValue text → IsPart 24 text
value text is =
    let size = (and_parts (nat_le 1 (length text) && nat_le (length text) 24) (list_all is_value_byte text) is).0 in
    record {
      printed = value-printed text (and_parts (nat_le 1 (length text) && nat_le (length text) 24) (list_all is_value_byte text) is).1;
      short = leb-true (length text) 24 (and_parts (nat_le 1 (length text)) (nat_le (length text) 24) size).1;
    }

-- a byte of a name stands behind the blank
name-byte : (b : ℕ) → is_name_byte b ≡ true → 32 ≤ b
name-byte b passed = by (nat_le 32 b) refl
  where
    by : (low : Bool) → nat_le 32 b ≡ low → 32 ≤ b
    by true is = leb-true 32 b is
    by false is = grind (arith, passed, is)

name-printed : (text : List ℕ) → list_all is_name_byte text ≡ true → ArePrinted text
name-printed [] passed = tt
name-printed (b ∷ bs) passed =
    let both = and_parts (is_name_byte b) (list_all is_name_byte bs) passed in
    (name-byte b both.0, name-printed bs both.1)

-- a name is a part
pub name : (text : List ℕ) → IsName text → IsPart 8 text
name text is =
    let size = (and_parts (nat_le 1 (length text) && nat_le (length text) 8) (list_all is_name_byte text) is).0 in
    record {
      printed = name-printed text (and_parts (nat_le 1 (length text) && nat_le (length text) 8) (list_all is_name_byte text) is).1;
      short = leb-true (length text) 8 (and_parts (nat_le 1 (length text)) (nat_le (length text) 8) size).1;
    }

-- a hex digit is a letter or a digit
digit-printed : (n : ℕ) → 32 ≤ hex_digit n
digit-printed n = by (nat_lt n 10)
  where
    by : (low : Bool) → 32 ≤ (if low then 48 + n else 87 + n)
    by true = omega arith
    by false = omega arith

hex-printed : (bytes : List ℕ) → ArePrinted (hex_text bytes)
hex-printed [] = tt
hex-printed (b ∷ bs) = (digit-printed (b / 16), (digit-printed (b % 16), hex-printed bs))

-- hex has two digits for each byte
pub hex-length : (bytes : List ℕ) → length (hex_text bytes) ≡ 2 * length bytes
hex-length [] = refl
hex-length (b ∷ bs) = let ih = hex-length bs in omega arith

-- bytes in hex are a part
pub hex : (most : ℕ) (bytes : List ℕ) → length bytes ≤ most → IsPart (2 * most) (hex_text bytes)
hex most bytes few = let size = hex-length bytes in record { printed = hex-printed bytes; short = omega arith }
