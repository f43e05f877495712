-- The bytes of a record have its parts, and bytes that have a record's parts are that record's.
use Rattle.std.proofs.Common.{◌≡◌, ℕ, ◌^◌, ◌<◌, List, [], ◌++◌, length, Option, Some, None, refl, sym, ap, subst, ◌∙◌, arith}
use Rattle.std.proofs.Math.Seq.{take-add}
use Rattle.std.proofs.lemmas.List.{take_all}
use Rattle.std.proofs.Common.{inl, inr}
use Rattle.byteorder.specs.Endian.{big_bytes}
use Rattle.byteorder.specs.Numbers.{big_number-reads_back}
use Rattle.xrf_base.specs.Numbers.{AreBytes}
use Rattle.xrf_base.proofs.NumberLaws.{number_part}
use Rattle.xrf_ctl.specs.Places.{part, number_at, zeros, laid_at}
use Rattle.xrf_ctl.specs.Reading.{HasParts}
use Rattle.xrf_ctl.specs.declared.parts.Owner.{Owner}
use Rattle.xrf_ctl.specs.declared.parts.Alt.{Alt}
use Rattle.xrf_ctl.specs.declared.parts.Taking.{Taking}
use Rattle.xrf_ctl.specs.Control.{ControlRecord, IsControl, IsFormat, OwnerFits, AltFits, TakingFits, of_parts}
use Rattle.xrf_ctl.specs.Layout.{eye, owner_bytes, alt_bytes, taking_bytes, control_bytes, Spells}
use Rattle.xrf_ctl.specs.Faults.{last_at}

-- 256 bytes are their fields, one after the other
pub in_fields : (b : List ℕ) → length b ≡ 256
    → b ≡ part b 0 4 ++ part b 4 2 ++ part b 6 2 ++ part b 8 4 ++ part b 12 8 ++ part b 20 8 ++ part b 28 8 ++ part b 36 220
in_fields b len =
    sym (take_all 256 b (omega arith)) ∙ take-add 36 220 b
    ∙ ap (λ (x : List ℕ). x ++ part b 36 220) (take-add 28 8 b ∙ ap (λ (x : List ℕ). x ++ part b 28 8) (take-add 20 8 b ∙ ap (λ (x : List ℕ). x ++ part b 20 8) (take-add 12 8 b ∙ ap (λ (x : List ℕ). x ++ part b 12 8)
    (take-add 8 4 b ∙ ap (λ (x : List ℕ). x ++ part b 8 4) (take-add 6 2 b ∙ ap (λ (x : List ℕ). x ++ part b 6 2) (take-add 4 2 b))))))

-- the same with what stands in the fields
pub of_fields : (b e f z l o a t r : List ℕ) → length b ≡ 256 → part b 0 4 ≡ e → part b 4 2 ≡ f → part b 6 2 ≡ z → part b 8 4 ≡ l → part b 12 8 ≡ o → part b 20 8 ≡ a → part b 28 8 ≡ t → part b 36 220 ≡ r
    → b ≡ e ++ f ++ z ++ l ++ o ++ a ++ t ++ r
of_fields b e f z l o a t r len is_e is_f is_z is_l is_o is_a is_t is_r = rw (← is_e, ← is_f, ← is_z, ← is_l, ← is_o, ← is_a, ← is_t, ← is_r) (in_fields b len)

pub spelled : (b : List ℕ) (r : ControlRecord) → length b ≡ 256 → AreBytes b → HasParts b r → b ≡ control_bytes r
spelled b r len fits has =
    of_fields b eye (big_bytes 2 r.format) (zeros 2) (big_bytes 4 r.last) (owner_bytes r.owner) (alt_bytes r.alt) (taking_bytes r.taking) (zeros 220) len
    has.eye
    (number_part b 4 2 (omega arith) fits ∙ ap (λ (n : ℕ). big_bytes 2 n) has.format)
    has.reserved.0
    (number_part b 8 4 (omega arith) fits ∙ ap (λ (n : ℕ). big_bytes 4 n) has.last)
    has.owner.0
    has.alt.0
    has.taking.0
    has.reserved.1

-- a record's bytes have its parts: the bytes of each, and its numbers
record AreLaid (b : List ℕ) (r : ControlRecord) : Type 0 where
  pub eye : part b 0 4 ≡ eye
  pub owner : part b 12 8 ≡ owner_bytes r.owner
  pub alt : part b 20 8 ≡ alt_bytes r.alt
  pub taking : part b 28 8 ≡ taking_bytes r.taking
  pub reserved : (part b 6 2 ≡ zeros 2) × (part b 36 220 ≡ zeros 220)

laid : (format last : ℕ) (o : Option Owner) (a : Option Alt) (t : Option Taking) → AreLaid (control_bytes (of_parts format last o a t)) (of_parts format last o a t)
laid format last None None None = record { eye = refl; owner = refl; alt = refl; taking = refl; reserved = (refl, refl) }
laid format last None None (Some t) = record { eye = refl; owner = refl; alt = refl; taking = refl; reserved = (refl, refl) }
laid format last None (Some a) None = record { eye = refl; owner = refl; alt = refl; taking = refl; reserved = (refl, refl) }
laid format last None (Some a) (Some t) = record { eye = refl; owner = refl; alt = refl; taking = refl; reserved = (refl, refl) }
laid format last (Some o) None None = record { eye = refl; owner = refl; alt = refl; taking = refl; reserved = (refl, refl) }
laid format last (Some o) None (Some t) = record { eye = refl; owner = refl; alt = refl; taking = refl; reserved = (refl, refl) }
laid format last (Some o) (Some a) None = record { eye = refl; owner = refl; alt = refl; taking = refl; reserved = (refl, refl) }
laid format last (Some o) (Some a) (Some t) = record { eye = refl; owner = refl; alt = refl; taking = refl; reserved = (refl, refl) }

format_laid : (format last : ℕ) (o : Option Owner) (a : Option Alt) (t : Option Taking) → format < 2 ^ 16 → number_at (control_bytes (of_parts format last o a t)) 4 2 ≡ format
format_laid format last o a t fits = big_number-reads_back 2 format [] fits

last_laid : (format last : ℕ) (o : Option Owner) (a : Option Alt) (t : Option Taking) → last < 2 ^ 32 → last_at (control_bytes (of_parts format last o a t)) ≡ last
last_laid format last o a t fits = big_number-reads_back 4 last [] fits

is_small : (n : ℕ) → IsFormat n → n < 2 ^ 16
is_small n (inl e) = omega arith
is_small n (inr e) = omega arith

pub parted : (b : List ℕ) (r : ControlRecord) → Spells b r → HasParts b r
parted b r s =
    let control = s.0 in
    let there : AreLaid (control_bytes r) r = laid r.format r.last r.owner r.alt r.taking in
    let last : last_at (control_bytes r) ≡ r.last = last_laid r.format r.last r.owner r.alt r.taking control.last in
    let at_home : HasParts (control_bytes r) r = record {
      eye = there.eye;
      is_format = control.format;
      format = format_laid r.format r.last r.owner r.alt r.taking (is_small r.format control.format);
      last = last;
      owner = (there.owner, subst (λ (n : ℕ). OwnerFits n r.owner) (sym last) control.rule.owner);
      alt = (there.alt, subst (λ (n : ℕ). AltFits n r.owner r.alt) (sym last) control.rule.alt);
      taking = (there.taking, subst (λ (n : ℕ). TakingFits n r.alt r.taking) (sym last) control.rule.taking);
      reserved = there.reserved;
    } in
    subst (λ (x : List ℕ). HasParts x r) (sym s.1) at_home

-- so the parts of the bytes say which record they spell
pub spells : (b : List ℕ) (r : ControlRecord) → length b ≡ 256 → AreBytes b → IsControl r → HasParts b r → Spells b r
spells b r len fits control has = (control, spelled b r len fits has)

computes : (format last : ℕ) (o : Option Owner) (a : Option Alt) (t : Option Taking)
    → laid_at (laid_at (laid_at (laid_at (laid_at (laid_at (zeros 256) 0 eye) 4 (big_bytes 2 format)) 8 (big_bytes 4 last)) 12 (owner_bytes o)) 20 (alt_bytes a)) 28 (taking_bytes t) ≡ control_bytes (of_parts format last o a t)
computes format last None None None = refl
computes format last None None (Some t) = refl
computes format last None (Some a) None = refl
computes format last None (Some a) (Some t) = refl
computes format last (Some o) None None = refl
computes format last (Some o) None (Some t) = refl
computes format last (Some o) (Some a) None = refl
computes format last (Some o) (Some a) (Some t) = refl

-- laying the fields one after the other on zeros gives the record's bytes
pub laid_in_turn : (format last : ℕ) (o : Option Owner) (a : Option Alt) (t : Option Taking) (b1 b2 b3 b4 b5 b6 : List ℕ)
    → b1 ≡ laid_at (zeros 256) 0 eye → b2 ≡ laid_at b1 4 (big_bytes 2 format) → b3 ≡ laid_at b2 8 (big_bytes 4 last)
    → b4 ≡ laid_at b3 12 (owner_bytes o) → b5 ≡ laid_at b4 20 (alt_bytes a) → b6 ≡ laid_at b5 28 (taking_bytes t)
    → b6 ≡ control_bytes (of_parts format last o a t)
laid_in_turn format last o a t b1 b2 b3 b4 b5 b6 e1 e2 e3 e4 e5 e6 =
    e6 ∙ ap (λ (x : List ℕ). laid_at x 28 (taking_bytes t)) (e5 ∙ ap (λ (x : List ℕ). laid_at x 20 (alt_bytes a)) (e4 ∙ ap (λ (x : List ℕ). laid_at x 12 (owner_bytes o))
    (e3 ∙ ap (λ (x : List ℕ). laid_at x 8 (big_bytes 4 last)) (e2 ∙ ap (λ (x : List ℕ). laid_at x 4 (big_bytes 2 format)) e1)))) ∙ computes format last o a t
