-- An entry behind the first of an applid.
use Rattle.std.proofs.Common.{◌≡◌, ◌≢◌, ℕ, zero, suc, ◌+◌, ◌-◌, ◌<◌, List, ◌∷◌, drop, length, get_or, slice_get, refl, sym, ap, ◌∙◌, arith, drop-cons, add-one, true, false, not, Bool}
use Rattle.std.specs.Str.{bytes_eq}
use Rattle.xrf_clt.specs.declared.Entry.{Entry}
use Rattle.xrf_clt.specs.Kept.{own_entries}

later : {X : Type 0} (x : X) (xs : List X) (n : ℕ) → n ≢ 0 → slice_get (x ∷ xs) n ≡ slice_get xs (n - 1)
later x xs zero some = absurd (some refl)
later x xs (suc n) some = let e : suc n - 1 ≡ n = omega arith in rw e refl

pub not_other : (other same : Bool) → other ≡ not same → other ≡ false → same ≡ true
not_other other true e no_other = refl
not_other other false e no_other = cc

-- An entry of the applid is the first of those that are left.
first_own : (applid : List ℕ) (entries : List Entry) (i : ℕ) (entry : Entry) → i < length entries → entry ≡ get_or entries i entry → bytes_eq entry.applid applid ≡ true
    → own_entries applid (drop i entries) ≡ entry ∷ own_entries applid (drop (i + 1) entries)
first_own applid entries i entry inside is own =
    let cut : drop i entries ≡ entry ∷ drop (i + 1) entries = drop-cons entries i entry inside ∙ rw add-one (ap (λ (e : Entry). e ∷ drop (suc i) entries) (sym is)) in
    ap (own_entries applid) cut ∙ rw own refl

-- Passing over an entry of the applid, the place among those left falls by one.
pub next_own : (applid : List ℕ) (entries : List Entry) (i : ℕ) (entry : Entry) (n : ℕ) → i < length entries → entry ≡ get_or entries i entry → bytes_eq entry.applid applid ≡ true
    → n ≢ 0 → n < length (own_entries applid (drop i entries))
    → (slice_get (own_entries applid (drop i entries)) n ≡ slice_get (own_entries applid (drop (i + 1) entries)) (n - 1))
    × (n - 1 < length (own_entries applid (drop (i + 1) entries)))
next_own applid entries i entry n inside is own some few =
    let first = first_own applid entries i entry inside is own in (
      ap (λ (es : List Entry). slice_get es n) first ∙ later entry (own_entries applid (drop (i + 1) entries)) n some,
      let longer = ap length first in omega arith,
    )
