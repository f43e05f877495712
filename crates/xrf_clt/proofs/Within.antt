-- Entries whose texts lie within the texts of all lines.
use Rattle.std.proofs.Common.{◌≡◌, ℕ, zero, suc, ◌-◌, ◌≤◌, List, [], ◌∷◌, ◌++◌, map, length, take, drop, length-drop, length-append, slice_get, Some, Bool, true, false, cond, refl, sym, subst, ap, ap₂, ◌∙◌, arith}
use Rattle.std.specs.Str.{bytes_eq}
use Rattle.std.proofs.lemmas.List.{take-append-le, drop-append-le}
use Rattle.std.specs.Option.{option_map}
use Rattle.std.proofs.lemmas.Option.{slice_get-map}
use Rattle.std.proofs.lemmas.List.{length-map}
use Rattle.std.proofs.Math.Seq.{drop-append_seam, take-length}
use Rattle.xrf_clt.specs.declared.Entry.{Entry}
use Rattle.xrf_clt.specs.Kept.{Kept, text_at, kept_of, IsWithin, AreWithin, own_entries}
use Rattle.xrf_clt.specs.Table.{texts_for}

-- A text within the texts is the same where more stands behind them.
same_text : (texts more : List ℕ) (e : Entry) → IsWithin texts e → text_at (texts ++ more) e ≡ text_at texts e
same_text texts more e inside =
    let low : e.start ≤ e.end = inside.0 in
    let high : e.end ≤ length texts = inside.1 in
    let room : e.end - e.start ≤ length (drop e.start texts) = let left = length-drop e.start texts in omega arith in
    ap (take (e.end - e.start)) (drop-append-le e.start texts more (omega arith)) ∙ take-append-le (e.end - e.start) (drop e.start texts) more room

-- The text of an entry for what is appended is what is appended.
last_text : (texts more : List ℕ) (e : Entry) → e.start ≡ length texts → e.end ≡ length (texts ++ more) → text_at (texts ++ more) e ≡ more
last_text texts more e start end =
    let long : e.end - e.start ≡ length more = let both = length-append texts more in omega arith in
    ap₂ (λ (n : ℕ) (at : ℕ). take n (drop at (texts ++ more))) long start ∙ ap (take (length more)) (drop-append_seam texts more) ∙ take-length more

-- What is kept of one entry more stands behind what is kept of the others.
pub kept_more : (texts more : List ℕ) (entries : List Entry) (e : Entry) → AreWithin texts entries → e.start ≡ length texts → e.end ≡ length (texts ++ more)
    → kept_of (texts ++ more) (entries ++ e ∷ []) ≡ kept_of texts entries ++ record { applid = e.applid; text = more } ∷ []
kept_more texts more [] e within start end = ap (λ (text : List ℕ). record { applid = e.applid; text = text } ∷ []) (last_text texts more e start end)
kept_more texts more (first ∷ entries) e within start end =
    ap₂ (λ (text : List ℕ) (kept : List Kept). record { applid = first.applid; text = text } ∷ kept) (same_text texts more first within.0) (kept_more texts more entries e within.1 start end)

pub within_more : (texts more : List ℕ) (entries : List Entry) (e : Entry) → AreWithin texts entries → e.start ≡ length texts → e.end ≡ length (texts ++ more) → AreWithin (texts ++ more) (entries ++ e ∷ [])
within_more texts more [] e within start end = ((let both = length-append texts more in omega arith, omega arith), tt)
within_more texts more (first ∷ entries) e within start end =
    let inside : IsWithin texts first = within.0 in
    ((inside.0, let both = length-append texts more in let high = inside.1 in omega arith), within_more texts more entries e within.1 start end)

-- The entry at a place lies within the texts.
pub within_at : (texts : List ℕ) (entries : List Entry) (k : ℕ) (e : Entry) → AreWithin texts entries → slice_get entries k ≡ Some e → IsWithin texts e
within_at texts [] k e within is = cc
within_at texts (first ∷ entries) zero e within is = let same : first ≡ e = cc in subst (IsWithin texts) same within.0
within_at texts (first ∷ entries) (suc k) e within is = within_at texts entries k e within.1 is

-- The entries of an applid lie within the texts too, and its texts are theirs.
own_within : (texts : List ℕ) (first : Entry) (rest : List Entry) (own : Bool) → IsWithin texts first → AreWithin texts rest → AreWithin texts (cond own (first ∷ rest) rest)
own_within texts first rest true inside within = (inside, within)
own_within texts first rest false inside within = within

pub within_own : (texts applid : List ℕ) (entries : List Entry) → AreWithin texts entries → AreWithin texts (own_entries applid entries)
within_own texts applid [] within = tt
within_own texts applid (first ∷ entries) within = own_within texts first (own_entries applid entries) (bytes_eq first.applid applid) within.0 (within_own texts applid entries within.1)

own_text : (texts applid : List ℕ) (first : Entry) (entries : List Entry) (own : Bool) → bytes_eq first.applid applid ≡ own → texts_for applid (kept_of texts entries) ≡ map (text_at texts) (own_entries applid entries)
    → texts_for applid (kept_of texts (first ∷ entries)) ≡ map (text_at texts) (own_entries applid (first ∷ entries))
own_text texts applid first entries true is more = rw is (ap (λ (rest : List (List ℕ)). text_at texts first ∷ rest) more)
own_text texts applid first entries false is more = rw is more

pub own_texts : (texts applid : List ℕ) (entries : List Entry) → texts_for applid (kept_of texts entries) ≡ map (text_at texts) (own_entries applid entries)
own_texts texts applid [] = refl
own_texts texts applid (first ∷ entries) = own_text texts applid first entries (bytes_eq first.applid applid) refl (own_texts texts applid entries)

-- An applid has as many lines as entries, ..
pub own_count : (texts applid : List ℕ) (entries slice : List Entry) (kept : List Kept) → slice ≡ entries → kept_of texts entries ≡ kept → length (own_entries applid slice) ≡ length (texts_for applid kept)
own_count texts applid entries slice kept same view =
    ap (λ (es : List Entry). length (own_entries applid es)) same ∙ sym (length-map (own_entries applid entries) (text_at texts)) ∙ ap length (sym (own_texts texts applid entries))
    ∙ ap (λ (all : List Kept). length (texts_for applid all)) view

-- .. each within the texts, ..
pub own_inside : (texts applid : List ℕ) (entries slice : List Entry) (k : ℕ) (e : Entry) → AreWithin texts entries → slice ≡ entries → slice_get (own_entries applid slice) k ≡ Some e → IsWithin texts e
own_inside texts applid entries slice k e within same is =
    within_at texts (own_entries applid entries) k e (within_own texts applid entries within) (ap (λ (es : List Entry). slice_get (own_entries applid es) k) (sym same) ∙ is)

-- .. and its texts are theirs.
pub own_line : (texts applid : List ℕ) (entries slice : List Entry) (kept : List Kept) (k : ℕ) (e : Entry) → slice ≡ entries → kept_of texts entries ≡ kept → slice_get (own_entries applid slice) k ≡ Some e
    → slice_get (texts_for applid kept) k ≡ Some (text_at texts e)
own_line texts applid entries slice kept k e same view is =
    ap (λ (all : List Kept). slice_get (texts_for applid all) k) (sym view) ∙ ap (λ (all : List (List ℕ)). slice_get all k) (own_texts texts applid entries)
    ∙ slice_get-map (text_at texts) (own_entries applid entries) k ∙ ap (λ (es : List Entry). option_map (text_at texts) (slice_get (own_entries applid es) k)) (sym same)
    ∙ ap (option_map (text_at texts)) is
