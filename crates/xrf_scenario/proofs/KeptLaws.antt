-- What is kept of a line of the command list.
use Rattle.std.proofs.Common.{length-append, ◌≡◌, ◌≤◌, ◌+◌, ℕ, Bool, true, false, not, IsTrue, Option, Some, None, List, [], ◌∷◌, ◌++◌, Ok, codes, length, filter, if◌then◌else◌, nat_lt, refl, ◌∙◌, ap, arith}
use Rattle.std.specs.List.{AllByRecursion, join_with_byte, list_all, slice_split, onto_first}
use Rattle.std.proofs.lemmas.List.Splits.{join_with_byte-slice_split}
use Rattle.std.proofs.lemmas.Bool.{ltb-false, and_parts}
use Rattle.xrf_clt.specs.Lines.{fault_of, words_kept}
use Rattle.xrf_text.specs.Text.{words, is_blank, is_filled, IsWord}
use Rattle.xrf_text.proofs.Joined.{words-are_words, words-joined}
use Rattle.xrf_grammar.specs.Grammar.{AreOfForm}
use Rattle.xrf_grammar.specs.Places.{first, behind}
use Rattle.xrf_grammar.specs.Reading.{line_of}
use Rattle.xrf_grammar.specs.Table.{parts_of, settings_of}
use Rattle.xrf_grammar.specs.declared.form.Form.{Form}
use Rattle.xrf_grammar.specs.declared.form.Form.TheVariants as form
use Rattle.xrf_setup.specs.declared.format.Format.{Format}
use Rattle.xrf_grammar.specs.declared.line.Line.TheVariants.{Clt}
use Rattle.xrf_grammar.specs.declared.reason.Reason.{Reason}
use Rattle.xrf_grammar.specs.declared.reason.Reason.TheVariants.{BadByte, LongLine}
use Rattle.xrf_grammar.proofs.FoundLaws.{clt_found, is_clt_form}
use Rattle.xrf_scenario.specs.Lines.{bytes_fault}
use Rattle.xrf_setup.specs.Commands.{IsKept, kept_text}
use Rattle.xrf_text.specs.Text.{is_printable}

-- words of a form of the command list have no fault behind the first
cancel-fault : (ws : List (List ℕ)) → AreOfForm (parts_of form.CltCancel) ws → fault_of (behind ws) ≡ None
cancel-fault [] of = absurd of
cancel-fault (word ∷ []) of = absurd of.1
cancel-fault (word ∷ applid ∷ []) of = absurd of.1.1
cancel-fault (word ∷ applid ∷ kind ∷ []) of = absurd of.1.1.1
cancel-fault (word ∷ applid ∷ kind ∷ name ∷ []) of = rw (of.1.1.1.0, of.1.1.0, of.1.0) refl
cancel-fault (word ∷ applid ∷ kind ∷ name ∷ next ∷ more) of = absurd of.1.1.1.1

command-fault : (ws : List (List ℕ)) → AreOfForm (parts_of form.CltCommand) ws → fault_of (behind ws) ≡ None
command-fault [] of = absurd of
command-fault (word ∷ []) of = absurd of.1
command-fault (word ∷ applid ∷ []) of = absurd of.1.1
command-fault (word ∷ applid ∷ kind ∷ []) of = absurd of.1.1.1
command-fault (word ∷ applid ∷ kind ∷ operand ∷ more) of = rw (of.1.1.0, of.1.0) refl

wto-fault : (ws : List (List ℕ)) → AreOfForm (parts_of form.CltWto) ws → fault_of (behind ws) ≡ None
wto-fault [] of = absurd of
wto-fault (word ∷ []) of = absurd of.1
wto-fault (word ∷ applid ∷ []) of = absurd of.1.1
wto-fault (word ∷ applid ∷ kind ∷ []) of = absurd of.1.1.1
wto-fault (word ∷ applid ∷ kind ∷ operand ∷ more) of = rw (of.1.1.0, of.1.0) refl

form-fault : (f : Form) (ws : List (List ℕ)) → is_clt_form f ≡ true → AreOfForm (parts_of f) ws → fault_of (behind ws) ≡ None
form-fault form.CltCancel ws e of = cancel-fault ws of
form-fault form.CltCommand ws e of = command-fault ws of
form-fault form.CltWto ws e of = wto-fault ws of
form-fault f ws e of = absurd (cc)

-- and the first is of 3 bytes
form-first : (f : Form) (ws : List (List ℕ)) → is_clt_form f ≡ true → AreOfForm (parts_of f) ws → length (first ws) ≡ 3
form-first f [] e of = clash f e of
  where
    clash : (g : Form) → is_clt_form g ≡ true → AreOfForm (parts_of g) [] → length (first []) ≡ 3
    clash form.CltCancel k none = absurd none
    clash form.CltCommand k none = absurd none
    clash form.CltWto k none = absurd none
    clash g k none = absurd (cc)
form-first f (word ∷ more) e of = by f e of
  where
    by : (g : Form) → is_clt_form g ≡ true → AreOfForm (parts_of g) (word ∷ more) → length (first (word ∷ more)) ≡ 3
    by form.CltCancel k fit = ap length fit.0
    by form.CltCommand k fit = ap length fit.0
    by form.CltWto k fit = ap length fit.0
    by g k fit = absurd (cc)

clt-first : (format : Format) (ws : List (List ℕ)) → line_of (settings_of format) ws ≡ Ok Clt → length (first ws) ≡ 3
clt-first format ws h = let found = clt_found format ws h in form-first found.0 ws found.1.0 found.1.1

pub clt-fault : (format : Format) (ws : List (List ℕ)) → line_of (settings_of format) ws ≡ Ok Clt → fault_of (behind ws) ≡ None
clt-fault format ws h = let found = clt_found format ws h in form-fault found.0 ws found.1.0 found.1.1

-- a property of all bytes of a line is one of all bytes of its words
parts-all : (P : ℕ → Type 0) (line : List ℕ) → AllByRecursion P line → AllByRecursion (AllByRecursion P) (slice_split is_blank line)
parts-all P [] all = (tt, tt)
parts-all P (b ∷ bs) all = by (is_blank b) refl (parts-all P bs all.1)
  where
    onto : (parts : List (List ℕ)) → AllByRecursion (AllByRecursion P) parts → AllByRecursion (AllByRecursion P) (onto_first b parts)
    onto [] h = ((all.0, tt), tt)
    onto (part ∷ parts) h = ((all.0, h.0), h.1)

    by : (t : Bool) → is_blank b ≡ t → AllByRecursion (AllByRecursion P) (slice_split is_blank bs) → AllByRecursion (AllByRecursion P) (slice_split is_blank (b ∷ bs))
    by true e more = rw e (tt, more)
    by false e more = rw e (onto (slice_split is_blank bs) more)

filled-all : (Q : List ℕ → Type 0) (parts : List (List ℕ)) → AllByRecursion Q parts → AllByRecursion Q (filter is_filled parts)
filled-all Q [] all = tt
filled-all Q ([] ∷ parts) all = filled-all Q parts all.1
filled-all Q ((b ∷ bs) ∷ parts) all = (all.0, filled-all Q parts all.1)

pub words-all : (P : ℕ → Type 0) (line : List ℕ) → AllByRecursion P line → AllByRecursion (AllByRecursion P) (words line)
words-all P line all = filled-all (AllByRecursion P) (slice_split is_blank line) (parts-all P line all)

-- and of all bytes of words with blanks between them
append-all : (P : ℕ → Type 0) (xs ys : List ℕ) → AllByRecursion P xs → AllByRecursion P ys → AllByRecursion P (xs ++ ys)
append-all P [] ys one other = other
append-all P (x ∷ xs) ys one other = (one.0, append-all P xs ys one.1 other)

joined-all : (P : ℕ → Type 0) (ws : List (List ℕ)) → P 32 → AllByRecursion (AllByRecursion P) ws → AllByRecursion P (join_with_byte 32 ws)
joined-all P [] blank all = tt
joined-all P (word ∷ []) blank all = all.0
joined-all P (word ∷ next ∷ more) blank all = append-all P word (32 ∷ join_with_byte 32 (next ∷ more)) all.0 (blank, joined-all P (next ∷ more) blank all.1)

-- words behind a first one are joined behind it and a blank
one-longer : (word : List ℕ) (ws : List (List ℕ)) → length (join_with_byte 32 ws) ≤ length (join_with_byte 32 (word ∷ ws))
one-longer word [] = omega arith
one-longer word (next ∷ more) = let sized = length-append word (32 ∷ join_with_byte 32 (next ∷ more)) in omega (arith, sized)

-- words take no more bytes than the parts between blanks of which they are
filled-shorter : (parts : List (List ℕ)) → length (join_with_byte 32 (filter is_filled parts)) ≤ length (join_with_byte 32 parts)
filled-shorter [] = omega arith
filled-shorter ([] ∷ parts) =
    let rest : length (join_with_byte 32 (filter is_filled parts)) ≤ length (join_with_byte 32 parts) = filled-shorter parts in
    let more : length (join_with_byte 32 parts) ≤ length (join_with_byte 32 ([] ∷ parts)) = one-longer [] parts in
    omega (arith, rest, more)
filled-shorter ((b ∷ bs) ∷ []) = omega arith
filled-shorter ((b ∷ bs) ∷ next ∷ more) = onto (filter is_filled (next ∷ more)) (filled-shorter (next ∷ more))
  where
    onto : (kept : List (List ℕ)) → length (join_with_byte 32 kept) ≤ length (join_with_byte 32 (next ∷ more))
        → length (join_with_byte 32 ((b ∷ bs) ∷ kept)) ≤ length (join_with_byte 32 ((b ∷ bs) ∷ next ∷ more))
    onto [] h = let all = length-append (b ∷ bs) (32 ∷ join_with_byte 32 (next ∷ more)) in omega (arith, all)
    onto (word ∷ kept) h =
        let all = length-append (b ∷ bs) (32 ∷ join_with_byte 32 (next ∷ more)) in
        let some = length-append (b ∷ bs) (32 ∷ join_with_byte 32 (word ∷ kept)) in
        omega (arith, all, some, h)

pub joined-short : (line : List ℕ) → length (join_with_byte 32 (words line)) ≤ length line
joined-short line =
    let shorter : length (join_with_byte 32 (words line)) ≤ length (join_with_byte 32 (slice_split is_blank line)) = filled-shorter (slice_split is_blank line) in
    let whole : length (join_with_byte 32 (slice_split is_blank line)) ≡ length line = ap length (join_with_byte-slice_split 32 line) in
    omega (arith, shorter, whole)

-- a line without a fault of its bytes
pub bytes-kept : (line : List ℕ) → bytes_fault line ≡ None → (list_all is_printable line ≡ true) × (length line ≤ 300)
bytes-kept line h = by (list_all is_printable line) (nat_lt 300 (length line)) refl refl h
  where
    by : (all long : Bool) → list_all is_printable line ≡ all → nat_lt 300 (length line) ≡ long
        → ◌≡◌ {A = Option Reason} (if not all then Some BadByte else if long then Some LongLine else None) None → (list_all is_printable line ≡ true) × (length line ≤ 300)
    by true true e l k = absurd (cc)
    by true false e l k = (e, omega (arith, ltb-false 300 (length line) l))
    by false long e l k = absurd (cc)

each-byte : (line : List ℕ) → list_all is_printable line ≡ true → AllByRecursion (λ (b : ℕ). IsTrue (is_printable b)) line
each-byte [] h = tt
each-byte (b ∷ bs) h = ((and_parts (is_printable b) (list_all is_printable bs) h).0, each-byte bs (and_parts (is_printable b) (list_all is_printable bs) h).1)

-- what is kept of a line of the command list is within its bounds
pub clt-kept : (format : Format) (line : List ℕ) → bytes_fault line ≡ None → line_of (settings_of format) (words line) ≡ Ok Clt → IsKept (words_kept (behind (words line)))
clt-kept format line plain h = by (words line) (clt-fault format (words line) h) (words-are_words line) (words-all _ line (each-byte line (bytes-kept line plain).0)) (clt-first format (words line) h) short
  where
    short : length (join_with_byte 32 (words line)) ≤ 300
    short = let all = joined-short line in let few = (bytes-kept line plain).1 in omega (arith, all, few)

    by : (ws : List (List ℕ)) → fault_of (behind ws) ≡ None → AllByRecursion IsWord ws → AllByRecursion (AllByRecursion (λ (b : ℕ). IsTrue (is_printable b))) ws
        → length (first ws) ≡ 3 → length (join_with_byte 32 ws) ≤ 300 → IsKept (words_kept (behind ws))
    by [] fault are bytes three few = absurd (cc)
    by (word ∷ []) fault are bytes three few = absurd (cc)
    by (word ∷ applid ∷ []) fault are bytes three few = absurd (cc)
    by (word ∷ applid ∷ kind ∷ more) fault are bytes three few =
        let again : words (join_with_byte 32 (kind ∷ more)) ≡ kind ∷ more = words-joined (kind ∷ more) are.1.1 in
        let whole : length (join_with_byte 32 (word ∷ applid ∷ kind ∷ more)) ≡ length word + length (32 ∷ join_with_byte 32 (applid ∷ kind ∷ more)) = length-append word (32 ∷ join_with_byte 32 (applid ∷ kind ∷ more)) in
        let rest : length (join_with_byte 32 (applid ∷ kind ∷ more)) ≡ length applid + length (32 ∷ join_with_byte 32 (kind ∷ more)) = length-append applid (32 ∷ join_with_byte 32 (kind ∷ more)) in
        let front : length (applid ++ codes " ") ≡ length applid + 1 = length-append applid (codes " ") in
        let text : length (kept_text (words_kept (applid ∷ kind ∷ more))) ≡ length (applid ++ codes " ") + length (join_with_byte 32 (kind ∷ more)) = length-append (applid ++ codes " ") (join_with_byte 32 (kind ∷ more)) in
        record {
          no_fault = ap (λ (ws : List (List ℕ)). fault_of (applid ∷ ws)) again ∙ fault;
          again = ap (join_with_byte 32) again;
          bytes = joined-all _ (kind ∷ more) refl bytes.1.1;
          short = omega (arith, whole, rest, front, text, three, few);
        }
