-- What a plain line says, and what several lines say one after the other.
use Rattle.std.proofs.Common.{◌≡◌, ◌≤◌, ◌+◌, ℕ, Bool, true, false, IsTrue, ◌==◌, ◌||◌, None, Ok, List, [], ◌∷◌, ◌++◌, append_assoc, append-nil, filter, map, length, refl, sym, ◌∙◌, ap, arith, subst}
use Rattle.std.specs.List.{slice_split, onto_first, list_all, AllByRecursion}
use Rattle.std.specs.Cmp.Derive.{both_true}
use Rattle.std.proofs.lemmas.Bool.{le-leb, le-ltb}
use Rattle.std.proofs.lemmas.List.{length_push}
use Rattle.xrf_text.specs.Text.{words, is_blank, is_filled}
use Rattle.xrf_setup.specs.declared.format.Format.{Format}
use Rattle.xrf_grammar.specs.declared.line.Line.{Line}
use Rattle.xrf_grammar.specs.Grammar.{Spells}
use Rattle.xrf_setup.specs.Ranges.{IsIn}
use Rattle.xrf_grammar.specs.LineText.{IsSetting, IsChoosing, header_text, line_text}
use Rattle.xrf_grammar.specs.Plain.{IsPlain}
use Rattle.xrf_grammar.specs.Table.{settings_of, choices_table}
use Rattle.xrf_grammar.proofs.FormLaws.{line-found}
use Rattle.xrf_grammar.proofs.LineAgain.{header_plain, setting_plain, setting_again, choosing_plain, choosing_again}
use Rattle.xrf_scenario.specs.Canonical.{IsReportLine}
use Rattle.xrf_scenario.specs.Lines.{begins_with, are_none, is_skipped, is_report, bytes_fault}
use Rattle.xrf_text.specs.Text.{is_printable}
use Rattle.xrf_scenario.specs.Reading.{begun, SaysIn, SaysThen, Says, SaysAll}
use Rattle.xrf_scenario.specs.SoFar.{SoFar, is_whole}
use Rattle.xrf_scenario.specs.Taking.{take}
use Rattle.xrf_scenario.specs.declared.section.Section.{Section}
use Rattle.xrf_scenario.specs.declared.section.Section.TheVariants.{Start, Settings, Making}
use Rattle.xrf_scenario.proofs.TextLaws.{IsClean, other}

-- what holds of each element by one fact holds by another that follows
pub all-then : {X : Type 0} (P Q : X → Type 0) → ((x : X) → P x → Q x) → (xs : List X) → AllByRecursion P xs → AllByRecursion Q xs
all-then P Q follows [] all = tt
all-then P Q follows (x ∷ xs) all = (follows x all.0, all-then P Q follows xs all.1)

-- a plain line has no byte below a blank
pub plain-clean : (line : List ℕ) → IsPlain line → IsClean line
plain-clean line plain = all-then (IsIn 32 126) (λ (b : ℕ). 32 ≤ b) (λ (b : ℕ) (h : IsIn 32 126 b). h.0) line plain.bytes

-- bytes from blank to `~` pass the test
bytes-pass : (line : List ℕ) → AllByRecursion (IsIn 32 126) line → list_all is_printable line ≡ true
bytes-pass [] all = refl
bytes-pass (b ∷ bs) all = both_true (both_true (le-leb 32 b all.0.0) (le-leb b 126 all.0.1)) (bytes-pass bs all.1)

-- no byte of a plain line is wrong
plain-faultless : (line : List ℕ) → IsPlain line → bytes_fault line ≡ None
plain-faultless line plain = rw (bytes-pass line plain.bytes) (rw (le-ltb 300 (length line) plain.short) refl)

-- a line that begins with a byte that is no blank has a word
has-word : (b : ℕ) (bs : List ℕ) → is_blank b ≡ false → are_none (words (b ∷ bs)) ≡ false
has-word b bs letter = rw letter (by (slice_split is_blank bs))
  where
    by : (parts : List (List ℕ)) → are_none (filter is_filled (onto_first b parts)) ≡ false
    by [] = refl
    by (part ∷ parts) = refl

-- a plain line is not skipped
plain-not_skipped : (line : List ℕ) → IsPlain line → is_skipped line ≡ false
plain-not_skipped line plain =
    let low : 65 ≤ plain.first = plain.letter.0 in
    let unmarked : (plain.first == 35) ≡ false = other plain.first 35 (λ (e : plain.first ≡ 35). absurd (omega (arith, e, low))) in
    let filled : (plain.first == 32) ≡ false = other plain.first 32 (λ (e : plain.first ≡ 32). absurd (omega (arith, e, low))) in
    subst (λ (l : List ℕ). is_skipped l ≡ false) (sym plain.starts) (ap (λ (t : Bool). t || are_none (words (plain.first ∷ plain.rest))) unmarked ∙ has-word plain.first plain.rest filled)

-- a plain line says what its words say
pub plain-says : (number : ℕ) (so : SoFar) (line : List ℕ) (next : SoFar) → IsPlain line → is_whole so.section ≡ false
    → SaysIn so.section number so (words line) next → Says number so line next
plain-says number so line next plain early says =
    subst (λ (t : Bool). SaysThen t (is_whole so.section) number so line next) (sym (plain-not_skipped line plain))
    (subst (λ (t : Bool). SaysThen false t number so line next) (sym early) (plain-faultless line plain, says))

-- a plain line before the choices says what its words spell
pub setting-says : (number : ℕ) (so : SoFar) (text : List ℕ) (line : Line) (next : SoFar) → IsPlain text → so.section ≡ Settings
    → Spells (settings_of so.format) (words text) line → take number so (words text) line ≡ Ok next → Says number so text next
setting-says number so text line next plain section spells takes =
    plain-says number so text next plain (ap is_whole section) (subst (λ (p : Section). SaysIn p number so (words text) next) (sym section) (line, (spells, takes)))

-- so does one of the choices
pub choosing-says : (number : ℕ) (so : SoFar) (text : List ℕ) (line : Line) (next : SoFar) → IsPlain text → so.section ≡ Making
    → Spells choices_table (words text) line → take number so (words text) line ≡ Ok next → Says number so text next
choosing-says number so text line next plain section spells takes =
    plain-says number so text next plain (ap is_whole section) (subst (λ (p : Section). SaysIn p number so (words text) next) (sym section) (line, (spells, takes)))

-- what is written of the header says the format
pub header-written : (number : ℕ) (so : SoFar) (format : Format) → so.section ≡ Start
    → Says number so (header_text format) (begun so format)
header-written number so format section =
    plain-says number so (header_text format) (begun so format) (header_plain format) (ap is_whole section)
    (subst (λ (p : Section). SaysIn p number so (words (header_text format)) (begun so format)) (sym section) (format, (refl, refl)))

-- what is written of a line before the choices says this line
pub setting-written : (number : ℕ) (so : SoFar) (line : Line) (next : SoFar) → so.section ≡ Settings → IsSetting so.format line
    → take number so (words (line_text line)) line ≡ Ok next → Says number so (line_text line) next
setting-written number so line next section is takes =
    setting-says number so (line_text line) line next (setting_plain so.format line is) section
    (line-found (settings_of so.format) (words (line_text line)) line (setting_again so.format line is)) takes

-- so does what is written of one of the choices
pub choosing-written : (number : ℕ) (so : SoFar) (line : Line) (next : SoFar) → so.section ≡ Making → IsChoosing line
    → take number so (words (line_text line)) line ≡ Ok next → Says number so (line_text line) next
choosing-written number so line next section is takes =
    choosing-says number so (line_text line) line next (choosing_plain line is) section
    (line-found choices_table (words (line_text line)) line (choosing_again line is)) takes

-- lines say what the first of them and then the others say
pub both-say : (count : ℕ) (so : SoFar) (ls ms : List (List ℕ)) (mid last : SoFar) → SaysAll count so ls mid → SaysAll (count + length ls) mid ms last
    → SaysAll count so (ls ++ ms) last
both-say count so [] ms mid last first second =
    let none : count + 0 ≡ count = omega arith in
    subst (λ (s : SoFar). SaysAll count s ms last) first (subst (λ (n : ℕ). SaysAll n mid ms last) none second)
both-say count so (line ∷ ls) ms mid last first second =
    let more : count + length (line ∷ ls) ≡ count + 1 + length ls = omega arith in
    (first.0, (first.1.0, both-say (count + 1) first.0 ls ms mid last first.1.1 (subst (λ (n : ℕ). SaysAll n mid ms last) more second)))

-- Lines, one for each element of a list, say what is said with all elements, where each says what
-- is said with one more.
pub each-says : {X : Type 0} (count : ℕ) (text : X → List ℕ) (with : List X → SoFar) (all : List X)
    → ((done : List X) (x : X) (rest : List X) → all ≡ done ++ x ∷ rest → Says (count + length done + 1) (with done) (text x) (with (done ++ x ∷ [])))
    → (done rest : List X) → all ≡ done ++ rest → SaysAll (count + length done) (with done) (map text rest) (with all)
each-says count text with all step done [] split = ap with (split ∙ append-nil done)
each-says count text with all step done (x ∷ rest) split =
    let more : count + length (done ++ x ∷ []) ≡ count + length done + 1 = omega (arith, length_push done x) in
    let says = each-says count text with all step (done ++ x ∷ []) rest (split ∙ sym (append_assoc done (x ∷ []) rest)) in
    (with (done ++ x ∷ []), (step done x rest split, subst (λ (n : ℕ). SaysAll n (with (done ++ x ∷ [])) (map text rest) (with all)) more says))

-- the same, from none of the elements on
pub all-say : {X : Type 0} (count : ℕ) (text : X → List ℕ) (with : List X → SoFar) (all : List X)
    → ((done : List X) (x : X) (rest : List X) → all ≡ done ++ x ∷ rest → Says (count + length done + 1) (with done) (text x) (with (done ++ x ∷ [])))
    → SaysAll count (with []) (map text all) (with all)
all-say count text with all step =
    let none : count + 0 ≡ count = omega arith in
    subst (λ (n : ℕ). SaysAll n (with []) (map text all) (with all)) none (each-says count text with all step [] all refl)

-- what holds of all elements holds of the one behind some
pub all-at : {X : Type 0} (P : X → Type 0) (done : List X) (x : X) (rest : List X) → AllByRecursion P (done ++ x ∷ rest) → P x
all-at P [] x rest all = all.0
all-at P (y ∷ done) x rest all = all-at P done x rest all.1

-- Behind END the lines of a report say nothing more.
pub report-says : (count : ℕ) (so : SoFar) (ls : List (List ℕ)) → is_whole so.section ≡ true → AllByRecursion IsReportLine ls → SaysAll count so ls so
report-says count so [] whole all = refl
report-says count so (line ∷ ls) whole all = (so, (by (is_skipped line), report-says (count + 1) so ls whole all.1))
  where
    marked : IsTrue (is_report line)
    marked = ap (begins_with 42) all.0.marked

    by : (t : Bool) → SaysThen t (is_whole so.section) (count + 1) so line so
    by true = refl
    by false = subst (λ (t : Bool). SaysThen false t (count + 1) so line so) (sym whole) (marked, refl)

-- and they have no byte below a blank
pub report-clean : (line : List ℕ) → IsReportLine line → IsClean line
report-clean line is = let low : 32 ≤ 42 = omega arith in subst IsClean (sym is.marked) (low, is.bytes)
