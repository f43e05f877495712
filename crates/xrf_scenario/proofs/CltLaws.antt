-- What is written of the command list says its lines.
use Rattle.std.proofs.Common.{◌≡◌, ◌≢◌, inl, inr, ◌≤◌, ◌<◌, ◌+◌, ℕ, Bool, true, IsTrue, nat_le, ◌&&◌, append_assoc, None, Ok, List, [], ◌∷◌, ◌++◌, codes, length, refl, sym, ◌∙◌, ap, arith, subst, length-append}
use Rattle.std.specs.List.{join_with_byte, list_all, AllByRecursion}
use Rattle.std.proofs.lemmas.Bool.{leb-true, lt-ltb, and_parts}
use Rattle.xrf_base.specs.Names.{is_name_byte, IsName}
use Rattle.xrf_text.specs.Text.{words, IsWord}
use Rattle.xrf_text.proofs.Joined.{words-joined, words-are_words}
use Rattle.xrf_clt.specs.Kept.{Kept}
use Rattle.xrf_clt.specs.Lines.{Line, IsLine, AreOperands, kind_word, line_words, fault_of, words_kept}
use Rattle.xrf_clt.specs.declared.CltKind.{CltKind}
use Rattle.xrf_clt.specs.declared.CltKind.TheVariants.{Cancel, Command, Wto}
use Rattle.xrf_clt.proofs.Faultless.{faultless}
use Rattle.xrf_setup.specs.declared.format.Format.{Format}
use Rattle.xrf_grammar.specs.declared.line.Line.TheVariants.{Clt}
use Rattle.xrf_grammar.specs.Grammar.{Spells}
use Rattle.xrf_grammar.specs.Plain.{IsPlain}
use Rattle.xrf_setup.specs.Ranges.{IsIn}
use Rattle.xrf_grammar.specs.LineText.{IsCommand}
use Rattle.xrf_grammar.proofs.FormLaws.{line-found}
use Rattle.xrf_grammar.proofs.LineAgain.{clt_again}
use Rattle.xrf_grammar.specs.Places.{behind}
use Rattle.xrf_grammar.specs.Table.{settings_of}
use Rattle.xrf_scenario.specs.Canonical.{clt_lines}
use Rattle.xrf_setup.specs.Commands.{kept_text, IsKept}
use Rattle.xrf_text.specs.Text.{is_printable}
use Rattle.xrf_scenario.specs.Reading.{Says, SaysAll}
use Rattle.xrf_scenario.specs.SoFar.{SoFar}
use Rattle.xrf_scenario.specs.Taking.{take, with_room}
use Rattle.xrf_scenario.specs.declared.section.Section.TheVariants as section
use Rattle.xrf_scenario.proofs.StepLaws.{all-then, setting-says, all-at, all-say}
use Rattle.xrf_grammar.proofs.WordLaws.{blank-free, some-word}
use Rattle.std.proofs.lemmas.Bool.Decides.{nat_tests}
use Rattle.xrf_scenario.proofs.TextLaws.{all-both}

-- a kind and its operands are what may stand behind the applid
is-command : (kind : CltKind) (operands : List (List ℕ)) → AreOperands kind operands → IsCommand (kind_word kind) operands
is-command Cancel [] are = absurd are
is-command Cancel (operand ∷ []) are = inl (refl, are)
is-command Cancel (operand ∷ next ∷ more) are = absurd are
is-command Command operands are = inr (inl refl, are)
is-command Wto operands are = inr (inr refl, are)

-- CLT and the words of a line spell a line of the command list
spells-line : (format : Format) (line : Line) → IsLine line → Spells (settings_of format) (codes "CLT" ∷ line_words line) Clt
spells-line format line is =
    line-found (settings_of format) (codes "CLT" ∷ line_words line) Clt
    (clt_again format line.applid (kind_word line.kind) line.operands is.applid (is-command line.kind line.operands is.operands))

-- so do CLT and words without a fault
spells-clt : (format : Format) (ws : List (List ℕ)) → fault_of ws ≡ None → Spells (settings_of format) (codes "CLT" ∷ ws) Clt
spells-clt format ws none =
    let is = faultless ws none in
    subst (λ (l : List (List ℕ)). Spells (settings_of format) (codes "CLT" ∷ l) Clt) (sym is.words_are) (spells-line format is.line is.is_line)

-- of words without a fault the first is a name
first-name : (applid : List ℕ) (ws : List (List ℕ)) → fault_of (applid ∷ ws) ≡ None → IsName applid
first-name applid ws none =
    let is = faultless (applid ∷ ws) none in
    let same : applid ≡ is.line.applid = cc in
    subst IsName (sym same) is.is_line.applid

-- words that have no fault behind a name are not none
some-words : (applid : List ℕ) (ws : List (List ℕ)) → fault_of (applid ∷ ws) ≡ None → ws ≢ []
some-words applid [] none = absurd (cc)
some-words applid (word ∷ ws) none = λ e. cc

-- what is written of a line is its words with one blank between them
joined : (applid text : List ℕ) (ws : List (List ℕ)) → ws ≢ [] → join_with_byte 32 ws ≡ text
    → codes "CLT " ++ (applid ++ codes " " ++ text) ≡ join_with_byte 32 (codes "CLT" ∷ applid ∷ ws)
joined applid text [] some again = absurd (some refl)
joined applid text (word ∷ ws) some again =
    ap (λ (l : List ℕ). codes "CLT " ++ l) (append_assoc applid (codes " ") text ∙ ap (λ (l : List ℕ). applid ++ 32 ∷ l) (sym again))

-- a name is a word
name-word : (name : List ℕ) → IsName name → IsWord name
name-word name is =
    let range = (and_parts (nat_le 1 (length name) && nat_le (length name) 8) (list_all is_name_byte name) is).0 in
    record {
      some = some-word name (leb-true 1 (length name) (and_parts (nat_le 1 (length name)) (nat_le (length name) 8) range).0);
      no_blank = blank-free is_name_byte refl name (and_parts (nat_le 1 (length name) && nat_le (length name) 8) (list_all is_name_byte name) is).1;
    }

-- the words of what is written of a line are CLT and those that are kept
kept-words : (k : Kept) → IsKept k → words (codes "CLT " ++ kept_text k) ≡ codes "CLT" ∷ k.applid ∷ words k.text
kept-words k is =
    ap words (joined k.applid k.text (words k.text) (some-words k.applid (words k.text) is.no_fault) is.again)
    ∙ words-joined (codes "CLT" ∷ k.applid ∷ words k.text) (clt, (name-word k.applid (first-name k.applid (words k.text) is.no_fault), words-are_words k.text))
  where
    clt : IsWord (codes "CLT")
    clt = record { some = λ e. cc; no_blank = (λ e. cc, (λ e. cc, (λ e. cc, tt))) }

-- the characters of names are from blank to `~`
name-byte : (b : ℕ) → is_name_byte b ≡ true → IsIn 32 126 b
name-byte b is = grind (arith, nat_tests)

-- so are those of a whole name
name-bytes : (name : List ℕ) → list_all is_name_byte name ≡ true → AllByRecursion (IsIn 32 126) name
name-bytes [] all = tt
name-bytes (b ∷ bs) all = (name-byte b (and_parts (is_name_byte b) (list_all is_name_byte bs) all).0, name-bytes bs (and_parts (is_name_byte b) (list_all is_name_byte bs) all).1)

-- a byte that passes the test is from blank to `~`
text-byte : (b : ℕ) → IsTrue (is_printable b) → IsIn 32 126 b
text-byte b is = (leb-true 32 b (and_parts (nat_le 32 b) (nat_le b 126) is).0, leb-true b 126 (and_parts (nat_le 32 b) (nat_le b 126) is).1)

-- the bytes of what is written of a line are from blank to `~`
kept-bytes : (k : Kept) → IsKept k → AllByRecursion (IsIn 32 126) (codes "CLT " ++ kept_text k)
kept-bytes k is =
    all-both (IsIn 32 126) (codes "CLT ") (kept_text k) clt
    (all-both (IsIn 32 126) (k.applid ++ codes " ") k.text (all-both (IsIn 32 126) k.applid (codes " ") (name-bytes k.applid characters) blank) (all-then (λ (b : ℕ). IsTrue (is_printable b)) (IsIn 32 126) text-byte k.text is.bytes))
  where
    clt : AllByRecursion (IsIn 32 126) (codes "CLT ")
    clt = ((omega arith, omega arith), ((omega arith, omega arith), ((omega arith, omega arith), ((omega arith, omega arith), tt))))

    blank : AllByRecursion (IsIn 32 126) (codes " ")
    blank = ((omega arith, omega arith), tt)

    characters : list_all is_name_byte k.applid ≡ true
    characters = (and_parts (nat_le 1 (length k.applid) && nat_le (length k.applid) 8) (list_all is_name_byte k.applid) (first-name k.applid (words k.text) is.no_fault)).1

-- what is written of a line is plain
pub kept-plain : (k : Kept) → IsKept k → IsPlain (codes "CLT " ++ kept_text k)
kept-plain k is =
    record { first = 67; rest = codes "LT " ++ kept_text k; starts = refl; letter = (omega arith, omega arith); bytes = kept-bytes k is; short = is.short }

-- what is said, with another command list
abbrev pub with_clt : SoFar → List Kept → SoFar
with_clt so clt = record so { clt = clt }

-- a line comes behind fewer than 100
kept-taken : (number : ℕ) (so : SoFar) (done : List Kept) (k : Kept) → IsKept k → length done < 100
    → take number (with_clt so done) (words (codes "CLT " ++ kept_text k)) Clt ≡ Ok (with_clt so (done ++ k ∷ []))
kept-taken number so done k is room =
    let spelled : words_kept (behind (words (codes "CLT " ++ kept_text k))) ≡ k = ap (λ (ws : List (List ℕ)). words_kept (behind ws)) (kept-words k is) ∙ ap (λ (text : List ℕ). kept_of k.applid text) is.again in
    ap (λ (t : Bool). with_room t (with_clt so (done ++ words_kept (behind (words (codes "CLT " ++ kept_text k))) ∷ []))) (lt-ltb (length done) 100 room)
    ∙ ap (λ (l : Kept). Ok (with_clt so (done ++ l ∷ []))) spelled
  where
    kept_of : List ℕ → List ℕ → Kept
    kept_of applid text = record { applid = applid; text = text }

-- What is written of the command list says its lines.
pub clt-say : (count : ℕ) (so : SoFar) (clt : List Kept) → so.section ≡ section.Settings → AllByRecursion IsKept clt → length clt ≤ 100
    → SaysAll count (with_clt so []) (clt_lines clt) (with_clt so clt)
clt-say count so clt section are few = all-say count (λ (k : Kept). codes "CLT " ++ kept_text k) (with_clt so) clt says
  where
    says : (done : List Kept) (k : Kept) (rest : List Kept) → clt ≡ done ++ k ∷ rest
        → Says (count + length done + 1) (with_clt so done) (codes "CLT " ++ kept_text k) (with_clt so (done ++ k ∷ []))
    says done k rest split =
        let is : IsKept k = all-at IsKept done k rest (subst (AllByRecursion IsKept) split are) in
        let whole : length clt ≡ length (done ++ k ∷ rest) = ap length split in
        let room : length done < 100 = omega (arith, whole, few, length-append done (k ∷ rest)) in
        setting-says (count + length done + 1) (with_clt so done) (codes "CLT " ++ kept_text k) Clt (with_clt so (done ++ k ∷ [])) (kept-plain k is) section
        (subst (λ (ws : List (List ℕ)). Spells (settings_of so.format) ws Clt) (sym (kept-words k is)) (spells-clt so.format (k.applid ∷ words k.text) is.no_fault))
        (kept-taken (count + length done + 1) so done k is room)
