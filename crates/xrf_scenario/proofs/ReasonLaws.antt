-- The reason for which a line is refused is the first of those that hold of it.
use Rattle.std.proofs.Common.{◌≡◌, ◌≢◌, ◌⊎◌, inl, inr, ◌≤◌, ◌+◌, ℕ, Bool, true, false, not, if◌then◌else◌, nat_lt, nat_le, Option, Some, None, is_none, get_or, slice_set, replicate, List, [], ◌∷◌, ◌++◌, ◌-◌, length, codes, Result, Ok, Err, refl, sym, ◌∙◌, ap, subst, arith}
use Rattle.std.specs.List.{list_all}
use Rattle.std.specs.Option.{is_some}
use Rattle.std.specs.Str.{bytes_eq}
use Rattle.std.proofs.lemmas.Bool.{ltb-true}
use Rattle.std.proofs.lemmas.Slice.Eq.{bytes_eq-Decides}
use Rattle.xrf_base.specs.declared.site.Site.TheVariants.{A, B}
use Rattle.xrf_clt.specs.Lines.{words_kept}
use Rattle.xrf_text.specs.Text.{words}
use Rattle.xrf_grammar.specs.Faults.{IsFaultOf, IsFirst}
use Rattle.xrf_grammar.specs.Grammar.{IsAmong}
use Rattle.xrf_grammar.specs.Places.{first, second, behind}
use Rattle.xrf_grammar.specs.Reading.{header_of, line_of, are_two}
use Rattle.xrf_grammar.specs.Reasons.{rank}
use Rattle.xrf_grammar.specs.declared.form.Form.{Form}
use Rattle.xrf_setup.specs.declared.format.Format.{Format}
use Rattle.xrf_setup.specs.declared.format.Format.TheVariants.{One, Two}
use Rattle.xrf_grammar.specs.declared.line.Line.{Line}
use Rattle.xrf_grammar.specs.declared.line.Line.TheVariants.{Applid, Takeovr, Quantity, Images, Level, Xrfsoff, Record, Clt, Work, Plan, Choices, Once, Times, End}
use Rattle.xrf_grammar.specs.declared.reason.Reason.{Reason}
use Rattle.xrf_grammar.specs.declared.reason.Reason.TheVariants.{BadByte, LongLine, NoHeader, BadFormat, AfterEnd, PlanOrder, Twice, TooMany, RrnRange}
use Rattle.xrf_grammar.proofs.ApartLaws.{are_apart, line-again, settings-apart, choices-apart}
use Rattle.xrf_grammar.proofs.FaultLaws.{IsLineTold, line-told, form_passes, one-first, words-told, settings-pass, choices-pass}
use Rattle.xrf_grammar.proofs.FormLaws.{line-found}
use Rattle.xrf_scenario.specs.Lines.{is_skipped, is_report, bytes_fault}
use Rattle.xrf_text.specs.Text.{is_printable}
use Rattle.xrf_scenario.specs.Machine.{take_line, take_header, take_words, step}
use Rattle.xrf_scenario.specs.Reasons.{header_words, forms_of, has_forms, SpellsNext, is_given, is_over, falls, is_outside, SpellsBad, HoldsOfText, Holds}
use Rattle.xrf_scenario.specs.SoFar.{SoFar, is_whole, quantity_given, with_quantity}
use Rattle.xrf_scenario.specs.Taking.{once, with_room, free_record, last_tick, numbered, are_within, take}
use Rattle.xrf_scenario.specs.declared.given.Given.{Given}
use Rattle.xrf_scenario.specs.declared.section.Section.{Section}
use Rattle.xrf_scenario.specs.declared.section.Section.TheVariants.{Start, Settings, Making, Whole}
use Rattle.xrf_scenario.proofs.KeptLaws.{bytes-kept}

-- where a line is taken no reason holds, and else it is refused for the first of those that hold
abbrev pub IsFirstOf : (Reason → Type 0) → Result SoFar Reason → Type 0
IsFirstOf Held (Ok next) = (reason : Reason) → Held reason → ⊥
IsFirstOf Held (Err reason) = IsFirst Held reason

-- the same of reasons that hold where others do
first-of : (Held Other : Reason → Type 0) (r : Result SoFar Reason) → ((reason : Reason) → Held reason → Other reason) → ((reason : Reason) → Other reason → Held reason) → IsFirstOf Other r → IsFirstOf Held r
first-of Held Other (Ok next) to back answered = λ reason h. answered reason (to reason h)
first-of Held Other (Err reason) to back answered = record { holds = back reason answered.holds; first = λ other h. answered.first other (to other h) }

-- the reasons of a line that its words spell, by its tests
abbrev Tested : Bool → Bool → Bool → Bool → Reason → Type 0
Tested fall given over outside PlanOrder = fall ≡ true
Tested fall given over outside Twice = given ≡ true
Tested fall given over outside TooMany = over ≡ true
Tested fall given over outside RrnRange = outside ≡ true
Tested fall given over outside reason = ⊥

-- what the tests make of it
abbrev By : Bool → Bool → Bool → Bool → SoFar → Result SoFar Reason
By true given over outside next = Err PlanOrder
By false true over outside next = Err Twice
By false false true outside next = Err TooMany
By false false false true next = Err RrnRange
By false false false false next = Ok next

-- with a test that is true and none before it, the reason of the test comes first
PlanOrder-first : (given over outside : Bool) → IsFirst (Tested true given over outside) PlanOrder
PlanOrder-first given over outside = record { holds = refl; first = by }
  where
    by : (other : Reason) → Tested true given over outside other → rank PlanOrder ≤ rank other
    by PlanOrder h = omega arith
    by Twice h = omega arith
    by TooMany h = omega arith
    by RrnRange h = omega arith
    by other h = absurd h

Twice-first : (over outside : Bool) → IsFirst (Tested false true over outside) Twice
Twice-first over outside = record { holds = refl; first = by }
  where
    by : (other : Reason) → Tested false true over outside other → rank Twice ≤ rank other
    by PlanOrder h = absurd (cc)
    by Twice h = omega arith
    by TooMany h = omega arith
    by RrnRange h = omega arith
    by other h = absurd h

TooMany-first : (outside : Bool) → IsFirst (Tested false false true outside) TooMany
TooMany-first outside = record { holds = refl; first = by }
  where
    by : (other : Reason) → Tested false false true outside other → rank TooMany ≤ rank other
    by PlanOrder h = absurd (cc)
    by Twice h = absurd (cc)
    by TooMany h = omega arith
    by RrnRange h = omega arith
    by other h = absurd h

RrnRange-first : IsFirst (Tested false false false true) RrnRange
RrnRange-first = record { holds = refl; first = by }
  where
    by : (other : Reason) → Tested false false false true other → rank RrnRange ≤ rank other
    by PlanOrder h = absurd (cc)
    by Twice h = absurd (cc)
    by TooMany h = absurd (cc)
    by RrnRange h = omega arith
    by other h = absurd h

none-holds : (reason : Reason) → Tested false false false false reason → ⊥
none-holds PlanOrder h = cc
none-holds Twice h = cc
none-holds TooMany h = cc
none-holds RrnRange h = cc
none-holds reason h = h

by-first : (fall given over outside : Bool) (next : SoFar) → IsFirstOf (Tested fall given over outside) (By fall given over outside next)
by-first true given over outside next = PlanOrder-first given over outside
by-first false true over outside next = Twice-first over outside
by-first false false true outside next = TooMany-first outside
by-first false false false true next = RrnRange-first
by-first false false false false next = none-holds

-- a line is taken by its tests
once-by : {X : Type 0} (o : Option X) (so : SoFar) (g : Given) → (next : SoFar) × (once o so g ≡ By false (is_some o) false false next)
once-by None so g = (record so { given = g }, refl)
once-by (Some x) so g = (so, refl)

room-by : (b : Bool) (so : SoFar) → (next : SoFar) × (with_room b so ≡ By false false (not b) false next)
room-by true so = (so, refl)
room-by false so = (so, refl)

free-by : (b : Bool) (so : SoFar) → (next : SoFar) × (free_record b so ≡ By false (not b) false false next)
free-by true so = (so, refl)
free-by false so = (so, refl)

plan-by : (fall room : Bool) (so : SoFar) → (next : SoFar) × (◌≡◌ {A = Result SoFar Reason} (if fall then Err PlanOrder else with_room room so) (By fall false (not room) false next))
plan-by true room so = (so, refl)
plan-by false true so = (so, refl)
plan-by false false so = (so, refl)

within-by : (within : Bool) (so : SoFar) → (next : SoFar) × (◌≡◌ {A = Result SoFar Reason} (if within then Ok so else Err RrnRange) (By false false false (not within) next))
within-by true so = (so, refl)
within-by false so = (so, refl)

take-by : (number : ℕ) (so : SoFar) (ws : List (List ℕ)) (l : Line) → (next : SoFar) × (take number so ws l ≡ By (falls so l) (is_given so l) (is_over so l) (is_outside so l) next)
take-by number so ws (Applid A name) = once-by so.given.applid_a so (record so.given { applid_a = Some name })
take-by number so ws (Applid B name) = once-by so.given.applid_b so (record so.given { applid_b = Some name })
take-by number so ws (Takeovr mode) = once-by so.given.takeovr so (record so.given { takeovr = Some mode })
take-by number so ws (Quantity quantity n) = once-by (quantity_given so.given quantity) so (with_quantity so.given quantity n)
take-by number so ws (Images on) = once-by so.given.images so (record so.given { images = Some on })
take-by number so ws (Level A n) = once-by so.given.level_a so (record so.given { level_a = Some n })
take-by number so ws (Level B n) = once-by so.given.level_b so (record so.given { level_b = Some n })
take-by number so ws (Xrfsoff force) = once-by so.given.force so (record so.given { force = Some force })
take-by number so ws (Record n value) = free-by (is_none (get_or so.records (n - 1) None)) (record so { records = slice_set so.records (n - 1) (Some value) })
take-by number so ws Clt = room-by (nat_lt (length so.clt) 100) (record so { clt = so.clt ++ words_kept (behind ws) ∷ [] })
take-by number so ws (Work A item) = room-by (nat_lt (length so.work_a) 2000) (record so { work_a = so.work_a ++ item ∷ [] })
take-by number so ws (Work B item) = room-by (nat_lt (length so.work_b) 2000) (record so { work_b = so.work_b ++ item ∷ [] })
take-by number so ws (Plan tick choice) = plan-by (nat_lt tick (last_tick so.plan)) (nat_lt (length so.plan) 500) (record so { plan = so.plan ++ (tick, choice) ∷ [] })
take-by number so ws Choices = within-by (are_within so) (record so { section = Making })
take-by number so ws (Once choice) = room-by (nat_le (length so.choices + 1) 8192) (record so { choices = so.choices ++ numbered number choice ∷ [] })
take-by number so ws (Times choice count) = room-by (nat_le (length so.choices + count) 8192) (record so { choices = so.choices ++ replicate count (numbered number choice) })
take-by number so ws End = (record so { section = Whole }, refl)

-- what is known of a line that is tested by the forms of its section
record IsTested (so : SoFar) (text : List ℕ) : Type 0 where
  has : has_forms so.section ≡ true
  bytes : list_all is_printable text ≡ true
  short : length text ≤ 300
  apart : are_apart (forms_of so.section so.format) ≡ true
  not_start : so.section ≢ Start
  not_whole : so.section ≢ Whole

-- words that spell a line are read as it
read-again : (so : SoFar) (text : List ℕ) (l : Line) → IsTested so text → SpellsNext so text l → line_of (forms_of so.section so.format) (words text) ≡ Ok l
read-again so text l is spelled = line-again (forms_of so.section so.format) (words text) l is.apart spelled

-- reasons of a text where no line is spelled
unread : (so : SoFar) (text : List ℕ) (answered other : Reason) → IsTested so text → line_of (forms_of so.section so.format) (words text) ≡ Err answered → HoldsOfText so text other → ⊥
unread so text answered BadByte is e h = let clash : true ≡ false = sym is.bytes ∙ h.1 in cc
unread so text answered LongLine is e h = omega (arith, is.short, h.1)
unread so text answered NoHeader is e h = is.not_start h.0
unread so text answered BadFormat is e h = is.not_start h.0
unread so text answered AfterEnd is e h = is.not_whole h.0
unread so text answered PlanOrder is e h = let clash : Ok h.line ≡ Err answered = sym (read-again so text h.line is h.spelled) ∙ e in cc
unread so text answered Twice is e h = let clash : Ok h.line ≡ Err answered = sym (read-again so text h.line is h.spelled) ∙ e in cc
unread so text answered TooMany is e h = let clash : Ok h.line ≡ Err answered = sym (read-again so text h.line is h.spelled) ∙ e in cc
unread so text answered RrnRange is e h = let clash : Ok h.line ≡ Err answered = sym (read-again so text h.line is h.spelled) ∙ e in cc
unread so text answered other is e h = h

-- the tests of the one line that the words spell
same-line : (so : SoFar) (text : List ℕ) (l : Line) (test : Line → Bool) → IsTested so text → line_of (forms_of so.section so.format) (words text) ≡ Ok l → SpellsBad so text test → test l ≡ true
same-line so text l test is e h =
    let both : Ok h.line ≡ Ok l = sym (read-again so text h.line is h.spelled) ∙ e in
    let same : h.line ≡ l = cc in
    subst (λ (k : Line). test k ≡ true) same h.bad

spelled-bad : (so : SoFar) (text : List ℕ) (l : Line) (test : Line → Bool) → line_of (forms_of so.section so.format) (words text) ≡ Ok l → test l ≡ true → SpellsBad so text test
spelled-bad so text l test e h = record { line = l; spelled = line-found (forms_of so.section so.format) (words text) l e; bad = h }

-- a line by the forms of its section
forms-first : (number : ℕ) (so : SoFar) (text : List ℕ) → IsTested so text
    → IsFirstOf (Holds so text) (take_line number so (words text) (line_of (forms_of so.section so.format) (words text)))
forms-first number so text is = by (line_of (forms_of so.section so.format) (words text)) refl (line-told (forms_of so.section so.format) (words text))
  where
    of-words : (answered other : Reason) → line_of (forms_of so.section so.format) (words text) ≡ Err answered → IsFirst (IsFaultOf (forms_of so.section so.format) (words text)) answered → Holds so text other → rank answered ≤ rank other
    of-words answered other e first (inl h) = absurd (unread so text answered other is e h)
    of-words answered other e first (inr h) = first.first other h.1

    to : (l : Line) → line_of (forms_of so.section so.format) (words text) ≡ Ok l → ((reason : Reason) → IsFaultOf (forms_of so.section so.format) (words text) reason → ⊥)
        → (reason : Reason) → Holds so text reason → Tested (falls so l) (is_given so l) (is_over so l) (is_outside so l) reason
    to l e none reason (inr h) = absurd (none reason h.1)
    to l e none BadByte (inl h) = let clash : true ≡ false = sym is.bytes ∙ h.1 in absurd (cc)
    to l e none LongLine (inl h) = absurd (omega (arith, is.short, h.1))
    to l e none NoHeader (inl h) = absurd (is.not_start h.0)
    to l e none BadFormat (inl h) = absurd (is.not_start h.0)
    to l e none AfterEnd (inl h) = absurd (is.not_whole h.0)
    to l e none PlanOrder (inl h) = same-line so text l (falls so) is e h
    to l e none Twice (inl h) = same-line so text l (is_given so) is e h
    to l e none TooMany (inl h) = same-line so text l (is_over so) is e h
    to l e none RrnRange (inl h) = same-line so text l (is_outside so) is e h
    to l e none reason (inl h) = absurd h

    back : (l : Line) → line_of (forms_of so.section so.format) (words text) ≡ Ok l
        → (reason : Reason) → Tested (falls so l) (is_given so l) (is_over so l) (is_outside so l) reason → Holds so text reason
    back l e PlanOrder h = inl (spelled-bad so text l (falls so) e h)
    back l e Twice h = inl (spelled-bad so text l (is_given so) e h)
    back l e TooMany h = inl (spelled-bad so text l (is_over so) e h)
    back l e RrnRange h = inl (spelled-bad so text l (is_outside so) e h)
    back l e reason h = absurd h

    by : (r : Result Line Reason) → line_of (forms_of so.section so.format) (words text) ≡ r → IsLineTold (IsFaultOf (forms_of so.section so.format) (words text)) r
        → IsFirstOf (Holds so text) (take_line number so (words text) r)
    by (Err answered) e first = record { holds = inr (is.has, first.holds); first = λ other h. of-words answered other e first h }
    by (Ok l) e none =
        let made = take-by number so (words text) l in
        first-of (Holds so text) (Tested (falls so l) (is_given so l) (is_over so l) (is_outside so l)) (take number so (words text) l) (to l e none) (back l e)
        (subst (IsFirstOf (Tested (falls so l) (is_given so l) (is_over so l) (is_outside so l))) (sym made.1) (by-first (falls so l) (is_given so l) (is_over so l) (is_outside so l) made.0))

-- no words are spelled by no forms
no-forms : (so : SoFar) (text : List ℕ) (l : Line) → forms_of so.section so.format ≡ [] → SpellsNext so text l → ⊥
no-forms so text l none spelled = subst (λ (fs : List Form). IsAmong spelled.form fs) none spelled.among

-- words of a header
header-two : (ws : List (List ℕ)) (one two : List ℕ) → are_two ws ≡ true → first ws ≡ one → second ws ≡ two → ws ≡ one ∷ two ∷ []
header-two [] one two is a b = absurd (cc)
header-two (x ∷ []) one two is a b = absurd (cc)
header-two (x ∷ y ∷ []) one two is a b = ap (λ (w : List ℕ). w ∷ y ∷ []) a ∙ ap (λ (w : List ℕ). one ∷ w ∷ []) b
header-two (x ∷ y ∷ z ∷ more) one two is a b = absurd (cc)

equal : (word key : List ℕ) → bytes_eq word key ≡ true → word ≡ key
equal word key e = (bytes_eq-Decides word key).0 e

differs : (word key : List ℕ) → bytes_eq word key ≡ false → word ≢ key
differs word key e same = let clash : true ≡ false = sym ((bytes_eq-Decides word key).1 same) ∙ e in cc

-- what a header's words are not
not-two : (ws : List (List ℕ)) (format : Format) → are_two ws ≡ false → ws ≢ header_words format
not-two ws One e same = let clash : true ≡ false = sym (ap are_two same) ∙ e in cc
not-two ws Two e same = let clash : true ≡ false = sym (ap are_two same) ∙ e in cc

not-second : (ws : List (List ℕ)) (format : Format) → second ws ≢ codes "1" → second ws ≢ codes "2" → ws ≢ header_words format
not-second ws One one two same = one (ap second same)
not-second ws Two one two same = two (ap second same)

begins-header : (format : Format) → first (header_words format) ≡ codes "XRF"
begins-header One = refl
begins-header Two = refl

-- the reasons of a first line, by its words
abbrev OfHeader : List (List ℕ) → Reason → Type 0
OfHeader ws NoHeader = first ws ≢ codes "XRF"
OfHeader ws BadFormat = (format : Format) → ws ≢ header_words format
OfHeader ws reason = ⊥

-- a header that is read
read-header : (so : SoFar) (ws : List (List ℕ)) (format : Format) → ws ≡ header_words format → IsFirstOf (OfHeader ws) (take_header so (Ok format))
read-header so ws format is = none
  where
    none : (reason : Reason) → OfHeader ws reason → ⊥
    none NoHeader h = h (ap first is ∙ begins-header format)
    none BadFormat h = h format is
    none reason h = h

-- a first line that is no header
no-header : (ws : List (List ℕ)) → first ws ≢ codes "XRF" → IsFirst (OfHeader ws) NoHeader
no-header ws other = record { holds = other; first = by }
  where
    by : (reason : Reason) → OfHeader ws reason → rank NoHeader ≤ rank reason
    by NoHeader h = omega arith
    by BadFormat h = omega arith
    by reason h = absurd h

bad-format : (ws : List (List ℕ)) → first ws ≡ codes "XRF" → ((format : Format) → ws ≢ header_words format) → IsFirst (OfHeader ws) BadFormat
bad-format ws is none = record { holds = none; first = by }
  where
    by : (reason : Reason) → OfHeader ws reason → rank BadFormat ≤ rank reason
    by NoHeader h = absurd (h is)
    by BadFormat h = omega arith
    by reason h = absurd h

header-first : (so : SoFar) (ws : List (List ℕ)) → IsFirstOf (OfHeader ws) (take_header so (header_of ws))
header-first so ws = by (bytes_eq (first ws) (codes "XRF")) (are_two ws) (bytes_eq (second ws) (codes "1")) (bytes_eq (second ws) (codes "2")) refl refl refl refl
  where
    by : (xrf two one-word two-word : Bool) → bytes_eq (first ws) (codes "XRF") ≡ xrf → are_two ws ≡ two → bytes_eq (second ws) (codes "1") ≡ one-word → bytes_eq (second ws) (codes "2") ≡ two-word
        → IsFirstOf (OfHeader ws) (take_header so (if not xrf then Err NoHeader else if not two then Err BadFormat else if one-word then Ok One else if two-word then Ok Two else Err BadFormat))
    by false two a b e f g h = no-header ws (differs (first ws) (codes "XRF") e)
    by true false a b e f g h = bad-format ws (equal (first ws) (codes "XRF") e) (λ format. not-two ws format f)
    by true true true b e f g h = read-header so ws One (header-two ws (codes "XRF") (codes "1") f (equal (first ws) (codes "XRF") e) (equal (second ws) (codes "1") g))
    by true true false true e f g h = read-header so ws Two (header-two ws (codes "XRF") (codes "2") f (equal (first ws) (codes "XRF") e) (equal (second ws) (codes "2") h))
    by true true false false e f g h =
        bad-format ws (equal (first ws) (codes "XRF") e) (λ format. not-second ws format (differs (second ws) (codes "1") g) (differs (second ws) (codes "2") h))

-- the words of a header that is read
pub header-found : (ws : List (List ℕ)) (format : Format) → header_of ws ≡ Ok format → ws ≡ header_words format
header-found ws format h = by (bytes_eq (first ws) (codes "XRF")) (are_two ws) (bytes_eq (second ws) (codes "1")) (bytes_eq (second ws) (codes "2")) refl refl refl refl h
  where
    by : (xrf two one-word two-word : Bool) → bytes_eq (first ws) (codes "XRF") ≡ xrf → are_two ws ≡ two → bytes_eq (second ws) (codes "1") ≡ one-word → bytes_eq (second ws) (codes "2") ≡ two-word
        → ◌≡◌ {A = Result Format Reason} (if not xrf then Err NoHeader else if not two then Err BadFormat else if one-word then Ok One else if two-word then Ok Two else Err BadFormat) (Ok format) → ws ≡ header_words format
    by false two a b e f g i k = absurd (cc)
    by true false a b e f g i k = absurd (cc)
    by true true true b e f g i k =
        let same : One ≡ format = cc in
        header-two ws (codes "XRF") (codes "1") f (equal (first ws) (codes "XRF") e) (equal (second ws) (codes "1") g) ∙ ap header_words same
    by true true false true e f g i k =
        let same : Two ≡ format = cc in
        header-two ws (codes "XRF") (codes "2") f (equal (first ws) (codes "XRF") e) (equal (second ws) (codes "2") i) ∙ ap header_words same
    by true true false false e f g i k = absurd (cc)

-- a first line
start-first : (so : SoFar) (text : List ℕ) → so.section ≡ Start → list_all is_printable text ≡ true → length text ≤ 300
    → IsFirstOf (Holds so text) (take_header so (header_of (words text)))
start-first so text here bytes short = first-of (Holds so text) (OfHeader (words text)) (take_header so (header_of (words text))) to back (header-first so (words text))
  where
    none : forms_of so.section so.format ≡ []
    none = ap (λ (p : Section). forms_of p so.format) here

    to : (reason : Reason) → Holds so text reason → OfHeader (words text) reason
    to reason (inr h) = let clash : false ≡ true = sym (ap has_forms here) ∙ h.0 in absurd (cc)
    to BadByte (inl h) = let clash : true ≡ false = sym bytes ∙ h.1 in absurd (cc)
    to LongLine (inl h) = absurd (omega (arith, short, h.1))
    to NoHeader (inl h) = h.1
    to BadFormat (inl h) = h.1
    to AfterEnd (inl h) = let clash : Start ≡ Whole = sym here ∙ h.0 in absurd (cc)
    to PlanOrder (inl h) = absurd (no-forms so text h.line none h.spelled)
    to Twice (inl h) = absurd (no-forms so text h.line none h.spelled)
    to TooMany (inl h) = absurd (no-forms so text h.line none h.spelled)
    to RrnRange (inl h) = absurd (no-forms so text h.line none h.spelled)
    to reason (inl h) = absurd h

    back : (reason : Reason) → OfHeader (words text) reason → Holds so text reason
    back NoHeader h = inl (here, h)
    back BadFormat h = inl (here, h)
    back reason h = absurd h

-- a line behind END
whole-first : (so : SoFar) (text : List ℕ) → so.section ≡ Whole → IsFirstOf (Holds so text) (if is_report text then Ok so else Err AfterEnd)
whole-first so text here = by (is_report text) refl
  where
    none : forms_of so.section so.format ≡ []
    none = ap (λ (p : Section). forms_of p so.format) here

    only : (reason : Reason) → Holds so text reason → (reason ≡ AfterEnd) × (is_report text ≡ false)
    only reason (inr h) = let clash : false ≡ true = sym (ap has_forms here) ∙ h.0 in absurd (cc)
    only BadByte (inl h) = let clash : true ≡ false = sym (ap is_whole here) ∙ h.0 in absurd (cc)
    only LongLine (inl h) = let clash : true ≡ false = sym (ap is_whole here) ∙ h.0 in absurd (cc)
    only NoHeader (inl h) = let clash : Whole ≡ Start = sym here ∙ h.0 in absurd (cc)
    only BadFormat (inl h) = let clash : Whole ≡ Start = sym here ∙ h.0 in absurd (cc)
    only AfterEnd (inl h) = (refl, h.1)
    only PlanOrder (inl h) = absurd (no-forms so text h.line none h.spelled)
    only Twice (inl h) = absurd (no-forms so text h.line none h.spelled)
    only TooMany (inl h) = absurd (no-forms so text h.line none h.spelled)
    only RrnRange (inl h) = absurd (no-forms so text h.line none h.spelled)
    only reason (inl h) = absurd h

    by : (b : Bool) → is_report text ≡ b → IsFirstOf (Holds so text) (if b then Ok so else Err AfterEnd)
    by true e = λ reason h. let clash : true ≡ false = sym e ∙ (only reason h).1 in absurd (cc)
    by false e = record { holds = inl (here, e); first = λ other h. let same : rank AfterEnd ≡ rank other = ap rank (sym (only other h).0) in omega (arith, same) }

-- a byte fault comes before all reasons behind it
bytes-first : (so : SoFar) (text : List ℕ) → so.section ≢ Whole → is_whole so.section ≡ false → list_all form_passes (forms_of so.section so.format) ≡ true
    → (reason : Reason) → bytes_fault text ≡ Some reason → IsFirst (Holds so text) reason
bytes-first so text not_whole before passes reason fault = by (list_all is_printable text) (nat_lt 300 (length text)) refl refl fault
  where
    behind-long : (other : Reason) → (list_all is_printable text ≡ true ⊎ (other ≡ BadByte → ⊥)) → Holds so text other → 2 ≤ rank other
    behind-long other ok (inr h) = let of : 7 ≤ rank other = (words-told (forms_of so.section so.format) (words text) other passes h.1).0 in omega (arith, of)
    behind-long BadByte (inl all) (inl h) = let clash : true ≡ false = sym all ∙ h.1 in absurd (cc)
    behind-long BadByte (inr other) (inl h) = absurd (other refl)
    behind-long LongLine ok (inl h) = omega arith
    behind-long NoHeader ok (inl h) = omega arith
    behind-long BadFormat ok (inl h) = omega arith
    behind-long AfterEnd ok (inl h) = omega arith
    behind-long PlanOrder ok (inl h) = omega arith
    behind-long Twice ok (inl h) = omega arith
    behind-long TooMany ok (inl h) = omega arith
    behind-long RrnRange ok (inl h) = omega arith
    behind-long other ok (inl h) = absurd h

    behind-byte : (other : Reason) → Holds so text other → 1 ≤ rank other
    behind-byte BadByte h = omega arith
    behind-byte other h = let low : 2 ≤ rank other = behind-long other (inr (λ (e : other ≡ BadByte). cc)) h in omega (arith, low)

    by : (all long : Bool) → list_all is_printable text ≡ all → nat_lt 300 (length text) ≡ long
        → ◌≡◌ {A = Option Reason} (if not all then Some BadByte else if long then Some LongLine else None) (Some reason) → IsFirst (Holds so text) reason
    by false long e l k =
        let same : BadByte ≡ reason = cc in
        subst (IsFirst (Holds so text)) same (record { holds = inl (before, e); first = behind-byte })
    by true true e l k =
        let same : LongLine ≡ reason = cc in
        subst (IsFirst (Holds so text)) same (record { holds = inl (before, ltb-true 300 (length text) l); first = λ other h. behind-long other (inl e) h })
    by true false e l k = absurd (cc)

-- A line that is not skipped is refused for the first of the reasons that hold of it, in their
-- order, and it is taken where none holds.
pub step-first : (number : ℕ) (so : SoFar) (text : List ℕ) → is_skipped text ≡ false → IsFirstOf (Holds so text) (step number so text)
step-first number so text shown = rw shown (by so.section refl)
  where
    tested : (section : Section) → so.section ≡ section → has_forms section ≡ true → are_apart (forms_of section so.format) ≡ true → bytes_fault text ≡ None → IsTested so text
    tested section here has apart plain = record {
      has = ap has_forms here ∙ has;
      bytes = (bytes-kept text plain).0;
      short = (bytes-kept text plain).1;
      apart = subst (λ (p : Section). are_apart (forms_of p so.format) ≡ true) (sym here) apart;
      not_start = λ e. let clash : false ≡ true = sym (ap has_forms (sym here ∙ e)) ∙ has in cc;
      not_whole = λ e. let clash : false ≡ true = sym (ap has_forms (sym here ∙ e)) ∙ has in cc;
    }

    of-forms : (section : Section) → so.section ≡ section → has_forms section ≡ true → are_apart (forms_of section so.format) ≡ true → bytes_fault text ≡ None
        → IsFirstOf (Holds so text) (take_line number so (words text) (line_of (forms_of section so.format) (words text)))
    of-forms section here has apart plain =
        subst (λ (p : Section). IsFirstOf (Holds so text) (take_line number so (words text) (line_of (forms_of p so.format) (words text)))) here
        (forms-first number so text (tested section here has apart plain))

    passed : (section : Section) → so.section ≡ section → list_all form_passes (forms_of section so.format) ≡ true → list_all form_passes (forms_of so.section so.format) ≡ true
    passed section here all = subst (λ (p : Section). list_all form_passes (forms_of p so.format) ≡ true) (sym here) all

    bytes : (section : Section) → so.section ≡ section → is_whole section ≡ false → list_all form_passes (forms_of section so.format) ≡ true → (taken : Result SoFar Reason)
        → (bytes_fault text ≡ None → IsFirstOf (Holds so text) taken) → (o : Option Reason) → bytes_fault text ≡ o
        → IsFirstOf (Holds so text) (elim o [ Some reason ↦ Err reason | None ↦ taken ])
    bytes section here before passes taken answered (Some reason) e =
        bytes-first so text (λ w. let clash : true ≡ false = sym (ap is_whole (sym here ∙ w)) ∙ before in cc) (ap is_whole here ∙ before) (passed section here passes) reason e
    bytes section here before passes taken answered None e = answered e

    by : (section : Section) → so.section ≡ section → IsFirstOf (Holds so text) (if is_whole section then (if is_report text then Ok so else Err AfterEnd)
        else elim (bytes_fault text) [ Some reason ↦ Err reason | None ↦ take_words section number so (words text) ])
    by Start here = bytes Start here refl refl (take_words Start number so (words text)) (λ plain. start-first so text here (bytes-kept text plain).0 (bytes-kept text plain).1) (bytes_fault text) refl
    by Settings here =
        bytes Settings here refl (settings-pass so.format) (take_words Settings number so (words text)) (of-forms Settings here refl (settings-apart so.format)) (bytes_fault text) refl
    by Making here = bytes Making here refl choices-pass (take_words Making number so (words text)) (of-forms Making here refl choices-apart) (bytes_fault text) refl
    by Whole here = whole-first so text here

-- a step that is refused is refused for the first reason of a line that is not skipped
pub refused-first : (number : ℕ) (so : SoFar) (text : List ℕ) (reason : Reason) → step number so text ≡ Err reason
    → (is_skipped text ≡ false) × IsFirst (Holds so text) reason
refused-first number so text reason e = by (is_skipped text) refl
  where
    by : (b : Bool) → is_skipped text ≡ b → (is_skipped text ≡ false) × IsFirst (Holds so text) reason
    by false shown = (shown, subst (IsFirstOf (Holds so text)) e (step-first number so text shown))
    by true skipped = let taken : step number so text ≡ Ok so = rw skipped refl in let clash : Ok so ≡ Err reason = sym taken ∙ e in absurd (cc)

-- and one for which a reason is the first is refused for it
pub first-refused : (number : ℕ) (so : SoFar) (text : List ℕ) (reason : Reason) → is_skipped text ≡ false → IsFirst (Holds so text) reason
    → step number so text ≡ Err reason
first-refused number so text reason shown first = by (step number so text) refl (step-first number so text shown)
  where
    by : (r : Result SoFar Reason) → step number so text ≡ r → IsFirstOf (Holds so text) r → step number so text ≡ Err reason
    by (Ok next) e none = absurd (none reason first.holds)
    by (Err other) e answered = e ∙ ap (λ (x : Reason). Err x) (one-first (Holds so text) other reason answered first)
