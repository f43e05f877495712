-- The reason that is told of some words is the first of those that hold.
use Rattle.std.proofs.Common.{◌≡◌, ◌⊎◌, inl, inr, ◌≤◌, ◌==◌, ℕ, Bool, true, false, if◌then◌else◌, ◌&&◌, nat_le, nat_lt, List, [], ◌∷◌, Option, Some, None, Result, Ok, Err, refl, sym, ◌∙◌, ap, subst, arith}
use Rattle.std.specs.List.{list_all}
use Rattle.std.specs.Option.{ok_or, is_some}
use Rattle.std.specs.Str.{bytes_eq}
use Rattle.std.proofs.lemmas.Bool.{leb-true, ltb-true, ltb-false, and_parts}
use Rattle.xrf_grammar.specs.declared.form.Form.{Form}
use Rattle.xrf_grammar.specs.declared.form.Part.{Part}
use Rattle.xrf_grammar.specs.declared.form.Part.TheVariants.{Keyword, Refused, Site, Number, Multiple, Name, Value, Hex}
use Rattle.xrf_setup.specs.declared.format.Format.{Format}
use Rattle.xrf_setup.specs.declared.format.Format.TheVariants.{One, Two}
use Rattle.xrf_grammar.specs.declared.line.Line.{Line}
use Rattle.xrf_grammar.specs.declared.reason.Reason.{Reason}
use Rattle.xrf_grammar.specs.declared.reason.Reason.TheVariants.{TooLarge, BadByte, LongLine, NoHeader, BadFormat, ChoicesGiven, AfterEnd, UnknownWord, WordCount, BadSite, BadNumber, OutOfRange, BadName, BadValue, BadHex, BadOption, BadItem, BadCebt, BadPlan, PlanOrder, Twice, TooMany, RrnRange, NoEnd}
use Rattle.xrf_grammar.specs.Faults.{IsHereOr, IsFault, IsFaultBy, IsFaultOf, IsFirst}
use Rattle.xrf_grammar.specs.Fitting.{wrong, form_for, fitting, most_agreed, before_wrong, first_fault}
use Rattle.xrf_grammar.specs.Grammar.{IsAmong}
use Rattle.xrf_grammar.specs.Keywords.{keyword_text}
use Rattle.xrf_grammar.specs.Numbers.{number_of}
use Rattle.xrf_grammar.specs.Operands.{fault_unless, number_fault, operand_fault}
use Rattle.xrf_grammar.specs.Reading.{unless_fault, by_form, line_of}
use Rattle.xrf_grammar.specs.Reasons.{rank, earlier}
use Rattle.xrf_grammar.specs.Saying.{said}
use Rattle.xrf_grammar.specs.Table.{parts_of, settings_of, choices_table}
use Rattle.xrf_grammar.proofs.FormLaws.{form-found, form-chosen}
use Rattle.xrf_grammar.proofs.SayingLaws.{said-some}

-- what is told of some words: no reason where none holds, and else the first of those that do
abbrev IsTold : (Reason → Type 0) → Option Reason → Type 0
IsTold Holds None = (reason : Reason) → Holds reason → ⊥
IsTold Holds (Some reason) = IsFirst Holds reason

-- a place in the order is that of one reason
abbrev reason_at : ℕ → Reason
reason_at n = if n == 0 then TooLarge else if n == 1 then BadByte else if n == 2 then LongLine else if n == 3 then NoHeader else if n == 4 then BadFormat else if n == 5 then ChoicesGiven else if n == 6 then AfterEnd else if n == 7 then UnknownWord else if n == 8 then WordCount else if n == 9 then BadSite else if n == 10 then BadNumber else if n == 11 then OutOfRange else if n == 12 then BadName else if n == 13 then BadValue else if n == 14 then BadHex else if n == 15 then BadOption else if n == 16 then BadItem else if n == 17 then BadCebt else if n == 18 then BadPlan else if n == 19 then PlanOrder else if n == 20 then Twice else if n == 21 then TooMany else if n == 22 then RrnRange else NoEnd

at-rank : (r : Reason) → reason_at (rank r) ≡ r
at-rank TooLarge = refl
at-rank BadByte = refl
at-rank LongLine = refl
at-rank NoHeader = refl
at-rank BadFormat = refl
at-rank ChoicesGiven = refl
at-rank AfterEnd = refl
at-rank UnknownWord = refl
at-rank WordCount = refl
at-rank BadSite = refl
at-rank BadNumber = refl
at-rank OutOfRange = refl
at-rank BadName = refl
at-rank BadValue = refl
at-rank BadHex = refl
at-rank BadOption = refl
at-rank BadItem = refl
at-rank BadCebt = refl
at-rank BadPlan = refl
at-rank PlanOrder = refl
at-rank Twice = refl
at-rank TooMany = refl
at-rank RrnRange = refl
at-rank NoEnd = refl

pub one-at : (r other : Reason) → rank r ≡ rank other → r ≡ other
one-at r other e = sym (at-rank r) ∙ ap reason_at e ∙ at-rank other

-- two first reasons of the same are one
pub one-first : (Holds : Reason → Type 0) (r other : Reason) → IsFirst Holds r → IsFirst Holds other → r ≡ other
one-first Holds r other one two =
    let low : rank r ≤ rank other = one.first other two.holds in
    let high : rank other ≤ rank r = two.first r one.holds in
    let same : rank r ≡ rank other = omega (arith, low, high) in
    one-at r other same

-- the one reason that there is comes first
alone : (r : Reason) (Holds : Reason → Type 0) → Holds r → ((other : Reason) → Holds other → r ≡ other) → IsFirst Holds r
alone r Holds holds one = record { holds = holds; first = λ other h. let same : rank r ≡ rank other = ap rank (one other h) in omega (arith, same) }

-- of a word and the words behind it the first reason is the earlier of theirs
earlier-told : (here later : Option Reason) (Later : Reason → Type 0) → IsTold Later later → IsTold (λ reason. (here ≡ Some reason) ⊎ Later reason) (earlier here later)
earlier-told None None Later told = λ reason h. by reason h
  where
    by : (reason : Reason) → ((None ≡ Some reason) ⊎ Later reason) → ⊥
    by reason (inl e) = cc
    by reason (inr l) = told reason l
earlier-told None (Some other) Later told = record { holds = inr told.holds; first = by }
  where
    by : (reason : Reason) → ((None ≡ Some reason) ⊎ Later reason) → rank other ≤ rank reason
    by reason (inl e) = absurd (cc)
    by reason (inr l) = told.first reason l
earlier-told (Some one) None Later told = record { holds = inl refl; first = by }
  where
    by : (reason : Reason) → ((Some one ≡ Some reason) ⊎ Later reason) → rank one ≤ rank reason
    by reason (inl e) = let same : one ≡ reason = cc in let ranks : rank one ≡ rank reason = ap rank same in omega (arith, ranks)
    by reason (inr l) = absurd (told reason l)
earlier-told (Some one) (Some other) Later told = by (nat_lt (rank other) (rank one)) refl
  where
    least : (low : Reason) → rank low ≤ rank one → rank low ≤ rank other → (reason : Reason) → ((Some one ≡ Some reason) ⊎ Later reason) → rank low ≤ rank reason
    least low a b reason (inl e) = let same : one ≡ reason = cc in let ranks : rank one ≡ rank reason = ap rank same in omega (arith, a, ranks)
    least low a b reason (inr l) = let k : rank other ≤ rank reason = told.first reason l in omega (arith, b, k)

    by : (t : Bool) → nat_lt (rank other) (rank one) ≡ t → IsTold (λ reason. (Some one ≡ Some reason) ⊎ Later reason) (if t then Some other else Some one)
    by true e = record { holds = inr told.holds; first = least other (omega (arith, ltb-true (rank other) (rank one) e)) (omega arith) }
    by false e = record { holds = inl refl; first = least one (omega arith) (omega (arith, ltb-false (rank other) (rank one) e)) }

-- the first fault of some words is the first of their reasons
fault-told : (parts : List Part) (ws : List (List ℕ)) → IsTold (IsFault parts ws) (first_fault parts ws)
fault-told [] ws = λ reason h. h
fault-told (part ∷ parts) [] = λ reason h. h
fault-told (part ∷ parts) (word ∷ ws) = by (wrong part word) (fault-told parts ws)
  where
    by : (o : Option Reason) → IsTold (IsFault parts ws) (first_fault parts ws)
        → IsTold (λ reason. IsHereOr o (operand_fault part word) (IsFault parts ws reason) reason) (before_wrong o (operand_fault part word) (first_fault parts ws))
    by (Some at) rest = alone at (λ reason. at ≡ reason) refl (λ other e. e)
    by None rest = earlier-told (operand_fault part word) (first_fault parts ws) (IsFault parts ws) rest

-- What is told of some words: where they are a line no reason holds, and else the first of those that hold.
abbrev pub IsLineTold : (Reason → Type 0) → Result Line Reason → Type 0
IsLineTold Holds (Ok line) = (reason : Reason) → Holds reason → ⊥
IsLineTold Holds (Err reason) = IsFirst Holds reason

pub line-told : (forms : List Form) (ws : List (List ℕ)) → IsLineTold (IsFaultOf forms ws) (line_of forms ws)
line-told forms ws = by (form_for forms ws) refl
  where
    says : (form : Form) (o : Option Reason) (l : Option Line) → IsTold (IsFault (parts_of form) ws) o → (o ≡ None → is_some l ≡ true) → IsLineTold (IsFault (parts_of form) ws) (unless_fault o l)
    says form (Some reason) l told some = told
    says form None (Some line) told some = told
    says form None None told some = let clash : false ≡ true = some refl in absurd (cc)

    by : (r : Result Form Reason) → form_for forms ws ≡ r → IsLineTold (IsFaultBy r ws) (by_form r ws)
    by (Err none) e = alone none (λ reason. none ≡ reason) refl (λ other same. same)
    by (Ok form) e =
        says form (first_fault (parts_of form) ws) (said form ws) (fault-told (parts_of form) ws)
        (λ (no_fault : first_fault (parts_of form) ws ≡ None). said-some form ws (form-found (parts_of form) ws (form-chosen forms ws form e).1 no_fault))

-- The reasons of words stand in the order from UNKNOWN-WORD to BAD-PLAN.
abbrev pub IsOfWords : Reason → Type 0
IsOfWords reason = (7 ≤ rank reason) × (rank reason ≤ 18)

abbrev pub is_of_words : Reason → Bool
is_of_words reason = nat_le 7 (rank reason) && nat_le (rank reason) 18

of-words : (reason : Reason) → is_of_words reason ≡ true → IsOfWords reason
of-words reason h = (leb-true 7 (rank reason) (and_parts (nat_le 7 (rank reason)) (nat_le (rank reason) 18) h).0, leb-true (rank reason) 18 (and_parts (nat_le 7 (rank reason)) (nat_le (rank reason) 18) h).1)

-- those of the keywords of a form
abbrev pub part_passes : Part → Bool
part_passes (Keyword keyword reason) = is_of_words reason
part_passes (Refused keyword reason) = is_of_words reason
part_passes _ = true

abbrev pub form_passes : Form → Bool
form_passes form = list_all part_passes (parts_of form)

unless-of : (kept : Bool) (reason told : Reason) → is_of_words reason ≡ true → fault_unless kept reason ≡ Some told → is_of_words told ≡ true
unless-of true reason told is h = absurd (cc)
unless-of false reason told is h = let same : reason ≡ told = cc in subst (λ (r : Reason). is_of_words r ≡ true) same is

number-of : (kept : ℕ → Bool) (o : Option ℕ) (told : Reason) → number_fault kept o ≡ Some told → is_of_words told ≡ true
number-of kept None told h = let same : BadNumber ≡ told = cc in subst (λ (r : Reason). is_of_words r ≡ true) same refl
number-of kept (Some n) told h = unless-of (kept n) OutOfRange told refl h

wrong-of : (part : Part) (word : List ℕ) (told : Reason) → part_passes part ≡ true → wrong part word ≡ Some told → is_of_words told ≡ true
wrong-of (Keyword keyword reason) word told is h = by (bytes_eq word (keyword_text keyword)) h
  where
    by : (t : Bool) → (if t then None else Some reason) ≡ Some told → is_of_words told ≡ true
    by true e = absurd (cc)
    by false e = let same : reason ≡ told = cc in subst (λ (r : Reason). is_of_words r ≡ true) same is
wrong-of (Refused keyword reason) word told is h = let same : reason ≡ told = cc in subst (λ (r : Reason). is_of_words r ≡ true) same is
wrong-of part word told is h = absurd (cc)

operand-of : (part : Part) (word : List ℕ) (told : Reason) → operand_fault part word ≡ Some told → is_of_words told ≡ true
operand-of Site word told h = unless-of _ BadSite told refl h
operand-of (Number least most) word told h = number-of _ (number_of word) told h
operand-of (Multiple least most unit) word told h = number-of _ (number_of word) told h
operand-of Name word told h = unless-of _ BadName told refl h
operand-of Value word told h = unless-of _ BadValue told refl h
operand-of Hex word told h = unless-of _ BadHex told refl h
operand-of part word told h = absurd (cc)

fault-of : (parts : List Part) (ws : List (List ℕ)) (told : Reason) → list_all part_passes parts ≡ true → IsFault parts ws told → is_of_words told ≡ true
fault-of [] ws told is h = absurd h
fault-of (part ∷ parts) [] told is h = absurd h
fault-of (part ∷ parts) (word ∷ ws) told is h =
    by (wrong part word) refl h (λ later. fault-of parts ws told (and_parts (part_passes part) (list_all part_passes parts) is).1 later)
  where
    by : (o : Option Reason) → wrong part word ≡ o → IsHereOr o (operand_fault part word) (IsFault parts ws told) told → (IsFault parts ws told → is_of_words told ≡ true) → is_of_words told ≡ true
    by (Some at) e same rest = subst (λ (r : Reason). is_of_words r ≡ true) same (wrong-of part word at (and_parts (part_passes part) (list_all part_passes parts) is).0 e)
    by None e (inl here) rest = operand-of part word told here
    by None e (inr later) rest = rest later

-- each reason of some words of the table is one of words
pub words-told : (forms : List Form) (ws : List (List ℕ)) (told : Reason) → list_all form_passes forms ≡ true → IsFaultOf forms ws told → IsOfWords told
words-told forms ws told all h = of-words told (by (form_for forms ws) refl h)
  where
    passes : (fs : List Form) (form : Form) → list_all form_passes fs ≡ true → IsAmong form fs → form_passes form ≡ true
    passes [] form is among = absurd among
    passes (f ∷ fs) form is (inl same) = subst (λ (g : Form). form_passes g ≡ true) same (and_parts (form_passes f) (list_all form_passes fs) is).0
    passes (f ∷ fs) form is (inr more) = passes fs form (and_parts (form_passes f) (list_all form_passes fs) is).1 more

    none-of : (none : Reason) → form_for forms ws ≡ Err none → is_of_words none ≡ true
    none-of none e = split (most_agreed forms ws == 0) e
      where
        later : (o : Option Form) → ok_or o WordCount ≡ Err none → is_of_words none ≡ true
        later None k = let same : WordCount ≡ none = cc in subst (λ (r : Reason). is_of_words r ≡ true) same refl
        later (Some f) k = absurd (cc)

        split : (t : Bool) → (if t then Err UnknownWord else ok_or (fitting (most_agreed forms ws) forms ws) WordCount) ≡ Err none → is_of_words none ≡ true
        split true k = let same : UnknownWord ≡ none = cc in subst (λ (r : Reason). is_of_words r ≡ true) same refl
        split false k = later (fitting (most_agreed forms ws) forms ws) k

    by : (r : Result Form Reason) → form_for forms ws ≡ r → IsFaultBy r ws told → is_of_words told ≡ true
    by (Err none) e same = subst (λ (r : Reason). is_of_words r ≡ true) same (none-of none e)
    by (Ok form) e fault = fault-of (parts_of form) ws told (passes forms form all (form-chosen forms ws form e).0) fault

pub settings-pass : (format : Format) → list_all form_passes (settings_of format) ≡ true
settings-pass One = refl
settings-pass Two = refl

pub choices-pass : list_all form_passes choices_table ≡ true
choices-pass = refl
