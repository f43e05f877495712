-- A line that is read is spelled by its words.
use Rattle.std.proofs.Common.{◌≡◌, ◌⊎◌, inl, inr, ◌==◌, ◌&&◌, ℕ, Bool, true, false, if◌then◌else◌, nat_lt, nat_le, List, [], ◌∷◌, Option, Some, None, Result, Ok, Err, IfOk, refl, sym, subst}
use Rattle.std.specs.Option.{ok_or}
use Rattle.std.specs.Str.{bytes_eq}
use Rattle.std.proofs.lemmas.Slice.Eq.{bytes_eq-Decides}
use Rattle.std.proofs.lemmas.Bool.{leb-true, and_parts}
use Rattle.xrf_grammar.specs.declared.reason.Reason.{Reason}
use Rattle.xrf_grammar.specs.declared.reason.Reason.TheVariants.{UnknownWord, WordCount, OutOfRange}
use Rattle.xrf_grammar.specs.declared.form.Part.{Part}
use Rattle.xrf_grammar.specs.declared.form.Part.TheVariants.{Keyword, Refused, Site, Number, Multiple, Name, Value, Hex, Words}
use Rattle.xrf_grammar.specs.declared.form.Form.{Form}
use Rattle.xrf_grammar.specs.declared.line.Line.{Line}
use Rattle.xrf_grammar.specs.Fitting.{takes_all, takes, most_agreed, fits_best, fitting, form_for, wrong, before_wrong, first_fault}
use Rattle.xrf_grammar.specs.Grammar.{IsOfPart, Unless, AreOfForm, IsAmong, Spells}
use Rattle.xrf_grammar.specs.Keywords.{keyword_text}
use Rattle.xrf_grammar.specs.Numbers.{number_of}
use Rattle.xrf_grammar.specs.Operands.{is_multiple_of, fault_unless, number_fault, operand_fault}
use Rattle.xrf_grammar.specs.Reading.{unless_fault, by_form, line_of}
use Rattle.xrf_grammar.specs.Reasons.{earlier, rank}
use Rattle.xrf_grammar.specs.Saying.{said}
use Rattle.xrf_grammar.specs.Table.{parts_of}

-- the earlier of two reasons is none only where neither is there
neither : (here later : Option Reason) → earlier here later ≡ None → (here ≡ None) × (later ≡ None)
neither None later h = (refl, h)
neither (Some one) None h = absurd (cc)
neither (Some one) (Some other) h = by (nat_lt (rank other) (rank one)) h
  where
    by : (t : Bool) → (if t then Some other else Some one) ≡ None → (Some one ≡ None) × (Some other ≡ None)
    by true e = absurd (cc)
    by false e = absurd (cc)

no_fault : (at here later : Option Reason) → before_wrong at here later ≡ None → (at ≡ None) × (here ≡ None) × (later ≡ None)
no_fault (Some reason) here later h = absurd (cc)
no_fault None here later h = let k = neither here later h in (refl, k.0, k.1)

kept : (test : Bool) (reason : Reason) → fault_unless test reason ≡ None → test ≡ true
kept true reason h = refl
kept false reason h = absurd (cc)

number-kept : (test : ℕ → Bool) (o : Option ℕ) → number_fault test o ≡ None → (n : ℕ) × (o ≡ Some n) × (test n ≡ true)
number-kept test None h = absurd (cc)
number-kept test (Some n) h = (n, refl, kept (test n) OutOfRange h)

keyword-kept : (word key : List ℕ) (reason : Reason) → (if bytes_eq word key then None else Some reason) ≡ None → word ≡ key
keyword-kept word key reason h = by (bytes_eq word key) refl h
  where
    by : (t : Bool) → bytes_eq word key ≡ t → (if t then None else Some reason) ≡ None → word ≡ key
    by true e k = (bytes_eq-Decides word key).0 e
    by false e k = absurd (cc)

-- a word without a fault is of its part
pub part_found : (part : Part) (word : List ℕ) → wrong part word ≡ None → operand_fault part word ≡ None → IsOfPart part word
part_found (Keyword keyword reason) word w h = keyword-kept word (keyword_text keyword) reason w
part_found (Refused keyword reason) word w h = absurd (cc)
part_found Site word w h = kept _ _ h
part_found (Number least most) word w h =
    let k = number-kept (λ n. nat_le least n && nat_le n most) (number_of word) h in
    record { value = k.0; spelled = k.1; low = leb-true least k.0 (and_parts _ _ k.2).0; high = leb-true k.0 most (and_parts _ _ k.2).1; also_kept = refl }
part_found (Multiple least most unit) word w h =
    let k = number-kept (λ n. nat_le least n && nat_le n most && is_multiple_of n unit) (number_of word) h in
    let range = (and_parts _ _ k.2).0 in
    record { value = k.0; spelled = k.1; low = leb-true least k.0 (and_parts _ _ range).0; high = leb-true k.0 most (and_parts _ _ range).1; also_kept = (and_parts _ _ k.2).1 }
part_found Name word w h = kept _ _ h
part_found Value word w h = kept _ _ h
part_found Hex word w h = kept _ _ h
part_found Words word w h = tt

-- words without a fault, as many as the form takes, are of the form
pub form-found : (parts : List Part) (ws : List (List ℕ)) → takes parts ws ≡ true → first_fault parts ws ≡ None → AreOfForm parts ws
form-found [] [] t h = tt
form-found [] (word ∷ ws) t h = absurd (cc)
form-found (part ∷ parts) [] t h = absurd (cc)
form-found (part ∷ parts) (word ∷ ws) t h = by (takes_all part parts) (λ e k. form-found parts ws e k) t
  where
    by : (all : Bool) → (takes parts ws ≡ true → first_fault parts ws ≡ None → AreOfForm parts ws) → (if all then true else takes parts ws) ≡ true → Unless all (IsOfPart part word × AreOfForm parts ws)
    by true rest e = tt
    by false rest e =
        let k = no_fault (wrong part word) (operand_fault part word) (first_fault parts ws) h in
        (part_found part word k.0 k.1, rest e k.2)

-- the form that is chosen is one of the forms, and takes so many words
chosen : (most : ℕ) (forms : List Form) (ws : List (List ℕ)) (form : Form) → fitting most forms ws ≡ Some form
    → IsAmong form forms × (takes (parts_of form) ws ≡ true)
chosen most [] ws form h = absurd (cc)
chosen most (first ∷ forms) ws form h = by (fits_best most first ws) (λ k. chosen most forms ws form k) refl h
  where
    by : (t : Bool) → (fitting most forms ws ≡ Some form → IsAmong form forms × (takes (parts_of form) ws ≡ true)) → fits_best most first ws ≡ t → (if t then Some first else fitting most forms ws) ≡ Some form
        → ((first ≡ form) ⊎ IsAmong form forms) × (takes (parts_of form) ws ≡ true)
    by true rest e k = let same : first ≡ form = cc in (inl same, subst (λ (f : Form). takes (parts_of f) ws ≡ true) same (and_parts _ _ e).1)
    by false rest e k = let r = rest k in (inr r.0, r.1)

pub form-chosen : (forms : List Form) (ws : List (List ℕ)) (form : Form) → form_for forms ws ≡ Ok form
    → IsAmong form forms × (takes (parts_of form) ws ≡ true)
form-chosen forms ws form h = by (most_agreed forms ws == 0) h
  where
    some : (o : Option Form) → ok_or o WordCount ≡ Ok form → o ≡ Some form
    some None e = absurd (cc)
    some (Some f) e = cc

    by : (t : Bool) → (if t then Err UnknownWord else ok_or (fitting (most_agreed forms ws) forms ws) WordCount) ≡ Ok form
        → IsAmong form forms × (takes (parts_of form) ws ≡ true)
    by true e = absurd (cc)
    by false e = chosen (most_agreed forms ws) forms ws form (some _ e)

said-found : (fault : Option Reason) (says : Option Line) (line : Line) → unless_fault fault says ≡ Ok line → (fault ≡ None) × (says ≡ Some line)
said-found (Some reason) says line h = absurd (cc)
said-found None None line h = absurd (cc)
said-found None (Some other) line h = (refl, cc)

-- what is read is spelled
pub line-found : (forms : List Form) (ws : List (List ℕ)) (line : Line) → line_of forms ws ≡ Ok line → Spells forms ws line
line-found forms ws line h = by (form_for forms ws) refl h
  where
    by : (o : Result Form Reason) → form_for forms ws ≡ o → by_form o ws ≡ Ok line → Spells forms ws line
    by (Err reason) e k = absurd (cc)
    by (Ok form) e k =
        let of = form-chosen forms ws form e in
        let says = said-found (first_fault (parts_of form) ws) (said form ws) line k in
        record { form = form; among = of.0; fit = form-found (parts_of form) ws of.1 says.0; line = says.1 }

pub found_by_reading : (forms : List Form) (ws : List (List ℕ)) (r : Result Line Reason) → r ≡ line_of forms ws → IfOk r (λ line. Spells forms ws line)
found_by_reading forms ws (Err reason) e = tt
found_by_reading forms ws (Ok line) e = line-found forms ws line (sym e)
