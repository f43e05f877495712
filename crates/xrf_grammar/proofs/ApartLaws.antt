-- No words are of two forms of the table, so what some words spell is read.
use Rattle.std.proofs.Common.{◌≡◌, inl, inr, ◌≤◌, ◌<◌, ◌+◌, ◌==◌, ◌&&◌, ◌||◌, not, ℕ, Bool, true, false, if◌then◌else◌, nat_lt, nat_le, List, [], ◌∷◌, Option, Some, None, Result, Ok, Err, IfErr, refl, sym, ◌∙◌, ap, subst, arith}
use Rattle.std.specs.Option.{is_some, ok_or}
use Rattle.std.specs.List.{list_all}
use Rattle.std.specs.Str.{bytes_eq}
use Rattle.std.specs.Cmp.Derive.{both_true}
use Rattle.std.proofs.lemmas.Slice.Eq.{bytes_eq-Decides}
use Rattle.std.proofs.lemmas.Bool.{leb-true, le-leb, ltb-true, ltb-false, eq-eqb, eqb-true, and_parts}
use Rattle.xrf_grammar.specs.declared.reason.Reason.{Reason}
use Rattle.xrf_grammar.specs.declared.reason.Reason.TheVariants.{UnknownWord, WordCount, OutOfRange, BadSite, BadName, BadValue, BadHex}
use Rattle.xrf_grammar.specs.declared.keyword.Keyword.{Keyword as Word}
use Rattle.xrf_grammar.specs.declared.form.Part.{Part}
use Rattle.xrf_grammar.specs.declared.form.Part.TheVariants.{Keyword, Refused, Site, Number, Multiple, Name, Value, Hex, Words}
use Rattle.xrf_grammar.specs.declared.form.Form.{Form}
use Rattle.xrf_grammar.specs.declared.line.Line.{Line}
use Rattle.xrf_setup.specs.declared.format.Format.{Format}
use Rattle.xrf_setup.specs.declared.format.Format.TheVariants.{One, Two}
use Rattle.xrf_grammar.specs.Fitting.{keyword_of, takes_all, takes, most_agreed, agreed_by, agreed, fits_best, fitting, form_for, wrong, before_wrong, first_fault}
use Rattle.xrf_grammar.specs.Grammar.{IsOfPart, Unless, AreOfForm, IsAmong, Spells, AreOfNone}
use Rattle.xrf_grammar.specs.Keywords.{keyword_text}
use Rattle.xrf_grammar.specs.Operands.{is_multiple_of, fault_unless, number_fault, operand_fault}
use Rattle.xrf_grammar.specs.Reading.{unless_fault, by_form, line_of}
use Rattle.xrf_grammar.specs.Saying.{said}
use Rattle.xrf_grammar.proofs.SayingLaws.{said-some}
use Rattle.xrf_grammar.specs.Table.{parts_of, settings_of, choices_table}

kept-again : (test : Bool) (reason : Reason) → test ≡ true → fault_unless test reason ≡ None
kept-again true reason h = refl
kept-again false reason h = absurd (cc)

-- a word that is of its part has no fault
part-again : (part : Part) (word : List ℕ) → IsOfPart part word → (wrong part word ≡ None) × (operand_fault part word ≡ None)
part-again (Keyword keyword reason) word is =
    (ap (λ (t : Bool). if t then None else Some reason) ((bytes_eq-Decides word (keyword_text keyword)).1 is), refl)
part-again (Refused keyword reason) word is = absurd is
part-again Site word is = (refl, kept-again _ BadSite is)
part-again (Number least most) word is = (
  refl,
  ap (number_fault (λ n. nat_le least n && nat_le n most)) is.spelled
      ∙ kept-again (nat_le least is.value && nat_le is.value most) OutOfRange (both_true (le-leb least is.value is.low) (le-leb is.value most is.high)),
)
part-again (Multiple least most unit) word is = (
  refl,
  ap (number_fault (λ n. nat_le least n && nat_le n most && is_multiple_of n unit)) is.spelled
      ∙ kept-again (nat_le least is.value && nat_le is.value most && is_multiple_of is.value unit) OutOfRange
      (both_true (both_true (le-leb least is.value is.low) (le-leb is.value most is.high)) is.also_kept),
)
part-again Name word is = (refl, kept-again _ BadName is)
part-again Value word is = (refl, kept-again _ BadValue is)
part-again Hex word is = (refl, kept-again _ BadHex is)
part-again Words word is = (refl, refl)

-- a part that takes all is the last, and takes any word
takes_all-free : (part : Part) (parts : List Part) → takes_all part parts ≡ true → (part ≡ Words) × (parts ≡ [])
takes_all-free Words [] h = (refl, refl)
takes_all-free Words (p ∷ ps) h = absurd (cc)
takes_all-free (Keyword keyword reason) parts h = absurd (cc)
takes_all-free (Refused keyword reason) parts h = absurd (cc)
takes_all-free Site parts h = absurd (cc)
takes_all-free (Number least most) parts h = absurd (cc)
takes_all-free (Multiple least most unit) parts h = absurd (cc)
takes_all-free Name parts h = absurd (cc)
takes_all-free Value parts h = absurd (cc)
takes_all-free Hex parts h = absurd (cc)

-- what is known of words of a form
record Whole (parts : List Part) (ws : List (List ℕ)) (keys : ℕ) : Type 0 where
  taken : takes parts ws ≡ true
  faultless : first_fault parts ws ≡ None
  agree : agreed parts ws ≡ keys

-- how many keywords a form has
abbrev is_key : Option Word → ℕ → ℕ
is_key None later = later
is_key (Some keyword) later = later + 1

abbrev keys : List Part → ℕ
keys [] = 0
keys (part ∷ parts) = is_key (keyword_of part) (keys parts)

agreed-key : (part : Part) (word : List ℕ) (later : ℕ) → IsOfPart part word → agreed_by (keyword_of part) word later ≡ is_key (keyword_of part) later
agreed-key (Keyword keyword reason) word later is = ap (λ (t : Bool). if t then later + 1 else 0) ((bytes_eq-Decides word (keyword_text keyword)).1 is)
agreed-key (Refused keyword reason) word later is = absurd is
agreed-key Site word later is = refl
agreed-key (Number least most) word later is = refl
agreed-key (Multiple least most unit) word later is = refl
agreed-key Name word later is = refl
agreed-key Value word later is = refl
agreed-key Hex word later is = refl
agreed-key Words word later is = refl

-- words of a form are as many as it takes, have no fault, and agree in all keywords
whole : (parts : List Part) (ws : List (List ℕ)) → AreOfForm parts ws → Whole parts ws (keys parts)
whole [] [] of = record { taken = refl; faultless = refl; agree = refl }
whole [] (word ∷ ws) of = absurd of
whole (part ∷ parts) [] of = absurd of
whole (part ∷ parts) (word ∷ ws) of = by (takes_all part parts) refl (λ o. whole parts ws o) of
  where
    last : (p : Part) (ps : List Part) → p ≡ Words → ps ≡ [] → Whole (p ∷ ps) (word ∷ ws) (keys (p ∷ ps))
    last Words [] p q = record { taken = refl; faultless = refl; agree = refl }
    last Words (x ∷ xs) p q = absurd (cc)
    last (Keyword keyword reason) ps p q = absurd (cc)
    last (Refused keyword reason) ps p q = absurd (cc)
    last Site ps p q = absurd (cc)
    last (Number least most) ps p q = absurd (cc)
    last (Multiple least most unit) ps p q = absurd (cc)
    last Name ps p q = absurd (cc)
    last Value ps p q = absurd (cc)
    last Hex ps p q = absurd (cc)

    by : (all : Bool) → takes_all part parts ≡ all → (AreOfForm parts ws → Whole parts ws (keys parts))
        → Unless all (IsOfPart part word × AreOfForm parts ws) → Whole (part ∷ parts) (word ∷ ws) (keys (part ∷ parts))
    by true e rest o = let free = takes_all-free part parts e in last part parts free.0 free.1
    by false e rest o =
        let more = rest o.1 in
        let again = part-again part word o.0 in
        record {
          taken = ap (λ (t : Bool). if t then true else takes parts ws) e ∙ more.taken;
          faultless = ap (λ (a : Option Reason). before_wrong a (operand_fault part word) (first_fault parts ws)) again.0
              ∙ ap (λ (h : Option Reason). before_wrong None h (first_fault parts ws)) again.1 ∙ more.faultless;
          agree = agreed-key part word (agreed parts ws) o.0 ∙ ap (is_key (keyword_of part)) more.agree;
        }

-- in how many keywords another form agrees at most with words of a form
abbrev met : Option Word → Option Word → ℕ → ℕ
met own None later = later
met None (Some other) later = later + 1
met (Some own) (Some other) later = if bytes_eq (keyword_text own) (keyword_text other) then later + 1 else 0

abbrev rival : List Part → List Part → ℕ
rival [] others = 0
rival (part ∷ parts) [] = 0
rival (part ∷ parts) (other ∷ others) = if takes_all part parts then keys (other ∷ others) else met (keyword_of part) (keyword_of other) (rival parts others)

-- no form agrees in more keywords than it has
agreed-most : (parts : List Part) (ws : List (List ℕ)) → agreed parts ws ≤ keys parts
agreed-most [] ws = omega arith
agreed-most (part ∷ parts) [] = omega arith
agreed-most (part ∷ parts) (word ∷ ws) = by (keyword_of part) (agreed-most parts ws)
  where
    hit : (t : Bool) → agreed parts ws ≤ keys parts → (if t then agreed parts ws + 1 else 0) ≤ keys parts + 1
    hit true h = omega arith
    hit false h = omega arith

    by : (o : Option Word) → agreed parts ws ≤ keys parts → agreed_by o word (agreed parts ws) ≤ is_key o (keys parts)
    by None h = h
    by (Some k) h = hit (bytes_eq word (keyword_text k)) h

one_more : (a b : ℕ) (t : Bool) → a ≤ b → (if t then a + 1 else 0) ≤ b + 1
one_more a b true h = omega (arith, h)
one_more a b false h = omega arith

-- one word more
met-bound : (part : Part) (other : Option Word) (word : List ℕ) (a b : ℕ) → IsOfPart part word → a ≤ b → agreed_by other word a ≤ met (keyword_of part) other b
met-bound part None word a b is h = h
met-bound (Keyword own reason) (Some k) word a b is h = subst (λ (w : List ℕ). (if bytes_eq w (keyword_text k) then a + 1 else 0) ≤ (if bytes_eq (keyword_text own) (keyword_text k) then b + 1 else 0)) (sym is) (by (bytes_eq (keyword_text own) (keyword_text k)))
  where
    by : (t : Bool) → (if t then a + 1 else 0) ≤ (if t then b + 1 else 0)
    by true = omega (arith, h)
    by false = omega arith
met-bound (Refused own reason) (Some k) word a b is h = absurd is
met-bound Site (Some k) word a b is h = one_more a b (bytes_eq word (keyword_text k)) h
met-bound (Number least most) (Some k) word a b is h = one_more a b (bytes_eq word (keyword_text k)) h
met-bound (Multiple least most unit) (Some k) word a b is h = one_more a b (bytes_eq word (keyword_text k)) h
met-bound Name (Some k) word a b is h = one_more a b (bytes_eq word (keyword_text k)) h
met-bound Value (Some k) word a b is h = one_more a b (bytes_eq word (keyword_text k)) h
met-bound Hex (Some k) word a b is h = one_more a b (bytes_eq word (keyword_text k)) h
met-bound Words (Some k) word a b is h = one_more a b (bytes_eq word (keyword_text k)) h

rival-bound : (parts others : List Part) (ws : List (List ℕ)) → AreOfForm parts ws → agreed others ws ≤ rival parts others
rival-bound [] [] [] of = omega arith
rival-bound [] (other ∷ others) [] of = omega arith
rival-bound [] others (word ∷ ws) of = absurd of
rival-bound (part ∷ parts) others [] of = absurd of
rival-bound (part ∷ parts) [] (word ∷ ws) of = omega arith
rival-bound (part ∷ parts) (other ∷ others) (word ∷ ws) of = by (takes_all part parts) (λ o. rival-bound parts others ws o) of
  where
    by : (all : Bool) → (AreOfForm parts ws → agreed others ws ≤ rival parts others) → Unless all (IsOfPart part word × AreOfForm parts ws)
        → agreed (other ∷ others) (word ∷ ws) ≤ (if all then keys (other ∷ others) else met (keyword_of part) (keyword_of other) (rival parts others))
    by true rest o = agreed-most (other ∷ others) (word ∷ ws)
    by false rest o = met-bound part (keyword_of other) word (agreed others ws) (rival parts others) o.0 (rest o.1)

-- whether another form may take as many words as words of a form are
abbrev may_take : List Part → List Part → Bool
may_take [] [] = true
may_take [] (other ∷ others) = false
may_take (part ∷ parts) [] = false
may_take (part ∷ parts) (other ∷ others) = if takes_all part parts then true else if takes_all other others then true else may_take parts others

take-bound : (parts others : List Part) (ws : List (List ℕ)) → AreOfForm parts ws → may_take parts others ≡ false → takes others ws ≡ false
take-bound [] [] ws of h = absurd (cc)
take-bound [] (other ∷ others) [] of h = refl
take-bound [] (other ∷ others) (word ∷ ws) of h = absurd of
take-bound (part ∷ parts) others [] of h = absurd of
take-bound (part ∷ parts) [] (word ∷ ws) of h = refl
take-bound (part ∷ parts) (other ∷ others) (word ∷ ws) of h = by (takes_all part parts) (takes_all other others) (λ o k. take-bound parts others ws o k) of h
  where
    by : (all free : Bool) → (AreOfForm parts ws → may_take parts others ≡ false → takes others ws ≡ false) → Unless all (IsOfPart part word × AreOfForm parts ws)
        → (if all then true else if free then true else may_take parts others) ≡ false → (if free then true else takes others ws) ≡ false
    by true free rest o k = absurd (cc)
    by false true rest o k = absurd (cc)
    by false false rest o k = rest o.1 k

-- words of a form are not read by another
abbrev apart : Form → Form → Bool
apart form other = nat_lt (rival (parts_of form) (parts_of other)) (keys (parts_of form))
    || (nat_le (rival (parts_of form) (parts_of other)) (keys (parts_of form)) && not (may_take (parts_of form) (parts_of other)))

record Apart (form other : Form) (ws : List (List ℕ)) : Type 0 where
  fewer : agreed (parts_of other) ws ≤ keys (parts_of form)
  not_read : fits_best (keys (parts_of form)) other ws ≡ false

-- an equation of numbers that fails, or a second test that fails
fails_first : (a b : ℕ) (t : Bool) → a < b → (a == b && t) ≡ false
fails_first a b t less = by (a == b) refl
  where
    by : (s : Bool) → (a == b) ≡ s → (s && t) ≡ false
    by false e = refl
    by true e = absurd (let same = eqb-true a b e in omega (arith, same, less))

fails_second : (s t : Bool) → t ≡ false → (s && t) ≡ false
fails_second true t h = h
fails_second false t h = refl

negated : (t : Bool) → not t ≡ true → t ≡ false
negated true h = absurd (cc)
negated false h = refl

apart-read : (form other : Form) (ws : List (List ℕ)) → AreOfForm (parts_of form) ws → apart form other ≡ true → Apart form other ws
apart-read form other ws of h = by (nat_lt (rival (parts_of form) (parts_of other)) (keys (parts_of form))) refl h
  where
    bound : agreed (parts_of other) ws ≤ rival (parts_of form) (parts_of other)
    bound = rival-bound (parts_of form) (parts_of other) ws of

    by : (t : Bool) → nat_lt (rival (parts_of form) (parts_of other)) (keys (parts_of form)) ≡ t
        → (t || (nat_le (rival (parts_of form) (parts_of other)) (keys (parts_of form)) && not (may_take (parts_of form) (parts_of other)))) ≡ true → Apart form other ws
    by true e k =
        let less : agreed (parts_of other) ws < keys (parts_of form) = omega (arith, bound, ltb-true _ _ e) in
        record { fewer = omega (arith, less); not_read = fails_first (agreed (parts_of other) ws) (keys (parts_of form)) (takes (parts_of other) ws) less }
    by false e k =
        let few = leb-true (rival (parts_of form) (parts_of other)) (keys (parts_of form)) (and_parts _ _ k).0 in
        record {
          fewer = omega (arith, bound, few);
          not_read = fails_second (agreed (parts_of other) ws == keys (parts_of form)) (takes (parts_of other) ws)
              (take-bound (parts_of form) (parts_of other) ws of (negated _ (and_parts _ _ k).1));
        }

-- no words are of two of the forms, and each has a keyword
abbrev pub are_apart : List Form → Bool
are_apart [] = true
are_apart (form ∷ forms) = (nat_lt 0 (keys (parts_of form)) && list_all (λ other. apart form other && apart other form) forms) && are_apart forms

abbrev IsChosen : Form → List Form → List (List ℕ) → Type 0
IsChosen form forms ws = (most_agreed forms ws ≡ keys (parts_of form)) × (fitting (keys (parts_of form)) forms ws ≡ Some form) × (0 < keys (parts_of form))

-- where a form is apart from all others these agree in no more
all-fewer : (form : Form) (forms : List Form) (ws : List (List ℕ)) → AreOfForm (parts_of form) ws → list_all (λ other. apart form other && apart other form) forms ≡ true
    → most_agreed forms ws ≤ keys (parts_of form)
all-fewer form [] ws of h = omega arith
all-fewer form (other ∷ forms) ws of h =
    by (nat_lt (agreed (parts_of other) ws) (most_agreed forms ws)) (apart-read form other ws of (and_parts _ _ (and_parts _ _ h).0).0).fewer (all-fewer form forms ws of (and_parts _ _ h).1)
  where
    by : (t : Bool) → agreed (parts_of other) ws ≤ keys (parts_of form) → most_agreed forms ws ≤ keys (parts_of form)
        → (if t then most_agreed forms ws else agreed (parts_of other) ws) ≤ keys (parts_of form)
    by true a b = b
    by false a b = a

most-of : (a m k : ℕ) → a ≤ k → m ≡ k → (if nat_lt a m then m else a) ≡ k
most-of a m k few same = by (nat_lt a m) refl
  where
    by : (t : Bool) → nat_lt a m ≡ t → (if t then m else a) ≡ k
    by true e = same
    by false e = omega (arith, ltb-false a m e, few, same)

most-own : (a m k : ℕ) → a ≡ k → m ≤ k → (if nat_lt a m then m else a) ≡ k
most-own a m k same few = by (nat_lt a m) refl
  where
    by : (t : Bool) → nat_lt a m ≡ t → (if t then m else a) ≡ k
    by true e = omega (arith, ltb-true a m e, few, same)
    by false e = same

all-at : (form other : Form) (forms : List Form) → list_all (λ o. apart form o && apart o form) forms ≡ true → IsAmong other forms → apart other form ≡ true
all-at form other [] h among = absurd among
all-at form other (first ∷ forms) h (inl same) = subst (λ (o : Form). apart o form ≡ true) same (and_parts _ _ (and_parts _ _ h).0).1
all-at form other (first ∷ forms) h (inr later) = all-at form other forms (and_parts _ _ h).1 later

-- the form of which some words are is chosen
form-again : (form : Form) (forms : List Form) (ws : List (List ℕ)) → AreOfForm (parts_of form) ws → are_apart forms ≡ true → IsAmong form forms → IsChosen form forms ws
form-again form [] ws of h among = absurd among
form-again form (first ∷ forms) ws of h (inl same) = subst (λ (f : Form). AreOfForm (parts_of f) ws → IsChosen f (first ∷ forms) ws) same here of
  where
    here : AreOfForm (parts_of first) ws → IsChosen first (first ∷ forms) ws
    here o =
        let w = whole (parts_of first) ws o in
        let front = (and_parts _ _ h).0 in (
          most-own (agreed (parts_of first) ws) (most_agreed forms ws) (keys (parts_of first)) w.agree (all-fewer first forms ws o (and_parts _ _ front).1),
          ap (λ (t : Bool). if t then Some first else fitting (keys (parts_of first)) forms ws)
              (both_true (eq-eqb (agreed (parts_of first) ws) (keys (parts_of first)) w.agree) w.taken),
          ltb-true 0 (keys (parts_of first)) (and_parts _ _ front).0,
        )
form-again form (first ∷ forms) ws of h (inr later) =
    let rest = form-again form forms ws of (and_parts _ _ h).1 later in
    let other = apart-read form first ws of (all-at first form forms (and_parts _ _ (and_parts _ _ h).0).1 later) in (
      most-of (agreed (parts_of first) ws) (most_agreed forms ws) (keys (parts_of form)) other.fewer rest.0,
      ap (λ (t : Bool). if t then Some first else fitting (keys (parts_of form)) forms ws) other.not_read ∙ rest.1,
      rest.2,
    )

not-zero : (n : ℕ) → 0 < n → (n == 0) ≡ false
not-zero n some = by (n == 0) refl
  where
    by : (t : Bool) → (n == 0) ≡ t → t ≡ false
    by false e = refl
    by true e = absurd (let same = eqb-true n 0 e in omega (arith, same, some))

form-for-again : (form : Form) (forms : List Form) (ws : List (List ℕ)) → IsChosen form forms ws → form_for forms ws ≡ Ok form
form-for-again form forms ws c =
    ap (λ (m : ℕ). if m == 0 then Err UnknownWord else ok_or (fitting m forms ws) WordCount) c.0
    ∙ ap (λ (t : Bool). if t then Err UnknownWord else ok_or (fitting (keys (parts_of form)) forms ws) WordCount) (not-zero _ c.2)
    ∙ ap (λ (o : Option Form). ok_or o WordCount) c.1

-- what some words spell is read
pub line-again : (forms : List Form) (ws : List (List ℕ)) (line : Line) → are_apart forms ≡ true → Spells forms ws line → line_of forms ws ≡ Ok line
line-again forms ws line h s =
    let w = whole (parts_of s.form) ws s.fit in
    ap (λ (o : Result Form Reason). by_form o ws) (form-for-again s.form forms ws (form-again s.form forms ws s.fit h s.among))
    ∙ ap (λ (f : Option Reason). unless_fault f (said s.form ws)) w.faultless
    ∙ ap (unless_fault None) s.line

pub settings-apart : (format : Format) → are_apart (settings_of format) ≡ true
settings-apart One = refl
settings-apart Two = refl

pub choices-apart : are_apart choices_table ≡ true
choices-apart = refl

-- so words of a form are not refused
not_refused : (forms : List Form) (ws : List (List ℕ)) (reason : Reason) (form : Form) (o : Option Line) → are_apart forms ≡ true → Err reason ≡ line_of forms ws
    → IsAmong form forms → AreOfForm (parts_of form) ws → said form ws ≡ o → is_some o ≡ true → ⊥
not_refused forms ws reason form None apart e among of says some = absurd (cc)
not_refused forms ws reason form (Some line) apart e among of says some =
    let clash : Err reason ≡ Ok line = e ∙ line-again forms ws line apart (record { form = form; among = among; fit = of; line = says }) in cc

not_of_form : (forms : List Form) (ws : List (List ℕ)) (r : Result Line Reason) → are_apart forms ≡ true → r ≡ line_of forms ws
    → IfErr r (λ reason. AreOfNone forms ws)
not_of_form forms ws (Ok line) apart e = tt
not_of_form forms ws (Err reason) apart e = λ form among of. not_refused forms ws reason form (said form ws) apart e among of refl (said-some form ws of)

pub no_setting : (format : Format) (ws : List (List ℕ)) (r : Result Line Reason) → r ≡ line_of (settings_of format) ws → IfErr r (λ reason. AreOfNone (settings_of format) ws)
no_setting format ws r e = not_of_form (settings_of format) ws r (settings-apart format) e

pub no_choice : (ws : List (List ℕ)) (r : Result Line Reason) → r ≡ line_of choices_table ws → IfErr r (λ reason. AreOfNone choices_table ws)
no_choice ws r e = not_of_form choices_table ws r choices-apart e
