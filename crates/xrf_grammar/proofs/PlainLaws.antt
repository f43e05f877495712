-- What is known of the bytes of a word that is of a part, and of words of a form with a blank between them.
use Rattle.std.proofs.Common.{◌≡◌, ◌≤◌, ◌+◌, ◌&&◌, not, ℕ, Bool, true, false, IsTrue, if◌then◌else◌, nat_le, List, [], ◌∷◌, ◌++◌, length, Some, None, codes, refl, sym, ap, subst, arith}
use Rattle.std.specs.Char.{is_ascii_digit}
use Rattle.std.specs.List.{AllByRecursion, list_all, join_with_byte}
use Rattle.std.specs.Option.{is_some}
use Rattle.std.specs.Str.{bytes_eq}
use Rattle.std.proofs.lemmas.Bool.{leb-true, and_parts}
use Rattle.std.proofs.lemmas.Bool.Decides.{nat_tests}
use Rattle.std.proofs.lemmas.List.{length-append}
use Rattle.std.proofs.lemmas.Option.{cond_some}
use Rattle.std.proofs.lemmas.Slice.Eq.{bytes_eq-Decides}
use Rattle.xrf_base.specs.Names.{is_name_byte}
use Rattle.xrf_base.specs.Values.{is_value_byte}
use Rattle.xrf_base.specs.declared.site.Site.TheVariants.{A, B}
use Rattle.xrf_text.specs.Text.{IsWord}
use Rattle.xrf_grammar.specs.declared.keyword.Keyword.{Keyword as Word}
use Rattle.xrf_grammar.specs.declared.keyword.Keyword.TheVariants as key
use Rattle.xrf_grammar.specs.declared.quantity.Quantity.TheVariants.{Adi}
use Rattle.xrf_grammar.specs.declared.form.Part.{Part}
use Rattle.xrf_grammar.specs.declared.form.Part.TheVariants.{Keyword, Refused, Site, Number, Multiple, Name, Value, Hex, Words}
use Rattle.xrf_grammar.specs.Fitting.{takes_all}
use Rattle.xrf_grammar.specs.Grammar.{IsOfPart, Unless, AreOfForm}
use Rattle.xrf_grammar.specs.Hex.{is_hex, is_hex_digit}
use Rattle.xrf_grammar.specs.Keywords.{keyword_text}
use Rattle.xrf_setup.specs.Ranges.{IsIn}
use Rattle.xrf_grammar.specs.Numbers.{number_of, is_number, value_behind}
use Rattle.xrf_grammar.specs.Operands.{site_of}
use Rattle.xrf_grammar.specs.Plain.{IsPlain}
use Rattle.xrf_grammar.proofs.NumberLaws.{number-parts}
use Rattle.xrf_grammar.proofs.WordLaws.{blank-free, some-word}

-- what passes one test passes another that follows
list_all-then : (one other : ℕ → Bool) → ((b : ℕ) → one b ≡ true → other b ≡ true) → (text : List ℕ) → list_all one text ≡ true → list_all other text ≡ true
list_all-then one other follows [] h = refl
list_all-then one other follows (b ∷ bs) h =
    rw (follows b (and_parts (one b) (list_all one bs) h).0) (list_all-then one other follows bs (and_parts (one b) (list_all one bs) h).1)

-- 1 to so many bytes from `!` to `~`
record IsShown (most : ℕ) (word : List ℕ) : Type 0 where
  some : 1 ≤ length word
  few : length word ≤ most
  bytes : list_all is_value_byte word ≡ true

-- a text of so many bytes that pass a test
abbrev is_sized : (ℕ → Bool) → ℕ → List ℕ → Bool
is_sized test most text = nat_le 1 (length text) && nat_le (length text) most && list_all test text

-- such a text is shown where no byte outside `!` to `~` passes
sized-shown : (test : ℕ → Bool) (most : ℕ) (text : List ℕ) → ((b : ℕ) → test b ≡ true → is_value_byte b ≡ true) → is_sized test most text ≡ true → IsShown most text
sized-shown test most text follows h =
    let size = (and_parts (nat_le 1 (length text) && nat_le (length text) most) (list_all test text) h).0 in
    record {
      some = leb-true 1 (length text) (and_parts (nat_le 1 (length text)) (nat_le (length text) most) size).0;
      few = leb-true (length text) most (and_parts (nat_le 1 (length text)) (nat_le (length text) most) size).1;
      bytes = list_all-then test is_value_byte follows text (and_parts (nat_le 1 (length text) && nat_le (length text) most) (list_all test text) h).1;
    }

-- A to Z
abbrev is_capital : ℕ → Bool
is_capital b = nat_le 65 b && nat_le b 90

-- capital letters are from `!` to `~`
capital-shown : (b : ℕ) → is_capital b ≡ true → is_value_byte b ≡ true
capital-shown b h = grind (arith, nat_tests)

-- digits are
digit-shown : (b : ℕ) → is_ascii_digit b ≡ true → is_value_byte b ≡ true
digit-shown b h = grind (arith, nat_tests)

-- bytes of names are
name-shown : (b : ℕ) → is_name_byte b ≡ true → is_value_byte b ≡ true
name-shown b h = grind (arith, nat_tests)

-- hex digits are
hex-shown : (b : ℕ) → is_hex_digit b ≡ true → is_value_byte b ≡ true
hex-shown b h = grind (arith, nat_tests)

-- a keyword is 1 to 12 capital letters
keyword-is : (keyword : Word) → is_sized is_capital 12 (keyword_text keyword) ≡ true
keyword-is key.Applid = refl
keyword-is (key.Quantity Adi) = refl
keyword-is (key.Quantity _) = refl
keyword-is _ = refl

-- the word of a site is one byte from `!` to `~`
site-shown : (word : List ℕ) → IsTrue (is_some (site_of word)) → IsShown 1 word
site-shown word h = by (bytes_eq word (codes "A")) (bytes_eq word (codes "B")) refl refl h
  where
    by : (a b : Bool) → bytes_eq word (codes "A") ≡ a → bytes_eq word (codes "B") ≡ b → is_some (if a then Some A else if b then Some B else None) ≡ true → IsShown 1 word
    by true b e f k = subst (IsShown 1) (sym ((bytes_eq-Decides word (codes "A")).0 e)) record { some = omega arith; few = omega arith; bytes = refl }
    by false true e f k = subst (IsShown 1) (sym ((bytes_eq-Decides word (codes "B")).0 f)) record { some = omega arith; few = omega arith; bytes = refl }
    by false false e f k = absurd (cc)

-- the word of a number is 1 to 5 such bytes
number-shown : (word : List ℕ) (n : ℕ) → number_of word ≡ Some n → IsShown 5 word
number-shown word n h =
    let is = number-parts word (cond_some (is_number word) (value_behind 0 word) n h).0 in
    record { some = is.some; few = is.few; bytes = list_all-then is_ascii_digit is_value_byte digit-shown word is.digits }

-- a text in hex is 1 to 126 hex digits
hex-whole : (word : List ℕ) → is_hex word ≡ true → is_sized is_hex_digit 126 word ≡ true
hex-whole word h =
    rw (and_parts (nat_le 1 (length word) && nat_le (length word) 126) _ (and_parts _ (list_all is_hex_digit word) h).0).0 (and_parts _ (list_all is_hex_digit word) h).1

-- how many bytes a word of a part has at most
abbrev widest : Part → ℕ
widest (Keyword keyword reason) = 12
widest (Refused keyword reason) = 12
widest Site = 1
widest (Number least most) = 5
widest (Multiple least most unit) = 5
widest Name = 8
widest Value = 24
widest Hex = 126
widest Words = 0

-- a part that takes any words
abbrev is_any : Part → Bool
is_any Words = true
is_any _ = false

-- a word that is of a part is shown, with at most so many bytes
part-shown : (part : Part) (word : List ℕ) → is_any part ≡ false → IsOfPart part word → IsShown (widest part) word
part-shown (Keyword keyword reason) word one is = subst (IsShown 12) (sym is) (sized-shown is_capital 12 (keyword_text keyword) capital-shown (keyword-is keyword))
part-shown (Refused keyword reason) word one is = absurd is
part-shown Site word one is = site-shown word is
part-shown (Number least most) word one is = number-shown word is.value is.spelled
part-shown (Multiple least most unit) word one is = number-shown word is.value is.spelled
part-shown Name word one is = sized-shown is_name_byte 8 word name-shown is
part-shown Value word one is = sized-shown is_value_byte 24 word (λ b h. h) is
part-shown Hex word one is = sized-shown is_hex_digit 126 word hex-shown (hex-whole word is)
part-shown Words word one is = absurd (cc)

-- what is shown is a word
shown-word : (most : ℕ) (word : List ℕ) → IsShown most word → IsWord word
shown-word most word is = record { some = some-word word is.some; no_blank = blank-free is_value_byte refl word is.bytes }

-- what is known of words with a blank between them
record IsJoined (most : ℕ) (ws : List (List ℕ)) : Type 0 where
  are_words : AllByRecursion IsWord ws
  bytes : AllByRecursion (IsIn 32 126) (join_with_byte 32 ws)
  few : length (join_with_byte 32 ws) ≤ most

-- its bytes are from blank to `~`
shown-bytes : (text : List ℕ) → list_all is_value_byte text ≡ true → AllByRecursion (IsIn 32 126) text
shown-bytes [] h = tt
shown-bytes (b ∷ bs) h =
    let here = (and_parts (is_value_byte b) (list_all is_value_byte bs) h).0 in
    let low = leb-true 33 b (and_parts (nat_le 33 b) (nat_le b 126) here).0 in
    ((omega (arith, low), leb-true b 126 (and_parts (nat_le 33 b) (nat_le b 126) here).1), shown-bytes bs (and_parts (is_value_byte b) (list_all is_value_byte bs) h).1)

-- where the bytes of two texts are, those of both in a row are
both-bytes : (one other : List ℕ) → AllByRecursion (IsIn 32 126) one → AllByRecursion (IsIn 32 126) other → AllByRecursion (IsIn 32 126) (one ++ other)
both-bytes [] other h k = k
both-bytes (b ∷ bs) other h k = (h.0, both-bytes bs other h.1 k)

-- one word more is joined with at most so many bytes more
more-joined : (wide most : ℕ) (word : List ℕ) (ws : List (List ℕ)) → IsShown wide word → IsJoined most ws → IsJoined (wide + 1 + most) (word ∷ ws)
more-joined wide most word [] is rest =
    let few = is.few in
    record { are_words = (shown-word wide word is, tt); bytes = shown-bytes word is.bytes; few = omega (arith, few) }
more-joined wide most word (next ∷ more) is rest =
    let size = length-append word (32 ∷ join_with_byte 32 (next ∷ more)) in
    let few = is.few in
    let others = rest.few in
    record {
      are_words = (shown-word wide word is, rest.are_words);
      bytes = both-bytes word (32 ∷ join_with_byte 32 (next ∷ more)) (shown-bytes word is.bytes) ((omega arith, omega arith), rest.bytes);
      few = omega (arith, size, few, others);
    }

-- how many bytes words of a form and the blanks between them have at most
abbrev widest_of : List Part → ℕ
widest_of [] = 0
widest_of (part ∷ parts) = widest part + 1 + widest_of parts

-- no part of the form takes any words
abbrev is_closed : List Part → Bool
is_closed [] = true
is_closed (part ∷ parts) = not (is_any part) && is_closed parts

-- what is not known to take any words does not
is_any-not : (part : Part) → not (is_any part) ≡ true → is_any part ≡ false
is_any-not Words h = absurd (cc)
is_any-not _ h = refl

-- any other part takes one word
one-each : (part : Part) (parts : List Part) → is_any part ≡ false → takes_all part parts ≡ false
one-each Words parts h = absurd (cc)
one-each _ parts h = refl

-- words of a form are joined with at most so many bytes
form-joined : (parts : List Part) (ws : List (List ℕ)) → is_closed parts ≡ true → AreOfForm parts ws → IsJoined (widest_of parts) ws
form-joined [] [] closed of = record { are_words = tt; bytes = tt; few = omega arith }
form-joined [] (word ∷ ws) closed of = absurd of
form-joined (part ∷ parts) [] closed of = absurd of
form-joined (part ∷ parts) (word ∷ ws) closed of =
    let one = is_any-not part (and_parts (not (is_any part)) (is_closed parts) closed).0 in
    let fit : IsOfPart part word × AreOfForm parts ws = subst (λ (t : Bool). Unless t (IsOfPart part word × AreOfForm parts ws)) (one-each part parts one) of in
    more-joined (widest part) (widest_of parts) word ws (part-shown part word one fit.0)
    (form-joined parts ws (and_parts (not (is_any part)) (is_closed parts) closed).1 fit.1)

-- the form begins with a keyword
abbrev is_headed : List Part → Bool
is_headed (Keyword keyword reason ∷ parts) = true
is_headed _ = false

-- a form that begins with a keyword, has a part for each word, and is of at most 300 bytes
abbrev pub is_short : List Part → Bool
is_short parts = is_headed parts && is_closed parts && nat_le (widest_of parts) 300

-- words of such a form are words
pub form-words : (parts : List Part) (ws : List (List ℕ)) → is_short parts ≡ true → AreOfForm parts ws → AllByRecursion IsWord ws
form-words parts ws short of = (form-joined parts ws (and_parts (is_headed parts) (is_closed parts) (and_parts (is_headed parts && is_closed parts) _ short).0).1 of).are_words

-- what begins with a capital letter
record Starts (text : List ℕ) : Type 0 where
  first : ℕ
  rest : List ℕ
  starts : text ≡ first ∷ rest
  letter : IsIn 65 90 first

-- a text of capital letters does
capital-starts : (text : List ℕ) → is_sized is_capital 12 text ≡ true → Starts text
capital-starts [] h = absurd (cc)
capital-starts (b ∷ bs) h =
    let capital = (and_parts (is_capital b) (list_all is_capital bs) (and_parts _ (list_all is_capital (b ∷ bs)) h).1).0 in
    record { first = b; rest = bs; starts = refl; letter = (leb-true 65 b (and_parts (nat_le 65 b) (nat_le b 90) capital).0, leb-true b 90 (and_parts (nat_le 65 b) (nat_le b 90) capital).1) }

-- words do where the first does
joined-starts : (word : List ℕ) (ws : List (List ℕ)) → Starts word → Starts (join_with_byte 32 (word ∷ ws))
joined-starts word [] h = h
joined-starts word (next ∷ more) h =
    record { first = h.first; rest = h.rest ++ 32 ∷ join_with_byte 32 (next ∷ more); starts = ap (λ (t : List ℕ). t ++ 32 ∷ join_with_byte 32 (next ∷ more)) h.starts; letter = h.letter }

-- words of a form that begins with a keyword do
form-starts : (parts : List Part) (ws : List (List ℕ)) → is_headed parts ≡ true → AreOfForm parts ws → Starts (join_with_byte 32 ws)
form-starts (Keyword keyword reason ∷ parts) (word ∷ ws) headed of = joined-starts word ws (subst Starts (sym of.0) (capital-starts (keyword_text keyword) (keyword-is keyword)))
form-starts (Keyword keyword reason ∷ parts) [] headed of = absurd of
form-starts _ ws headed of = absurd (cc)

-- words of such a form, with a blank between them, are a plain line
pub form-plain : (parts : List Part) (ws : List (List ℕ)) → is_short parts ≡ true → AreOfForm parts ws → IsPlain (join_with_byte 32 ws)
form-plain parts ws short of =
    let front = (and_parts (is_headed parts && is_closed parts) (nat_le (widest_of parts) 300) short).0 in
    let joined = form-joined parts ws (and_parts (is_headed parts) (is_closed parts) front).1 of in
    let begins = form-starts parts ws (and_parts (is_headed parts) (is_closed parts) front).0 of in
    let most = leb-true (widest_of parts) 300 (and_parts (is_headed parts && is_closed parts) (nat_le (widest_of parts) 300) short).1 in
    let few = joined.few in
    record { first = begins.first; rest = begins.rest; starts = begins.starts; letter = begins.letter; bytes = joined.bytes; short = omega (arith, most, few) }
