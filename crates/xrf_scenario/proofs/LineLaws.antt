-- The first line of a text.
use Rattle.std.proofs.Common.{◌≡◌, ◌≢◌, ◌≤◌, ◌<◌, ◌+◌, ◌-◌, ◌==◌, ℕ, suc, Bool, true, false, cond, Some, None, List, [], ◌∷◌, ◌++◌, length, take, drop, get_or, refl, sym, ◌∙◌, ap, subst, nat_lt, arith, eqb-true, eq-eqb}
use Rattle.std.specs.List.{position_or_len, position, slice_split, onto_first, AllByRecursion}
use Rattle.std.proofs.lemmas.Bool.{ltb-false, ltb-true}
use Rattle.std.proofs.Math.Seq.{take-add}
use Rattle.xrf_text.specs.Text.{lines, lines_of_parts, last_line, is_line_feed}
use Rattle.xrf_scenario.specs.Lines.{text_lines, without_returns, without_return}

-- the place of the first line feed, or the length
abbrev feed : List ℕ → ℕ
feed text = position_or_len is_line_feed text

-- bytes none of which is a line feed
abbrev NoFeed : List ℕ → Type 0
NoFeed = AllByRecursion (λ b. is_line_feed b ≡ false)

-- a back one further on
drop-further : (x : ℕ) (xs : List ℕ) (n : ℕ) → drop (1 + n + 1) (x ∷ xs) ≡ drop (n + 1) xs
drop-further x xs n = let e : 1 + n + 1 ≡ suc (n + 1) = omega arith in rw e refl

-- behind a byte that is no feed the first feed is one further on
feed-further : (x : ℕ) (xs : List ℕ) → is_line_feed x ≡ false → feed (x ∷ xs) ≡ 1 + feed xs
feed-further x xs e = rw e refl

-- a feed that is the first byte is the first feed
feed-first : (x : ℕ) (xs : List ℕ) → is_line_feed x ≡ true → feed (x ∷ xs) ≡ 0
feed-first x xs e = rw e refl

-- a text with a line feed: what stands before the first, and what stands behind it
pub record IsCut (text front rest : List ℕ) : Type 0 where
  pub parts : text ≡ front ++ 10 ∷ rest
  pub no_feed : NoFeed front

cut_further : (x : ℕ) (xs front rest : List ℕ) → is_line_feed x ≡ false → IsCut xs front rest → IsCut (x ∷ xs) (x ∷ front) rest
cut_further x xs front rest e more = record { parts = ap (λ (l : List ℕ). x ∷ l) more.parts; no_feed = (e, more.no_feed) }

-- it is cut at the first feed
cut-fed : (text : List ℕ) → feed text < length text → IsCut text (take (feed text) text) (drop (feed text + 1) text)
cut-fed [] h = absurd (omega arith)
cut-fed (x ∷ xs) h = by (is_line_feed x) refl (λ inner. cut-fed xs inner)
  where
    by : (t : Bool) → is_line_feed x ≡ t → (feed xs < length xs → IsCut xs (take (feed xs) xs) (drop (feed xs + 1) xs))
        → IsCut (x ∷ xs) (take (feed (x ∷ xs)) (x ∷ xs)) (drop (feed (x ∷ xs) + 1) (x ∷ xs))
    by true e ih =
        let ten : x ≡ 10 = eqb-true x 10 e in
        subst (λ (n : ℕ). IsCut (x ∷ xs) (take n (x ∷ xs)) (drop (n + 1) (x ∷ xs))) (sym (feed-first x xs e)) (record { parts = ap (λ (b : ℕ). b ∷ xs) ten; no_feed = tt })
    by false e ih =
        let place = feed-further x xs e in
        let inner : feed xs < length xs = omega (arith, place, h) in
        subst (λ (n : ℕ). IsCut (x ∷ xs) (take n (x ∷ xs)) (drop (n + 1) (x ∷ xs))) (sym place)
        (subst (λ (l : List ℕ). IsCut (x ∷ xs) l (drop (1 + feed xs + 1) (x ∷ xs))) (sym (take-add 1 (feed xs) (x ∷ xs)))
        (subst (λ (l : List ℕ). IsCut (x ∷ xs) (x ∷ take (feed xs) xs) l) (sym (drop-further x xs (feed xs))) (cut_further x xs (take (feed xs) xs) (drop (feed xs + 1) xs) e (ih inner))))

-- a text without a feed has none in it
no-feed : (text : List ℕ) → length text ≤ feed text → NoFeed text
no-feed [] h = tt
no-feed (x ∷ xs) h = by (is_line_feed x) refl (λ inner. no-feed xs inner)
  where
    by : (t : Bool) → is_line_feed x ≡ t → (length xs ≤ feed xs → NoFeed xs) → NoFeed (x ∷ xs)
    by true e ih = let place = feed-first x xs e in absurd (omega (arith, place, h))
    by false e ih = let place = feed-further x xs e in let inner : length xs ≤ feed xs = omega (arith, place, h) in (e, ih inner)

-- without a feed nothing is dropped
returns-kept : (text : List ℕ) → NoFeed text → without_returns text ≡ text
returns-kept [] none = refl
returns-kept (x ∷ []) none = refl
returns-kept (x ∷ y ∷ ys) none = by (x == 13) refl (returns-kept (y ∷ ys) none.1)
  where
    by : (t : Bool) → (x == 13) ≡ t → without_returns (y ∷ ys) ≡ y ∷ ys → without_returns (x ∷ y ∷ ys) ≡ x ∷ y ∷ ys
    by true e ih = rw e (rw none.1.0 (ap (λ (l : List ℕ). x ∷ l) ih))
    by false e ih = rw e (ap (λ (l : List ℕ). x ∷ l) ih)

-- before a feed stays
feed-kept : (rest : List ℕ) → without_returns (10 ∷ rest) ≡ 10 ∷ without_returns rest
feed-kept [] = refl
feed-kept (x ∷ xs) = refl

-- before the first feed one carriage return is dropped
returns-dropped : (front rest : List ℕ) → NoFeed front → without_returns (front ++ 10 ∷ rest) ≡ without_return front ++ 10 ∷ without_returns rest
returns-dropped [] rest none = feed-kept rest
returns-dropped (x ∷ []) rest none = by (x == 13) refl
  where
    by : (t : Bool) → (x == 13) ≡ t → without_returns (x ∷ 10 ∷ rest) ≡ without_return (x ∷ []) ++ 10 ∷ without_returns rest
    by true e = rw e (feed-kept rest)
    by false e = rw e (ap (λ (l : List ℕ). x ∷ l) (feed-kept rest))
returns-dropped (x ∷ y ∷ ys) rest none = by (x == 13) refl (returns-dropped (y ∷ ys) rest none.1)
  where
    by : (t : Bool) → (x == 13) ≡ t → without_returns (y ∷ (ys ++ 10 ∷ rest)) ≡ without_return (y ∷ ys) ++ 10 ∷ without_returns rest
        → without_returns (x ∷ y ∷ (ys ++ 10 ∷ rest)) ≡ x ∷ (without_return (y ∷ ys) ++ 10 ∷ without_returns rest)
    by true e ih = rw e (rw none.1.0 (ap (λ (l : List ℕ). x ∷ l) ih))
    by false e ih = rw e (ap (λ (l : List ℕ). x ∷ l) ih)

-- what is left has no feed either
return-no_feed : (front : List ℕ) → NoFeed front → NoFeed (without_return front)
return-no_feed [] none = tt
return-no_feed (x ∷ []) none = by (x == 13) refl
  where
    by : (t : Bool) → (x == 13) ≡ t → NoFeed (without_return (x ∷ []))
    by true e = rw e tt
    by false e = rw e none
return-no_feed (x ∷ y ∷ ys) none = (none.0, return-no_feed (y ∷ ys) none.1)

-- bytes before a feed are the first part
split-fed : (front rest : List ℕ) → NoFeed front → slice_split is_line_feed (front ++ 10 ∷ rest) ≡ front ∷ slice_split is_line_feed rest
split-fed [] rest none = refl
split-fed (x ∷ xs) rest none = rw none.0 (ap (onto_first x) (split-fed xs rest none.1))

split-unfed : (text : List ℕ) → NoFeed text → slice_split is_line_feed text ≡ text ∷ []
split-unfed [] none = refl
split-unfed (x ∷ xs) none = rw none.0 (ap (onto_first x) (split-unfed xs none.1))

-- a text has a part
some_part : (text : List ℕ) → slice_split is_line_feed text ≢ []
some_part [] e = cc
some_part (x ∷ xs) e = by (is_line_feed x) refl e
  where
    onto : (parts : List (List ℕ)) → onto_first x parts ≢ []
    onto [] e = cc
    onto (part ∷ parts) e = cc

    by : (t : Bool) → is_line_feed x ≡ t → slice_split is_line_feed (x ∷ xs) ≢ []
    by true t = λ e. let f : [] ∷ slice_split is_line_feed xs ≡ [] = rw t at e in cc
    by false t = λ e. let f : onto_first x (slice_split is_line_feed xs) ≡ [] = rw t at e in onto (slice_split is_line_feed xs) f

-- the first of several parts is a line
more_parts : (line : List ℕ) (parts : List (List ℕ)) → parts ≢ [] → lines_of_parts (line ∷ parts) ≡ line ∷ lines_of_parts parts
more_parts line [] some = absurd (some refl)
more_parts line (next ∷ parts) some = refl

-- bytes before a feed are the first line
lines-fed : (front rest : List ℕ) → NoFeed front → lines (front ++ 10 ∷ rest) ≡ front ∷ lines rest
lines-fed front rest none = ap lines_of_parts (split-fed front rest none) ∙ more_parts front (slice_split is_line_feed rest) (some_part rest)

last_filled : (text : List ℕ) → text ≢ [] → last_line text ≡ text ∷ []
last_filled [] some = absurd (some refl)
last_filled (x ∷ xs) some = refl

-- the first line of a text with a feed
pub text_lines-fed : (text front rest : List ℕ) → IsCut text front rest → text_lines text ≡ without_return front ∷ text_lines rest
text_lines-fed text front rest cut =
    ap text_lines cut.parts ∙ ap lines (returns-dropped front rest cut.no_feed) ∙ lines-fed (without_return front) (without_returns rest) (return-no_feed front cut.no_feed)

-- a text without a feed is one line
pub text_lines-unfed : (text : List ℕ) → text ≢ [] → NoFeed text → text_lines text ≡ text ∷ []
text_lines-unfed text some none = ap lines (returns-kept text none) ∙ ap lines_of_parts (split-unfed text none) ∙ last_filled text some

-- a first feed that is found stands in the text
found-feed : (text : List ℕ) (n : ℕ) → position is_line_feed text ≡ Some n → (n ≡ feed text) × (feed text < length text)
found-feed text n h = by (nat_lt (feed text) (length text)) refl h
  where
    by : (t : Bool) → nat_lt (feed text) (length text) ≡ t → cond t (Some (feed text)) None ≡ Some n → (n ≡ feed text) × (feed text < length text)
    by true e k = let same : feed text ≡ n = cc in (sym same, ltb-true _ _ e)
    by false e k = absurd (cc)

-- where none is found there is none
none-found : (text : List ℕ) → position is_line_feed text ≡ None → length text ≤ feed text
none-found text h = by (nat_lt (feed text) (length text)) refl h
  where
    by : (t : Bool) → nat_lt (feed text) (length text) ≡ t → cond t (Some (feed text)) None ≡ None → length text ≤ feed text
    by true e k = absurd (cc)
    by false e k = omega (arith, ltb-false)

-- the first line is what stands before the first feed
pub first-fed : (text : List ℕ) (n : ℕ) → position is_line_feed text ≡ Some n → text_lines text ≡ without_return (take n text) ∷ text_lines (drop (n + 1) text)
first-fed text n h =
    let found = found-feed text n h in
    text_lines-fed text (take n text) (drop (n + 1) text) (subst (λ (k : ℕ). IsCut text (take k text) (drop (k + 1) text)) (sym found.0) (cut-fed text found.1))

-- or the whole text
pub first-unfed : (text : List ℕ) → text ≢ [] → position is_line_feed text ≡ None → text_lines text ≡ text ∷ []
first-unfed text some h = text_lines-unfed text some (no-feed text (none-found text h))

-- a last byte that is a carriage return is dropped
last_dropped : (x : ℕ) (xs : List ℕ) → get_or (x ∷ xs) (length xs) 0 ≡ 13 → take (length xs) (x ∷ xs) ≡ without_return (x ∷ xs)
last_dropped x [] e = rw (eq-eqb x 13 e) refl
last_dropped x (y ∷ ys) e = ap (λ (l : List ℕ). x ∷ l) (last_dropped y ys e)

pub return-dropped : (line : List ℕ) → 1 ≤ length line → get_or line (length line - 1) 0 ≡ 13 → take (length line - 1) line ≡ without_return line
return-dropped [] some e = absurd (omega arith)
return-dropped (x ∷ xs) some e =
    let place : length (x ∷ xs) - 1 ≡ length xs = omega arith in
    rw place (last_dropped x xs (rw place at e))

-- and another last byte is kept
last_kept : (x : ℕ) (xs : List ℕ) → get_or (x ∷ xs) (length xs) 0 ≢ 13 → x ∷ xs ≡ without_return (x ∷ xs)
last_kept x [] other = by (x == 13) refl
  where
    by : (t : Bool) → (x == 13) ≡ t → x ∷ [] ≡ without_return (x ∷ [])
    by true e = absurd (other (eqb-true x 13 e))
    by false e = rw e refl
last_kept x (y ∷ ys) other = ap (λ (l : List ℕ). x ∷ l) (last_kept y ys other)

pub return-kept : (line : List ℕ) → 1 ≤ length line → get_or line (length line - 1) 0 ≢ 13 → line ≡ without_return line
return-kept [] some other = absurd (omega arith)
return-kept (x ∷ xs) some other =
    let place : length (x ∷ xs) - 1 ≡ length xs = omega arith in
    last_kept x xs (rw place at other)
