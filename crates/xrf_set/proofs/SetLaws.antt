-- A set text is read in one way, no text is both read and refused, and it is refused in one way.
use Rattle.std.proofs.Common.{◌≡◌, inl, inr, ℕ, suc, ◌+◌, List, [], ◌∷◌, ◌++◌, length, Result, Ok, Err, refl, sym, ◌∙◌, ap, subst, arith}
use Rattle.std.proofs.lemmas.Grind.{common_steps}
use Rattle.xrf_grammar.specs.declared.reason.Reason.{Reason}
use Rattle.xrf_scenario.specs.Lines.{text_lines}
use Rattle.xrf_set.specs.Machine.{set_step}
use Rattle.xrf_set.specs.Reading.{SetSays, HasBadSetLine, OneSet, NeverBothSet, OneBadSet}
use Rattle.xrf_set.specs.SetSoFar.{SetSoFar, nothing_set, head_of, is_closed}
use Rattle.xrf_set.specs.declared.set_line.SetKind.{SetKind}

abbrev Step : Type 0
Step = Result SetSoFar Reason

same-ok : (a b : SetSoFar) (o : Step) → o ≡ Ok a → o ≡ Ok b → a ≡ b
same-ok a b o is is' = grind (arith, common_steps)

same-err : (a b : Reason) (o : Step) → o ≡ Err a → o ≡ Err b → a ≡ b
same-err a b o is is' = grind (arith, common_steps)

not-both : (a : SetSoFar) (b : Reason) (o : Step) → o ≡ Ok a → o ≡ Err b → ⊥
not-both a b o is is' = absurd (cc (sym is ∙ is'))

-- lines say one thing
says-one : (kind : SetKind) (count : ℕ) (ss : SetSoFar) (lines : List (List ℕ)) (last last' : SetSoFar) → SetSays kind count ss lines last → SetSays kind count ss lines last'
    → last ≡ last'
says-one kind count ss [] last last' is is' = is ∙ sym is'
says-one kind count ss (line ∷ lines) last last' (next, (step, more)) (next', (step', more')) =
    let same : next' ≡ next = same-ok next' next (set_step kind (count + 1) ss line) step' step in
    says-one kind (count + 1) next lines last last' more (subst (λ (s : SetSoFar). SetSays kind (count + 1) s lines last') same more')

-- a text whose lines all say something has no bad line
next-count : (count n : ℕ) → count + suc n + 1 ≡ count + 1 + n + 1
next-count count n = omega arith

never : (kind : SetKind) (count : ℕ) (ss : SetSoFar) (before : List (List ℕ)) (bad : List ℕ) (rest : List (List ℕ)) (last mid : SetSoFar) (reason : Reason)
    → SetSays kind count ss (before ++ bad ∷ rest) last → SetSays kind count ss before mid → set_step kind (count + length before + 1) mid bad ≡ Err reason → ⊥
never kind count ss [] bad rest last mid reason (next, (step, more)) is refused =
    not-both next reason (set_step kind (count + 1) ss bad) step
    (subst (λ (s : SetSoFar). set_step kind (count + 1) s bad ≡ Err reason) is (subst (λ (n : ℕ). set_step kind (n + 1) mid bad ≡ Err reason) (plus-none count) refused))
  where
    plus-none : (n : ℕ) → n + 0 ≡ n
    plus-none n = omega arith
never kind count ss (line ∷ before) bad rest last mid reason (next, (step, more)) (next', (step', more')) refused =
    let same : next' ≡ next = same-ok next' next (set_step kind (count + 1) ss line) step' step in
    never kind (count + 1) next before bad rest last mid reason more (subst (λ (s : SetSoFar). SetSays kind (count + 1) s before mid) same more')
    (subst (λ (n : ℕ). set_step kind n mid bad ≡ Err reason) (next-count count (length before)) refused)

-- a text has one first bad line
same-head : (a b : List ℕ) (t u : List (List ℕ)) → a ∷ t ≡ b ∷ u → (a ≡ b) × (t ≡ u)
same-head a b t u same = grind (arith, common_steps)

abbrev OneBad : ℕ → ℕ → Reason → Reason → Type 0
OneBad n n' reason reason' = (n ≡ n') × (reason ≡ reason')

plus-nothing : (n : ℕ) → n + 0 ≡ n
plus-nothing n = omega arith

one-bad : (kind : SetKind) (count : ℕ) (ss : SetSoFar) (before before' : List (List ℕ)) (bad bad' : List ℕ) (rest rest' : List (List ℕ)) (mid mid' : SetSoFar) (reason reason' : Reason)
    → before ++ bad ∷ rest ≡ before' ++ bad' ∷ rest' → SetSays kind count ss before mid → SetSays kind count ss before' mid'
    → set_step kind (count + length before + 1) mid bad ≡ Err reason → set_step kind (count + length before' + 1) mid' bad' ≡ Err reason'
    → OneBad (length before) (length before') reason reason'
one-bad kind count ss [] [] bad bad' rest rest' mid mid' reason reason' same is is' refused refused' =
    let here = same-head bad bad' rest rest' same in
    let one : set_step kind (count + 0 + 1) ss bad' ≡ Err reason =
    subst (λ (b : List ℕ). set_step kind (count + 0 + 1) ss b ≡ Err reason) here.0 (subst (λ (s : SetSoFar). set_step kind (count + 0 + 1) s bad ≡ Err reason) is refused) in
    (refl, same-err reason reason' (set_step kind (count + 0 + 1) ss bad') one (subst (λ (s : SetSoFar). set_step kind (count + 0 + 1) s bad' ≡ Err reason') is' refused'))
one-bad kind count ss [] (line ∷ before') bad bad' rest rest' mid mid' reason reason' same is (next, (step, more)) refused refused' =
    let here = same-head bad line rest (before' ++ bad' ∷ rest') same in
    absurd (not-both next reason (set_step kind (count + 1) ss line) step
    (subst (λ (b : List ℕ). set_step kind (count + 1) ss b ≡ Err reason) here.0
    (subst (λ (s : SetSoFar). set_step kind (count + 1) s bad ≡ Err reason) is (subst (λ (n : ℕ). set_step kind (n + 1) mid bad ≡ Err reason) (plus-nothing count) refused))))
one-bad kind count ss (line ∷ before) [] bad bad' rest rest' mid mid' reason reason' same (next, (step, more)) is' refused refused' =
    let here = same-head bad' line rest' (before ++ bad ∷ rest) (sym same) in
    absurd (not-both next reason' (set_step kind (count + 1) ss line) step
    (subst (λ (b : List ℕ). set_step kind (count + 1) ss b ≡ Err reason') here.0
    (subst (λ (s : SetSoFar). set_step kind (count + 1) s bad' ≡ Err reason') is' (subst (λ (n : ℕ). set_step kind (n + 1) mid' bad' ≡ Err reason') (plus-nothing count) refused'))))
one-bad kind count ss (line ∷ before) (line' ∷ before') bad bad' rest rest' mid mid' reason reason' same (next, (step, more)) (next', (step', more')) refused refused' =
    let here = same-head line line' (before ++ bad ∷ rest) (before' ++ bad' ∷ rest') same in
    let stepped : set_step kind (count + 1) ss line ≡ Ok next' = subst (λ (b : List ℕ). set_step kind (count + 1) ss b ≡ Ok next') (sym here.0) step' in
    let next_same : next' ≡ next = same-ok next' next (set_step kind (count + 1) ss line) stepped step in
    let one = one-bad kind (count + 1) next before before' bad bad' rest rest' mid mid' reason reason' here.1 more
    (subst (λ (s : SetSoFar). SetSays kind (count + 1) s before' mid') next_same more')
    (subst (λ (n : ℕ). set_step kind n mid bad ≡ Err reason) (next-count count (length before)) refused)
    (subst (λ (n : ℕ). set_step kind n mid' bad' ≡ Err reason') (next-count count (length before')) refused') in
    (ap (λ (n : ℕ). suc n) one.0, one.1)

pub one_set : OneSet
one_set kind text head head' scenarios scenarios' lines lines' reads reads' =
    let same = says-one kind 0 nothing_set (text_lines text) reads.last reads'.last reads.said reads'.said in (
      reads.is_head ∙ ap (λ (s : SetSoFar). head_of s.head) same ∙ sym reads'.is_head,
      reads.are_pairs ∙ ap (λ (s : SetSoFar). s.scenarios) same ∙ sym reads'.are_pairs,
      reads.is_script ∙ ap (λ (s : SetSoFar). s.lines) same ∙ sym reads'.is_script,
    )

from-none : (n : ℕ) → n + 1 ≡ 0 + n + 1
from-none n = omega arith

-- the step of the first bad line
refused-at : (kind : SetKind) (text : List ℕ) (number : ℕ) (reason : Reason) (bad : HasBadSetLine kind text number reason)
    → set_step kind (0 + length bad.before + 1) bad.ss bad.bad ≡ Err reason
refused-at kind text number reason bad = subst (λ (n : ℕ). set_step kind n bad.ss bad.bad ≡ Err reason) (from-none (length bad.before)) bad.refused

-- all lines say something, and one is bad
all-and-bad : (kind : SetKind) (text : List ℕ) (last : SetSoFar) (number : ℕ) (reason : Reason) → SetSays kind 0 nothing_set (text_lines text) last
    → HasBadSetLine kind text number reason → ⊥
all-and-bad kind text last number reason said bad =
    never kind 0 nothing_set bad.before bad.bad bad.rest last bad.ss reason (subst (λ (all : List (List ℕ)). SetSays kind 0 nothing_set all last) bad.spelled said) bad.said
    (refused-at kind text number reason bad)

pub never_both_set : NeverBothSet
never_both_set kind text head scenarios lines number reason reads (inl bad) = all-and-bad kind text reads.last number reason reads.said bad
never_both_set kind text head scenarios lines number reason reads (inr early) =
    let same = says-one kind 0 nothing_set (text_lines text) reads.last early.last reads.said early.said in
    absurd (cc (sym reads.whole ∙ ap (λ (s : SetSoFar). is_closed s.stage) same ∙ early.early))

pub one_bad_set : OneBadSet
one_bad_set kind text number number' reason reason' (inl bad) (inl bad') =
    let one = one-bad kind 0 nothing_set bad.before bad'.before bad.bad bad'.bad bad.rest bad'.rest bad.ss bad'.ss reason reason' (sym bad.spelled ∙ bad'.spelled) bad.said bad'.said
    (refused-at kind text number reason bad) (refused-at kind text number' reason' bad') in
    (bad.place ∙ ap (λ (n : ℕ). n + 1) one.0 ∙ sym bad'.place, one.1)
one_bad_set kind text number number' reason reason' (inl bad) (inr early) = absurd (all-and-bad kind text early.last number reason early.said bad)
one_bad_set kind text number number' reason reason' (inr early) (inl bad) = absurd (all-and-bad kind text early.last number' reason' early.said bad)
one_bad_set kind text number number' reason reason' (inr early) (inr early') = (early.place ∙ sym early'.place, early.no_end ∙ sym early'.no_end)
