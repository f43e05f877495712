-- What is written of the choices says these, each at the number of its line.
use Rattle.std.proofs.Common.{◌≡◌, ◌≤◌, ◌<◌, ◌+◌, ℕ, suc, Bool, true, if◌then◌else◌, Ok, Err, List, [], ◌∷◌, ◌++◌, length, map, refl, sym, ◌∙◌, ap, arith, subst}
use Rattle.std.specs.List.{AllByRecursion}
use Rattle.std.proofs.lemmas.Bool.{le-leb}
use Rattle.xrf_text.specs.Text.{words}
use Rattle.xrf_setup.specs.declared.choice.Choice.{Choice}
use Rattle.xrf_grammar.specs.declared.line.Line.TheVariants.{Choices, Once, End}
use Rattle.xrf_grammar.specs.declared.reason.Reason.TheVariants.{RrnRange}
use Rattle.xrf_grammar.specs.LineText.{line_text}
use Rattle.xrf_grammar.specs.Spelling.{choice_text}
use Rattle.xrf_setup.specs.Choices.{HasLine}
use Rattle.xrf_scenario.specs.Canonical.{choice_lines, numbered_from, AreChoices}
use Rattle.xrf_scenario.specs.Reading.{Says, SaysAll}
use Rattle.xrf_scenario.specs.SoFar.{SoFar}
use Rattle.xrf_scenario.specs.Taking.{take, with_room, numbered, are_within}
use Rattle.xrf_scenario.specs.declared.section.Section.TheVariants.{Settings, Making, Whole}
use Rattle.xrf_scenario.specs.declared.numbered.Numbered.{Numbered}
use Rattle.xrf_scenario.proofs.StepLaws.{setting-written, choosing-written, both-say, all-at, all-say}
use Rattle.xrf_scenario.proofs.WorkLaws.{before-fewer}

-- one choice more has the next number
numbered-more : (number : ℕ) (done : List Choice) (c : Choice) → numbered_from number (done ++ c ∷ []) ≡ numbered_from number done ++ numbered (number + length done) c ∷ []
numbered-more number [] c = ap (λ (n : ℕ). numbered n c ∷ []) (omega arith)
numbered-more number (first ∷ done) c =
    ap (λ (cs : List Numbered). numbered number first ∷ cs)
    (numbered-more (number + 1) done c ∙ ap (λ (n : ℕ). numbered_from (number + 1) done ++ numbered n c ∷ []) (omega arith))

-- as many choices have numbers as there are
numbered-length : (number : ℕ) (choices : List Choice) → length (numbered_from number choices) ≡ length choices
numbered-length number [] = refl
numbered-length number (c ∷ choices) = ap (λ (n : ℕ). suc n) (numbered-length (number + 1) choices)

-- what is said, with other choices
abbrev pub with_choices : SoFar → List Numbered → SoFar
with_choices so choices = record so { choices = choices }

-- a choice comes where there is room for one
choice-taken : (first number : ℕ) (so : SoFar) (ws : List (List ℕ)) (done : List Choice) (c : Choice) → number ≡ first + length done → length done < 8192
    → take number (with_choices so (numbered_from first done)) ws (Once c) ≡ Ok (with_choices so (numbered_from first (done ++ c ∷ [])))
choice-taken first number so ws done c at room =
    let few : length (numbered_from first done) + 1 ≤ 8192 = omega (arith, room, numbered-length first done) in
    ap (λ (t : Bool). with_room t (with_choices so (numbered_from first done ++ numbered number c ∷ []))) (le-leb (length (numbered_from first done) + 1) 8192 few)
    ∙ ap (λ (n : ℕ). Ok (with_choices so (numbered_from first done ++ numbered n c ∷ []))) at
    ∙ ap (λ (cs : List Numbered). Ok (with_choices so cs)) (sym (numbered-more first done c))

-- what is written of some choices says these
made-say : (count : ℕ) (so : SoFar) (choices : List Choice) → so.section ≡ Making → AreChoices choices
    → SaysAll count (with_choices so []) (map choice_text choices) (with_choices so (numbered_from (count + 1) choices))
made-say count so choices section are = all-say count choice_text (λ (done : List Choice). with_choices so (numbered_from (count + 1) done)) choices says
  where
    says : (done : List Choice) (c : Choice) (rest : List Choice) → choices ≡ done ++ c ∷ rest
        → Says (count + length done + 1) (with_choices so (numbered_from (count + 1) done)) (choice_text c) (with_choices so (numbered_from (count + 1) (done ++ c ∷ [])))
    says done c rest split =
        let before : SoFar = with_choices so (numbered_from (count + 1) done) in
        let is : HasLine c = all-at HasLine done c rest (subst (AllByRecursion HasLine) split are.each) in
        let fewer = before-fewer choices done c rest split in
        let few : length choices ≤ 8192 = are.few in
        choosing-written (count + length done + 1) before (Once c) (with_choices so (numbered_from (count + 1) (done ++ c ∷ []))) section is
        (choice-taken (count + 1) (count + length done + 1) so (words (choice_text c)) done c (omega arith) (omega (arith, fewer, few)))

-- what is said to the end
abbrev pub ended : SoFar → List Numbered → SoFar
ended so choices = record so { section = Whole; choices = choices }

-- What is written of CHOICES, the choices and END says these, each at the number of its line.
pub choices-say : (count : ℕ) (so : SoFar) (choices : List Choice) → so.section ≡ Settings → so.choices ≡ [] → are_within so ≡ true → AreChoices choices
    → SaysAll count so (choice_lines choices) (ended so (numbered_from (count + 2) choices))
choices-say count so choices section none within are =
    let making : SoFar = record so { section = Making } in
    let made : SoFar = with_choices making (numbered_from (count + 1 + 1) choices) in
    let start : SaysAll (count + 1) making (map choice_text choices) made =
    subst (λ (cs : List Numbered). SaysAll (count + 1) (with_choices making cs) (map choice_text choices) made) (sym none) (made-say (count + 1) making choices refl are) in
    let number : count + 1 + 1 ≡ count + 2 = omega arith in (
      making,
      (
        setting-written (count + 1) so Choices making section tt (ap (λ (t : Bool). if t then Ok making else Err RrnRange) within),
        both-say (count + 1) making (map choice_text choices) (line_text End ∷ []) made (ended so (numbered_from (count + 2) choices)) start (
          ended so (numbered_from (count + 1 + 1) choices),
          (
            choosing-written _ made End (ended so (numbered_from (count + 1 + 1) choices)) refl tt refl,
            ap (λ (n : ℕ). ended so (numbered_from n choices)) (sym number),
          ),
        ),
      ),
    )
