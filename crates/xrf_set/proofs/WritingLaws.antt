-- What is appended part by part is the canonical text.
use Rattle.std.proofs.Common.{◌≡◌, ◌<◌, ℕ, ◌+◌, List, [], ◌∷◌, ◌++◌, codes, length, take, get_or, append_assoc, append-nil, sym, ◌∙◌, ap, arith}
use Rattle.std.proofs.lemmas.List.{take_more, length-take-le}
use Rattle.std.specs.Fmt.{decimal}
use Rattle.xrf_grammar.specs.LineText.{line_text}
use Rattle.xrf_grammar.specs.declared.line.Line.TheVariants.{Choices}
use Rattle.xrf_scenario.proofs.TextLaws.{text-both}
use Rattle.xrf_scenario.specs.Canonical.{fed, text_of, scenario_lines}
use Rattle.xrf_set.specs.Canonical.{pair_lines, pairs_lines}
use Rattle.xrf_setup.specs.Scenario.{Scen}

-- lines behind what was there, and more behind these
both-written : (o a b : List ℕ) (ls ms : List (List ℕ)) → a ≡ o ++ text_of ls → b ≡ a ++ text_of ms → b ≡ o ++ text_of (ls ++ ms)
both-written o a b ls ms first second =
    second ∙ ap (λ (t : List ℕ). t ++ text_of ms) first ∙ append_assoc o (text_of ls) (text_of ms) ∙ ap (λ (t : List ℕ). o ++ t) (sym (text-both ls ms))

-- the text of one line
one-line : (line : List ℕ) → fed line ≡ text_of (line ∷ [])
one-line line = sym (append-nil (fed line))

-- the number of a pair, its scenario and CHOICES
pub pair_written : (o a b c : List ℕ) (k : ℕ) (s : Scen) → a ≡ o ++ fed (codes "PAIR " ++ decimal k) → b ≡ a ++ text_of (scenario_lines s) → c ≡ b ++ fed (line_text Choices)
    → c ≡ o ++ text_of (pair_lines k s)
pair_written o a b c k s number scenario choices =
    let title : List (List ℕ) = (codes "PAIR " ++ decimal k) ∷ [] in
    both-written o b c (title ++ scenario_lines s) (line_text Choices ∷ [])
    (both-written o a b title (scenario_lines s) (number ∙ ap (λ (t : List ℕ). o ++ t) (one-line (codes "PAIR " ++ decimal k))) scenario)
    (choices ∙ ap (λ (t : List ℕ). b ++ t) (one-line (line_text Choices)))

-- one pair more has the next number
pairs-more : (k : ℕ) (done : List Scen) (s : Scen) → pairs_lines k (done ++ s ∷ []) ≡ pairs_lines k done ++ pair_lines (k + length done) s
pairs-more k [] s = append-nil (pair_lines k s) ∙ ap (λ (n : ℕ). pair_lines n s) (omega arith)
pairs-more k (first ∷ done) s =
    ap (λ (ls : List (List ℕ)). pair_lines k first ++ ls) (pairs-more (k + 1) done s ∙ ap (λ (n : ℕ). pairs_lines (k + 1) done ++ pair_lines n s) (omega arith))
    ∙ sym (append_assoc (pair_lines k first) (pairs_lines (k + 1) done) (pair_lines (k + length (first ∷ done)) s))

-- so are its lines behind those of the pairs before
pub pairs_written : (o a b : List ℕ) (k : ℕ) (done : List Scen) (s : Scen) → k ≡ length done + 1 → a ≡ o ++ text_of (pairs_lines 1 done) → b ≡ a ++ text_of (pair_lines k s)
    → b ≡ o ++ text_of (pairs_lines 1 (done ++ s ∷ []))
pairs_written o a b k done s place before pair =
    let number : k ≡ 1 + length done = omega (arith, place) in
    both-written o a b (pairs_lines 1 done) (pair_lines (1 + length done) s) before (pair ∙ ap (λ (n : ℕ). a ++ text_of (pair_lines n s)) number)
    ∙ ap (λ (ls : List (List ℕ)). o ++ text_of ls) (sym (pairs-more 1 done s))

-- and so are those of the pairs up to the next place
pub pairs_next : (o a b : List ℕ) (k place : ℕ) (all : List Scen) (s none : Scen) → k ≡ place → place < length all → s ≡ get_or all place none
    → a ≡ o ++ text_of (pairs_lines 1 (take place all)) → b ≡ a ++ text_of (pair_lines (k + 1) s) → b ≡ o ++ text_of (pairs_lines 1 (take (place + 1) all))
pairs_next o a b k place all s none number within at before pair =
    let front : length (take place all) ≡ place = length-take-le place all (omega (arith, within)) in
    let next : take (place + 1) all ≡ take place all ++ s ∷ [] = take_more all place none within ∙ ap (λ (x : Scen). take place all ++ x ∷ []) (sym at) in
    pairs_written o a b (k + 1) (take place all) s (omega (arith, number, front)) before pair
    ∙ ap (λ (ss : List Scen). o ++ text_of (pairs_lines 1 ss)) (sym next)
