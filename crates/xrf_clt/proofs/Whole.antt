-- What a whole text gives.
use Rattle.std.proofs.Common.{◌≡◌, ℕ, List, [], ◌∷◌, ◌++◌, length, map, Option, Some, None, Ok, Err, refl, sym, ap, ◌∙◌, subst, arith}
use Rattle.std.specs.List.{AllByRecursion}
use Rattle.xrf_text.specs.Text.{words}
use Rattle.xrf_clt.specs.declared.CltReason.{CltReason}
use Rattle.xrf_clt.specs.Kept.{Kept}
use Rattle.xrf_clt.specs.Lines.{line_words, line_kept, words_kept, fault_of}
use Rattle.xrf_clt.specs.Table.{AreKept, IsFirstFault}
use Rattle.xrf_clt.proofs.Rows.{after_fault, continue, continue_gives, Gives, AllKept, StopsAt}
use Rattle.xrf_clt.proofs.Faultless.{Spelled, faultless}

-- what is kept of a text that spells a line is what is kept of the line
one_line : (text : List ℕ) (texts : List (List ℕ)) (kept : List Kept) → Spelled (words text) → AreKept texts kept → AreKept (text ∷ texts) (words_kept (words text) ∷ kept)
one_line text texts kept first more = record {
  lines = first.line ∷ more.lines;
  are_lines = (first.is_line, more.are_lines);
  spelled = ap (λ (ws : List (List ℕ)). ws ∷ map words texts) first.words_are ∙ ap (λ (all : List (List (List ℕ))). line_words first.line ∷ all) more.spelled;
  entries = ap (λ (ws : List (List ℕ)). words_kept ws ∷ kept) first.words_are ∙ ap (λ (all : List Kept). line_kept first.line ∷ all) more.entries;
}

all_lines : (texts : List (List ℕ)) → AllByRecursion (λ (text : List ℕ). fault_of (words text) ≡ None) texts → AreKept texts (map (λ (text : List ℕ). words_kept (words text)) texts)
all_lines [] fine = record { lines = []; are_lines = tt; spelled = refl; entries = refl }
all_lines (text ∷ texts) fine =
    one_line text texts (map (λ (t : List ℕ). words_kept (words t)) texts) (faultless (words text) fine.0) (all_lines texts fine.1)

-- Where all texts are read, what is kept is of their lines.
pub kept_all : (texts : List (List ℕ)) (kept : List Kept) → Ok kept ≡ continue [] texts → AreKept texts kept
kept_all texts kept e =
    let given : AllKept [] texts kept = subst (Gives [] texts) (sym e) (continue_gives [] texts) in
    subst (AreKept texts) (sym given.is) (all_lines texts given.fine)

-- Where reading stops, it stops at the first fault.
pub stopped : (texts : List (List ℕ)) (place : ℕ) (reason : CltReason) → Err (place, reason) ≡ continue [] texts → IsFirstFault texts place reason
stopped texts place reason e =
    let given : StopsAt [] texts (place, reason) = subst (Gives [] texts) (sym e) (continue_gives [] texts) in
    let same : given.place ≡ place = let counted = given.counted in omega arith in
    subst (λ (p : ℕ). IsFirstFault texts p reason) same given.first

-- The next text has a fault, so reading all stops there.
pub stopped_at : (all : List (List ℕ)) (done : List Kept) (rest texts : List (List ℕ)) (text : List ℕ) (place : ℕ) (reason : CltReason) → continue done rest ≡ continue [] all → rest ≡ text ∷ texts
    → fault_of (words text) ≡ Some reason → place ≡ length done → IsFirstFault all place reason
stopped_at all done rest texts text place reason kept next fault at =
    stopped all place reason
    (ap (λ (p : ℕ). Err (p, reason)) at ∙ ap (λ (f : Option CltReason). after_fault done f (continue (done ++ words_kept (words text) ∷ []) texts)) (sym fault)
    ∙ ap (continue done) (sym next) ∙ kept)
