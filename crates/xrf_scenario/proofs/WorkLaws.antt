-- What is written of the work and of the plan says these.
use Rattle.std.proofs.Common.{◌≡◌, ◌≤◌, ◌<◌, ◌+◌, ℕ, Bool, true, nat_lt, if◌then◌else◌, Ok, Err, List, [], ◌∷◌, ◌++◌, length, map, ◌∙◌, ap, arith, subst, length-append}
use Rattle.std.specs.List.{AllByRecursion}
use Rattle.std.proofs.lemmas.Bool.{lt-ltb, le-ltb}
use Rattle.xrf_base.specs.declared.items.Item.{Item}
use Rattle.xrf_base.specs.declared.site.Site.TheVariants.{A, B}
use Rattle.xrf_text.specs.Text.{words}
use Rattle.xrf_setup.specs.declared.choice.Choice.{Choice}
use Rattle.xrf_grammar.specs.declared.line.Line.TheVariants.{Work, Plan}
use Rattle.xrf_grammar.specs.declared.reason.Reason.TheVariants.{PlanOrder}
use Rattle.xrf_setup.specs.Items.{IsItemOf}
use Rattle.xrf_setup.specs.Choices.{is_planned, HasLine}
use Rattle.xrf_grammar.specs.LineText.{line_text}
use Rattle.xrf_scenario.specs.Canonical.{plan_lines}
use Rattle.xrf_scenario.specs.Reading.{Says, SaysAll}
use Rattle.xrf_setup.specs.Scenario.{ArePlanned}
use Rattle.xrf_scenario.specs.SoFar.{SoFar}
use Rattle.xrf_scenario.specs.Taking.{take, with_room, last_tick}
use Rattle.xrf_scenario.specs.declared.section.Section.TheVariants as section
use Rattle.xrf_scenario.proofs.StepLaws.{setting-written, all-at, all-say}

-- what stands before an element has fewer elements than the whole
pub before-fewer : {X : Type 0} (all done : List X) (x : X) (rest : List X) → all ≡ done ++ x ∷ rest → length done < length all
before-fewer all done x rest split =
    let whole : length all ≡ length (done ++ x ∷ rest) = ap length split in
    omega (arith, whole, length-append done (x ∷ rest))

-- what is said, with other work of a site, and with another plan
abbrev pub with_work_a : SoFar → List Item → SoFar
with_work_a so items = record so { work_a = items }

abbrev pub with_work_b : SoFar → List Item → SoFar
with_work_b so items = record so { work_b = items }

abbrev pub with_plan : SoFar → List (ℕ × Choice) → SoFar
with_plan so plan = record so { plan = plan }

-- What is written of the work of A says its items.
pub work_a-say : (count : ℕ) (so : SoFar) (items : List Item) → so.section ≡ section.Settings → AllByRecursion (IsItemOf so.format) items → length items ≤ 2000
    → SaysAll count (with_work_a so []) (map (λ (i : Item). line_text (Work A i)) items) (with_work_a so items)
work_a-say count so items section are few = all-say count (λ (i : Item). line_text (Work A i)) (with_work_a so) items says
  where
    says : (done : List Item) (i : Item) (rest : List Item) → items ≡ done ++ i ∷ rest
        → Says (count + length done + 1) (with_work_a so done) (line_text (Work A i)) (with_work_a so (done ++ i ∷ []))
    says done i rest split =
        let is : IsItemOf so.format i = all-at (IsItemOf so.format) done i rest (subst (AllByRecursion (IsItemOf so.format)) split are) in
        let fewer = before-fewer items done i rest split in
        setting-written (count + length done + 1) (with_work_a so done) (Work A i) (with_work_a so (done ++ i ∷ [])) section is
        (ap (λ (t : Bool). with_room t (with_work_a so (done ++ i ∷ []))) (lt-ltb (length done) 2000 (omega (arith, fewer, few))))

-- What is written of the work of B says its items.
pub work_b-say : (count : ℕ) (so : SoFar) (items : List Item) → so.section ≡ section.Settings → AllByRecursion (IsItemOf so.format) items → length items ≤ 2000
    → SaysAll count (with_work_b so []) (map (λ (i : Item). line_text (Work B i)) items) (with_work_b so items)
work_b-say count so items section are few = all-say count (λ (i : Item). line_text (Work B i)) (with_work_b so) items says
  where
    says : (done : List Item) (i : Item) (rest : List Item) → items ≡ done ++ i ∷ rest
        → Says (count + length done + 1) (with_work_b so done) (line_text (Work B i)) (with_work_b so (done ++ i ∷ []))
    says done i rest split =
        let is : IsItemOf so.format i = all-at (IsItemOf so.format) done i rest (subst (AllByRecursion (IsItemOf so.format)) split are) in
        let fewer = before-fewer items done i rest split in
        setting-written (count + length done + 1) (with_work_b so done) (Work B i) (with_work_b so (done ++ i ∷ [])) section is
        (ap (λ (t : Bool). with_room t (with_work_b so (done ++ i ∷ []))) (lt-ltb (length done) 2000 (omega (arith, fewer, few))))

-- Of planned choices whose ticks do not fall each comes no earlier than the one before it.
pub planned-at : (least : ℕ) (done : List (ℕ × Choice)) (p : ℕ × Choice) (rest : List (ℕ × Choice)) → ArePlanned least (done ++ p ∷ rest)
    → (last_tick done ≤ p.0) × (p.0 ≤ 200) × (is_planned p.1 ≡ true) × HasLine p.1
planned-at least [] p rest are = (omega arith, are.0.1, are.1, are.2)
planned-at least (first ∷ []) p rest are = let next = are.3 in (next.0.0, next.0.1, next.1, next.2)
planned-at least (first ∷ second ∷ done) p rest are = planned-at first.0 (second ∷ done) p rest are.3

-- a planned choice comes behind fewer than 500, no earlier than the last
plan-taken : (number : ℕ) (so : SoFar) (ws : List (List ℕ)) (done : List (ℕ × Choice)) (p : ℕ × Choice) → last_tick done ≤ p.0 → length done < 500
    → take number (with_plan so done) ws (Plan p.0 p.1) ≡ Ok (with_plan so (done ++ p ∷ []))
plan-taken number so ws done p low room =
    ap (λ (t : Bool). if t then Err PlanOrder else with_room (nat_lt (length done) 500) (with_plan so (done ++ p ∷ []))) (le-ltb p.0 (last_tick done) low)
    ∙ ap (λ (t : Bool). with_room t (with_plan so (done ++ p ∷ []))) (lt-ltb (length done) 500 room)

-- What is written of the plan says its choices.
pub plan-say : (count : ℕ) (so : SoFar) (plan : List (ℕ × Choice)) → so.section ≡ section.Settings → ArePlanned 0 plan → length plan ≤ 500
    → SaysAll count (with_plan so []) (plan_lines plan) (with_plan so plan)
plan-say count so plan section are few = all-say count (λ (p : ℕ × Choice). line_text (Plan p.0 p.1)) (with_plan so) plan says
  where
    says : (done : List (ℕ × Choice)) (p : ℕ × Choice) (rest : List (ℕ × Choice)) → plan ≡ done ++ p ∷ rest
        → Says (count + length done + 1) (with_plan so done) (line_text (Plan p.0 p.1)) (with_plan so (done ++ p ∷ []))
    says done p rest split =
        let is = planned-at 0 done p rest (subst (ArePlanned 0) split are) in
        let fewer = before-fewer plan done p rest split in
        setting-written (count + length done + 1) (with_plan so done) (Plan p.0 p.1) (with_plan so (done ++ p ∷ [])) section ((omega arith, is.1), is.2, is.3)
        (plan-taken (count + length done + 1) so (words (line_text (Plan p.0 p.1))) done p is.0 (omega (arith, fewer, few)))
