-- All lines that are written of a scenario and choices are plain.
use Rattle.std.proofs.Common.{◌≤◌, ◌+◌, ℕ, List, [], ◌∷◌, ◌++◌, map, codes, arith}
use Rattle.std.specs.List.{AllByRecursion}
use Rattle.xrf_base.specs.declared.items.Item.{Item}
use Rattle.xrf_base.specs.declared.site.Site.TheVariants.{A, B}
use Rattle.xrf_clt.specs.Kept.{Kept}
use Rattle.xrf_setup.specs.declared.choice.Choice.{Choice}
use Rattle.xrf_setup.specs.declared.format.Format.{Format}
use Rattle.xrf_setup.specs.declared.format.Format.TheVariants.{One}
use Rattle.xrf_grammar.specs.declared.line.Line.TheVariants.{Record, Work, Plan, Choices, End}
use Rattle.xrf_grammar.specs.Plain.{IsPlain}
use Rattle.xrf_grammar.specs.LineText.{IsSetting, line_text}
use Rattle.xrf_setup.specs.Items.{IsItemOf}
use Rattle.xrf_grammar.specs.Spelling.{choice_text}
use Rattle.xrf_setup.specs.Choices.{HasLine}
use Rattle.xrf_grammar.proofs.LineAgain.{header_plain, setting_plain, choosing_plain, choice_plain}
use Rattle.xrf_scenario.specs.Canonical.{record_lines, clt_lines, plan_lines, scenario_lines, choice_lines, AreChoices}
use Rattle.xrf_setup.specs.Scenario.{Scen, IsScen, AreRecords, ArePlanned}
use Rattle.xrf_setup.specs.Commands.{IsKept, kept_text}
use Rattle.xrf_scenario.specs.SettingLines.{setting_lines}
use Rattle.xrf_scenario.proofs.TextLaws.{all-both}
use Rattle.xrf_scenario.proofs.CltLaws.{kept-plain}
use Rattle.xrf_scenario.proofs.SettingsKept.{lines-are}

-- each of some lines is plain
abbrev ArePlain : List (List ℕ) → Type 0
ArePlain ls = AllByRecursion IsPlain ls

-- what is written of each element is plain
all-plain : {X : Type 0} (P : X → Type 0) (text : X → List ℕ) → ((x : X) → P x → IsPlain (text x)) → (xs : List X) → AllByRecursion P xs → ArePlain (map text xs)
all-plain P text each [] all = tt
all-plain P text each (x ∷ xs) all = (each x all.0, all-plain P text each xs all.1)

-- the lines of records are plain
records-plain : (format : Format) (least file : ℕ) (records : List (ℕ × List ℕ)) → 1 ≤ least → file ≤ 256 → AreRecords least file records → ArePlain (record_lines records)
records-plain format least file [] low high are = tt
records-plain format least file (r ∷ rs) low high are =
    let from : least ≤ r.0 = are.0.0 in
    let to : r.0 ≤ file = are.0.1 in
    let next : 1 ≤ r.0 + 1 = omega arith in
    (setting_plain format (Record r.0 r.1) ((omega (arith, low, from), omega (arith, to, high)), are.1), records-plain format (r.0 + 1) file rs next high are.2)

-- so are those of a plan
plan-plain : (format : Format) (least : ℕ) (plan : List (ℕ × Choice)) → ArePlanned least plan → ArePlain (plan_lines plan)
plan-plain format least [] are = tt
plan-plain format least (p ∷ ps) are =
    let to : p.0 ≤ 200 = are.0.1 in
    (setting_plain format (Plan p.0 p.1) ((omega arith, to), are.1, are.2), plan-plain format p.0 ps are.3)

-- what holds of all elements of six lists holds of all of them together
all-six : (P : List ℕ → Type 0) (a b c d e f : List (List ℕ)) → AllByRecursion P a → AllByRecursion P b → AllByRecursion P c → AllByRecursion P d → AllByRecursion P e → AllByRecursion P f
    → AllByRecursion P (a ++ b ++ c ++ d ++ e ++ f)
all-six P a b c d e f of-a of-b of-c of-d of-e of-f =
    all-both P (a ++ b ++ c ++ d ++ e) f
    (all-both P (a ++ b ++ c ++ d) e (all-both P (a ++ b ++ c) d (all-both P (a ++ b) c (all-both P a b of-a of-b) of-c) of-d) of-e) of-f

-- FILE is at most 256
pub file-most : (s : Scen) → IsScen s → s.settings.file ≤ 256
file-most s is = is.settings.file.1

-- The lines of a scenario are plain.
pub scenario-plain : (s : Scen) → IsScen s → ArePlain (scenario_lines s)
scenario-plain s is =
    let format : Format = s.settings.format in
    let settings = all-plain (IsSetting format) line_text (setting_plain format) (setting_lines s.settings) (lines-are s.settings is.settings) in
    let records = records-plain format 1 s.settings.file s.records (omega arith) (file-most s is) is.records in
    let clt = all-plain IsKept (λ (k : Kept). codes "CLT " ++ kept_text k) kept-plain s.clt is.clt in
    let work_a = all-plain (IsItemOf format) (λ (i : Item). line_text (Work A i)) (λ (i : Item). setting_plain format (Work A i)) s.work_a is.work_a in
    let work_b = all-plain (IsItemOf format) (λ (i : Item). line_text (Work B i)) (λ (i : Item). setting_plain format (Work B i)) s.work_b is.work_b in
    let plan = plan-plain format 0 s.plan is.plan in (
      header_plain format,
      all-six IsPlain (map line_text (setting_lines s.settings)) (record_lines s.records) (clt_lines s.clt) (map (λ (i : Item). line_text (Work A i)) s.work_a)
          (map (λ (i : Item). line_text (Work B i)) s.work_b) (plan_lines s.plan) settings records clt work_a work_b plan,
    )

-- The lines of choices are plain.
pub choices-plain : (choices : List Choice) → AreChoices choices → ArePlain (choice_lines choices)
choices-plain choices are = (
  setting_plain One Choices tt,
  all-both IsPlain (map choice_text choices) (line_text End ∷ []) (all-plain HasLine choice_text choice_plain choices are.each) (choosing_plain End tt, tt),
)
