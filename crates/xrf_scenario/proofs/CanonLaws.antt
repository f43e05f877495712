-- What is written of a scenario and its choices is read again.
use Rattle.std.proofs.Common.{◌≡◌, ◌+◌, ℕ, true, List, [], ◌++◌, length, map, refl, sym, ◌∙◌, ap, arith, subst}
use Rattle.std.specs.List.{AllByRecursion}
use Rattle.xrf_base.specs.declared.items.Item.{Item}
use Rattle.xrf_base.specs.declared.site.Site.TheVariants.{A, B}
use Rattle.xrf_setup.specs.declared.choice.Choice.{Choice}
use Rattle.xrf_setup.specs.declared.format.Format.{Format}
use Rattle.xrf_grammar.specs.declared.line.Line.TheVariants.{Work}
use Rattle.xrf_grammar.specs.Plain.{IsPlain}
use Rattle.xrf_grammar.specs.LineText.{line_text}
use Rattle.xrf_scenario.specs.Canonical.{text_of, record_lines, clt_lines, plan_lines, scenario_lines, choice_lines, canon, numbered_from, at_lines, AreChoices, IsReportLine, IsReport, ReadAgain}
use Rattle.xrf_scenario.specs.Lines.{text_lines}
use Rattle.xrf_scenario.specs.Reading.{begun, SaysAll}
use Rattle.xrf_setup.specs.Scenario.{Scen, IsScen}
use Rattle.xrf_scenario.specs.SettingLines.{setting_lines}
use Rattle.xrf_scenario.specs.Settled.{by_number, scenario_of}
use Rattle.xrf_scenario.specs.SoFar.{SoFar, nothing_said}
use Rattle.xrf_scenario.specs.Taking.{are_within}
use Rattle.xrf_scenario.specs.declared.section.Section.TheVariants as section
use Rattle.xrf_setup.specs.declared.settings.Settings.{Settings}
use Rattle.xrf_scenario.proofs.TextLaws.{IsClean, all-both, lines-again, text-both}
use Rattle.xrf_scenario.proofs.StepLaws.{all-then, plain-clean, header-written, both-say, report-says, report-clean}
use Rattle.xrf_scenario.proofs.SettingLaws.{given_of, with_given, settings-say, settled-again}
use Rattle.xrf_scenario.proofs.RecordLaws.{with_places, records-say}
use Rattle.xrf_scenario.proofs.CltLaws.{with_clt, clt-say}
use Rattle.xrf_scenario.proofs.WorkLaws.{with_work_a, with_work_b, with_plan, work_a-say, work_b-say, plan-say}
use Rattle.xrf_scenario.proofs.ChoiceLaws.{ended, choices-say}
use Rattle.xrf_scenario.proofs.SettingsKept.{lines-are}
use Rattle.xrf_scenario.proofs.PlainLaws.{file-most, scenario-plain, choices-plain}

-- lines say what the first of them say, and then what the others say at any number
more-say : (count : ℕ) (so : SoFar) (ls ms : List (List ℕ)) (mid last : SoFar) → SaysAll count so ls mid → ((n : ℕ) → SaysAll n mid ms last)
    → SaysAll count so (ls ++ ms) last
more-say count so ls ms mid last first others = both-say count so ls ms mid last first (others (count + length ls))

-- lines of six parts say what the parts say one after the other
six-say : (count : ℕ) (so s1 s2 s3 s4 s5 last : SoFar) (a b c d e f : List (List ℕ)) → SaysAll count so a s1 → SaysAll (count + length a) s1 b s2
    → ((n : ℕ) → SaysAll n s2 c s3) → ((n : ℕ) → SaysAll n s3 d s4) → ((n : ℕ) → SaysAll n s4 e s5) → ((n : ℕ) → SaysAll n s5 f last)
    → SaysAll count so (a ++ b ++ c ++ d ++ e ++ f) last
six-say count so s1 s2 s3 s4 s5 last a b c d e f says-a says-b says-c says-d says-e says-f =
    let ab = both-say count so a b s1 s2 says-a says-b in
    let abc = more-say count so (a ++ b) c s2 s3 ab says-c in
    let abcd = more-say count so (a ++ b ++ c) d s3 s4 abc says-d in
    let abcde = more-say count so (a ++ b ++ c ++ d) e s4 s5 abcd says-e in
    more-say count so (a ++ b ++ c ++ d ++ e) f s5 last abcde says-f

-- what the lines of a scenario say behind so many lines: all of it, and no choices
pub record IsSpoken (count : ℕ) (s : Scen) : Type 0 where
  pub last : SoFar
  pub says : SaysAll count nothing_said (scenario_lines s) last
  pub before : last.section ≡ section.Settings
  pub within : are_within last ≡ true
  pub none : last.choices ≡ []
  pub scenario : scenario_of last ≡ s

-- what is written of a scenario says it
pub spoken : (count : ℕ) (s : Scen) → IsScen s → IsSpoken count s
spoken count s is =
    let format : Format = s.settings.format in
    let s1 : SoFar = begun nothing_said format in
    let s2 : SoFar = with_given s1 (given_of format s.settings) in
    let settings : List (List ℕ) = map line_text (setting_lines s.settings) in
    let records = records-say (count + 1 + length settings) s2 s.settings.file s.records refl (file-most s is) is.records in
    let s3 : SoFar = with_places s2 records.last in
    let s4 : SoFar = with_clt s3 s.clt in
    let s5 : SoFar = with_work_a s4 s.work_a in
    let s6 : SoFar = with_work_b s5 s.work_b in
    let s7 : SoFar = with_plan s6 s.plan in
    let work_a : List (List ℕ) = map (λ (i : Item). line_text (Work A i)) s.work_a in
    let work_b : List (List ℕ) = map (λ (i : Item). line_text (Work B i)) s.work_b in
    record {
      last = s7;
      says = (
        s1,
        (
          header-written (count + 1) nothing_said format refl,
          six-say (count + 1) s1 s2 s3 s4 s5 s6 s7 settings (record_lines s.records) (clt_lines s.clt) work_a work_b (plan_lines s.plan)
              (settings-say (count + 1) s1 s.settings refl (lines-are s.settings is.settings)) records.says
              (λ (n : ℕ). clt-say n s3 s.clt refl is.clt is.clt_few)
              (λ (n : ℕ). work_a-say n s4 s.work_a refl is.work_a is.work_a_few)
              (λ (n : ℕ). work_b-say n s5 s.work_b refl is.work_b is.work_b_few)
              (λ (n : ℕ). plan-say n s6 s.plan refl is.plan is.plan_few),
        ),
      );
      before = refl;
      within = records.within;
      none = refl;
      scenario = ap (λ (t : Settings). with_settings t (by_number 1 records.last)) (sym (settled-again s.settings is.settings.levels)) ∙ ap (with_settings s.settings) records.numbers;
    }
  where
    with_settings : Settings → List (ℕ × List ℕ) → Scen
    with_settings settings records = record s { settings = settings; records = records }

-- what holds of plain lines holds of clean ones
plain-lines : (ls : List (List ℕ)) → AllByRecursion IsPlain ls → AllByRecursion IsClean ls
plain-lines ls plain = all-then IsPlain IsClean plain-clean ls plain

-- the lines of what is written, with a report behind it
written-lines : (s : Scen) (choices : List Choice) (report : List ℕ) → IsScen s → AreChoices choices → (is : IsReport report)
    → text_lines (canon s choices ++ report) ≡ scenario_lines s ++ choice_lines choices ++ is.lines
written-lines s choices report scen are is =
    let lines : List (List ℕ) = scenario_lines s ++ choice_lines choices in
    let written = text-both (scenario_lines s) (choice_lines choices) in
    let whole : canon s choices ++ report ≡ text_of (lines ++ is.lines) =
    ap (λ (t : List ℕ). canon s choices ++ t) is.fed ∙ ap (λ (t : List ℕ). t ++ text_of is.lines) (sym written) ∙ sym (text-both lines is.lines) in
    let first = all-both IsPlain (scenario_lines s) (choice_lines choices) (scenario-plain s scen) (choices-plain choices are) in
    let clean = all-both IsClean lines is.lines (plain-lines lines first) (all-then IsReportLine IsClean report-clean is.lines is.each) in
    ap text_lines whole ∙ lines-again (lines ++ is.lines) clean

-- What is written of a scenario and its choices is read again as the same, also with a report behind it.
pub read_again : ReadAgain
read_again s choices report scen are is =
    let first = spoken 0 s scen in
    let count : ℕ = length (scenario_lines s) in
    let last : SoFar = ended first.last (at_lines s choices) in
    let number : 0 + count + 2 ≡ count + 2 = omega arith in
    let made = choices-say (0 + count) first.last choices first.before first.none first.within are in
    let second : SaysAll (0 + count) first.last (choice_lines choices) last =
    subst (λ (n : ℕ). SaysAll (0 + count) first.last (choice_lines choices) (ended first.last (numbered_from n choices))) number made in
    let whole : SaysAll 0 nothing_said (scenario_lines s ++ choice_lines choices) last =
    both-say 0 nothing_said (scenario_lines s) (choice_lines choices) first.last last first.says second in
    let all : SaysAll 0 nothing_said (scenario_lines s ++ choice_lines choices ++ is.lines) last =
    both-say 0 nothing_said (scenario_lines s ++ choice_lines choices) is.lines last last whole
    (report-says (0 + length (scenario_lines s ++ choice_lines choices)) last is.lines refl is.each) in
    record {
      last = last;
      said = subst (λ (ls : List (List ℕ)). SaysAll 0 nothing_said ls last) (sym (written-lines s choices report scen are is)) all;
      whole = refl;
      scenario = sym first.scenario;
      made = refl;
    }
