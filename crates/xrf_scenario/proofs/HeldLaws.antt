-- What a reading makes of the lines of a text, and the scenario that it holds.
use Rattle.std.proofs.Common.{◌≡◌, ◌+◌, ℕ, true, List, [], ◌∷◌, map, Option, Ok, Err, refl, sym, subst}
use Rattle.std.specs.List.{AllByRecursion}
use Rattle.xrf_setup.specs.Choices.{HasLine}
use Rattle.xrf_scenario.specs.Canonical.{AreChoices}
use Rattle.xrf_scenario.specs.Outcomes.{Gives, IsBad}
use Rattle.xrf_scenario.specs.Machine.{read_on, read_whole, step}
use Rattle.xrf_scenario.specs.Reading.{Reads}
use Rattle.xrf_scenario.specs.Said.{is_past, IsSaid}
use Rattle.xrf_setup.specs.Scenario.{Scen, IsScen}
use Rattle.xrf_scenario.specs.Settled.{by_number, scenario_of, settled}
use Rattle.xrf_scenario.specs.SoFar.{SoFar}
use Rattle.xrf_scenario.specs.declared.numbered.Numbered.{Numbered}
use Rattle.xrf_scenario.specs.declared.read_bad.ReadBad.{ReadBad}
use Rattle.xrf_scenario.specs.declared.read_bad.ReadBad.TheVariants as bad
use Rattle.xrf_setup.specs.declared.settings.Settings.{Settings}
use Rattle.xrf_scenario.proofs.ReadingLaws.{whole-reads, whole-bad}
use Rattle.xrf_scenario.proofs.SaidLaws.{scen-said}
use Rattle.std.proofs.lemmas.List.{length-map}

-- behind a line that says something reading goes on with what is said then
pub goes-on : (so new : SoFar) (count : ℕ) (line : List ℕ) (lines : List (List ℕ)) → step (count + 1) so line ≡ Ok new
    → read_on so count (line ∷ lines) ≡ read_on new (count + 1) lines
goes-on so new count line lines e = rw (e, read_on) refl

-- the parts of a reading make a scenario
pub scenario-held : (so : SoFar) (t : Settings) (records : List (ℕ × List ℕ)) (places : List (Option (List ℕ))) → t ≡ settled so.format so.given → records ≡ by_number 1 places
    → places ≡ so.records → IsSaid so → is_past so.section ≡ true
    → IsScen (record { settings = t; records = records; clt = so.clt; work_a = so.work_a; work_b = so.work_b; plan = so.plan })
scenario-held so t records places same_settings same_records same_places said past =
    subst (λ (u : Settings). IsScen (record { settings = u; records = records; clt = so.clt; work_a = so.work_a; work_b = so.work_b; plan = so.plan })) (sym same_settings)
    (subst (λ (rs : List (ℕ × List ℕ)). IsScen (record { settings = settled so.format so.given; records = rs; clt = so.clt; work_a = so.work_a; work_b = so.work_b; plan = so.plan })) (sym same_records)
    (subst (λ (ps : List (Option (List ℕ))). IsScen (record { settings = settled so.format so.given; records = by_number 1 ps; clt = so.clt; work_a = so.work_a; work_b = so.work_b; plan = so.plan })) (sym same_places)
    (scen-said so said past)))

each-choice : (choices : List Numbered) → AllByRecursion (λ (n : Numbered). HasLine n.choice) choices → AllByRecursion HasLine (map (λ (n : Numbered). n.choice) choices)
each-choice [] all = tt
each-choice (n ∷ choices) all = (all.0, each-choice choices all.1)

-- the choices that are said can be written
pub choices-held : (so : SoFar) (choices : List Numbered) → choices ≡ so.choices → IsSaid so → AreChoices (map (λ (n : Numbered). n.choice) choices)
choices-held so choices same said = subst (λ (cs : List Numbered). AreChoices (map (λ (n : Numbered). n.choice) cs)) (sym same) (record {
  each = each-choice so.choices said.choices;
  few = rw length-map said.choices_few;
})

-- what is read is spelled by the text
pub read-found : (text : List ℕ) (so : SoFar) (s : Scen) (choices : List Numbered) → read_whole text ≡ Ok so → s ≡ scenario_of so → choices ≡ so.choices → Reads text s choices
read-found text so s choices read scenario made =
    subst (λ (t : Scen). Reads text t choices) (sym scenario) (subst (Reads text (scenario_of so)) (sym made) (whole-reads text so read))

-- what is refused has a bad line
pub read-bad : (text : List ℕ) (e : ReadBad) → Gives (Err e) (read_whole text) → IsBad text e
read-bad text (bad.Bad number reason) read = whole-bad text (record { line = number; reason = reason }) read
read-bad text bad.NoMemory read = tt
