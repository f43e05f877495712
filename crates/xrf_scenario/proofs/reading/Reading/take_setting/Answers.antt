use Rattle.std.proofs.Common.{◌≡◌, ◌≤◌, ℕ, List, Option, length, ◌∙◌, ap, refl, arith}
use Rattle.xrf_base.specs.declared.items.Item.{Item}
use Rattle.xrf_base.specs.declared.site.Site.{Site}
use Rattle.xrf_base.specs.declared.site.Site.TheVariants.{A, B}
use Rattle.xrf_clt.specs.Kept.{Kept}
use Rattle.xrf_grammar.specs.declared.line.Line.TheVariants.{Record, Clt, Work, Plan, Choices}
use Rattle.xrf_grammar.specs.declared.quantity.Quantity.TheVariants.{File}
use Rattle.xrf_scenario.specs.Held.{held}
use Rattle.xrf_scenario.specs.SoFar.{SoFar}
use Rattle.xrf_scenario.specs.declared.section.Section.{Section}
use Rattle.xrf_setup.specs.declared.choice.Choice.{Choice}
use Rattle.xrf_text.specs.Text.{words}
use Rattle.xrf_scenario.proofs.SettingsKept.{quantity-is}
use Rattle.xrf_scenario.proofs.TakenLaws.{setting-stays, as-setting}
use Rattle.xrf_scenario.proofs.reading.Reading.take_setting.Goals as goal

-- what is said stays within its bounds
pub invariant_of-self : goal.invariant_of-self
invariant_of-self c =
    setting-stays c.take_record.result _ _ _ (words c.args.text.now) c.args.line.now (Record c.in-Record.number c.in-Record.value) c.self.view_is c.in-Record.is c.requires.section c.requires.line c.self.invariant
    (c.take_record.ensures (λ (records : List (Option (List ℕ))). record (held c.self.inside) { records = records }))

pub returns-in-Record : goal.returns-in-Record
returns-in-Record c = λ number. rw (c.in-Record.is, ← c.self.view_is) (c.take_record.ensures (λ (records : List (Option (List ℕ))). record (held c.self.inside) { records = records }))

pub invariant_of-self-in-Clt : goal.invariant_of-self-in-Clt
invariant_of-self-in-Clt c =
    setting-stays c.take_clt.result _ _ _ (words c.args.text.now) c.args.line.now Clt c.self.view_is c.in-Clt.is c.requires.section c.requires.line c.self.invariant
    (c.take_clt.ensures (λ (clt : List Kept). record (held c.self.inside) { clt = clt }))

pub returns-in-Clt : goal.returns-in-Clt
returns-in-Clt c = λ number. rw (c.in-Clt.is, ← c.self.view_is) (c.take_clt.ensures (λ (clt : List Kept). record (held c.self.inside) { clt = clt }))

pub invariant_of-self-in-A : goal.invariant_of-self-in-A
invariant_of-self-in-A c =
    setting-stays c.push_within.result _ _ _ (words c.args.text.now) c.args.line.now (Work A c.in-Work.item) c.self.view_is (c.in-Work.is ∙ ap (λ (s : Site). Work s c.in-Work.item) c.in-A.is) c.requires.section c.requires.line c.self.invariant
    (c.push_within.ensures (λ (items : List Item). record (held c.self.inside) { work_a = items }))

pub returns-in-A : goal.returns-in-A
returns-in-A c = λ number. rw (c.in-Work.is, c.in-A.is, ← c.self.view_is) (c.push_within.ensures (λ (items : List Item). record (held c.self.inside) { work_a = items }))

pub invariant_of-self-in-B : goal.invariant_of-self-in-B
invariant_of-self-in-B c =
    setting-stays c.push_within-in-B.result _ _ _ (words c.args.text.now) c.args.line.now (Work B c.in-Work.item) c.self.view_is (c.in-Work.is ∙ ap (λ (s : Site). Work s c.in-Work.item) c.in-B.is) c.requires.section c.requires.line c.self.invariant
    (c.push_within-in-B.ensures (λ (items : List Item). record (held c.self.inside) { work_b = items }))

pub returns-in-B : goal.returns-in-B
returns-in-B c = λ number. rw (c.in-Work.is, c.in-B.is, ← c.self.view_is) (c.push_within-in-B.ensures (λ (items : List Item). record (held c.self.inside) { work_b = items }))

pub invariant_of-self-in-Plan : goal.invariant_of-self-in-Plan
invariant_of-self-in-Plan c =
    setting-stays c.take_plan.result _ _ _ (words c.args.text.now) c.args.line.now (Plan c.in-Plan.tick c.in-Plan.choice) c.self.view_is c.in-Plan.is c.requires.section c.requires.line c.self.invariant
    (c.take_plan.ensures (λ (plan : List (ℕ × Choice)). record (held c.self.inside) { plan = plan }))

pub returns-in-Plan : goal.returns-in-Plan
returns-in-Plan c = λ number. rw (c.in-Plan.is, ← c.self.view_is) (c.take_plan.ensures (λ (plan : List (ℕ × Choice)). record (held c.self.inside) { plan = plan }))

pub invariant_of-self-in-Choices : goal.invariant_of-self-in-Choices
invariant_of-self-in-Choices c =
    setting-stays c.begin_choices.result _ _ _ (words c.args.text.now) c.args.line.now Choices c.self.view_is c.in-Choices.is c.requires.section c.requires.line c.self.invariant
    (rw (c.deref.ensures.value, c.quantity-file.ensures) at c.begin_choices.ensures (λ (section : Section). record (held c.self.inside) { section = section }))

pub returns-in-Choices : goal.returns-in-Choices
returns-in-Choices c = λ number.
    rw (c.in-Choices.is, ← c.self.view_is) (rw (c.deref.ensures.value, c.quantity-file.ensures) at c.begin_choices.ensures (λ (section : Section). record (held c.self.inside) { section = section }))

pub invariant_of-self-in_default : goal.invariant_of-self-in_default
invariant_of-self-in_default c =
    let so : SoFar = held c.self.inside in
    let is = as-setting 0 so _ (words c.args.text.now) c.args.line.now c.requires.line c.in_default.not-Record c.in_default.not-Clt c.in_default.not-Work c.in_default.not-Plan c.in_default.not-Choices in
    setting-stays c.take.result _ _ _ (words c.args.text.now) c.args.line.now c.args.line.now c.self.view_is refl c.requires.section c.requires.line c.self.invariant
    (rw is (c.take.ensures so))

pub returns-in_default : goal.returns-in_default
returns-in_default c = λ number.
    let so : SoFar = held c.self.inside in
    let is = as-setting number so _ (words c.args.text.now) c.args.line.now c.requires.line c.in_default.not-Record c.in_default.not-Clt c.in_default.not-Work c.in_default.not-Plan c.in_default.not-Choices in
    rw (← c.self.view_is, is) (c.take.ensures so)

pub begin_choices-requires : goal.begin_choices-requires
begin_choices-requires c =
    let given = c.self.invariant.given in
    let file : c.quantity-file.result ≤ 256 = rw c.quantity-file.ensures (quantity-is _ _ given File).1 in
    let places : length c.deref.result.now ≡ 256 = rw c.deref.ensures.value c.self.invariant.places in
    omega (arith, file, places)
