use Rattle.std.proofs.Common.{◌≡◌, ℕ, List, ◌++◌, map, ◌∙◌, ap}
use Rattle.std.proofs.lemmas.Result.{on_ok_weaker}
use Rattle.xrf_base.specs.declared.items.Item.{Item}
use Rattle.xrf_base.specs.declared.site.Site.TheVariants.{A, B}
use Rattle.xrf_clt.specs.Kept.{Kept}
use Rattle.xrf_grammar.specs.LineText.{header_text, line_text}
use Rattle.xrf_setup.specs.declared.choice.Choice.{Choice}
use Rattle.xrf_setup.specs.declared.format.Format.{Format}
use Rattle.xrf_grammar.specs.declared.line.Line.TheVariants.{Work}
use Rattle.xrf_scenario.specs.Canonical.{text_of, record_lines, clt_lines, plan_lines}
use Rattle.xrf_scenario.specs.SettingLines.{setting_lines}
use Rattle.xrf_setup.specs.declared.settings.Settings.{Settings}
use Rattle.xrf_scenario.proofs.WritingLaws.{scenario-written}
use Rattle.xrf_scenario.proofs.canonical.put_scenario.Goals as goal

-- each part is of what the reader of the scenario answers
pub returns-clause-text : goal.returns-clause-text
returns-clause-text c =
    let s = c.args.scenario.now in
    let o = c.args.out.now.items in
    let head = c.put_header.new.out.items in
    let line = c.put_feed.new.out.items in
    let settings = c.put_settings.new.out.items in
    let records = c.put_records.new.out.items in
    let clt = c.put_clt.new.out.items in
    let work_a = c.put_work.new.out.items in
    let work_b = c.put_work-2.new.out.items in
    on_ok_weaker c.put_plan.result
    (λ (last : c.put_plan.new.out.items ≡ work_b ++ text_of (plan_lines c.plan.result.now)).
    scenario-written s o head line settings records clt work_a work_b c.put_plan.new.out.items
    (c.in_ok-put_header.ensures ∙ ap (λ (f : Format). o ++ header_text f) c.format.ensures.format) c.in_ok-put_feed.ensures
    (c.in_ok-put_settings.ensures ∙ ap (λ (t : Settings). line ++ text_of (map line_text (setting_lines t))) c.settings.ensures.settings)
    (c.in_ok-put_records.ensures ∙ ap (λ (rs : List (ℕ × List ℕ)). settings ++ text_of (record_lines rs)) c.records.ensures.records)
    (c.in_ok-put_clt.ensures ∙ ap (λ (k : List Kept). records ++ text_of (clt_lines k)) c.clt.ensures.clt)
    (c.in_ok-put_work.ensures ∙ ap (λ (w : List Item). clt ++ text_of (map (λ (i : Item). line_text (Work A i)) w)) c.work.ensures.work)
    (c.in_ok-put_work-2.ensures ∙ ap (λ (w : List Item). work_a ++ text_of (map (λ (i : Item). line_text (Work B i)) w)) c.work-2.ensures.work)
    (last ∙ ap (λ (p : List (ℕ × Choice)). work_b ++ text_of (plan_lines p)) c.plan.ensures.plan))
    c.put_plan.ensures
