use Rattle.std.proofs.Common.{◌≡◌, List, ◌++◌, map, ◌∙◌, ap}
use Rattle.std.proofs.lemmas.Result.{on_ok_weaker}
use Rattle.xrf_grammar.specs.LineText.{line_text}
use Rattle.xrf_grammar.specs.Quantities.{quantity_of}
use Rattle.xrf_grammar.specs.declared.line.Line.TheVariants.{Quantity}
use Rattle.xrf_grammar.specs.declared.quantity.Quantity.{Quantity as Setting}
use Rattle.xrf_scenario.specs.Canonical.{text_of}
use Rattle.xrf_scenario.specs.SettingLines.{level_lines}
use Rattle.xrf_scenario.proofs.WritingLaws.{settings-written}
use Rattle.xrf_scenario.proofs.canonical.put_settings.Goals as goal

pub returns : goal.returns
returns c =
    let t = c.args.settings.now in
    let o = c.args.out.now.items in
    let front = c.put_lines.new.out.items in
    let numbers = c.put_quantities.new.out.items in
    let images = c.put_lines-2.new.out.items in
    on_ok_weaker c.put_levels.result
    (λ (last : c.put_levels.new.out.items ≡ images ++ text_of (map line_text (level_lines t.format t))). settings-written t o front numbers images c.put_levels.new.out.items c.in_ok-put_lines.ensures
    (c.in_ok-put_quantities.ensures ∙ ap (λ (qs : List Setting). front ++ text_of (map (λ (q : Setting). line_text (Quantity q (quantity_of t q))) qs)) c.quantities.ensures) c.in_ok-put_lines-2.ensures last)
    c.put_levels.ensures
