use Rattle.std.proofs.Common.{List, ℕ, ◌∷◌, take, sym, ◌∙◌, ap}
use Rattle.xrf_text.proofs.Places.{filled_from}
use Rattle.xrf_scenario.specs.Lines.{text_lines, without_return}
use Rattle.xrf_scenario.proofs.LineLaws.{first-fed, first-unfed}
use Rattle.xrf_scenario.proofs.lines.next_line.Goals as goal

pub returns-in-Some-clause-first : goal.returns-in-Some-clause-first
returns-in-Some-clause-first c =
    first-fed c.args.text.now c.in-Some.count (sym c.first_line_feed.ensures ∙ c.in-Some.is)
    ∙ ap (λ (rest : List ℕ). without_return (take c.in-Some.count c.args.text.now) ∷ text_lines rest) (sym c.behind.ensures) ∙ ap (λ (line : List ℕ). line ∷ text_lines c.behind.result.now) (sym c.without_return.ensures)

pub returns-in-None-clause-first : goal.returns-in-None-clause-first
returns-in-None-clause-first c =
    first-unfed c.args.text.now (filled_from c.args.text.now (sym c.is_empty.ensures ∙ c.if-is_empty.false)) (sym c.first_line_feed.ensures ∙ c.in-None.is)
