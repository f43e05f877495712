use Rattle.std.proofs.Common.{◌≡◌, ◌++◌, map, take}
use Rattle.xrf_base.specs.declared.items.Item.{Item}
use Rattle.xrf_grammar.specs.LineText.{line_text}
use Rattle.xrf_grammar.specs.declared.line.Line.TheVariants.{Work}
use Rattle.xrf_scenario.specs.Canonical.{text_of}
use Rattle.xrf_scenario.proofs.canonical.put_work.Given as goal

-- the lines so far stand behind what was there
abbrev pub invariant-loop-item : goal.invariant-loop-item
invariant-loop-item l = l.out.items ≡ l.fn.out.items ++ text_of (map (λ (i : Item). line_text (Work l.site i)) (take l.item-index l.work))
