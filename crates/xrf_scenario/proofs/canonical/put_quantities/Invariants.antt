use Rattle.std.proofs.Common.{◌≡◌, ◌++◌, map, take}
use Rattle.xrf_grammar.specs.LineText.{line_text}
use Rattle.xrf_grammar.specs.Quantities.{quantity_of}
use Rattle.xrf_grammar.specs.declared.line.Line.TheVariants.{Quantity}
use Rattle.xrf_grammar.specs.declared.quantity.Quantity.{Quantity as Setting}
use Rattle.xrf_scenario.specs.Canonical.{text_of}
use Rattle.xrf_scenario.proofs.canonical.put_quantities.Given as goal

-- the lines so far stand behind what was there
abbrev pub invariant-loop-quantity : goal.invariant-loop-quantity
invariant-loop-quantity l = l.out.items ≡ l.fn.out.items ++ text_of (map (λ (q : Setting). line_text (Quantity q (quantity_of l.settings q))) (take l.quantity-index l.quantities))
