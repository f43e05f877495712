use Rattle.std.proofs.Common.{◌≡◌, ◌++◌, map, take}
use Rattle.xrf_grammar.specs.Spelling.{choice_text}
use Rattle.xrf_scenario.specs.Canonical.{text_of}
use Rattle.xrf_scenario.proofs.canonical.put_choices.Given as goal

-- the lines so far stand behind what was there
abbrev pub invariant-loop-choice : goal.invariant-loop-choice
invariant-loop-choice l = l.out.items ≡ l.fn.out.items ++ text_of (map choice_text (take l.choice-index l.choices))
