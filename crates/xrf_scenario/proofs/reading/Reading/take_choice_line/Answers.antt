use Rattle.std.proofs.Common.{sym}
use Rattle.xrf_grammar.proofs.FoundLaws.{choosing_found}
use Rattle.xrf_text.specs.Text.{words}
use Rattle.xrf_scenario.proofs.reading.Reading.take_choice_line.Goals as goal

pub take_choosing-requires-clause-line : goal.take_choosing-requires-clause-line
take_choosing-requires-clause-line c = choosing_found (words c.args.text.now) c.in-Ok.line (sym c.in-Ok.ensures.exact)
