use Rattle.std.proofs.Common.{◌∙◌, sym}
use Rattle.xrf_text.proofs.Places.{filled_from}
use Rattle.xrf_text.proofs.Lines.{lines-whole, lines-cut_range}
use Rattle.xrf_text.proofs.split_line.Goals as goal

pub returns-in-None-clause-first : goal.returns-in-None-clause-first
returns-in-None-clause-first c =
    lines-whole c.args.text.now (filled_from c.args.text.now (sym c.is_empty.ensures ∙ c.if-is_empty.false)) c.in-None.ensures

pub returns-in-Some-clause-first : goal.returns-in-Some-clause-first
returns-in-Some-clause-first c = lines-cut_range c.args.text.now c.in-Some.end c.in-Some.ensures
