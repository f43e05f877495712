use Rattle.xrf_clt.proofs.Faultless.{faultless, line_faultless}
use Rattle.xrf_clt.proofs.lines_have_no_fault.Goals as goal

pub returns-clause-lines : goal.returns-clause-lines
returns-clause-lines c = line_faultless

pub returns-clause-only : goal.returns-clause-only
returns-clause-only c = λ ws e. let s = faultless ws e in (s.line, (s.is_line, s.words_are))
