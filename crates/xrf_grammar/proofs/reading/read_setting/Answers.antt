use Rattle.std.proofs.Common.{Ok}
use Rattle.xrf_text.specs.Text.{words}
use Rattle.xrf_grammar.specs.Table.{settings_of}
use Rattle.xrf_grammar.proofs.FormLaws.{found_by_reading}
use Rattle.xrf_grammar.proofs.ApartLaws.{no_setting}
use Rattle.xrf_grammar.proofs.reading.read_setting.Goals as goal

pub returns-in-None-clause-none : goal.returns-in-None-clause-none
returns-in-None-clause-none c = no_setting c.args.format (words c.args.line.now) c.read_split.result c.read_split.ensures

pub returns-in-Some-clause-found : goal.returns-in-Some-clause-found
returns-in-Some-clause-found c = found_by_reading (settings_of c.args.format) (words c.args.line.now) (Ok c.in-Some.says) c.in-Some.ensures
