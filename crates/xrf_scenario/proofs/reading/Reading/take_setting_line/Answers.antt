use Rattle.std.proofs.Common.{sym}
use Rattle.xrf_scenario.proofs.SaidLaws.{setting-said}
use Rattle.xrf_scenario.proofs.reading.Reading.take_setting_line.Goals as goal

pub take_setting-requires-clause-line : goal.take_setting-requires-clause-line
take_setting-requires-clause-line c = rw (← c.self.view_is) (setting-said c.self.inside.format c.args.text.now c.in-Ok.line c.requires.bytes (sym c.in-Ok.ensures.exact))
