-- What a reading holds.
use Rattle.xrf_scenario.specs.SoFar.{SoFar}
use Rattle.xrf_scenario.specs.declared.reading.Reading.TheInside.{Inside}

abbrev pub held : Inside → SoFar
held r = record { section = r.section; format = r.format; given = r.given; records = r.records.items; clt = r.clt; work_a = r.work_a.items; work_b = r.work_b.items; plan = r.plan.items; choices = r.choices.items }
