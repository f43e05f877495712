use Rattle.std.proofs.Common.{◌&&◌, sym, subst, ◌∙◌, arith}
use Rattle.xrf_trace.specs.declared.entry.Who.{Who}
use Rattle.xrf_trace.specs.Devices.{signal_if}
use Rattle.xrf_trace.specs.Landing.{lands}
use Rattle.xrf_trace.specs.Words.{is_of}
use Rattle.xrf_devices.specs.Places.{sector1_place}
use Rattle.xrf_devices.specs.Standing.{SectorsAre}
use Rattle.xrf_devices.proofs.SectorLaws.{sectors-a, sectors-b}
use Rattle.xrf_devices.proofs.signals.write_signal1.Goals as goal

pub returns-in-A-clause-sectors : goal.returns-in-A-clause-sectors
returns-in-A-clause-sectors c before are =
    let new = c.write_sector.new.bytes in
    subst (λ (w : Who). SectorsAre sector1_place new (λ x. signal_if (is_of w x && lands c.args.land.now) c.args.signal.now (before x))) (sym c.in-A.is)
    (sectors-a sector1_place c.args.ctl.now new c.args.signal.now before (lands c.args.land.now) (sym c.lands.ensures ∙ c.if-lands.true)
    c.write_sector.ensures.sector (c.write_sector.ensures.behind 320 64 (omega arith)) are)

pub returns-in-B-clause-sectors : goal.returns-in-B-clause-sectors
returns-in-B-clause-sectors c before are =
    let new = c.write_sector-in-B.new.bytes in
    subst (λ (w : Who). SectorsAre sector1_place new (λ x. signal_if (is_of w x && lands c.args.land.now) c.args.signal.now (before x))) (sym c.in-B.is)
    (sectors-b sector1_place c.args.ctl.now new c.args.signal.now before (lands c.args.land.now) (sym c.lands.ensures ∙ c.if-lands.true)
    c.write_sector-in-B.ensures.sector (c.write_sector-in-B.ensures.before 256 64 (omega arith)) are)
