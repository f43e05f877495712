use Rattle.std.proofs.Common.{◌∙◌, ap, refl}
use Rattle.xrf_log.specs.Scan.{Scanned, cleared}
use Rattle.xrf_file.specs.Ledger.{Ledger}
use Rattle.xrf_standby.proofs.Starting.{started}
use Rattle.xrf_standby.proofs.alternate.Alternate.start.Goals as goal

pub returns-clause-stands : goal.returns-clause-stands
returns-clause-stands c = record {
  shared = started c.start.result c.args.settings.now (c.start.ensures c.args.settings.now);
  rooms = record {
    sizes = c.requires.sizes;
    units = ap (λ (l : Ledger). l.slots) c.clear.ensures.units ∙ c.requires.units;
    records = ap (λ (l : Ledger). l.records) c.clear.ensures.units ∙ c.requires.records;
    scan = ap (λ (x : Scanned). x.slots) c.clear.ensures.scan ∙ c.requires.scan;
  };
  terminals = c.clear.ensures.table;
  unscanned = c.clear.ensures.scan ∙ ap cleared c.requires.scan;
  was = refl;
  through = refl;
  at_boundary = λ none. refl;
  mode = refl;
  decides = refl;
  leaves = refl;
  abandons = refl;
  starts = refl;
  started = refl;
  issues = refl;
  reads = refl;
}
