use Rattle.std.proofs.Common.{◌∙◌, ap, refl}
use Rattle.xrf_log.specs.Scan.{Scanned, cleared}
use Rattle.xrf_file.specs.Ledger.{Ledger}
use Rattle.xrf_active.proofs.active.Active.start.Goals as goal

pub returns-clause-stands : goal.returns-clause-stands
returns-clause-stands c = record {
  shared = c.start.ensures c.args.settings.now;
  rooms = record {
    sizes = c.requires.sizes;
    units = ap (λ (l : Ledger). l.slots) c.clear.ensures.units ∙ c.requires.units;
    records = ap (λ (l : Ledger). l.records) c.clear.ensures.units ∙ c.requires.records;
    scan = ap (λ (x : Scanned). x.slots) c.clear.ensures.scan ∙ c.requires.scan;
  };
  owns = refl;
  starts = λ e. refl;
  signs_on = λ e. refl;
  stays = λ e. refl;
  decides = λ e. refl;
  reads = λ e. refl;
  signs_off = refl;
  tells = refl;
  drops = refl;
  drains = refl;
  sends = refl;
  terminals = c.clear.ensures.table;
  takes = c.clear.ensures.scan ∙ ap cleared c.requires.scan;
  scanned = refl;
  restarted = refl;
  undoes = refl;
  opens = refl;
  keypoint = refl;
  small = tt;
  none_backed_out = λ e unit. refl;
  none_opened = λ e. refl;
  anchored = λ e. refl;
  backs_out = λ e. refl;
  has_scanned = λ e. absurd (cc);
  has_drained = λ e. refl;
  units = λ e. absurd (cc);
  keys = λ e. absurd (cc);
  plans = refl;
  rolls = refl;
}
