use Rattle.std.proofs.Common.{sym, ap, ◌∙◌}
use Rattle.xrf_base.specs.declared.site.Site.TheVariants.{A, B}
use Rattle.xrf_devices.proofs.signals.read_signal1.Goals as goal

pub returns-in-A : goal.returns-in-A
returns-in-A c signal are = c.read_sector.ensures (signal A) (are A) ∙ ap signal (sym c.in-A.is)

pub returns-in-B : goal.returns-in-B
returns-in-B c signal are = c.read_sector-in-B.ensures (signal B) (are B) ∙ ap signal (sym c.in-B.is)
