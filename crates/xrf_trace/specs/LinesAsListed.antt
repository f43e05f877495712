-- Lines as listed: a line of the command list is issued by a waiting alternate alone, each once and in their order, and it
-- does nothing else before the last of them but give the reserve back.
use Rattle.std.specs.Prelude.{◌≡◌, ◌+◌, true, false, List}
use Rattle.xrf_history.specs.declared.settings.Settings.{Settings}
use Rattle.xrf_history.specs.Events.{Event}
use Rattle.xrf_history.specs.Rows.{lines_issued, lines_left}
use Rattle.xrf_trace.specs.declared.entry.Entry.{Entry}
use Rattle.xrf_trace.specs.declared.entry.Act.{Act}
use Rattle.xrf_trace.specs.declared.entry.Act.TheVariants as act
use Rattle.xrf_trace.specs.Scenario.{Scen, settings}
use Rattle.xrf_trace.specs.Acts.{is_act}
use Rattle.xrf_trace.specs.Each.{Each, Where, AtSite}

abbrev pub IsListed : Settings → List Event → Act → Type 0
IsListed p h (act.Clt k) = (lines_left p h ≡ true) × (k ≡ lines_issued h + 1)
IsListed p h act.Release = Unit {0}
IsListed p h a = Where (is_act a) (lines_left p h ≡ false)

abbrev pub LinesAsListed : Scen → List Entry → Type 0
LinesAsListed s t = Each (λ t e. AtSite s t e.who (λ x h. IsListed (settings s x) h e.act)) t
