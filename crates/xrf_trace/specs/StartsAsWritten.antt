-- Starts as written: each START of an alternate that tracks is by its cause, and where a cause stands at its DECIDE
-- it is a START. This follows of every trace whose starts are by their cause.
use Rattle.std.specs.Prelude.{◌≡◌, List, Some}
use Rattle.xrf_base.specs.declared.site.Site.{Site}
use Rattle.xrf_history.specs.Events.{Event}
use Rattle.xrf_history.specs.Holding.{is_tracking}
use Rattle.xrf_history.specs.Looking.{record_seen}
use Rattle.xrf_history.specs.Reserving.{start_in}
use Rattle.xrf_history.specs.Causes.{start_cause}
use Rattle.xrf_trace.specs.declared.entry.Entry.{Entry}
use Rattle.xrf_trace.specs.declared.entry.Act.{Act}
use Rattle.xrf_trace.specs.declared.entry.Act.TheVariants as act
use Rattle.xrf_trace.specs.Scenario.{Scen, settings}
use Rattle.xrf_trace.specs.Each.{Each, Where, AtSite}

abbrev pub StartsBy : Scen → Entry → Site → List Event → Act → Type 0
StartsBy s e x h (act.Decide made) = Where (is_tracking h) (start_in (Some made) ≡ start_cause (settings s x) h e.tick (record_seen h))
StartsBy s e x h _ = Unit {0}

abbrev pub StartsAsWritten : Scen → List Entry → Type 0
StartsAsWritten s t = Each (λ t e. AtSite s t e.who (λ x h. StartsBy s e x h e.act)) t
