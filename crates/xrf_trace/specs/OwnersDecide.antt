-- Owners decide: each DECIDE of an owner is by the record that it looked at, its epoch, and the tick of the last change.
use Rattle.std.specs.Prelude.{List}
use Rattle.xrf_cavm.specs.Decisions.{decide_active}
use Rattle.xrf_cavm.specs.declared.decisions.Decided.TheVariants.{Owner}
use Rattle.xrf_history.specs.Holding.{is_owner}
use Rattle.xrf_history.specs.Notices.{epoch}
use Rattle.xrf_history.specs.Looking.{record_seen, change}
use Rattle.xrf_trace.specs.declared.entry.Entry.{Entry}
use Rattle.xrf_trace.specs.Scenario.{Scen, settings}
use Rattle.xrf_trace.specs.StartByCause.{DecidesSo}
use Rattle.xrf_trace.specs.Each.{Each, AtSite}

abbrev pub DecidesAsOwner : Scen → List Entry → Entry → Type 0
DecidesAsOwner s t e =
    AtSite s t e.who (λ x h. DecidesSo (is_owner h) (Owner (decide_active (change h) (record_seen h) (epoch h) (settings s x).pdi e.tick)) e.act)

abbrev pub OwnersDecide : Scen → List Entry → Type 0
OwnersDecide s t = Each (DecidesAsOwner s) t
