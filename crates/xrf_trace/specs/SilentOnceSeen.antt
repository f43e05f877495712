-- Silent once seen: an owner that has seen a taking makes no update after it.
use Rattle.std.specs.Prelude.{◌≡◌, false, List}
use Rattle.xrf_history.specs.Progress.{has_seen_taking}
use Rattle.xrf_trace.specs.declared.entry.Entry.{Entry}
use Rattle.xrf_trace.specs.Scenario.{Scen}
use Rattle.xrf_trace.specs.Throughs.{is_update}
use Rattle.xrf_trace.specs.Each.{Each, Where, AtSite}

abbrev pub IsSilent : Scen → List Entry → Entry → Type 0
IsSilent s t e = Where (is_update e.act) (AtSite s t e.who (λ x h. has_seen_taking h ≡ false))

abbrev pub SilentOnceSeen : Scen → List Entry → Type 0
SilentOnceSeen s t = Each (IsSilent s) t
