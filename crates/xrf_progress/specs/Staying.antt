-- Who stays: an alternate that the record names does not decide to leave, and one that rests does not leave.
use Rattle.std.specs.Prelude.{◌≡◌, true, false, List, Some, None}
use Rattle.xrf_base.specs.declared.site.Site.{Site}
use Rattle.xrf_ctl.specs.declared.parts.OwnerState.TheVariants.{OffNormal}
use Rattle.xrf_cavm.specs.Record.{is_alt, owner_is}
use Rattle.xrf_cavm.specs.declared.decisions.Decided.{Decided}
use Rattle.xrf_history.specs.Events.{Event}
use Rattle.xrf_history.specs.Holding.{number, is_alternate, is_tracking}
use Rattle.xrf_history.specs.Deciding.{shutdown_commanded}
use Rattle.xrf_history.specs.Reserving.{end_in, is_leaving}
use Rattle.xrf_trace.specs.declared.entry.Entry.{Entry}
use Rattle.xrf_trace.specs.declared.entry.Act.TheVariants as act
use Rattle.xrf_trace.specs.Scenario.{Scen}
use Rattle.xrf_trace.specs.Devices.{control}
use Rattle.xrf_trace.specs.Jobs.{hist}
use Rattle.xrf_trace.specs.Acts.{next_act}
use Rattle.xrf_trace.specs.Runs.{IsRun}

-- While the record names a tracking alternate, beside an owner that did not sign off normally, it does not decide to leave,
-- by however old a look, unless its shutdown was commanded.
abbrev pub AlternatesStay : Type 0
AlternatesStay =
    (s : Scen) (t : List Entry) (x : Site) (h : List Event) (d : Decided) → IsRun s t → hist s t x ≡ Some h → is_tracking h ≡ true
    → shutdown_commanded h ≡ false → is_alt (control t) (number h) ≡ true → owner_is (control t) OffNormal ≡ false
    → next_act s t x ≡ Some (act.Decide d) → end_in d ≡ None

-- An alternate that rests does not leave.
abbrev pub WhoRestsStays : Type 0
WhoRestsStays =
    (s : Scen) (t : List Entry) (x : Site) (h : List Event) → IsRun s t → hist s t x ≡ Some h → is_alternate h ≡ true
    → next_act s t x ≡ None → is_leaving h ≡ false
