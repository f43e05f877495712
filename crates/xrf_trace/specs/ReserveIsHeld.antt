-- Reserve is held: the reserve is given while nobody holds it; the record is read and written by its holder alone, which does
-- nothing else; and what stands when it is written is what was read.
use Rattle.std.specs.Prelude.{◌≡◌, true, false, List}
use Rattle.xrf_base.specs.declared.site.Site.{Site}
use Rattle.xrf_history.specs.Events.{Event}
use Rattle.xrf_history.specs.Progress.{has_read}
use Rattle.xrf_history.specs.Reserving.{record_read}
use Rattle.xrf_trace.specs.declared.entry.Entry.{Entry}
use Rattle.xrf_trace.specs.declared.entry.Act.{Act}
use Rattle.xrf_trace.specs.declared.entry.Act.TheVariants as act
use Rattle.xrf_trace.specs.Scenario.{Scen}
use Rattle.xrf_trace.specs.Words.{holds_reserve, reserve_is_free}
use Rattle.xrf_trace.specs.Devices.{control}
use Rattle.xrf_trace.specs.Acts.{is_act}
use Rattle.xrf_trace.specs.Each.{Each, Where, AtSite}

abbrev pub IsUnderReserve : List Entry → Site → List Event → Act → Type 0
IsUnderReserve t x h act.Reserve = reserve_is_free t ≡ true
IsUnderReserve t x h act.CtlRead = holds_reserve t x ≡ true
IsUnderReserve t x h (act.CtlWrite written) = (holds_reserve t x ≡ true) × (has_read h ≡ true) × (record_read h ≡ control t)
IsUnderReserve t x h act.Release = holds_reserve t x ≡ true
IsUnderReserve t x h a = Where (is_act a) (holds_reserve t x ≡ false)

abbrev pub ReserveIsHeld : Scen → List Entry → Type 0
ReserveIsHeld s t = Each (λ t e. AtSite s t e.who (λ x h. IsUnderReserve t x h e.act)) t
