-- The decisions of a region that stands by, that waits, and that owns: the first row that applies. Each goes by
-- the tick of the last change of the other site's signals, the control record, and the present tick.
use Rattle.std.specs.Prelude.{ℕ, ◌&&◌, Bool, true, false, not, if◌then◌else◌, Option, Some, None, is_some, is_none}
use Rattle.xrf_base.specs.declared.site.Takeovr.{Takeovr}
use Rattle.xrf_base.specs.declared.site.Takeovr.TheVariants.{Auto, Manual, Command}
use Rattle.xrf_ctl.specs.declared.parts.OwnerState.TheVariants.{Running, OffNormal, OffAbend, OffTakeover}
use Rattle.xrf_ctl.specs.declared.parts.Cause.TheVariants as cause
use Rattle.xrf_ctl.specs.Control.{ControlRecord}
use Rattle.xrf_cavm.specs.declared.known.Known.{Known}
use Rattle.xrf_cavm.specs.declared.decisions.Mode.{Mode}
use Rattle.xrf_cavm.specs.declared.decisions.Why.TheVariants as why
use Rattle.xrf_cavm.specs.declared.decisions.Decision.{Decision}
use Rattle.xrf_cavm.specs.declared.decisions.Decision.TheVariants as decision
use Rattle.xrf_cavm.specs.declared.decisions.Waiting.{Waiting}
use Rattle.xrf_cavm.specs.declared.decisions.Waiting.TheVariants as waiting
use Rattle.xrf_cavm.specs.declared.decisions.Acting.{Acting}
use Rattle.xrf_cavm.specs.declared.decisions.Acting.TheVariants as acting
use Rattle.xrf_cavm.specs.Record.{inc_of_alt, is_alt, owner_is, owner_may_run}
use Rattle.xrf_cavm.specs.Watch.{is_lost}

abbrev pub is_auto : Takeovr → Bool
is_auto Auto = true
is_auto _ = false

abbrev pub is_manual : Takeovr → Bool
is_manual Manual = true
is_manual _ = false

-- a takeover may start without a command: AUTO or MANUAL
abbrev pub starts_itself : Takeovr → Bool
starts_itself Command = false
starts_itself _ = true

-- the owner runs, its signals are watched, and they are lost
abbrev pub misses_owner : ℕ → ControlRecord → Mode → ℕ → Bool
misses_owner change r mode now = owner_is r Running && mode.surveillance && is_lost change mode.adi now

abbrev pub decide : ℕ → ControlRecord → ℕ → Mode → ℕ → Decision
decide change r me mode now =
    if mode.shutdown then decision.Leave why.Shutdown
    else (if not (is_alt r me) then decision.Leave why.Dropped
    else (if owner_is r OffNormal then decision.Leave why.Normal
    else (if mode.commanded then decision.Start cause.Command
    else (if owner_is r OffAbend && starts_itself mode.takeovr then decision.Start cause.Abend
    else (if owner_is r OffTakeover && starts_itself mode.takeovr then decision.Start cause.Shutdown
    else (if misses_owner change r mode now && is_auto mode.takeovr then decision.Start cause.Lost
    else (if misses_owner change r mode now && is_manual mode.takeovr && mode.go then decision.Start cause.Lost
    else (if misses_owner change r mode now && is_manual mode.takeovr && not mode.asked then decision.Ask
    else decision.Nothing))))))))

-- an alternate that has started its takeover waits while the owner may still be at work
abbrev pub decide_waiting : ControlRecord → Known → Waiting
decide_waiting r known = if owner_may_run r known then waiting.Wait else waiting.Through

-- the alternate is the one of the epoch, whose messages the owner writes
abbrev pub is_of_epoch : ControlRecord → Option ℕ → Bool
is_of_epoch r None = false
is_of_epoch r (Some n) = is_alt r n

abbrev pub decide_active : ℕ → ControlRecord → Option ℕ → ℕ → ℕ → Acting
decide_active change r epoch pdi now =
    if is_some r.taking then acting.Seen
    else (if is_some r.alt && not (is_of_epoch r epoch) then acting.CatchUp (inc_of_alt r.alt)
    else (if is_none r.alt && is_some epoch then acting.Forget
    else (if is_of_epoch r epoch && is_lost change pdi now then acting.Lost
    else acting.Nothing)))
