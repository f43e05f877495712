-- Broken traces: an owner that comes without a proof, without a right to come, or that stands still.
use Rattle.std.specs.Prelude.{List, ◌∷◌, drop, None}
use Rattle.xrf_base.specs.declared.site.Site.TheVariants as site
use Rattle.xrf_ctl.specs.declared.parts.OwnerState.TheVariants as state
use Rattle.xrf_ctl.specs.declared.parts.Cause.TheVariants as cause
use Rattle.xrf_ctl.specs.Control.{of_parts}
use Rattle.xrf_cavm.specs.declared.decisions.Decision.TheVariants as decision
use Rattle.xrf_cavm.specs.declared.decisions.Waiting.TheVariants as waiting
use Rattle.xrf_cavm.specs.declared.decisions.Decided.TheVariants as decided
use Rattle.xrf_cavm.specs.declared.decisions.Why.TheVariants as why
use Rattle.xrf_history.specs.declared.want.EndWhy.TheVariants as end
use Rattle.xrf_setup.specs.declared.choice.Landing.TheVariants as landing
use Rattle.xrf_trace.specs.declared.entry.Act.TheVariants as act
use Rattle.xrf_trace.specs.declared.entry.Entry.{Entry}
use Rattle.xrf_trace.specs.declared.entry.Land.TheVariants as land
use Rattle.xrf_trace.specs.declared.entry.Who.TheVariants as who
use Rattle.xrf_examples.specs.Making.{entry_of, owner_of, taking_of}
use Rattle.xrf_examples.specs.Beginnings.{restarted, off_abend, commanded}
use Rattle.xrf_broken.specs.Steps.{by_a, by_b, started, ticked, round_of_b, through_of_b}

abbrev pub a_waiting_alternate_decides_through_over_a_running_owner : List Entry
a_waiting_alternate_decides_through_over_a_running_owner =
    by_b 2 (act.Decide (decided.Waiting waiting.Through)) ∷
    round_of_b 2 (ticked 2 commanded)

-- the active stopped and that is confirmed, and the waiting alternate looks again
abbrev proved : List Entry
proved =
    round_of_b 2
    (ticked 2 (entry_of 1 who.Env 0 (act.Confirm 1) land.Full ∷ entry_of 1 who.A 1 act.NoAct (land.Stop landing.Nothing) ∷ commanded))

abbrev pub a_proof_is_ignored : List Entry
a_proof_is_ignored = by_b 2 (act.Decide (decided.Waiting waiting.Wait)) ∷ proved

abbrev pub a_waiting_alternate_decides_to_leave : List Entry
a_waiting_alternate_decides_to_leave = by_b 2 (act.Decide (decided.Alternate (decision.Leave why.Normal))) ∷ round_of_b 2 (ticked 2 commanded)

abbrev decided_through : List Entry
decided_through = by_b 2 (act.Decide (decided.Waiting waiting.Through)) ∷ proved

abbrev pub an_alternate_looks_again_after_through : List Entry
an_alternate_looks_again_after_through = by_b 2 act.Look1 ∷ decided_through

abbrev pub a_through_keeps_the_taking : List Entry
a_through_keeps_the_taking =
    by_b 2 (act.CtlWrite (of_parts 1 2 (owner_of 2 site.B state.Running) None (taking_of 2 cause.Command))) ∷
    by_b 2 act.CtlRead ∷
    by_b 2 act.Reserve ∷
    decided_through

-- the alternate decided to leave as dropped, and goes through all the same
abbrev pub a_dropped_alternate_goes_through : List Entry
a_dropped_alternate_goes_through =
    by_b 1 act.Restarted ∷
    by_b 1 (act.LogRead 0) ∷
    by_b 1 (act.MsgRead 0) ∷
    by_b 1 act.Release ∷
    through_of_b 1
    (by_b 1 (act.Decide (decided.Alternate (decision.Leave why.Dropped))) ∷
    round_of_b 1
    (ticked 1
    (by_a 0 (act.Ended end.SignedOff) ∷
    by_a 0 act.Release ∷
    by_a 0 (act.CtlWrite (of_parts 1 2 (owner_of 1 site.A state.OffAbend) None None)) ∷
    drop 2 off_abend)))

abbrev pub a_standby_becomes_the_active : List Entry
a_standby_becomes_the_active =
    by_b 0 (act.CtlWrite (of_parts 1 2 (owner_of 2 site.B state.Running) None None)) ∷
    started act.StartStandby
    (by_a 0 act.Release ∷
    by_a 0 (act.CtlWrite (of_parts 1 1 (owner_of 1 site.A state.OffAbend) None None)) ∷
    by_a 0 act.CtlRead ∷
    by_a 0 act.Reserve ∷
    by_a 0 act.Abend ∷
    restarted)

abbrev pub a_second_active_is_granted : List Entry
a_second_active_is_granted =
    by_b 0 (act.CtlWrite (of_parts 1 2 (owner_of 2 site.B state.Running) None None)) ∷
    started act.StartActive restarted

-- the active of site A signed off as ended abnormally, and starts again beside its alternate
abbrev pub a_sign_on_over_a_live_alternate : List Entry
a_sign_on_over_a_live_alternate =
    entry_of 0 who.A 3 (act.CtlWrite (of_parts 1 3 (owner_of 3 site.A state.Running) None None)) land.Full ∷
    entry_of 0 who.A 0 act.CtlRead land.Full ∷
    entry_of 0 who.A 0 act.Reserve land.Full ∷
    entry_of 0 who.A 0 act.StartActive land.Full ∷
    by_a 0 (act.Ended end.SignedOff) ∷
    off_abend

abbrev pub a_through_over_a_running_owner : List Entry
a_through_over_a_running_owner = through_of_b 1 commanded

abbrev pub a_reserve_is_never_released : List Entry
a_reserve_is_never_released = by_a 0 (act.MsgRead 0) ∷ by_a 0 act.CtlRead ∷ by_a 0 act.Reserve ∷ restarted
