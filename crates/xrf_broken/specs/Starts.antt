-- Broken traces: a takeover that is started without a cause, not started by one, or otherwise than decided.
use Rattle.std.specs.Prelude.{List, ◌∷◌, drop}
use Rattle.xrf_base.specs.declared.site.Site.TheVariants as site
use Rattle.xrf_ctl.specs.declared.parts.OwnerState.TheVariants as state
use Rattle.xrf_ctl.specs.declared.parts.Cause.TheVariants as cause
use Rattle.xrf_ctl.specs.Control.{of_parts}
use Rattle.xrf_cavm.specs.declared.decisions.Decision.TheVariants as decision
use Rattle.xrf_cavm.specs.declared.decisions.Decided.TheVariants as decided
use Rattle.xrf_trace.specs.declared.entry.Act.TheVariants as act
use Rattle.xrf_trace.specs.declared.entry.Entry.{Entry}
use Rattle.xrf_examples.specs.Making.{owner_of, alt_of, taking_of}
use Rattle.xrf_examples.specs.Beginnings.{restarted, off_abend, commanded}
use Rattle.xrf_examples.specs.Takeovers.{lost}
use Rattle.xrf_broken.specs.Steps.{by_a, by_b, started, ticked, round_of_b}

abbrev pub command_mode_is_ignored : List Entry
command_mode_is_ignored = by_b 1 (act.Decide (decided.Alternate (decision.Start cause.Abend))) ∷ round_of_b 1 (ticked 1 off_abend)

abbrev pub a_start_comes_a_tick_late : List Entry
a_start_comes_a_tick_late = by_b 9 (act.Decide (decided.Alternate decision.Nothing)) ∷ lost

-- the alternate that was commanded has decided to start
abbrev decided_to_start : List Entry
decided_to_start = drop 4 commanded

abbrev pub an_alternate_looks_again_after_start : List Entry
an_alternate_looks_again_after_start = by_b 1 act.Look1 ∷ decided_to_start

abbrev pub an_alternate_decides_start_again_and_never_acts : List Entry
an_alternate_decides_start_again_and_never_acts =
    by_b 2 (act.Decide (decided.Alternate (decision.Start cause.Command))) ∷
    round_of_b 2 (ticked 2 decided_to_start)

abbrev pub a_start_writes_another_cause : List Entry
a_start_writes_another_cause =
    by_b 1 (act.CtlWrite (of_parts 1 2 (owner_of 1 site.A state.Running) (alt_of 2 site.B) (taking_of 2 cause.Lost))) ∷
    drop 2 commanded

abbrev pub a_sign_on_brings_a_taking : List Entry
a_sign_on_brings_a_taking =
    by_b 0 (act.CtlWrite (of_parts 1 2 (owner_of 1 site.A state.Running) (alt_of 2 site.B) (taking_of 2 cause.Command))) ∷
    started act.StartStandby restarted

abbrev pub a_taking_is_replaced : List Entry
a_taking_is_replaced =
    by_a 1 (act.CtlWrite (of_parts 1 2 (owner_of 1 site.A state.OffAbend) (alt_of 2 site.B) (taking_of 2 cause.Lost))) ∷
    by_a 1 act.CtlRead ∷
    by_a 1 act.Reserve ∷
    by_a 1 act.Abend ∷
    commanded
