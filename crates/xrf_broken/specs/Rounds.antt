-- Broken traces: rounds that are not made, that are made in part or with another signal, and decisions of an owner by
-- another record than it looked at.
use Rattle.std.specs.Prelude.{ℕ, List, ◌∷◌}
use Rattle.xrf_ctl.specs.Signal.{of_numbers}
use Rattle.xrf_cavm.specs.declared.decisions.Acting.TheVariants as acting
use Rattle.xrf_cavm.specs.declared.decisions.Decision.TheVariants as decision
use Rattle.xrf_cavm.specs.declared.decisions.Decided.TheVariants as decided
use Rattle.xrf_exit.specs.declared.ExitAnswer.TheVariants as exit
use Rattle.xrf_trace.specs.declared.entry.Act.TheVariants as act
use Rattle.xrf_trace.specs.declared.entry.Entry.{Entry}
use Rattle.xrf_examples.specs.Beginnings.{tracking}
use Rattle.xrf_broken.specs.Steps.{by_a, by_b, ticked, round_of_a, round_of_b}
use Rattle.xrf_broken.specs.Conduct.{five_ticks, started_by_loss}

-- the active gives the signal of a round on both paths
abbrev signalled : (tick counter : ℕ) → List Entry → List Entry
signalled tick counter before = by_a tick (act.Signal2 (of_numbers 1 counter 0)) ∷ by_a tick (act.Signal1 (of_numbers 1 counter 0)) ∷ before

-- the active signals, and the alternate does not look
abbrev pub an_alternate_that_does_not_look_misses_the_active : List Entry
an_alternate_that_does_not_look_misses_the_active = started_by_loss (signalled 5 2 (five_ticks tracking))

abbrev pub an_active_makes_no_rounds : List Entry
an_active_makes_no_rounds = by_a 5 (act.Item 1) ∷ five_ticks tracking

-- at each tick the active signals what it signalled at tick 0, and the alternate looks
abbrev heard_nothing : (tick : ℕ) → List Entry → List Entry
heard_nothing tick before = round_of_b tick (signalled tick 1 (ticked tick before))

abbrev decided_nothing : (tick : ℕ) → List Entry → List Entry
decided_nothing tick before = by_b tick (act.Decide (decided.Alternate decision.Nothing)) ∷ heard_nothing tick before

abbrev pub the_signal_of_an_active_stands_still : List Entry
the_signal_of_an_active_stands_still =
    started_by_loss (heard_nothing 5 (decided_nothing 4 (decided_nothing 3 (decided_nothing 2 (decided_nothing 1 tracking)))))

abbrev pub an_active_never_catches_its_alternate_up : List Entry
an_active_never_catches_its_alternate_up = by_a 1 (act.Decide (decided.Owner acting.Nothing)) ∷ round_of_a 1 (ticked 1 tracking)

abbrev pub an_active_says_seen_where_nothing_is : List Entry
an_active_says_seen_where_nothing_is =
    by_a 1 (act.Exit exit.Abend) ∷
    by_a 1 (act.Decide (decided.Owner acting.Seen)) ∷
    round_of_a 1 (ticked 1 tracking)
