-- Broken traces: a restart with a file or with terminals other than promised.
use Rattle.std.specs.Prelude.{List, ◌∷◌, drop, codes, Some}
use Rattle.xrf_base.specs.Values.{slot_of}
use Rattle.xrf_trace.specs.declared.entry.Act.TheVariants as act
use Rattle.xrf_trace.specs.declared.entry.Entry.{Entry}
use Rattle.xrf_examples.specs.Beginnings.{restarted, terminals_told}
use Rattle.xrf_examples.specs.Units.{put}
use Rattle.xrf_examples.specs.OrdinaryUnitOfWork as unit_of_work
use Rattle.xrf_broken.specs.Steps.{by_a, by_b}

abbrev pub a_restart_leaves_a_unit_in_flight : List Entry
a_restart_leaves_a_unit_in_flight = by_a 0 act.Restarted ∷ put

abbrev pub a_restart_undoes_a_committed_unit : List Entry
a_restart_undoes_a_committed_unit =
    by_a 0 act.Restarted ∷
    by_a 0 (act.Undo 1 (slot_of (Some (codes "OLD")))) ∷
    unit_of_work.trace

abbrev pub a_restart_in_place_keeps_a_terminal : List Entry
a_restart_in_place_keeps_a_terminal = by_a 0 act.Restarted ∷ by_a 0 (act.Item 1) ∷ restarted

-- the alternate has read none of the messages that told it two terminals
abbrev pub a_takeover_forgets_the_terminals : List Entry
a_takeover_forgets_the_terminals = by_b 1 act.Restarted ∷ drop 1 terminals_told
