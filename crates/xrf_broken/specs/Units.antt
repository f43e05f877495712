-- Broken traces: units that are other than their items.
use Rattle.std.specs.Prelude.{List, ◌∷◌, drop, codes, Some, None}
use Rattle.xrf_base.specs.Values.{slot_of}
use Rattle.xrf_logrec.specs.declared.records.LogRec.TheVariants as rec
use Rattle.xrf_trace.specs.declared.entry.Act.TheVariants as act
use Rattle.xrf_trace.specs.declared.entry.Entry.{Entry}
use Rattle.xrf_examples.specs.Making.{unit_of}
use Rattle.xrf_examples.specs.Beginnings.{restarted}
use Rattle.xrf_examples.specs.Units.{put, committing, answered}
use Rattle.xrf_examples.specs.OrdinaryUnitOfWork as unit_of_work
use Rattle.xrf_broken.specs.Steps.{by_a}

abbrev pub a_commit_is_answered_by_a_backout : List Entry
a_commit_is_answered_by_a_backout =
    by_a 0 (act.LogOpen 2 (rec.Backout (unit_of 1 1))) ∷
    by_a 0 (act.LogBody 2 (rec.Backout (unit_of 1 1))) ∷
    drop 1 committing

-- the unit of the first item has undone its put for its ROLL
abbrev pub a_roll_is_answered_by_a_commit : List Entry
a_roll_is_answered_by_a_commit =
    by_a 0 (act.LogOpen 1 (rec.Commit (unit_of 1 1))) ∷
    by_a 0 (act.LogBody 1 (rec.Commit (unit_of 1 1))) ∷
    drop 7 answered

abbrev pub a_record_is_logged_of_a_unit_that_has_ended : List Entry
a_record_is_logged_of_a_unit_that_has_ended =
    by_a 0 (act.LogOpen 3 (rec.Backout (unit_of 1 1))) ∷
    by_a 0 (act.LogBody 3 (rec.Backout (unit_of 1 1))) ∷
    unit_of_work.trace

abbrev pub a_value_is_written_of_a_unit_that_has_ended : List Entry
a_value_is_written_of_a_unit_that_has_ended = by_a 0 (act.FileWrite (unit_of 1 1) 1 (codes "LATE")) ∷ unit_of_work.trace

abbrev pub a_put_of_another_value : List Entry
a_put_of_another_value = by_a 0 (act.FileWrite (unit_of 1 1) 1 (codes "OTHER")) ∷ drop 1 put

abbrev pub a_put_logs_another_before_image : List Entry
a_put_logs_another_before_image =
    by_a 0 (act.LogOpen 0 (rec.Put (unit_of 1 1) 1 (slot_of None))) ∷
    by_a 0 (act.LogBody 0 (rec.Put (unit_of 1 1) 1 (slot_of None))) ∷
    drop 3 put

abbrev pub an_item_is_taken_without_a_restart : List Entry
an_item_is_taken_without_a_restart = by_a 0 (act.Item 1) ∷ drop 1 restarted

-- the active has scanned the log, and goes on to work without RESTARTED; it puts another value than it was asked, and
-- answers the COMMIT by a Backout
abbrev pub units_run_without_a_restart : List Entry
units_run_without_a_restart =
    by_a 0 (act.LogOpen 1 (rec.Backout (unit_of 1 1))) ∷
    by_a 0 (act.LogBody 1 (rec.Backout (unit_of 1 1))) ∷
    by_a 0 (act.Item 3) ∷
    by_a 0 (act.FileWrite (unit_of 1 1) 1 (codes "X")) ∷
    by_a 0 (act.LogOpen 0 (rec.Put (unit_of 1 1) 1 (slot_of (Some (codes "OLD"))))) ∷
    by_a 0 (act.LogBody 0 (rec.Put (unit_of 1 1) 1 (slot_of (Some (codes "OLD"))))) ∷
    by_a 0 (act.FileRead 1) ∷
    by_a 0 (act.Item 2) ∷
    by_a 0 (act.Item 1) ∷
    drop 1 restarted

-- the second unit reads the record that the first has put and not committed
abbrev pub a_get_of_a_locked_record : List Entry
a_get_of_a_locked_record = by_a 0 (act.FileRead 1) ∷ drop 10 answered

-- the first unit was rolled back, and its put was not undone
abbrev pub a_get_of_a_value_that_was_not_undone : List Entry
a_get_of_a_value_that_was_not_undone =
    by_a 0 (act.FileRead 1) ∷
    by_a 0 (act.Item 8) ∷
    by_a 0 (act.LogOpen 1 (rec.Backout (unit_of 1 1))) ∷
    by_a 0 (act.LogBody 1 (rec.Backout (unit_of 1 1))) ∷
    drop 8 answered

-- the PUT of the second item is taken and nothing is done for it
abbrev pub a_commit_is_answered_whose_put_was_passed_over : List Entry
a_commit_is_answered_whose_put_was_passed_over = by_a 0 (act.Item 3) ∷ by_a 0 (act.Item 2) ∷ by_a 0 (act.Item 1) ∷ restarted

-- no unit is in flight
abbrev pub a_record_is_undone_at_rest : List Entry
a_record_is_undone_at_rest = by_a 0 (act.Undo 1 (slot_of (Some (codes "OTHER")))) ∷ restarted
