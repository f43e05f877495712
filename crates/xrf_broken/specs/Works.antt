-- Broken traces: RESTARTED, a keypoint and a write over a slot, where they are not due.
use Rattle.std.specs.Prelude.{List, ◌∷◌}
use Rattle.xrf_logrec.specs.declared.keypoints.Keypoint.{Keypoint}
use Rattle.xrf_logrec.specs.declared.records.LogRec.TheVariants as rec
use Rattle.xrf_msg.specs.declared.messages.Message.TheVariants as message
use Rattle.xrf_trace.specs.declared.entry.Act.TheVariants as act
use Rattle.xrf_trace.specs.declared.entry.Entry.{Entry}
use Rattle.xrf_examples.specs.Making.{unit_of}
use Rattle.xrf_examples.specs.Beginnings.{restarted, caught_up}
use Rattle.xrf_examples.specs.Units.{put}
use Rattle.xrf_broken.specs.Steps.{by_a}

abbrev pub an_active_is_restarted_twice : List Entry
an_active_is_restarted_twice = by_a 0 act.Restarted ∷ restarted

-- the keypoint that is next, in a log without a record
abbrev first_keypoint : Keypoint
first_keypoint = record { number = 1; start = 0 }

abbrev pub a_keypoint_is_written_that_is_not_due : List Entry
a_keypoint_is_written_that_is_not_due =
    by_a 0 (act.KpOpen 1 first_keypoint) ∷
    by_a 0 (act.KpBody 1 first_keypoint) ∷
    by_a 0 (act.KpRead 1) ∷
    restarted

-- slot 0 of the log, which has 64, holds an open record
abbrev pub a_log_slot_is_written_over_without_its_close : List Entry
a_log_slot_is_written_over_without_its_close = by_a 0 (act.LogBody 64 (rec.Commit (unit_of 1 1))) ∷ put

-- slot 0 of the messages holds Begin
abbrev pub a_message_slot_is_written_over_without_its_close : List Entry
a_message_slot_is_written_over_without_its_close = by_a 1 (act.MsgBody 0 (message.End 2 1)) ∷ caught_up
