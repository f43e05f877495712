-- Broken traces: updates by another than the owner, numbers and places that are given wrongly, and two owners.
use Rattle.std.specs.Prelude.{List, ◌∷◌, drop, codes, None}
use Rattle.xrf_base.specs.declared.site.Site.TheVariants as site
use Rattle.xrf_ctl.specs.declared.parts.OwnerState.TheVariants as state
use Rattle.xrf_ctl.specs.Control.{of_parts}
use Rattle.xrf_msg.specs.declared.messages.Message.TheVariants as message
use Rattle.xrf_trace.specs.declared.entry.Act.TheVariants as act
use Rattle.xrf_trace.specs.declared.entry.Entry.{Entry}
use Rattle.xrf_trace.specs.declared.entry.Land.TheVariants as land
use Rattle.xrf_trace.specs.declared.entry.Who.TheVariants as who
use Rattle.xrf_examples.specs.Making.{entry_of, owner_of, alt_of, unit_of}
use Rattle.xrf_examples.specs.Beginnings.{restarted, tracking, off_abend, commanded}
use Rattle.xrf_broken.specs.Steps.{by_a, by_b, started, through_of_b}

abbrev pub an_alternate_writes_the_file : List Entry
an_alternate_writes_the_file = by_b 0 (act.FileWrite (unit_of 2 1) 1 (codes "NEW")) ∷ tracking

abbrev pub an_owner_writes_after_its_sign_off : List Entry
an_owner_writes_after_its_sign_off = by_a 0 (act.MsgBody 0 (message.Begin 2)) ∷ off_abend

abbrev pub a_sign_off_raises_the_last_number : List Entry
a_sign_off_raises_the_last_number =
    by_a 0 (act.CtlWrite (of_parts 1 3 (owner_of 1 site.A state.OffAbend) (alt_of 2 site.B) None)) ∷
    drop 2 off_abend

abbrev pub a_sign_on_takes_a_number_that_was_given : List Entry
a_sign_on_takes_a_number_that_was_given =
    entry_of 0 who.B 1 (act.CtlWrite (of_parts 1 1 (owner_of 1 site.A state.Running) (alt_of 1 site.B) None)) land.Full ∷
    started act.StartStandby restarted

abbrev pub a_job_is_given_another_number_than_the_record : List Entry
a_job_is_given_another_number_than_the_record =
    entry_of 0 who.B 3 (act.CtlWrite (of_parts 1 2 (owner_of 1 site.A state.Running) (alt_of 2 site.B) None)) land.Full ∷
    started act.StartStandby restarted

abbrev pub a_standby_signs_on_without_a_place : List Entry
a_standby_signs_on_without_a_place =
    by_b 0 (act.CtlWrite (of_parts 1 2 (owner_of 1 site.A state.Running) None None)) ∷
    started act.StartStandby restarted

abbrev pub two_owners : List Entry
two_owners = through_of_b 1 commanded

abbrev pub an_incarnation_at_work_is_confirmed : List Entry
an_incarnation_at_work_is_confirmed = entry_of 0 who.Env 0 (act.Confirm 1) land.Full ∷ restarted
