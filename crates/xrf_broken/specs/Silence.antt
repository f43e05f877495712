-- Broken traces: an owner that has seen a taking and writes, and a format that is not by level.
use Rattle.std.specs.Prelude.{List, ◌∷◌, drop, None}
use Rattle.xrf_base.specs.declared.site.Site.TheVariants as site
use Rattle.xrf_ctl.specs.declared.parts.OwnerState.TheVariants as state
use Rattle.xrf_ctl.specs.Control.{of_parts}
use Rattle.xrf_msg.specs.declared.messages.Message.TheVariants as message
use Rattle.xrf_trace.specs.declared.entry.Act.TheVariants as act
use Rattle.xrf_trace.specs.declared.entry.Entry.{Entry}
use Rattle.xrf_trace.specs.declared.entry.Land.TheVariants as land
use Rattle.xrf_trace.specs.declared.entry.Who.TheVariants as who
use Rattle.xrf_examples.specs.Making.{entry_of, owner_of, alt_of}
use Rattle.xrf_examples.specs.Beginnings.{restarted, off_abend, commanded}
use Rattle.xrf_examples.specs.MigrationOfAPairToFormat2 as migration
use Rattle.xrf_broken.specs.Steps.{by_a, by_b, started, round_of_a}

abbrev pub an_owner_that_has_looked_at_a_taking_writes : List Entry
an_owner_that_has_looked_at_a_taking_writes = by_a 1 (act.MsgBody 0 (message.Begin 2)) ∷ round_of_a 1 commanded

abbrev pub an_owner_that_has_read_a_taking_for_a_drop_writes : List Entry
an_owner_that_has_read_a_taking_for_a_drop_writes =
    by_a 1 (act.MsgBody 0 (message.Begin 2)) ∷
    by_a 1 act.Release ∷
    by_a 1 act.CtlRead ∷
    by_a 1 act.Reserve ∷
    commanded

-- site A is of level 1 and site B of level 2
abbrev pub a_job_of_level_1_writes_format_2 : List Entry
a_job_of_level_1_writes_format_2 =
    by_a 0 (act.CtlWrite (of_parts 2 2 (owner_of 1 site.A state.OffAbend) (alt_of 2 site.B) None)) ∷
    drop 2 off_abend

-- the record has format 2 since the takeover by site B
abbrev pub a_job_of_level_1_reads_format_2 : List Entry
a_job_of_level_1_reads_format_2 =
    entry_of 2 who.A 3 act.Look1 land.Full ∷
    entry_of 2 who.A 3 act.Release land.Full ∷
    entry_of 2 who.A 3 (act.CtlWrite (of_parts 2 3 (owner_of 2 site.B state.Running) (alt_of 3 site.A) None)) land.Full ∷
    drop 2 migration.trace

abbrev pub a_through_of_level_2_leaves_format_1 : List Entry
a_through_of_level_2_leaves_format_1 =
    by_b 2 (act.CtlWrite (of_parts 1 2 (owner_of 2 site.B state.Running) None None)) ∷
    drop 10 migration.trace

abbrev pub a_sign_on_of_an_alternate_of_level_2_sets_format_2 : List Entry
a_sign_on_of_an_alternate_of_level_2_sets_format_2 =
    by_b 0 (act.CtlWrite (of_parts 2 2 (owner_of 1 site.A state.Running) (alt_of 2 site.B) None)) ∷
    started act.StartStandby restarted
