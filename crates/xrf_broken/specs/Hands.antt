-- Broken traces: a control write that changes what is not its writer's to change.
use Rattle.std.specs.Prelude.{List, ◌∷◌, drop, None}
use Rattle.xrf_base.specs.declared.site.Site.TheVariants as site
use Rattle.xrf_ctl.specs.declared.parts.OwnerState.TheVariants as state
use Rattle.xrf_ctl.specs.declared.parts.Cause.TheVariants as cause
use Rattle.xrf_ctl.specs.Control.{of_parts}
use Rattle.xrf_history.specs.declared.want.EndWhy.TheVariants as end
use Rattle.xrf_trace.specs.declared.entry.Act.TheVariants as act
use Rattle.xrf_trace.specs.declared.entry.Entry.{Entry}
use Rattle.xrf_trace.specs.declared.entry.Land.TheVariants as land
use Rattle.xrf_trace.specs.declared.entry.Who.TheVariants as who
use Rattle.xrf_examples.specs.Making.{entry_of, owner_of, alt_of, taking_of}
use Rattle.xrf_examples.specs.Beginnings.{off_abend, commanded}
use Rattle.xrf_broken.specs.Steps.{by_a, by_b}

-- the active has read the record for its sign-off, and the alternate has for its start
abbrev signing_off : List Entry
signing_off = drop 2 off_abend

abbrev starting : List Entry
starting = drop 2 commanded

-- and the active that is commanded over has read the taking for its sign-off
abbrev signing_off_over_a_taking : List Entry
signing_off_over_a_taking =
    by_a 1 act.CtlRead ∷
    by_a 1 act.Reserve ∷
    by_a 1 act.Abend ∷
    commanded

abbrev pub an_alternate_signs_the_owner_off : List Entry
an_alternate_signs_the_owner_off =
    by_b 1 (act.CtlWrite (of_parts 1 2 (owner_of 1 site.A state.OffAbend) (alt_of 2 site.B) (taking_of 2 cause.Command))) ∷
    starting

abbrev pub an_owner_that_signed_off_runs_again : List Entry
an_owner_that_signed_off_runs_again =
    by_a 0 (act.CtlWrite (of_parts 1 2 (owner_of 1 site.A state.Running) (alt_of 2 site.B) None)) ∷
    off_abend

abbrev pub a_sign_off_removes_the_alternate : List Entry
a_sign_off_removes_the_alternate =
    by_a 0 (act.CtlWrite (of_parts 1 2 (owner_of 1 site.A state.OffAbend) None None)) ∷
    signing_off

abbrev pub a_sign_off_changes_the_cause_of_a_taking : List Entry
a_sign_off_changes_the_cause_of_a_taking =
    by_a 1 (act.CtlWrite (of_parts 1 2 (owner_of 1 site.A state.OffAbend) (alt_of 2 site.B) (taking_of 2 cause.Abend))) ∷
    signing_off_over_a_taking

abbrev pub an_alternate_is_removed_without_a_drop : List Entry
an_alternate_is_removed_without_a_drop =
    by_a 0 (act.CtlWrite (of_parts 1 2 (owner_of 1 site.A state.Running) None None)) ∷
    signing_off

-- the active of site A signed off as ended abnormally, and site A starts as standby beside the tracking alternate
abbrev pub a_standby_replaces_a_live_alternate : List Entry
a_standby_replaces_a_live_alternate =
    entry_of 0 who.A 3 (act.CtlWrite (of_parts 1 3 (owner_of 1 site.A state.OffAbend) (alt_of 3 site.A) None)) land.Full ∷
    entry_of 0 who.A 0 act.CtlRead land.Full ∷
    entry_of 0 who.A 0 act.Reserve land.Full ∷
    entry_of 0 who.A 0 act.StartStandby land.Full ∷
    by_a 0 (act.Ended end.SignedOff) ∷
    off_abend

abbrev pub a_taking_is_removed_by_the_owner : List Entry
a_taking_is_removed_by_the_owner =
    by_a 1 (act.CtlWrite (of_parts 1 2 (owner_of 1 site.A state.Running) (alt_of 2 site.B) None)) ∷
    signing_off_over_a_taking

-- the waiting alternate has gone on to its next acts, and takes itself out of the record
abbrev pub a_waiting_alternate_withdraws : List Entry
a_waiting_alternate_withdraws =
    by_b 1 (act.CtlWrite (of_parts 1 2 (owner_of 1 site.A state.Running) None None)) ∷
    by_b 1 act.CtlRead ∷
    by_b 1 act.Reserve ∷
    commanded
