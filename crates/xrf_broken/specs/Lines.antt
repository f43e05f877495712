-- Broken traces: lines of the command list that are not due, and acts that fail or are lost and can not.
use Rattle.std.specs.Prelude.{List, ◌∷◌, drop, None}
use Rattle.xrf_base.specs.declared.site.Site.TheVariants as site
use Rattle.xrf_ctl.specs.declared.parts.OwnerState.TheVariants as state
use Rattle.xrf_ctl.specs.Control.{of_parts}
use Rattle.xrf_history.specs.declared.want.EndWhy.TheVariants as end
use Rattle.xrf_setup.specs.declared.choice.Landing.TheVariants as landing
use Rattle.xrf_trace.specs.declared.entry.Act.TheVariants as act
use Rattle.xrf_trace.specs.declared.entry.Entry.{Entry}
use Rattle.xrf_trace.specs.declared.entry.Land.TheVariants as land
use Rattle.xrf_trace.specs.declared.entry.Who.TheVariants as who
use Rattle.xrf_examples.specs.Making.{entry_of, owner_of, alt_of}
use Rattle.xrf_examples.specs.Beginnings.{restarted, off_abend, commanded}
use Rattle.xrf_broken.specs.Steps.{by_a, by_b, signed_on}

-- the line of site B is CANCEL CICSA, and CICSA is healthy
abbrev pub an_alternate_cancels_the_active_as_it_signs_on : List Entry
an_alternate_cancels_the_active_as_it_signs_on = by_b 0 (act.Clt 1) ∷ signed_on restarted

abbrev pub the_command_list_is_issued_twice : List Entry
the_command_list_is_issued_twice = by_b 1 (act.Clt 1) ∷ by_b 1 (act.Clt 1) ∷ commanded

abbrev pub an_active_issues_a_line : List Entry
an_active_issues_a_line = by_a 0 (act.Clt 1) ∷ restarted

abbrev pub a_takeover_is_given_up_since_a_line_failed : List Entry
a_takeover_is_given_up_since_a_line_failed =
    by_b 1 (act.Ended end.MsgError) ∷
    by_b 1 act.Release ∷
    by_b 1 (act.CtlWrite (of_parts 1 2 (owner_of 1 site.A state.Running) None None)) ∷
    by_b 1 act.CtlRead ∷
    by_b 1 act.Reserve ∷
    entry_of 1 who.B 2 (act.Clt 1) (land.Fail landing.Nothing) ∷
    commanded

-- the record still has the active as Running
abbrev pub a_sign_off_is_lost : List Entry
a_sign_off_is_lost =
    by_a 0 (act.Ended end.SignedOff) ∷
    by_a 0 act.Release ∷
    entry_of 0 who.A 1 (act.CtlWrite (of_parts 1 2 (owner_of 1 site.A state.OffAbend) (alt_of 2 site.B) None)) land.Lost ∷
    drop 2 off_abend
