-- Broken traces: a job that signs off, drops, leaves or ends otherwise than is due, without the reserve, or not at all.
use Rattle.std.specs.Prelude.{List, ◌∷◌, drop, None}
use Rattle.xrf_base.specs.declared.site.Site.TheVariants as site
use Rattle.xrf_ctl.specs.declared.parts.OwnerState.TheVariants as state
use Rattle.xrf_ctl.specs.Control.{of_parts}
use Rattle.xrf_cavm.specs.declared.decisions.Decision.TheVariants as decision
use Rattle.xrf_cavm.specs.declared.decisions.Decided.TheVariants as decided
use Rattle.xrf_cavm.specs.declared.decisions.Why.TheVariants as why
use Rattle.xrf_history.specs.declared.want.EndWhy.TheVariants as end
use Rattle.xrf_trace.specs.declared.entry.Act.TheVariants as act
use Rattle.xrf_trace.specs.declared.entry.Entry.{Entry}
use Rattle.xrf_trace.specs.declared.entry.Land.TheVariants as land
use Rattle.xrf_trace.specs.declared.entry.Who.TheVariants as who
use Rattle.xrf_examples.specs.Making.{entry_of, owner_of, alt_of}
use Rattle.xrf_examples.specs.Beginnings.{restarted, tracking, off_abend, commanded}
use Rattle.xrf_broken.specs.Steps.{by_a, by_b, started, ticked, round_of_b}

abbrev pub an_active_signs_off_for_no_reason : List Entry
an_active_signs_off_for_no_reason =
    by_a 0 (act.Ended end.SignedOff) ∷
    by_a 0 act.Release ∷
    by_a 0 (act.CtlWrite (of_parts 1 2 (owner_of 1 site.A state.OffAbend) (alt_of 2 site.B) None)) ∷
    by_a 0 act.CtlRead ∷
    by_a 0 act.Reserve ∷
    tracking

-- so that its alternate leaves
abbrev pub an_abend_signs_off_as_normal : List Entry
an_abend_signs_off_as_normal =
    by_b 1 (act.Decide (decided.Alternate (decision.Leave why.Normal))) ∷
    round_of_b 1
    (ticked 1
    (by_a 0 (act.Ended end.SignedOff) ∷
    by_a 0 act.Release ∷
    by_a 0 (act.CtlWrite (of_parts 1 2 (owner_of 1 site.A state.OffNormal) (alt_of 2 site.B) None)) ∷
    drop 2 off_abend))

abbrev pub an_abend_is_ignored : List Entry
an_abend_is_ignored = by_a 0 (act.Item 2) ∷ by_a 0 (act.Item 1) ∷ by_a 0 act.Abend ∷ tracking

abbrev pub an_active_ends_without_signing_off : List Entry
an_active_ends_without_signing_off = by_a 0 (act.Ended end.SignedOff) ∷ by_a 0 act.Abend ∷ tracking

abbrev pub a_sign_off_without_the_reserve : List Entry
a_sign_off_without_the_reserve =
    by_a 0 (act.CtlWrite (of_parts 1 2 (owner_of 1 site.A state.OffAbend) (alt_of 2 site.B) None)) ∷
    by_a 0 act.Abend ∷
    tracking

abbrev pub an_active_drops_its_alternate_for_no_reason : List Entry
an_active_drops_its_alternate_for_no_reason =
    by_a 0 act.Release ∷
    by_a 0 (act.CtlWrite (of_parts 1 2 (owner_of 1 site.A state.Running) None None)) ∷
    by_a 0 act.CtlRead ∷
    by_a 0 act.Reserve ∷
    tracking

abbrev pub an_alternate_leaves_for_no_reason : List Entry
an_alternate_leaves_for_no_reason =
    by_b 0 (act.Ended end.Shutdown) ∷
    by_b 0 act.Release ∷
    by_b 0 (act.CtlWrite (of_parts 1 2 (owner_of 1 site.A state.Running) None None)) ∷
    by_b 0 act.CtlRead ∷
    by_b 0 act.Reserve ∷
    tracking

-- nobody can confirm the number 9, so no region signs on beside it, ever
abbrev pub a_leaving_alternate_names_a_number_that_never_was : List Entry
a_leaving_alternate_names_a_number_that_never_was =
    by_b 0 (act.Ended end.Shutdown) ∷
    by_b 0 act.Release ∷
    by_b 0 (act.CtlWrite (of_parts 1 2 (owner_of 1 site.A state.Running) (alt_of 9 site.B) None)) ∷
    by_b 0 act.CtlRead ∷
    by_b 0 act.Reserve ∷
    tracking

abbrev pub a_standby_is_refused_that_may_sign_on : List Entry
a_standby_is_refused_that_may_sign_on =
    entry_of 0 who.B 0 (act.Ended end.NoActive) land.Full ∷
    entry_of 0 who.B 0 act.Release land.Full ∷
    started act.StartStandby restarted

-- the active reserves for its sign-off, and the alternate for the start that it decided
abbrev pub two_regions_hold_the_reserve : List Entry
two_regions_hold_the_reserve = by_b 1 act.Reserve ∷ by_a 1 act.Reserve ∷ by_a 1 act.Abend ∷ drop 4 commanded
