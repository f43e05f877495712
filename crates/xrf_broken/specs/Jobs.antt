-- Broken traces: entries of jobs that are not there, under numbers that they don't hold, or at ticks that did not come.
use Rattle.std.specs.Prelude.{List, [], ◌∷◌, codes, None}
use Rattle.xrf_base.specs.declared.site.Site.TheVariants as site
use Rattle.xrf_ctl.specs.declared.parts.OwnerState.TheVariants as state
use Rattle.xrf_ctl.specs.Control.{of_parts}
use Rattle.xrf_trace.specs.declared.entry.Act.TheVariants as act
use Rattle.xrf_trace.specs.declared.entry.Entry.{Entry}
use Rattle.xrf_examples.specs.Making.{owner_of, alt_of, unit_of}
use Rattle.xrf_examples.specs.Beginnings.{restarted}
use Rattle.xrf_broken.specs.Steps.{by_a, signed_on, round_of_b}
use Rattle.xrf_broken.specs.Conduct.{stopped, started_by_loss}

abbrev pub a_site_that_nobody_started_is_the_owner : List Entry
a_site_that_nobody_started_is_the_owner =
    by_a 0 (act.FileWrite (unit_of 1 1) 1 (codes "X")) ∷
    by_a 0 (act.CtlWrite (of_parts 1 1 (owner_of 1 site.A state.Running) None None)) ∷
    []

abbrev pub a_region_that_stopped_writes_the_file : List Entry
a_region_that_stopped_writes_the_file = by_a 0 (act.FileWrite (unit_of 1 1) 1 (codes "X")) ∷ stopped

abbrev pub a_region_that_stopped_gives_five_numbers : List Entry
a_region_that_stopped_gives_five_numbers =
    by_a 0 (act.CtlWrite (of_parts 1 6 (owner_of 1 site.A state.Running) (alt_of 5 site.B) None)) ∷
    stopped

-- no tick came between the look and the decision
abbrev pub a_takeover_by_loss_in_the_tick_of_the_signal : List Entry
a_takeover_by_loss_in_the_tick_of_the_signal = started_by_loss (round_of_b 0 (signed_on restarted))
