-- It is asked of the alternate that is there.
use Rattle.std.proofs.Common.{◌&&◌, is_some, Option, ap, sym, ◌∙◌}
use Rattle.xrf_cavm.specs.Record.{inc_of_alt}
use Rattle.xrf_ctl.specs.declared.parts.Alt.{Alt}
use Rattle.xrf_trace.specs.Words.{confirmed}
use Rattle.xrf_world.proofs.counts.Counts.is_alt_confirmed.Goals as goal

pub returns-in-Some : goal.returns-in-Some
returns-in-Some c = λ s t are. c.is_confirmed.ensures s t are ∙ sym (ap (λ (o : Option Alt). is_some o && confirmed t (inc_of_alt o)) c.in-Some.is)
