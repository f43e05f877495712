-- Each part is that of the control record.
use Rattle.std.proofs.Common.{◌&&◌, Option, is_some, ap, refl, ◌∙◌}
use Rattle.xrf_cavm.specs.Record.{inc_of_owner, inc_of_alt}
use Rattle.xrf_ctl.specs.declared.parts.Owner.{Owner}
use Rattle.xrf_ctl.specs.declared.parts.Alt.{Alt}
use Rattle.xrf_trace.specs.Words.{confirmed}
use Rattle.xrf_world.proofs.counts.Counts.known.Goals as goal

pub returns : goal.returns
returns c = λ s t are.
    let owner = c.is_owner_confirmed.ensures s t are ∙ ap (λ (o : Option Owner). is_some o && confirmed t (inc_of_owner o)) c.owner.ensures.owner in
    let alt = c.is_alt_confirmed.ensures s t are ∙ ap (λ (o : Option Alt). is_some o && confirmed t (inc_of_alt o)) c.alt.ensures.alt in
    rw (owner, alt) refl
