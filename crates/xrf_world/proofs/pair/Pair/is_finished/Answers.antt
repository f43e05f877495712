use Rattle.std.proofs.Common.{◌≡◌, ◌∙◌, ◌==◌, ◌&&◌, ◌||◌, Bool, true, false, nat_le, length, ap, sym}
use Rattle.xrf_base.specs.declared.site.Site.TheVariants as site
use Rattle.xrf_setup.specs.declared.ranges.TheConstants.{CHOICES_MOST}
use Rattle.xrf_trace.specs.Words.{now}
use Rattle.xrf_world.specs.Report.{is_at_rest}
use Rattle.xrf_world.proofs.pair.Pair.is_finished.Goals as goal

pub returns : goal.returns
returns c = λ t stands.
    let s = c.args.self.now.middle.scenario in
    let full : (length t == CHOICES_MOST) ≡ false = sym (c.is_full.ensures t stands.middle) ∙ c.if-is_full.false in
    let over : nat_le s.settings.ticks (now t) ≡ true = sym (c.is_over.ensures t stands) ∙ c.if-not-is_over.false in
    let rests : is_at_rest s t site.A ≡ true = sym (c.is_at_rest.ensures t stands) ∙ c.if-not-is_at_rest.false in
    c.is_at_rest-2.ensures t stands
    ∙ sym (ap (λ (b : Bool). b || (nat_le s.settings.ticks (now t) && is_at_rest s t site.A && is_at_rest s t site.B)) full
    ∙ ap (λ (b : Bool). b && is_at_rest s t site.A && is_at_rest s t site.B) over
    ∙ ap (λ (b : Bool). b && is_at_rest s t site.B) rests)
