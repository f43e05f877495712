use Rattle.std.proofs.Common.{◌∷◌, ◌∙◌, sym, ap, arith}
use Rattle.xrf_history.specs.declared.settings.Settings.{Settings}
use Rattle.xrf_history.specs.Answers.{event}
use Rattle.xrf_history.specs.Deciding.{mode_of}
use Rattle.xrf_standby.specs.LetThrough.{mode_after, leaves_after}
use Rattle.xrf_standby.proofs.Through.{owns_on, started_so, starts_on, mode_on, leaves_on}
use Rattle.xrf_standby.proofs.let_through.LetThrough.take.Goals as goal

pub returns-clause-stands : goal.returns-clause-stands
returns-clause-stands c = λ h s may.
    let p = c.args.self.now.owner.settings in
    let a = c.args.answer.now in
    record {
      owner = c.take.ensures.stands h (record { stands = s.owner; handed = may });
      owns = owns_on p h a s.owns s.starts may.fitting;
      started = started_so p h a s.owns s.starts may.fitting ∙ s.started;
      few = omega (arith, may.few);
      mode = c.mode_after-self.ensures h s ∙ ap (mode_after p h a) s.mode ∙ sym (mode_on p h a s.owns s.starts may.fitting)
          ∙ ap (λ (q : Settings). mode_of q (event p h a ∷ h)) (sym c.take.ensures.settings);
      leaves = c.leaves_after-self.ensures ∙ ap (leaves_after a) s.leaves ∙ sym (leaves_on p h a s.owns s.starts may.fitting);
      starts = starts_on p h a s.owns s.starts may.fitting;
    }
