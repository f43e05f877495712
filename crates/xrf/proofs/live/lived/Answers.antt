use Rattle.std.proofs.Common.{◌≡◌, List, subst}
use Rattle.xrf_exit.specs.declared.ExitAnswer.{ExitAnswer}
use Rattle.xrf_exit.specs.declared.Notice.TheVariants.{AlternateLost}
use Rattle.xrf_report.specs.Document.{doc, ReadsAgain}
use Rattle.xrf_setup.specs.declared.choice.Choice.{Choice}
use Rattle.xrf.proofs.LiveLaws.{threaded-made}
use Rattle.xrf.proofs.live.lived.Goals as goal

pub returns : goal.returns
returns g c = λ bytes size reads.
    let may : ExitAnswer → Type 0 = λ answer. g.F.Fn.post c.args.exit.now.closure (AlternateLost, tt) answer in
    let s = c.args.scenario.now in
    let lived = c.in_ok-world.ensures in
    let choices = c.in_ok-world.choices.items in
    let text = c.in_ok-document.field-0.items in
    let same : c.deref.result.now ≡ choices = c.deref.ensures.value in
    threaded-made may s choices c.in_ok-world.world.trace text lived.run lived.threaded (lived.safe, lived.promises)
    (subst (λ (cs : List Choice). text ≡ doc s cs) same c.in_ok-document.ensures.document)
    (subst (λ (cs : List Choice). ReadsAgain s cs text) same c.in_ok-document.ensures.again) c.in_ok-document.ensures.size bytes size reads
