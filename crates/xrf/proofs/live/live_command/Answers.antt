use Rattle.xrf_exit.specs.declared.ExitAnswer.{ExitAnswer}
use Rattle.xrf_exit.specs.declared.Notice.TheVariants.{AlternateLost}
use Rattle.xrf.proofs.LiveLaws.{lives_through}
use Rattle.xrf.proofs.live.live_command.Goals as goal

pub returns-clause-complete : goal.returns-clause-complete
returns-clause-complete g c =
    let may : ExitAnswer → Type 0 = λ answer. g.F.Fn.post c.args.exit.now.closure (AlternateLost, tt) answer in
    let source = g.S.Source.end c.args.source.now in
    let source' = g.S.Source.end c.answer_run.new.source in
    let sink = g.K.Sink.end c.args.sink.now in
    let sink' = g.K.Sink.end c.answer_run.new.sink in
    lives_through may source source' sink sink' c.answer_run.result c.answer_run.ensures
