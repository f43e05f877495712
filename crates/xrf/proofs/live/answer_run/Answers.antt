use Rattle.std.proofs.Common.{◌<◌, ℕ, List, Err, ap, subst}
use Rattle.xrf_edge.specs.Ends.{came}
use Rattle.xrf_exit.specs.declared.ExitAnswer.{ExitAnswer}
use Rattle.xrf_exit.specs.declared.Notice.TheVariants.{AlternateLost}
use Rattle.xrf_grammar.specs.declared.reason.Reason.TheVariants.{TooLarge}
use Rattle.xrf.specs.Live.{IsThreadedMade}
use Rattle.xrf.specs.declared.refusal.Reason.TheVariants.{Grammar}
use Rattle.xrf.proofs.AnswerLaws.{if-some}
use Rattle.xrf.proofs.LiveLaws.{lived, lived-refused, lived-too_large}
use Rattle.xrf.proofs.live.answer_run.Goals as goal

pub returns-in-Ok : goal.returns-in-Ok
returns-in-Ok g c =
    let may : ExitAnswer → Type 0 = λ answer. g.F.Fn.post c.args.exit.now.closure (AlternateLost, tt) answer in
    let source = g.S.Source.end c.args.source.now in
    let source' = g.S.Source.end c.read_all.new.source in
    let sink = g.K.Sink.end c.args.sink.now in
    let sink' = g.K.Sink.end c.write_made.new.sink in
    lived may source source' sink sink' c.in-Ok.text.items c.made_by_threads.result c.write_made.result c.in-Ok.ensures.all
    (subst (λ (t : List ℕ). IsThreadedMade may t c.made_by_threads.result) c.deref.ensures.value c.made_by_threads.ensures) c.write_made.ensures

pub returns-in-Err-TooLarge : goal.returns-in-Err-TooLarge
returns-in-Err-TooLarge g c =
    let may : ExitAnswer → Type 0 = λ answer. g.F.Fn.post c.args.exit.now.closure (AlternateLost, tt) answer in
    let source = g.S.Source.end c.args.source.now in
    let source' = g.S.Source.end c.read_all.new.source in
    let sink = g.K.Sink.end c.args.sink.now in
    let sink' = g.K.Sink.end c.refuse.new.sink in
    lived-refused may source source' sink sink' 0 (Grammar TooLarge) c.refuse.result
    (lived-too_large source source' (if-some _ (λ (bytes : List ℕ). 4194304 < came source.bytes source'.bytes) source.bytes (λ bytes both. both.0 (ap Err c.in-Err-TooLarge.field-0-is)) c.in-Err-TooLarge.ensures.too_large))
    c.refuse.ensures
