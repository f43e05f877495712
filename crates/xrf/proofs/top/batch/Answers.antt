use Rattle.xrf.proofs.OneLaws.{complete}
use Rattle.xrf.proofs.top.batch.Goals as goal

pub returns-clause-complete : goal.returns-clause-complete
returns-clause-complete g c =
    let source = g.S.Source.end c.args.source.now in
    let source' = g.S.Source.end c.answer.new.source in
    let sink = g.K.Sink.end c.args.sink.now in
    let sink' = g.K.Sink.end c.answer.new.sink in
    complete c.args.words.now source source' sink sink' c.answer.result c.answer.ensures.answered
