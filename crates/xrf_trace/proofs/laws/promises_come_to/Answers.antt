use Rattle.xrf_trace.proofs.PromiseLaws as laws
use Rattle.xrf_trace.proofs.StartLaws as starts
use Rattle.xrf_trace.proofs.laws.promises_come_to.Goals as goal

pub returns : goal.returns
returns c = record { one = laws.actives-are-one; stay = laws.committed-stay; grow = laws.books-grow; starts = starts.starts-are-written }
