use Rattle.std.proofs.Common.{sym}
use Rattle.xrf_standby.proofs.Answering.{ends_none}
use Rattle.xrf_standby.proofs.alternate.Alternate.take.Goals as goal

pub returns-clause-answer : goal.returns-clause-answer
returns-clause-answer c = λ h s alt can. sym (ends_none c.args.self.now.settings h c.args.answer.now s.was alt can.fitting)
