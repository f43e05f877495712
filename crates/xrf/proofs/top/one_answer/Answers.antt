use Rattle.xrf.proofs.OneLaws.{one_text, one_refusal, never_refused}
use Rattle.xrf.proofs.EachLaws.{has_answer}
use Rattle.xrf.proofs.top.one_answer.Goals as goal

pub returns-clause-text : goal.returns-clause-text
returns-clause-text c = one_text

pub returns-clause-refusal : goal.returns-clause-refusal
returns-clause-refusal c = never_refused

pub returns-clause-one : goal.returns-clause-one
returns-clause-one c = one_refusal

pub returns-clause-each : goal.returns-clause-each
returns-clause-each c = has_answer
