use Rattle.xrf_text.proofs.Joined.{words-are_words, words-joined}
use Rattle.xrf_text.proofs.words_again.Goals as goal

pub returns-clause-each : goal.returns-clause-each
returns-clause-each c = words-are_words

pub returns-clause-joined : goal.returns-clause-joined
returns-clause-joined c = words-joined
