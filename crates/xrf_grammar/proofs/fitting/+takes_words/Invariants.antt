use Rattle.std.proofs.Common.{length}
use Rattle.xrf_grammar.proofs.fitting.+takes_words.Given as goal

abbrev pub decreases-takes_words : goal.decreases-takes_words
decreases-takes_words l = length l.parts.now
