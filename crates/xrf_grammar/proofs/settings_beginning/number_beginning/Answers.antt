use Rattle.xrf_grammar.proofs.settings_beginning.number_beginning.Goals as goal

pub returns-in-Two : goal.returns-in-Two
returns-in-Two c = rw c.in-Two.is c.level_beginning.ensures
