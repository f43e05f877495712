use Rattle.xrf_run.proofs.tests.turns_by_hand.Given as goal

abbrev pub ghosts-by_turns : goal.ghosts-by_turns
ghosts-by_turns g a = record { scenario = a.scenario.now; may = λ said. Unit {0} }
