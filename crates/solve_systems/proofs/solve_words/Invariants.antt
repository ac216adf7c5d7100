use Rattle.solve_systems.proofs.solve_words.Given as goal

abbrev pub ghosts-solve : goal.ghosts-solve
ghosts-solve a = record { name = a.blank.name; parts = a.blank.parts }
