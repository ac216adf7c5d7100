use Rattle.infer_systems.proofs.tests.demanded.Given as goal

abbrev pub ghosts-demanded_by : goal.ghosts-demanded_by
ghosts-demanded_by a = record { name = a.blank.name; parts = a.blank.parts }
