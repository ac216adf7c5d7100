use Rattle.infer_systems.proofs.tests.all_alike.Given as goal

abbrev pub ghosts-alike_by : goal.ghosts-alike_by
ghosts-alike_by a = record { name = a.blank.name; parts = a.blank.parts }
