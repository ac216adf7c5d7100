use Rattle.infer_systems.proofs.tests.digest_of.Given as goal

abbrev pub ghosts-digest_by : goal.ghosts-digest_by
ghosts-digest_by a = record { name = a.blank.name; parts = a.blank.parts }
