use Rattle.py_lexeme.proofs.CutLaws.{every_cut}
use Rattle.py_lexeme.proofs.cutting.cut.Goals as goal

pub returns-clause-every : goal.returns-clause-every
returns-clause-every c = every_cut _ _ c.cut_up.ensures
