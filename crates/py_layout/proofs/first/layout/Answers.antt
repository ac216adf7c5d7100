use Rattle.py_layout.proofs.FirstLaws.{every_from, every_fault_from}
use Rattle.py_layout.proofs.first.layout.Goals as goal

pub returns-clause-every : goal.returns-clause-every
returns-clause-every c = every_from _ _ c.laid_out.ensures.lines c.laid_out.ensures.fault

pub returns-clause-every_fault : goal.returns-clause-every_fault
returns-clause-every_fault c = every_fault_from _ _ c.laid_out.ensures.lines c.laid_out.ensures.fault
