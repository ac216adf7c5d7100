use Rattle.py_token.proofs.OneAnswer.{every_from, every_fault_from}
use Rattle.py_token.proofs.whole.tokenize.Goals as goal

pub returns-clause-every : goal.returns-clause-every
returns-clause-every c = every_from _ _ c.read_source.ensures.tokens c.read_source.ensures.fault

pub returns-clause-every_fault : goal.returns-clause-every_fault
returns-clause-every_fault c = every_fault_from _ _ c.read_source.ensures.tokens c.read_source.ensures.fault
