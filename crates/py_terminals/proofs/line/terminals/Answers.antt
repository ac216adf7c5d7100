use Rattle.py_terminals.proofs.UniqueLaws.{every_from, every_fault_from}
use Rattle.py_terminals.proofs.line.terminals.Goals as goal

pub returns-clause-every : goal.returns-clause-every
returns-clause-every c = every_from c.args.tokens.now c.args.line c.line_terminals.result c.line_terminals.ensures.value c.line_terminals.ensures.fault

pub returns-clause-every_fault : goal.returns-clause-every_fault
returns-clause-every_fault c = every_fault_from c.args.tokens.now c.args.line c.line_terminals.result c.line_terminals.ensures.value c.line_terminals.ensures.fault
