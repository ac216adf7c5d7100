use Rattle.py_blocks.proofs.ParseLaws.{tree-clause, every-clause, fault-clause, every-fault-clause}
use Rattle.py_blocks.proofs.parse.parse_rows.Goals as goal

pub returns-clause-tree : goal.returns-clause-tree
returns-clause-tree c = tree-clause _ c.read_rows.result c.read_rows.ensures.tree

pub returns-clause-every : goal.returns-clause-every
returns-clause-every c = every-clause _ c.read_rows.result c.read_rows.ensures.tree c.read_rows.ensures.fault

pub returns-clause-fault : goal.returns-clause-fault
returns-clause-fault c = fault-clause _ c.read_rows.result c.read_rows.ensures.fault

pub returns-clause-every_fault : goal.returns-clause-every_fault
returns-clause-every_fault c = every-fault-clause _ c.read_rows.result c.read_rows.ensures.tree c.read_rows.ensures.fault
