use Rattle.parse_stmt.proofs.OneAnswer.{every-tree, every-fault}
use Rattle.parse_stmt.proofs.ShapeLaws.{shaped}
use Rattle.parse_stmt.proofs.source.parse.Goals as goal

pub returns-clause-shaped : goal.returns-clause-shaped
returns-clause-shaped c = shaped c.args.tokens.now c.parse_lines.result c.parse_lines.ensures.tree

pub returns-clause-every : goal.returns-clause-every
returns-clause-every c = every-tree c.args.tokens.now c.parse_lines.result c.parse_lines.ensures.tree c.parse_lines.ensures.fault

pub returns-clause-every_fault : goal.returns-clause-every_fault
returns-clause-every_fault c = every-fault c.args.tokens.now c.parse_lines.result c.parse_lines.ensures.tree c.parse_lines.ensures.fault
