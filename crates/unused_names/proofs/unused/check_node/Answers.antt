use Rattle.std.proofs.Common.{sym}
use Rattle.unused_names.proofs.Names.{node_none}
use Rattle.unused_names.proofs.unused.check_node.Goals as goal

pub returns-in-None : goal.returns-in-None
returns-in-None c = node_none c.args.file c.args.is_package c.args.tree.now c.args.n.0 c.args.found.now (sym c.in-None.ensures)
