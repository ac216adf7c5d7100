use Rattle.std.proofs.Common.{drop}
use Rattle.tree_nodes.specs.Built.{sizes_in}
use Rattle.tree_nodes.specs.Finishing.{numbers_by, AddsNumbersSoFar}
use Rattle.tree_nodes.proofs.finish.number_kids.Given as goal

abbrev pub invariant-loop-kid : goal.invariant-loop-kid
invariant-loop-kid l =
    AddsNumbersSoFar l.initial.all.items l.all.items (numbers_by (sizes_in l.rows) l.first l.kids) (numbers_by (sizes_in l.rows) l.next (drop l.kid-index l.kids))
