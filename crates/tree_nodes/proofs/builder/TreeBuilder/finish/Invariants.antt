use Rattle.std.proofs.Common.{length, reverse, string_bytes}
use Rattle.tree_nodes.specs.Rows.{trees_of, tree_of}
use Rattle.tree_nodes.specs.Built.{rows_in}
use Rattle.tree_nodes.specs.Finishing.{IsFinishing, pending}
use Rattle.tree_nodes.proofs.builder.TreeBuilder.finish.Given as goal

abbrev pub invariant-rows : goal.invariant-rows
invariant-rows l =
    let seen = rows_in (string_bytes l.names) l.kids.items l.rows.items in
    IsFinishing (trees_of seen) (tree_of seen l.root) (string_bytes l.names) l.numbered.items l.out.items l.stack.items

abbrev pub decreases-rows : goal.decreases-rows
decreases-rows l =
    length (pending (trees_of (rows_in (string_bytes l.names) l.kids.items l.rows.items)) (length l.out.items) (reverse l.stack.items))
