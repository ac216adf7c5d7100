-- Nodes of small trees.
use Rattle.std.proofs.Common.{List, ℕ, Some, None}
use Rattle.tree_nodes.specs.declared.kind.Kind.{Kind}
use Rattle.tree_nodes.specs.Trees.{Node}

-- a node without a name
abbrev pub plain : Kind → Node
plain kind = record { kind = kind; pos = record { line = 0; col = 0 }; end_line = 0; name = None }

-- a node with a name
abbrev pub named : Kind → List ℕ → Node
named kind name = record { kind = kind; pos = record { line = 0; col = 0 }; end_line = 0; name = Some name }
