-- Trees in which each node has the kids that a form of its kind has, and a name exactly where its kind has one.
use Rattle.std.specs.Prelude.{◌≡◌, List, [], ◌∷◌, is_some}
use Rattle.tree_nodes.specs.declared.kind.Kind.{Kind}
use Rattle.tree_nodes.specs.declared.kind.Kind.TheVariants as kinds
use Rattle.tree_nodes.specs.Trees.{Node, Trees, none, tree, Tree}
use Rattle.tree_nodes.specs.Sorts.{is_named}
use Rattle.tree_nodes.specs.Shapes.{shape, FitsOneOf}

-- the kinds of the topmost nodes
abbrev pub kinds_of : Trees → List Kind
kinds_of none = []
kinds_of (tree node kids rest) = node.kind ∷ kinds_of rest

-- a node over kids of these kinds
pub record HasShape (node : Node) (kids : List Kind) : Type 0 where
  pub fits : FitsOneOf (shape node.kind) kids
  pub named : is_some node.name ≡ is_named node.kind

-- all nodes are in shape
abbrev pub AreShaped : Trees → Type 0
AreShaped none = Unit {0}
AreShaped (tree node kids rest) = HasShape node (kinds_of kids) × AreShaped kids × AreShaped rest

-- a module whose nodes are all in shape
pub record IsShaped (t : Tree) : Type 0 where
  pub root : t.node.kind ≡ kinds.Module
  pub node : HasShape t.node (kinds_of t.kids)
  pub below : AreShaped t.kids
