-- Nesting: how deep nodes that weigh lie in each other. A kind of node has the weight that a function gives it.
use Rattle.std.specs.Prelude.{ℕ, ◌+◌, ◌<◌, max, List, [], ◌∷◌}
use Rattle.tree_nodes.specs.declared.kind.Kind.{Kind}
use Rattle.tree_nodes.specs.Trees.{Trees, none, tree, Tree}
use Rattle.py_language.specs.Languages.{Language}
use Rattle.py_language.specs.Brackets.{peak, Even}

-- the greatest weight of nodes from a topmost one down to one below it
abbrev pub nesting_in : (Kind → ℕ) → Trees → ℕ
nesting_in weight none = 0
nesting_in weight (tree node kids rest) = max (weight node.kind + nesting_in weight kids) (nesting_in weight rest)

-- the same from the root of a tree
abbrev pub nesting : (Kind → ℕ) → Tree → ℕ
nesting weight t = weight t.node.kind + nesting_in weight t.kids

-- the greatest of trees
abbrev pub nesting_of : (Kind → ℕ) → List Tree → ℕ
nesting_of weight [] = 0
nesting_of weight (t ∷ ts) = max (nesting weight t) (nesting_of weight ts)

-- brackets are even in each phrase of a, and each whose nesting and open brackets come to less than k is one of b
pub record Carried {T : Type 0} (code : T → ℕ) (opens closes : List ℕ) (weight : Kind → ℕ) (k : ℕ) (a b : Language T) : Type 0 where
  pub even : Even code opens closes a
  pub carries : (ts : List T) (out : List Tree) → a ts out → nesting_of weight out + peak code opens closes 0 ts < k → b ts out
