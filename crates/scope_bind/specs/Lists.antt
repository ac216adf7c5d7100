-- Lists that say something of each node, by its number.
use Rattle.std.specs.Prelude.{◌≡◌, ℕ, List, map}
use Rattle.tree_nodes.specs.Trees.{Tree, count_of}
use Rattle.scope_rules.specs.Nodes.{below}

-- what f says of each number below n
pub record IsListUpTo {X : Type 0} (f : ℕ → X) (n : ℕ) (xs : List X) : Type 0 where
  pub is : xs ≡ map f (below n)

-- what f says of each node
abbrev pub IsListOf : {X : Type 0} → (ℕ → X) → Tree → List X → Type 0
IsListOf f t xs = IsListUpTo f (count_of t) xs
