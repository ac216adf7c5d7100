-- The nesting of trees by their parts.
use Rattle.std.proofs.Common.{◌≡◌, ℕ, ◌+◌, ◌≤◌, max, List, [], ◌∷◌, ◌++◌, refl, arith}
use Rattle.tree_nodes.specs.declared.kind.Kind.{Kind}
use Rattle.tree_nodes.specs.Trees.{Node, Tree, pack}
use Rattle.py_language.specs.Languages.{whole, row}
use Rattle.py_language.specs.Nesting.{nesting_in, nesting_of}

module _ (weight : Kind → ℕ) where
  pub nesting_append : (u v : List Tree) → nesting_of weight (u ++ v) ≡ max (nesting_of weight u) (nesting_of weight v)
  nesting_append [] v = omega arith
  nesting_append (t ∷ u) v = let e = nesting_append u v in omega (arith, e)

  pub nesting_pack : (u : List Tree) → nesting_in weight (pack u) ≡ nesting_of weight u
  nesting_pack [] = refl
  nesting_pack (t ∷ u) = let e = nesting_pack u in omega (arith, e)

module _ {T : Type 0} (weight : Kind → ℕ) (node_over : List T → Node) where
  -- a node adds its own weight to the nesting of its parts
  pub nesting_whole : (ts : List T) (parts : List Tree) → nesting_of weight (whole node_over ts parts) ≡ weight (node_over ts).kind + nesting_of weight parts
  nesting_whole ts parts = let e = nesting_pack weight parts in omega (arith, e)

  pub whole_keeps : (ts : List T) (parts : List Tree) → nesting_of weight parts ≤ nesting_of weight (whole node_over ts parts)
  whole_keeps ts parts = let e = nesting_whole ts parts in omega (arith, e)

  pub row_keeps : (ts : List T) (parts : List Tree) → nesting_of weight parts ≤ nesting_of weight (row node_over ts parts)
  row_keeps ts [] = omega arith
  row_keeps ts (t ∷ []) = omega arith
  row_keeps ts (t ∷ u ∷ parts) = whole_keeps ts (t ∷ u ∷ parts)
