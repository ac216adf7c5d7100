-- The nodes of a tree by their numbers, and texts.
use Rattle.std.specs.Prelude.{ℕ, zero, suc, Bool, false, ◌==◌, List, [], ◌∷◌, ◌++◌, Option, Some, None}
use Rattle.tree_nodes.specs.declared.kind.Kind.{Kind}
use Rattle.tree_nodes.specs.Trees.{Tree, count_of, node_at}

-- a name: the list of its UTF-8 bytes
abbrev pub Name : Type 0
Name = List ℕ

-- the numbers below n, ascending
abbrev pub below : ℕ → List ℕ
below zero = []
below (suc n) = below n ++ n ∷ []

-- the numbers of all nodes
abbrev pub nodes_of : Tree → List ℕ
nodes_of t = below (count_of t)

-- what kind of node it is
abbrev pub kind_of : Tree → ℕ → Kind
kind_of t n = (node_at t n).kind

-- its name as written
abbrev pub name_of : Tree → ℕ → Option Name
name_of t n = (node_at t n).name

-- the number at that place of a list, which is one behind the first two or none
abbrev pub second : List ℕ → Option ℕ
second [] = None
second (x ∷ []) = None
second (x ∷ y ∷ ys) = Some y

-- the first number of a list
abbrev pub first : List ℕ → Option ℕ
first [] = None
first (x ∷ xs) = Some x

-- it is that number
abbrev pub is_number : Option ℕ → ℕ → Bool
is_number None n = false
is_number (Some m) n = m == n
