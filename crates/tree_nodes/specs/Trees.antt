-- Syntax trees: each node has a kind, a place, the last of its lines, maybe a name, and its kids in order. The nodes
-- of a tree are numbered from 0 in preorder.
use Rattle.std.specs.Prelude.{ℕ, ◌+◌, List, [], ◌∷◌, ◌++◌, Option, Some, None, slice_index_or}
use Rattle.lint_values.specs.declared.place.Pos.{Pos}
use Rattle.tree_nodes.specs.declared.kind.Kind.{Kind}

-- what a node says apart from its kids; a name is the list of its UTF-8 bytes
pub record Node : Type 0 where
  pub kind : Kind
  pub pos : Pos
  pub end_line : ℕ
  pub name : Option (List ℕ)

-- trees in order: none, or the first one's node and kids, and then the trees behind it
pub data Trees : Type 0 where
  none : Trees
  tree : Node → Trees → Trees → Trees

-- a node and the trees below it
pub record Tree : Type 0 where
  pub node : Node
  pub kids : Trees

-- ---- trees as a list

-- trees from a list
abbrev pub pack : List Tree → Trees
pack [] = none
pack (t ∷ ts) = tree t.node t.kids (pack ts)

-- and back to one
abbrev pub unpack : Trees → List Tree
unpack none = []
unpack (tree node kids rest) = record { node = node; kids = kids } ∷ unpack rest

-- ---- numbers

-- how many nodes trees have
abbrev pub size : Trees → ℕ
size none = 0
size (tree node kids rest) = 1 + size kids + size rest

-- how many nodes a tree has
abbrev pub count_of : Tree → ℕ
count_of t = 1 + size t.kids

-- the numbers of the topmost nodes, where the first one's is n
abbrev pub numbers : ℕ → Trees → List ℕ
numbers n none = []
numbers n (tree node kids rest) = n ∷ numbers (n + (1 + size kids)) rest

-- a node with its kids' numbers and its parent's
pub record Entry : Type 0 where
  pub node : Node
  pub kids : List ℕ
  pub parent : Option ℕ

-- a node, where its number is n
abbrev pub entry_of : ℕ → Option ℕ → Node → Trees → Entry
entry_of n parent node kids = record { node = node; kids = numbers (n + 1) kids; parent = parent }

-- the nodes of trees in preorder, where the first one's number is n and the topmost ones stand below a parent
abbrev pub entries_from : ℕ → Option ℕ → Trees → List Entry
entries_from n parent none = []
entries_from n parent (tree node kids rest) = entry_of n parent node kids ∷ (entries_from (n + 1) (Some n) kids ++ entries_from (n + (1 + size kids)) parent rest)

-- the nodes of a tree in preorder, where the first one's number is n
abbrev pub entries_at : ℕ → Option ℕ → Tree → List Entry
entries_at n parent t = entry_of n parent t.node t.kids ∷ entries_from (n + 1) (Some n) t.kids

-- the nodes of a tree in preorder
unfoldable pub entries : Tree → List Entry
entries t = entries_at 0 None t

-- ---- the node of a number

-- the node of a number; past the end, the root without kids
unfoldable pub entry_at : Tree → ℕ → Entry
entry_at t n = slice_index_or (entries t) n (record { node = t.node; kids = []; parent = None })

-- what the node of a number says
abbrev pub node_at : Tree → ℕ → Node
node_at t n = (entry_at t n).node

-- the numbers of its kids
abbrev pub kids_at : Tree → ℕ → List ℕ
kids_at t n = (entry_at t n).kids

-- the number of its parent
abbrev pub parent_at : Tree → ℕ → Option ℕ
parent_at t n = (entry_at t n).parent
