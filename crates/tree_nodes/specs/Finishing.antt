-- How a tree is finished: nodes are given out in preorder from a stack of rows that wait for their numbers.
use Rattle.std.specs.Prelude.{◌≡◌, ℕ, ◌+◌, ◌<◌, ◌^◌, List, [], ◌∷◌, ◌++◌, map, length, slice_index, slice_index_or, reverse, All}
use Rattle.lint_values.specs.declared.place.NodeId.{NodeId}
use Rattle.tree_nodes.specs.declared.finish.Open.{Open}
use Rattle.tree_nodes.specs.declared.tree.TreeRow.{TreeRow}
use Rattle.tree_nodes.specs.Trees.{Tree, Entry, count_of, entries_at, entries}
use Rattle.tree_nodes.specs.Back.{no_tree}
use Rattle.tree_nodes.specs.declared.builder.BuiltRow.{BuiltRow}
use Rattle.tree_nodes.specs.declared.label.Span.{Span}
use Rattle.tree_nodes.specs.Kept.{within, FitsIn, number_of, parent_in}
use Rattle.tree_nodes.specs.Built.{sizes_in}
use Rattle.tree_nodes.specs.Finished.{entries_in, NodeFits}

-- the numbers of kids, where the first one's is n, by the sizes of rows
abbrev pub numbers_by : List ℕ → ℕ → List ℕ → List ℕ
numbers_by sizes n [] = []
numbers_by sizes n (k ∷ ks) = n ∷ numbers_by sizes (n + slice_index sizes k) ks

-- numbers were added behind the others
pub record AddsNumbers (old new : List NodeId) (numbers : List ℕ) : Type 0 where
  pub ids : List NodeId
  pub new_is : new ≡ old ++ ids
  pub ids_are : map number_of ids ≡ numbers

-- numbers were added behind the others, and these are left
pub record AddsNumbersSoFar (old new : List NodeId) (numbers rest : List ℕ) : Type 0 where
  pub ids : List NodeId
  pub new_is : new ≡ old ++ ids
  pub ids_are : map number_of ids ++ rest ≡ numbers

-- kids that wait, below a parent
abbrev pub opened : ℕ → List ℕ → List Open
opened above kids = map (λ k. record { row = k; above = above }) kids

-- the nodes that are still to be given out, where the next one's number is n
abbrev pub pending : List Tree → ℕ → List Open → List Entry
pending made n [] = []
pending made n (next ∷ waiting) =
    let t = slice_index_or made next.row no_tree in entries_at n (parent_in next.above) t ++ pending made (n + count_of t) waiting

-- the kids of each row are rows, within their span
pub record AreLinked (kids : List ℕ) (rows : List BuiltRow) : Type 0 where
  pub fit : All (λ row. FitsIn (length kids) row.kids) rows
  pub made : All (λ row. All (λ k. k < length rows) (within kids row.kids)) rows

-- a row was given out behind the others: its kids got the numbers that their sizes say, and wait on the stack
pub record GivesOut (rows : List BuiltRow) (kids : List ℕ) (next : Open) (out out' : List TreeRow) (numbered numbered' : List NodeId) (stack stack' : List Open) : Type 0 where
  pub row : BuiltRow
  pub span : Span
  pub ids : List NodeId
  pub is_row : slice_index_or rows next.row row ≡ row
  pub out_is : out' ≡ out ++ record { label = row.label; kids = span; above = next.above } ∷ []
  pub numbered_is : numbered' ≡ numbered ++ ids
  pub ids_are : map number_of ids ≡ numbers_by (sizes_in rows) (length out + 1) (within kids row.kids)
  pub starts : span.start ≡ length numbered
  pub ends : span.end ≡ length numbered + length ids
  pub stack_is : reverse stack' ≡ opened (length out + 1) (within kids row.kids) ++ reverse stack
  pub few : length out + 1 < 2 ^ 32

-- so far, nodes were given out in preorder; the last of the stack comes next
pub record IsFinishing (made : List Tree) (root : Tree) (names : List ℕ) (numbered : List NodeId) (out : List TreeRow) (stack : List Open) : Type 0 where
  pub fit : All (NodeFits names numbered) out
  pub waiting : All (λ next. next.row < length made) (reverse stack)
  pub preorder : entries_in names numbered out ++ pending made (length out) (reverse stack) ≡ entries root
  pub few : length out < 2 ^ 32
