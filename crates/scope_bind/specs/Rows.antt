-- Rows: what a node says of a name in a scope; and their order.
use Rattle.std.specs.Prelude.{◌≡◌, ℕ, Bool, List, map, filter, Option, Some, None}
use Rattle.std.specs.List.{filter_map}
use Rattle.std.specs.declared.cmp.Ordering.{Ordering}
use Rattle.std.specs.Ordering.{nat_cmp, on, then_cmp, is_eq, ordering_index}
use Rattle.std.specs.Cmp.Lexicographic.{slice_cmp}
use Rattle.lint_values.specs.declared.place.NodeId.{NodeId}
use Rattle.tree_nodes.specs.Trees.{Tree}
use Rattle.tree_nodes.specs.Kept.{number_of}
use Rattle.scope_rules.specs.Nodes.{Name, below, nodes_of}
use Rattle.scope_rules.specs.Marks.{Mark, nodes_with}
use Rattle.scope_bind.specs.declared.row.Row.{Row}

-- by scope, then by name; the nodes of a name in a scope are tied
abbrev pub row_cmp : Row → Row → Ordering
row_cmp = then_cmp (on (λ r. r.scope) nat_cmp) (on (λ r. r.name) (slice_cmp nat_cmp))

-- a row of that name in that scope
abbrev pub key : ℕ → Name → Row
key s x = record { scope = s; name = x; node = record { 0 = 0 } }

-- where a row stands to a name in a scope: 0 before it, 1 at it, 2 behind it
abbrev pub rank : ℕ → Name → Row → ℕ
rank s x r = ordering_index (row_cmp r (key s x))

-- the row is of that name in that scope
abbrev pub is_of : ℕ → Name → Row → Bool
is_of s x r = is_eq (row_cmp r (key s x))

-- the nodes of the rows of a name in a scope
unfoldable pub nodes_in : List Row → ℕ → Name → List NodeId
nodes_in rows s x = map (λ r. r.node) (filter (is_of s x) rows)

-- the row of a mark at a node
abbrev pub row_at : ℕ → Option Mark → Option Row
row_at n None = None
row_at n (Some m) = Some (record { scope = m.scope; name = m.name; node = record { 0 = n } })

-- the rows of the marks at some nodes
abbrev pub rows_of : (ℕ → Option Mark) → List ℕ → List Row
rows_of mark ns = filter_map (λ n. row_at n (mark n)) ns

-- the rows of the marks at the nodes below n
pub record AreRowsUpTo (mark : ℕ → Option Mark) (n : ℕ) (rows : List Row) : Type 0 where
  pub is : rows ≡ rows_of mark (below n)

-- rows that give, of each name in each scope, the nodes that are marked with it, in source order
pub record IsTableOf (mark : ℕ → Option Mark) (t : Tree) (rows : List Row) : Type 0 where
  pub finds : (s : ℕ) (x : Name) → map number_of (nodes_in rows s x) ≡ nodes_with mark t s x
