-- How nodes are kept: all names in one text, all kids in one list, and spans of these.
use Rattle.std.specs.Prelude.{ℕ, zero, suc, ◌≤◌, List, slice_range, Option, Some, None, if◌then◌else◌}
use Rattle.std.specs.Str.{IsCharBoundary}
use Rattle.lint_values.specs.declared.place.NodeId.{NodeId}
use Rattle.tree_nodes.specs.declared.label.Label.{Label}
use Rattle.tree_nodes.specs.declared.label.Span.{Span}
use Rattle.tree_nodes.specs.Trees.{Node}

-- the part of a list within a span
abbrev pub within : {X : Type 0} → List X → Span → List X
within items span = slice_range items span.start span.end

-- the name that a label says
abbrev pub name_in : List ℕ → Label → Option (List ℕ)
name_in names label = if label.is_named then Some (within names label.name) else None

-- the node that a label says
abbrev pub node_in : List ℕ → Label → Node
node_in names label = record { kind = label.kind; pos = label.pos; end_line = label.end_line; name = name_in names label }

-- a span of a list of that length
pub record FitsIn (room : ℕ) (span : Span) : Type 0 where
  pub ordered : span.start ≤ span.end
  pub ends : span.end ≤ room

-- a span of a text that begins and ends between characters
pub record IsTextIn (text : List ℕ) (span : Span) : Type 0 where
  pub ordered : span.start ≤ span.end
  pub starts : IsCharBoundary text span.start
  pub ends : IsCharBoundary text span.end

-- the number of a node
abbrev pub number_of : NodeId → ℕ
number_of id = id.0

-- 0 for none, and else one more than the number
abbrev pub parent_in : ℕ → Option ℕ
parent_in zero = None
parent_in (suc n) = Some n
