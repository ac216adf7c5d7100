-- How trees are kept while the rows are taken: as numbers of a builder's rows.
use Rattle.std.specs.Prelude.{◌≡◌, ℕ, ◌<◌, ◌≤◌, List, [], ◌∷◌, ◌++◌, length, map, reverse, All, IfSome, option_map, max, None}
use Rattle.tree_nodes.specs.Trees.{Tree}
use Rattle.tree_nodes.specs.Rows.{Row as Built, tree_of}
use Rattle.py_blocks.specs.declared.waiting.Waiting.{Waiting}
use Rattle.py_blocks.specs.declared.row.BlockRow.{BlockRow}
use Rattle.py_blocks.specs.Rows.{Row, row_of, map_row}
use Rattle.py_blocks.specs.Statements.{Level, nothing, end_of, headed, with_line, module_over}
use Rattle.py_blocks.specs.Stack.{taken}

-- what waits at a level, over numbers; it is kept from the last one back
abbrev pub level_of : Waiting → Level ℕ
level_of w = record { docstring = w.docstring; clauses = reverse w.clauses.items; reach = w.reach; statements = reverse w.statements.items; last = w.last }

-- a level over what a function gives for each
abbrev pub map_level : {X Y : Type 0} → (X → Y) → Level X → Level Y
map_level f level =
    record { docstring = option_map f level.docstring; clauses = map f level.clauses; reach = level.reach; statements = map f level.statements; last = level.last }

-- the levels, the deepest first
abbrev pub levels_of : List Waiting → List (Level ℕ)
levels_of waiting = map level_of (reverse waiting)

-- their trees
abbrev pub trees_in : List Built → List (Level ℕ) → List (Level Tree)
trees_in built levels = map (map_level (tree_of built)) levels

-- the numbers of a row were made
pub record IsMade (count : ℕ) (row : Row ℕ) : Type 0 where
  pub nodes : All (λ n. n < count) row.nodes
  pub body : All (λ n. n < count) row.body
  pub docstring : IfSome row.docstring (λ n. n < count)

-- the numbers of a level were made
pub record IsHeld (count : ℕ) (level : Level ℕ) : Type 0 where
  pub docstring : IfSome level.docstring (λ n. n < count)
  pub clauses : All (λ n. n < count) level.clauses
  pub statements : All (λ n. n < count) level.statements

-- rows were added, and the trees of earlier ones stay
pub record Keeps (old new : List Built) : Type 0 where
  pub more : length old ≤ length new
  pub same : (n : ℕ) → n < length old → tree_of new n ≡ tree_of old n

-- a row was added for a header's node
pub record IsNode (old new : List Built) (row : Row ℕ) (end_line : ℕ) (kids : List ℕ) (node : ℕ) : Type 0 where
  pub keeps : Keeps old new
  pub number : node < length new
  pub tree : tree_of new node ≡ headed (map_row (tree_of old) row) end_line (map (tree_of old) kids)

-- a clause's node was made over these kids, and stands before what is behind
pub record MakesClause (old new : List Built) (row : Row ℕ) (kids : List ℕ) (block behind made : Level ℕ) : Type 0 where
  pub node : ℕ
  pub is_node : IsNode old new row (end_of row block) kids node
  pub made_is : made ≡ record {
    docstring = None;
    clauses = node ∷ behind.clauses;
    reach = max (end_of row block) behind.reach;
    statements = behind.statements;
    last = max (end_of row block) behind.last;
  }

-- a statement's node was made over these kids, and stands before the statements behind
pub record MakesStatement (old new : List Built) (row : Row ℕ) (kids : List ℕ) (block behind made : Level ℕ) : Type 0 where
  pub node : ℕ
  pub is_node : IsNode old new row (max (end_of row block) behind.reach) (kids ++ behind.clauses) node
  pub made_is : made ≡ record {
    docstring = None;
    clauses = [];
    reach = 0;
    statements = node ∷ behind.statements;
    last = max (end_of row block) behind.last;
  }

-- a level was made of a row, its block and what is behind
pub record Makes (old new : List Built) (row : Row ℕ) (block behind made : Level ℕ) : Type 0 where
  pub keeps : Keeps old new
  pub held : IsHeld (length new) made
  pub trees : map_level (tree_of new) made ≡ with_line (map_row (tree_of old) row) (map_level (tree_of old) block) (map_level (tree_of old) behind)

-- a row was taken
pub record Takes (old new : List Built) (row : Row ℕ) (levels_old levels_new : List (Level ℕ)) : Type 0 where
  pub keeps : Keeps old new
  pub held : All (IsHeld (length new)) levels_new
  pub trees : trees_in new levels_new ≡ taken nothing with_line (map_row (tree_of old) row) (trees_in old levels_old)

-- a row was added for the root
pub record IsModule (old new : List Built) (level : Level ℕ) (root : ℕ) : Type 0 where
  pub number : root < length new
  pub tree : tree_of new root ≡ module_over (map_level (tree_of old) level)
