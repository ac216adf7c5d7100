-- How far the rows were taken. It only serves the proofs.
use Rattle.std.specs.Prelude.{◌≡◌, ℕ, ◌≤◌, List, [], length, map, reverse, take, drop, All, true, Some, None}
use Rattle.tree_nodes.specs.Trees.{Tree}
use Rattle.tree_nodes.specs.Rows.{Row as Built, tree_of}
use Rattle.py_blocks.specs.declared.fault.BlockCause.{BlockCause}
use Rattle.py_blocks.specs.declared.fault.BlockFault.{BlockFault}
use Rattle.py_blocks.specs.Rows.{Row, map_row, line_of}
use Rattle.py_blocks.specs.Rules.{first_fault}
use Rattle.py_blocks.specs.Spelling.{line_at}
use Rattle.py_blocks.specs.Statements.{Level, nothing, all_decorated, with_line, module_over}
use Rattle.py_blocks.specs.Stack.{stack, first_or}
use Rattle.py_blocks.specs.Building.{Keeps, IsHeld, map_level, trees_in}

-- the rows with their trees
abbrev pub grown : List Built → List (Row ℕ) → List (Row Tree)
grown built rows = map (map_row (tree_of built)) rows

-- what rows make at each level
abbrev pub made_of : List (Row Tree) → List (Level Tree)
made_of rows = stack nothing with_line (all_decorated [] rows)

-- the rows from a place on were taken
pub record IsTaking (first now : List Built) (rows : List (Row ℕ)) (place : ℕ) (levels : List (Level ℕ)) : Type 0 where
  pub place_is : place ≤ length rows
  pub keeps : Keeps first now
  pub held : All (IsHeld (length now)) levels
  pub trees : trees_in now levels ≡ stack nothing with_line (all_decorated (reverse (take place (grown first rows))) (drop place (grown first rows)))

-- all were taken, and this is what they make
pub record IsTaken (first now : List Built) (rows : List (Row ℕ)) (level : Level ℕ) : Type 0 where
  pub keeps : Keeps first now
  pub held : IsHeld (length now) level
  pub trees : map_level (tree_of now) level ≡ first_or nothing (made_of (grown first rows))

-- the tree of a file, as it is made
abbrev pub tree_by : List (Row Tree) → Tree
tree_by rows = module_over (first_or nothing (made_of rows))

-- the tree where no fault stands, or the first fault, as they are found
pub record IsRead (rows : List (Row Tree)) (tree : Tree) : Type 0 where
  pub none_found : first_fault true (map line_of rows) ≡ None
  pub tree_is : tree ≡ tree_by rows

pub record IsFoundAt (rows : List (Row Tree)) (line : ℕ) (cause : BlockCause) : Type 0 where
  pub fault : BlockFault
  pub is_found : first_fault true (map line_of rows) ≡ Some fault
  pub line_is : line ≡ line_at rows fault.place
  pub cause_is : cause ≡ fault.cause
