-- Which tree the lines of a file spell.
use Rattle.std.specs.Prelude.{◌≡◌, ℕ, zero, suc, ◌+◌, ◌≤◌, true, List, [], ◌∷◌, map, Result, Ok, Err}
use Rattle.py_blocks.specs.declared.fault.BlockCause.{BlockCause}
use Rattle.py_blocks.specs.declared.fault.BlockFault.{BlockFault}
use Rattle.py_blocks.specs.declared.fault.BlockError.{BlockError}
use Rattle.py_blocks.specs.declared.fault.BlockError.TheVariants.{At, Memory}
use Rattle.tree_nodes.specs.Trees.{Tree}
use Rattle.py_blocks.specs.Rows.{Row, line_of}
use Rattle.py_blocks.specs.Rules.{AreRight, IsFirstFault}
use Rattle.py_blocks.specs.Statements.{Lines, flat, AreAt, all_decorated, made_by, module_over}

-- the lines nest by their levels, none stands against a rule of blocks, and the tree is what they make
pub record Spells (rows : List (Row Tree)) (tree : Tree) : Type 0 where
  pub lines : Lines
  pub in_order : all_decorated [] rows ≡ flat lines
  pub at_levels : AreAt 0 lines
  pub right : AreRight true (map line_of rows)
  pub tree_is : tree ≡ module_over (made_by lines)

-- the line at which the row of a number begins
abbrev pub line_at : {X : Type 0} → List (Row X) → ℕ → ℕ
line_at [] place = 0
line_at (row ∷ rows) zero = row.pos.line
line_at (row ∷ rows) (suc place) = line_at rows place

-- the first row that stands against a rule begins at this line, and this is its first cause
pub record IsFirstAt {X : Type 0} (rows : List (Row X)) (line : ℕ) (cause : BlockCause) : Type 0 where
  pub fault : BlockFault
  pub is_first : IsFirstFault true (map line_of rows) fault
  pub line_is : line ≡ line_at rows fault.place
  pub cause_is : cause ≡ fault.cause

-- ---- answers

-- a fault that is no want of memory
abbrev pub OnFault : (ℕ → BlockCause → Type 0) → BlockError → Type 0
OnFault P (At line cause) = P line cause
OnFault P Memory = Unit {0}

-- this tree, or want of memory
abbrev pub GivesOnly : Result Tree BlockError → Tree → Type 0
GivesOnly (Ok given) tree = given ≡ tree
GivesOnly (Err fault) tree = OnFault (λ _ _. ⊥) fault

-- this fault, or want of memory
abbrev pub FaultsOnly : Result Tree BlockError → ℕ → BlockCause → Type 0
FaultsOnly (Ok given) line cause = ⊥
FaultsOnly (Err fault) line cause = OnFault (λ at other. (at ≡ line) × (other ≡ cause)) fault
