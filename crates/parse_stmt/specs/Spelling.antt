-- The tree that the tokens of a source spell, and the first line that has no form or stands against a rule of blocks.
use Rattle.std.specs.Prelude.{◌≡◌, ◌⊎◌, ℕ, ◌<◌, Bool, true, false, List, length, map, Option, Some, None, Err}
use Rattle.tree_nodes.specs.Trees.{Tree}
use Rattle.py_token.specs.Tokenized.{Tokenized}
use Rattle.py_terminals.specs.Lines.{IsLine}
use Rattle.py_blocks.specs.declared.fault.BlockCause.{BlockCause}
use Rattle.py_blocks.specs.declared.fault.BlockCause.TheVariants as blocks
use Rattle.py_blocks.specs.declared.fault.BlockFault.{BlockFault}
use Rattle.py_blocks.specs.Rows.{Row, line_of as seen}
use Rattle.py_blocks.specs.Rules.{AreRight, IsFirstFault}
use Rattle.py_blocks.specs.Spelling.{Spells as SpellsTree}
use Rattle.parse_stmt.specs.declared.fault.LineCause.{LineCause}
use Rattle.parse_stmt.specs.declared.fault.LineCause.TheVariants.{NoForm, Field}
use Rattle.parse_stmt.specs.declared.fault.SyntaxCause.{SyntaxCause}
use Rattle.parse_stmt.specs.declared.fault.SyntaxCause.TheVariants as causes
use Rattle.read_lines.specs.Spelling.{HasNoForm}
use Rattle.parse_stmt.specs.Places.{first_pos}
use Rattle.parse_stmt.specs.Rows.{AreRows}

-- ---- lines without a form

-- no trees fit the tokens of the line, or the pieces of one of its strings are refused
abbrev pub LacksForm : Tokenized → ℕ → LineCause → Type 0
LacksForm tokens n NoForm = HasNoForm tokens n
LacksForm tokens n (Field fault) = IsLine tokens n (Err fault)

-- behind so many lines stands the end, or a line that has no form for this cause
abbrev pub StopsAt : Tokenized → ℕ → Option LineCause → Type 0
StopsAt tokens n None = n ≡ length tokens.lines
StopsAt tokens n (Some cause) = (n < length tokens.lines) × LacksForm tokens n cause

-- the lines that stand before the first line without a form are these rows; where there is none, all lines
pub record AreRead (tokens : Tokenized) (rows : List (Row Tree)) (stop : Option LineCause) : Type 0 where
  pub rows_are : AreRows tokens rows
  pub stops : StopsAt tokens (length rows) stop

-- ---- the tree

-- each line has a form, and the tree is what their rows spell
pub record Spells (tokens : Tokenized) (tree : Tree) : Type 0 where
  pub rows : List (Row Tree)
  pub are_read : AreRead tokens rows None
  pub spelled : SpellsTree rows tree

-- ---- the first fault

-- the lines are all that there are
abbrev pub is_whole : Option LineCause → Bool
is_whole None = true
is_whole (Some cause) = false

-- a cause of blocks
abbrev pub cause_of : BlockCause → SyntaxCause
cause_of blocks.Unexpected = causes.Unexpected
cause_of blocks.NeedsBlock = causes.NeedsBlock
cause_of blocks.Follows = causes.Follows

-- the line of this number is the first at fault, for this cause: a line before the one without a form, by a rule of blocks;
-- or else that line. A rule on the line behind another waits for that line's form
abbrev pub IsFirst : Option LineCause → List (Row Tree) → ℕ → SyntaxCause → Type 0
IsFirst stop rows n cause =
    ((fault : BlockFault) × IsFirstFault (is_whole stop) (map seen rows) fault × (n ≡ fault.place) × (cause ≡ cause_of fault.cause))
    ⊎ ((line : LineCause) × (stop ≡ Some line) × AreRight false (map seen rows) × (n ≡ length rows) × (cause ≡ causes.Line line))

-- the first logical line at fault begins at this physical line, and this is its first cause
pub record IsFault (tokens : Tokenized) (line : ℕ) (cause : SyntaxCause) : Type 0 where
  pub rows : List (Row Tree)
  pub stop : Option LineCause
  pub are_read : AreRead tokens rows stop
  pub n : ℕ
  pub is_first : IsFirst stop rows n cause
  pub line_is : line ≡ (first_pos tokens n).line
