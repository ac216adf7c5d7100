-- How far the lines were read. It only serves the proofs.
use Rattle.std.specs.Prelude.{◌≡◌, ◌⊎◌, ℕ, ◌+◌, ◌<◌, Bool, false, List, [], ◌∷◌, length, map, Option, option_map, IfSome}
use Rattle.tree_nodes.specs.Rows.{Row as Built, tree_of}
use Rattle.py_token.specs.Tokenized.{Tokenized}
use Rattle.py_blocks.specs.Building.{IsMade, Keeps}
use Rattle.py_blocks.specs.Docstrings.{docstring_of}
use Rattle.py_blocks.specs.declared.fault.BlockFault.{BlockFault}
use Rattle.py_blocks.specs.Rows.{Row, map_row, line_of as seen}
use Rattle.py_blocks.specs.Rules.{AreRight, IsFirstFault}
use Rattle.py_blocks.specs.Spelling.{line_at}
use Rattle.parse_stmt.specs.declared.fault.LineCause.{LineCause}
use Rattle.parse_stmt.specs.declared.fault.SyntaxCause.{SyntaxCause}
use Rattle.parse_stmt.specs.declared.fault.SyntaxCause.TheVariants as causes
use Rattle.parse_stmt.specs.declared.kept.Found.{Found}
use Rattle.parse_stmt.specs.declared.kept.Found.TheVariants.{Line, Stop}
use Rattle.parse_stmt.specs.declared.kept.KeptLine.{KeptLine}
use Rattle.parse_stmt.specs.Places.{line_in, first_pos, last_line, name_in}
use Rattle.parse_stmt.specs.Rows.{IsRow}
use Rattle.parse_stmt.specs.Spelling.{LacksForm, StopsAt, cause_of}

-- the row of a line that was read, over the numbers of its trees
abbrev pub row_at : Tokenized → ℕ → KeptLine → Row ℕ
row_at tokens n kept = record {
  head = kept.head;
  level = (line_in tokens n).level;
  pos = first_pos tokens n;
  end_line = last_line tokens n;
  name = name_in tokens n kept.head;
  nodes = kept.nodes.items;
  body = kept.body.items;
  docstring = kept.docstring;
}

-- the rows of lines from a number on
abbrev pub rows_from : Tokenized → ℕ → List KeptLine → List (Row ℕ)
rows_from tokens n [] = []
rows_from tokens n (kept ∷ lines) = row_at tokens n kept ∷ rows_from tokens (n + 1) lines

-- the line of this number was read as this
pub record IsKept (tokens : Tokenized) (n : ℕ) (built : List Built) (kept : KeptLine) : Type 0 where
  pub made : IsMade (length built) (row_at tokens n kept)
  pub is_row : IsRow tokens n (map_row (tree_of built) (row_at tokens n kept))

-- the lines from a number on were
abbrev pub AreKept : Tokenized → List Built → ℕ → List KeptLine → Type 0
AreKept tokens built n [] = Unit {0}
AreKept tokens built n (kept ∷ lines) = IsKept tokens n built kept × AreKept tokens built (n + 1) lines

-- the docstring of some statements was made, where they have one
pub record IsDocstringMade (old new : List Built) (body : List ℕ) (made : Option ℕ) : Type 0 where
  pub keeps : Keeps old new
  pub number : IfSome made (λ n. n < length new)
  pub is : option_map (tree_of new) made ≡ docstring_of (map (tree_of old) body)

-- what was found at a line
abbrev pub IsFound : Tokenized → ℕ → List Built → Found → Type 0
IsFound tokens n built (Line kept) = IsKept tokens n built kept
IsFound tokens n built (Stop cause) = LacksForm tokens n cause

-- lines were read from the first on, and behind them nothing could be
pub record AreReadAll (tokens : Tokenized) (built : List Built) (lines : List KeptLine) (stop : Option LineCause) : Type 0 where
  pub kept : AreKept tokens built 0 lines
  pub stops : StopsAt tokens (length lines) stop

-- the first row that stands against a rule of blocks begins at this line, and this is its first cause
pub record IsRowFault {X : Type 0} (is_whole : Bool) (rows : List (Row X)) (line : ℕ) (cause : SyntaxCause) : Type 0 where
  pub fault : BlockFault
  pub is_first : IsFirstFault is_whole (map seen rows) fault
  pub line_is : line ≡ line_at rows fault.place
  pub cause_is : cause ≡ cause_of fault.cause

-- the same where the line behind these rows has no form; where no row is at fault, that line is
abbrev pub IsStopFault : {X : Type 0} → Tokenized → List (Row X) → LineCause → ℕ → SyntaxCause → Type 0
IsStopFault tokens rows stop line cause =
    IsRowFault false rows line cause ⊎ (AreRight false (map seen rows) × (line ≡ (first_pos tokens (length rows)).line) × (cause ≡ causes.Line stop))
