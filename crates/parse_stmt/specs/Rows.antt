-- The logical lines of a source as rows: what each line is, where it stands, and the trees that its tokens spell.
use Rattle.std.specs.Prelude.{◌≡◌, ℕ, ◌<◌, List, length, slice_index_or}
use Rattle.tree_nodes.specs.Trees.{Tree}
use Rattle.py_token.specs.Tokenized.{Tokenized}
use Rattle.py_blocks.specs.Docstrings.{IsDocumented}
use Rattle.py_blocks.specs.Rows.{Row}
use Rattle.read_lines.specs.Spelling.{Spells}
use Rattle.parse_stmt.specs.Places.{line_in, first_pos, last_line, name_in}

-- the logical line of this number is this row: its tokens spell its trees, and its first statement makes its docstring, where
-- it can be one
pub record IsRow (tokens : Tokenized) (n : ℕ) (row : Row Tree) : Type 0 where
  pub form : Spells tokens n (record { head = row.head; nodes = row.nodes; body = row.body })
  pub level_is : row.level ≡ (line_in tokens n).level
  pub pos_is : row.pos ≡ first_pos tokens n
  pub end_is : row.end_line ≡ last_line tokens n
  pub name_is : row.name ≡ name_in tokens n row.head
  pub documented : IsDocumented row

-- the first lines of a source are these rows
abbrev pub AreRows : Tokenized → List (Row Tree) → Type 0
AreRows tokens rows = (n : ℕ) (d : Row Tree) → n < length rows → IsRow tokens n (slice_index_or rows n d)
