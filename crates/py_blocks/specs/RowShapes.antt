-- Rows whose trees are in shape for their kind of line, with a name and a docstring where these have one.
use Rattle.std.specs.Prelude.{◌≡◌, is_some}
use Rattle.tree_nodes.specs.Trees.{Tree}
use Rattle.tree_nodes.specs.Sorts.{is_named}
use Rattle.py_grammar.specs.HeaderParts.{IsLineShaped}
use Rattle.py_blocks.specs.Docstrings.{IsDocumented}
use Rattle.py_blocks.specs.Heads.{kind_of}
use Rattle.py_blocks.specs.Rows.{Row}

-- the parts of the row and its simple statements are those of its kind of line; it has a name where the node that it makes
-- has one, and says the docstring that its first statement makes
pub record IsRowShaped (row : Row Tree) : Type 0 where
  pub line : IsLineShaped (record { head = row.head; nodes = row.nodes; body = row.body })
  pub named : is_some row.name ≡ is_named (kind_of row.head)
  pub documented : IsDocumented row
