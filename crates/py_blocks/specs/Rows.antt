-- The logical lines of a file as rows: what each one is, how deep it is indented, and what stands for its trees.
use Rattle.std.specs.Prelude.{ℕ, Bool, true, false, ◌&&◌, List, [], ◌∷◌, map, Option, Some, None, option_map, option_copied}
use Rattle.lint_values.specs.declared.place.Pos.{Pos}
use Rattle.py_grammar.specs.declared.head.Head.{Head}
use Rattle.py_blocks.specs.declared.line.Line.{Line}
use Rattle.py_blocks.specs.declared.row.BlockRow.{BlockRow}
use Rattle.py_blocks.specs.Heads.{is_header}

-- a logical line, over what stands for its trees: its kind, its level, the place of its first token, the line where its last
-- token ends, the name behind `def` or `class`, the parts of a header or the decorator, the simple statements, and the first
-- of these as a docstring, where it can be one
pub record Row (X : Type 0) : Type 0 where
  pub head : Head
  pub level : ℕ
  pub pos : Pos
  pub end_line : ℕ
  pub name : Option (List ℕ)
  pub nodes : List X
  pub body : List X
  pub docstring : Option X

-- a row of the code, over the numbers of its trees
abbrev pub row_of : BlockRow → Row ℕ
row_of row = record {
  head = row.head;
  level = row.level;
  pos = row.pos;
  end_line = row.end_line;
  name = option_copied row.name;
  nodes = row.nodes.now;
  body = row.body.now;
  docstring = row.docstring;
}

-- a row over what a function gives for each
abbrev pub map_row : {X Y : Type 0} → (X → Y) → Row X → Row Y
map_row f row = record {
  head = row.head;
  level = row.level;
  pos = row.pos;
  end_line = row.end_line;
  name = row.name;
  nodes = map f row.nodes;
  body = map f row.body;
  docstring = option_map f row.docstring;
}

-- there is nothing
abbrev pub is_empty : {X : Type 0} → List X → Bool
is_empty [] = true
is_empty (x ∷ xs) = false

-- what the rules of blocks see of a row
abbrev pub line_of : {X : Type 0} → Row X → Line
line_of row = record { head = row.head; level = row.level; is_open = is_header row.head && is_empty row.body }
