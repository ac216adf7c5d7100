-- How rows of the table of trees are tried: terminals with their columns and texts, and the nodes of a line in preorder.
use Rattle.std.specs.Prelude.{ℕ, suc, List, [], ◌∷◌, ◌++◌, Option, Some, None}
use Rattle.tree_nodes.specs.Trees.{Trees, none, tree, pack}
use Rattle.tree_nodes.specs.declared.kind.Kind.{Kind}
use Rattle.py_grammar.specs.declared.symbol.Symbol.{Symbol}
use Rattle.py_grammar.specs.Terminals.{Terminal}
use Rattle.py_grammar.specs.Lines.{LineForm}
use Rattle.py_grammar.specs.ReadingLines.{phrase_at, line_at}

-- a node: its kind, the number of its kids, the column where it begins, if that is told, and its name
pub record Shown : Type 0 where
  pub kind : Kind
  pub kids : ℕ
  pub column : Option ℕ
  pub name : Option (List ℕ)

-- a line, and its nodes
pub record Row : Type 0 where
  pub line : List Terminal
  pub nodes : List Shown

abbrev pub at : Symbol → ℕ → List ℕ → Terminal
at symbol column text = record { symbol = symbol; pos = record { line = 1; col = column }; end_line = 1; text = text }

abbrev pub n : Kind → ℕ → Option ℕ → Option (List ℕ) → Shown
n kind kids column name = record { kind = kind; kids = kids; column = column; name = name }

abbrev count : Trees → ℕ
count none = 0
count (tree node kids rest) = suc (count rest)

abbrev preorder : Trees → List Shown
preorder none = []
preorder (tree node kids rest) = n node.kind (count kids) (Some node.pos.col) node.name ∷ preorder kids ++ preorder rest

abbrev nodes_of : Option LineForm → List Shown
nodes_of None = []
nodes_of (Some line) = preorder (pack (line.nodes ++ line.body))

-- columns where both tell them
abbrev where_told : Option ℕ → Option ℕ → Option ℕ
where_told None column = None
where_told (Some said) column = column

abbrev masked : List Shown → List Shown → List Shown
masked [] nodes = nodes
masked (s ∷ said) [] = []
masked (s ∷ said) (m ∷ nodes) = n m.kind m.kids (where_told s.column m.column) m.name ∷ masked said nodes

-- the nodes of a line, read with phrases at most eight deep
abbrev pub nodes_of_line : Row → List Shown
nodes_of_line row = masked row.nodes (nodes_of (line_at (phrase_at 8) row.line))

abbrev pub said : Row → List Shown
said row = row.nodes
