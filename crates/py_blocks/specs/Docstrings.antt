-- Docstrings: a first statement that is a plain string alone. A string with `b` or `f` is none.
use Rattle.std.specs.Prelude.{◌≡◌, ℕ, List, [], ◌∷◌, Option, Some, None, option_map}
use Rattle.tree_nodes.specs.declared.kind.Kind.{Kind}
use Rattle.tree_nodes.specs.declared.kind.Kind.TheVariants as kinds
use Rattle.tree_nodes.specs.Trees.{Node, Trees, none, tree, Tree}
use Rattle.py_blocks.specs.Rows.{Row}

-- the text of a node that is a plain string
abbrev pub plain_text : Kind → Option (List ℕ) → Option (List ℕ)
plain_text kinds.StringLiteral name = name
plain_text kind name = None

-- the text of a plain string alone
abbrev pub text_alone : Trees → Option (List ℕ)
text_alone (tree node kids none) = plain_text node.kind node.name
text_alone trees = None

-- the text of a statement that is a plain string
abbrev pub statement_text : Kind → Trees → Option (List ℕ)
statement_text kinds.ExpressionStatement kids = text_alone kids
statement_text kind kids = None

-- the node of a docstring, at the place of its statement
abbrev pub docstring_at : Node → List ℕ → Tree
docstring_at node text = record { node = record { kind = kinds.Docstring; pos = node.pos; end_line = node.end_line; name = Some text }; kids = none }

-- the first of some statements as a docstring, where it is one
abbrev pub docstring_of : List Tree → Option Tree
docstring_of [] = None
docstring_of (statement ∷ statements) = option_map (docstring_at statement.node) (statement_text statement.node.kind statement.kids)

-- a row says its docstring
abbrev pub IsDocumented : Row Tree → Type 0
IsDocumented row = row.docstring ≡ docstring_of row.body
