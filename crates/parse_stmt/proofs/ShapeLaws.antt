-- The rows of a source are in shape, and so is their tree.
use Rattle.std.proofs.Common.{◌≡◌, ℕ, get_or, Result, Ok, Err, refl, ap, ◌∙◌, is_some}
use Rattle.std.specs.Prelude.{IfOk}
use Rattle.tree_nodes.specs.Shaped.{IsShaped}
use Rattle.tree_nodes.specs.Sorts.{is_named}
use Rattle.tree_nodes.specs.Trees.{Tree}
use Rattle.py_token.specs.Tokenized.{Tokenized}
use Rattle.py_grammar.proofs.Shapes.{shaped_line}
use Rattle.py_grammar.specs.declared.head.Head.{Head}
use Rattle.py_grammar.specs.declared.head.Head.TheVariants as heads
use Rattle.py_blocks.specs.Heads.{kind_of}
use Rattle.py_blocks.specs.Rows.{Row}
use Rattle.py_blocks.specs.RowShapes.{IsRowShaped}
use Rattle.py_blocks.proofs.TreeForms.{tree-shaped}
use Rattle.parse_stmt.specs.declared.fault.SyntaxFault.{SyntaxFault}
use Rattle.parse_stmt.specs.Places.{name_in}
use Rattle.parse_stmt.specs.Rows.{IsRow}
use Rattle.parse_stmt.specs.Spelling.{Spells}

named : (tokens : Tokenized) (n : ℕ) (head : Head) → is_some (name_in tokens n head) ≡ is_named (kind_of head)
unfolding is_named
named tokens n heads.FunctionDef = refl
named tokens n heads.AsyncFunctionDef = refl
named tokens n heads.ClassDef = refl
named tokens n head = refl

row-shaped : (tokens : Tokenized) (n : ℕ) (row : Row Tree) → IsRow tokens n row → IsRowShaped row
row-shaped tokens n row h = record { line = shaped_line h.form.terminals _ h.form.form_is; named = ap is_some h.name_is ∙ named tokens n row.head; documented = h.documented }

pub shaped : (tokens : Tokenized) (result : Result Tree SyntaxFault) → IfOk result (Spells tokens) → IfOk result IsShaped
shaped tokens (Ok tree) h = tree-shaped h.rows tree (λ i d l. row-shaped tokens i (get_or h.rows i d) (h.are_read.rows_are i d l)) h.spelled
shaped tokens (Err fault) h = tt
