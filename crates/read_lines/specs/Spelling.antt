-- What a logical line of a source spells: the forms of the grammar that its terminals spell.
use Rattle.std.specs.Prelude.{ℕ, List, map, Ok}
use Rattle.tree_nodes.specs.Rows.{Row, tree_of}
use Rattle.py_grammar.specs.Lines as grammar
use Rattle.py_grammar.specs.Terminals.{Terminal}
use Rattle.py_token.specs.Tokenized.{Tokenized}
use Rattle.py_terminals.specs.Lines as source
use Rattle.read_lines.specs.declared.form.LineForm.{LineForm}

-- the line of this number has terminals, and they spell this form
pub record Spells (tokens : Tokenized) (line : ℕ) (form : grammar.LineForm) : Type 0 where
  pub terminals : List Terminal
  pub come : source.IsLine tokens line (Ok terminals)
  pub form_is : grammar.IsLine terminals form

-- the line has terminals, and they spell no form
pub record HasNoForm (tokens : Tokenized) (line : ℕ) : Type 0 where
  pub terminals : List Terminal
  pub come : source.IsLine tokens line (Ok terminals)
  pub none : (form : grammar.LineForm) → grammar.IsLine terminals form → ⊥

-- the form whose trees these rows stand for
abbrev pub form_over : List Row → LineForm → grammar.LineForm
form_over rows form = record { head = form.head; nodes = map (tree_of rows) form.nodes.items; body = map (tree_of rows) form.body.items }
