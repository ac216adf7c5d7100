-- What stands again and again in a statement, as long as the token there begins one.
use Rattle.std.specs.Prelude.{ℕ, List}
use Rattle.tree_nodes.specs.declared.kind.Kind.TheVariants as kinds
use Rattle.py_language.specs.Readers.{both, optional}
use Rattle.py_grammar.specs.declared.entry.Entry.{Entry}
use Rattle.py_grammar.specs.Terminals.{code}
use Rattle.py_grammar.specs.Words.{as_word, assign, comma, dot, dots, name}
use Rattle.py_grammar.specs.Nodes.{dotted_name, named_leaf}
use Rattle.py_grammar.specs.Reading.{LineReader, token, leaf, called_}
use Rattle.py_grammar.specs.ReadingStatements.{as_name_at, assigned_value_at, imported_name_at, module_name_at}
use Rattle.parse_statement.specs.declared.round.Round.{Round}
use Rattle.parse_statement.specs.declared.round.Round.TheVariants as rounds

module _ (self : Entry → LineReader) where
  -- a module, maybe with a name of its own
  unfoldable pub alias_at : LineReader
  alias_at = called_ kinds.Alias dotted_name (both (module_name_at self) (optional code as_word (as_name_at self)))

-- with what one begins
abbrev pub round_first : Round → List ℕ
round_first rounds.Name = dot
round_first rounds.Dots = dots
round_first rounds.AssignedValue = assign
round_first rounds.DeclaredName = comma
round_first rounds.Alias = comma
round_first rounds.ImportedName = comma

-- one of them
abbrev pub round_at : (Entry → LineReader) → Round → LineReader
round_at self rounds.Name = both (token dot) (token name)
round_at self rounds.Dots = token dots
round_at self rounds.AssignedValue = assigned_value_at self
round_at self rounds.DeclaredName = both (token comma) (leaf (named_leaf kinds.DeclaredName) name)
round_at self rounds.Alias = both (token comma) (alias_at self)
round_at self rounds.ImportedName = both (token comma) (imported_name_at self)
