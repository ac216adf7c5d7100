-- What stands behind expressions, and makes a statement with them.
use Rattle.tree_nodes.specs.declared.kind.Kind.TheVariants as kinds
use Rattle.py_language.specs.Languages.{whole}
use Rattle.py_language.specs.Readers.{Cont, both, optional, some, followed, extended_where, pick, finished}
use Rattle.py_grammar.specs.declared.entry.Entry.{Entry}
use Rattle.py_grammar.specs.declared.entry.Entry.TheVariants as e
use Rattle.py_grammar.specs.Terminals.{Terminal, code}
use Rattle.py_grammar.specs.Words.{assign, augmented_operator, colon}
use Rattle.py_grammar.specs.Nodes.{spanning, operator_leaf}
use Rattle.py_grammar.specs.Statements.{targets_before_last, is_single_first, assigned, augmented, annotated}
use Rattle.py_grammar.specs.Reading.{LineReader, token, leaf, as_, sx_at}
use Rattle.py_grammar.specs.ReadingStatements.{value_at, assigned_value_at}

module _ (self : Entry → LineReader) where
  -- values, an operator and a value, an annotation, or nothing
  unfoldable pub behind_expressions_at : Cont Terminal
  behind_expressions_at =
      pick code assign (extended_where targets_before_last assigned (some code assign (assigned_value_at self)))
      (pick code augmented_operator (extended_where is_single_first augmented (both (leaf operator_leaf augmented_operator) (value_at self)))
      (pick code colon (extended_where is_single_first annotated (both (token colon) (both (as_ kinds.Annotation (self e.Test)) (optional code assign (assigned_value_at self)))))
      (finished (whole (spanning kinds.ExpressionStatement)))))

  -- expressions, and what stands behind them
  unfoldable pub expression_statement_at : LineReader
  expression_statement_at = followed (sx_at self) behind_expressions_at
